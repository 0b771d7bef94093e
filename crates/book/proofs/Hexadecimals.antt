-- Reading undoes writing and writing undoes reading; two digits an octet; nothing but digits is read.
use Rattle.std.proofs.Common.{◌≡◌, ℕ, zero, suc, ◌+◌, ◌*◌, ◌/◌, ◌%◌, ◌<◌, Bool, true, false, cond, ◌&&◌, ltb, List, [], ◌∷◌, ◌++◌, length, get_or, sym, refl, ap, ◌∙◌, arith, ltb-true, lt-ltb}
use mathlib.Core.Bool.{and-false, and-eq-true_iff}
use mathlib.Core.Option.{Option, none, some}
use Rattle.book.specs.Hex.{digit, hex_of, before, octets_of}
use Rattle.book.proofs.Digits.{digit_of_letter, letter_of_digit}

pub length_hex : (l : List ℕ) → length (hex_of l) ≡ 2 * length l
unfolding hex_of
length_hex [] = refl
length_hex (x ∷ l) = omega (arith, length_hex l)

pub octets_of_hex : (l : List ℕ) → ((i : ℕ) → get_or l i 0 < 256) → octets_of (hex_of l) ≡ some l
unfolding hex_of octets_of
octets_of_hex [] h = refl
octets_of_hex (x ∷ l) h =
    let high : x / 16 < 16 = omega (arith, h zero) in
    let low : x % 16 < 16 = omega arith in
    rw (
      digit_of_letter (x / 16) high,
      digit_of_letter (x % 16) low,
      lt-ltb (x / 16) 16 high,
      lt-ltb (x % 16) 16 low,
      octets_of_hex l (λ i. h (suc i)),
    )
    (ap (λ n. some (n ∷ l)) (omega arith))

-- what two digits before others come to, where octets are read
record Pair (x y : ℕ) (t l : List ℕ) : Type 0 where
  high : digit x < 16
  low : digit y < 16
  rest : List ℕ
  rest_read : octets_of t ≡ some rest
  whole : (16 * digit x + digit y) ∷ rest ≡ l

pair : (x y : ℕ) (t l : List ℕ) → octets_of (x ∷ y ∷ t) ≡ some l → Pair x y t l
unfolding octets_of
pair x y t l = by (ltb (digit x) 16 && ltb (digit y) 16) (octets_of t) refl refl
  where
    by : (b : Bool) (r : Option (List ℕ)) → ltb (digit x) 16 && ltb (digit y) 16 ≡ b → octets_of t ≡ r
        → cond b (before ((16 * digit x + digit y) ∷ []) r) none ≡ some l → Pair x y t l
    by false r f g e = absurd (let z : ◌≡◌ {A = ℕ} 0 1 = cc e in omega arith)
    by true none f g e = absurd (let z : ◌≡◌ {A = ℕ} 0 1 = cc e in omega arith)
    by true (some m) f g e =
        let h = (and-eq-true_iff (ltb (digit x) 16) (ltb (digit y) 16)).0 f in
        record { high = ltb-true (digit x) 16 h.0; low = ltb-true (digit y) 16 h.1; rest = m; rest_read = g; whole = cc e }

pub hex_of_octets : (t l : List ℕ) → octets_of t ≡ some l → hex_of l ≡ t
unfolding hex_of octets_of
hex_of_octets [] l e = let z : [] ≡ l = cc e in ap hex_of (sym z)
hex_of_octets (x ∷ []) l e = absurd (let z : ◌≡◌ {A = ℕ} 0 1 = cc e in omega arith)
hex_of_octets (x ∷ y ∷ t) l e =
    let p = pair x y t l e in
    let a : (16 * digit x + digit y) / 16 ≡ digit x = omega arith in
    let b : (16 * digit x + digit y) % 16 ≡ digit y = omega arith in
    rw (← p.whole, a, b, letter_of_digit x p.high, letter_of_digit y p.low, hex_of_octets t p.rest p.rest_read)

pub length_digits : (t l : List ℕ) → octets_of t ≡ some l → length t ≡ 2 * length l
length_digits t l e = ap length (sym (hex_of_octets t l e)) ∙ length_hex l

none_either_way : (b : Bool) → cond {A = Option (List ℕ)} b none none ≡ none
none_either_way true = refl
none_either_way false = refl

pub no_digit : (p : List ℕ) (x : ℕ) (q : List ℕ) → digit x ≡ 16 → octets_of (p ++ (x ∷ q)) ≡ none
unfolding octets_of
no_digit [] x [] e = refl
no_digit [] x (y ∷ q) e = rw e
no_digit (a ∷ []) x q e = rw (e, and-false (ltb (digit a) 16))
no_digit (a ∷ b ∷ p) x q e = rw (no_digit p x q e, none_either_way (ltb (digit a) 16 && ltb (digit b) 16))
