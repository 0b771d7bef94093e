-- Digits in two parts are read one part after the other; and the two digits of each pair are found in it.
use Rattle.std.proofs.Common.{◌≡◌, ℕ, zero, suc, ◌+◌, ◌-◌, ◌*◌, ◌/◌, ◌%◌, ◌^◌, ◌<◌, ◌≤◌, Bool, true, false, cond, not, ◌&&◌, ltb, List, [], ◌∷◌, ◌++◌, length, get_or, take, drop, sym, refl, ap, ◌∙◌, ap₂, append_assoc, arith, length-append, length-drop, take-append-drop, length-take-le, drop-drop, take_at}
use mathlib.Core.Option.{Option, none, some}
use Rattle.std.specs.Int.{bytes_low_first}
use Rattle.octets.specs.Options.{is_none, contents}
use Rattle.octets.proofs.Digits as digits
use Rattle.book.specs.Hex.{digit, before, octets_of}
use Rattle.book.specs.Handed.{pairs}
use Rattle.book.proofs.Turns.{so_far, before_before, read_none, Filled}

filled_is : (s out : List ℕ) (good : Bool) → Filled s out good → octets_of s ≡ cond good (some out) none
filled_is s out good f = by (octets_of s) f.0 f.1
  where
    by : (o : Option (List ℕ)) → good ≡ not (is_none o) → (good ≡ true → out ≡ contents o) → o ≡ cond good (some out) none
    by none e h = rw e
    by (some l) e h = rw (e, h e)

-- the octets of some digits and of those after them
abbrev both : Option (List ℕ) → Option (List ℕ) → Option (List ℕ)
both none o = none
both (some l) o = before l o

both_append : (p q : List ℕ) (k : ℕ) → length p ≡ 2 * k → octets_of (p ++ q) ≡ both (octets_of p) (octets_of q)
unfolding octets_of
both_append [] q k e = read_none q
both_append (x ∷ []) q k e = absurd (omega arith)
both_append (x ∷ y ∷ p) q k e = rw (both_append p q (k - 1) (omega arith)) (by (ltb (digit x) 16 && ltb (digit y) 16) (octets_of p))
  where
    by : (b : Bool) (o : Option (List ℕ)) → cond b (before ((16 * digit x + digit y) ∷ []) (both o (octets_of q))) none ≡ both (cond b (before ((16 * digit x + digit y) ∷ []) o) none) (octets_of q)
    by false o = refl
    by true none = refl
    by true (some l) = before_before ((16 * digit x + digit y) ∷ []) l (octets_of q)

so_far_more : (p q first more : List ℕ) (k : ℕ) → length p ≡ 2 * k → (good g : Bool) → octets_of p ≡ cond g (some more) none
    → so_far good first (p ++ q) ≡ so_far (good && g) (first ++ more) q
so_far_more p q first more k z false g e = refl
so_far_more p q first more k z true false e = rw (both_append p q k z, e)
so_far_more p q first more k z true true e = rw (both_append p q k z, e) (before_before first more (octets_of q))

-- a part of the digits, of m of them, is read into the room from i to end
pub part_turn : (s out : List ℕ) (i end m : ℕ) (good : Bool) → i ≤ end → 2 * end ≤ length s → i ≤ length out → m ≡ 2 * (end - i)
    → (more rest : List ℕ) (g : Bool) → length more ≡ end - i → Filled (take m (drop (2 * i) s)) more g
    → so_far good (take i out) (drop (2 * i) s) ≡ so_far (good && g) (take end (take i out ++ (more ++ rest))) (drop (2 * end) s)
part_turn s out i end m good l h k e more rest g z f =
    let p = take m (drop (2 * i) s) in
    let size : length p ≡ 2 * (end - i) = length-take-le m (drop (2 * i) s) (omega (arith, length-drop (2 * i) s)) ∙ e in
    let place : 2 * i + m ≡ 2 * end = omega arith in
    let parts : drop (2 * i) s ≡ p ++ drop (2 * end) s = sym (take-append-drop m (drop (2 * i) s)) ∙ ap (λ (t : List ℕ). p ++ t) (drop-drop m (2 * i) s ∙ ap (λ (n : ℕ). drop n s) place) in
    let front : take end (take i out ++ (more ++ rest)) ≡ take i out ++ more
    = ap (take end) (sym (append_assoc (take i out) more rest)) ∙ take_at (take i out ++ more) rest end (omega (arith, length-append (take i out) more, length-take-le i out k)) in
    ap (so_far good (take i out)) parts
    ∙ so_far_more p (drop (2 * end) s) (take i out) more (end - i) size good g (filled_is p more g f)
    ∙ ap (λ (t : List ℕ). so_far (good && g) t (drop (2 * end) s)) (sym front)

pub length_pairs : (s : List ℕ) (n : ℕ) → length s ≡ 2 * n → length (pairs s) ≡ n
length_pairs [] n e = omega arith
length_pairs (x ∷ []) n e = absurd (omega arith)
length_pairs (x ∷ y ∷ s) n e = omega (arith, length_pairs s (n - 1) (omega arith))

pub pair_at : (s : List ℕ) (i : ℕ) → 2 * i + 1 < length s → get_or (pairs s) i 0 ≡ get_or s (2 * i) 0 + 256 * get_or s (2 * i + 1) 0
pair_at [] i h = absurd (omega arith)
pair_at (x ∷ []) i h = absurd (omega arith)
pair_at (x ∷ y ∷ s) zero h = refl
pair_at (x ∷ y ∷ s) (suc i) h =
    let a : 2 * suc i ≡ suc (suc (2 * i)) = omega arith in
    let b : 2 * suc i + 1 ≡ suc (suc (2 * i + 1)) = omega arith in
    pair_at s i (omega arith) ∙ ap₂ (λ (j k : ℕ). get_or (x ∷ y ∷ s) j 0 + 256 * get_or (x ∷ y ∷ s) k 0) (sym a) (sym b)

-- the two digits of a pair, by its octets
pub pair_digits : (s p b : List ℕ) (i : ℕ) → p ≡ pairs s → 2 * i + 1 < length s → get_or s (2 * i) 0 < 256 → get_or s (2 * i + 1) 0 < 256
    → b ≡ bytes_low_first 0 2 (get_or p i 0) → (get_or b 0 0 ≡ get_or s (2 * i) 0) × (get_or b 1 0 ≡ get_or s (2 * i + 1) 0)
pair_digits s p b i e h l m is =
    let d = digits.digit _ _ _ (ap (λ (q : List ℕ). get_or q i 0) e ∙ pair_at s i h) l in
    let high : get_or p i 0 / 256 ^ 1 % 256 ≡ get_or s (2 * i + 1) 0 = omega (arith, d.1) in
    (ap (λ (c : List ℕ). get_or c 0 0) is ∙ d.0, ap (λ (c : List ℕ). get_or c 1 0) is ∙ high)
