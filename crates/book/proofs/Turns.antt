-- A turn of put_hex stores two of the digits that are left, and a turn of read_all reads two; at the end none are left.
use Rattle.std.proofs.Common.{◌≡◌, ℕ, suc, ◌+◌, ◌*◌, ◌/◌, ◌%◌, ◌<◌, ◌≤◌, Bool, true, false, cond, not, ◌&&◌, ltb, List, [], ◌∷◌, ◌++◌, length, get_or, take, drop, set, sym, refl, ap, ◌∙◌, true≢false, append_assoc, append-nil, add-one, arith, drop_of_length-le, take_all, drop-cons, take-suc-set, ltb-true}
use mathlib.Core.Option.{Option, none, some}
use lib.Seq.{sets}
use Rattle.octets.specs.Options.{is_none, contents}
use Rattle.book.specs.Hex.{letter, digit, hex_of, before, octets_of}
use Rattle.book.proofs.Hexadecimals.{length_digits}

pub put_turn : (l out : List ℕ) (i end : ℕ) → i < length l
    → sets (set (set out end (letter (get_or l i 0 / 16))) (end + 1) (letter (get_or l i 0 % 16))) (end + 2) (hex_of (drop (i + 1) l))
    ≡ sets out end (hex_of (drop i l))
unfolding hex_of
put_turn l out i end h =
    let e : end + 2 ≡ suc (suc end) = omega arith in
    rw (drop-cons l i 0, add-one i, add-one end, e)

-- what the octets read first and the digits that are left come to, where all that were read are digits
abbrev pub so_far : Bool → List ℕ → List ℕ → Option (List ℕ)
so_far good first left = cond good (before first (octets_of left)) none

two_more : (s : List ℕ) (j : ℕ) → j + 1 < length s → drop j s ≡ get_or s j 0 ∷ get_or s (j + 1) 0 ∷ drop (j + 2) s
two_more s j h =
    let e : j + 2 ≡ suc (suc j) = omega arith in
    rw (add-one j, e) (drop-cons s j 0 (omega arith) ∙ ap (λ t. get_or s j 0 ∷ t) (drop-cons s (suc j) 0 (omega arith)))

pub before_before : (a b : List ℕ) (r : Option (List ℕ)) → before a (before b r) ≡ before (a ++ b) r
before_before a b none = refl
before_before a b (some m) = ap some (sym (append_assoc a b m))

module _ (first : List ℕ) (high low : ℕ) (rest : Option (List ℕ)) where
  joined : (good a b : Bool) → ltb high 16 ≡ a → ltb low 16 ≡ b
      → cond good (before first (cond (a && b) (before ((16 * high + low) ∷ []) rest) none)) none
      ≡ cond (good && a && b) (before (first ++ ((16 * (high % 16) + low % 16) ∷ [])) rest) none
  joined false a b e f = refl
  joined true false b e f = refl
  joined true true false e f = refl
  joined true true true e f =
      let h = ltb-true high 16 e in
      let l = ltb-true low 16 f in
      let v : 16 * (high % 16) + low % 16 ≡ 16 * high + low = omega arith in
      rw v (before_before first ((16 * high + low) ∷ []) rest)

pub read_turn : (s out : List ℕ) (i : ℕ) (good : Bool) (high low : ℕ) → 2 * i + 1 < length s → i < length out
    → high ≡ digit (get_or s (2 * i) 0) → low ≡ digit (get_or s (2 * i + 1) 0)
    → so_far good (take i out) (drop (2 * i) s)
    ≡ so_far (good && ltb high 16 && ltb low 16) (take (i + 1) (set out i (16 * (high % 16) + low % 16))) (drop (2 * (i + 1)) s)
unfolding octets_of
read_turn s out i good high low h l e f =
    let k : 2 * (i + 1) ≡ 2 * i + 2 = omega arith in
    ap (λ t. so_far good (take i out) t) (two_more s (2 * i) h)
    ∙ rw (← e, ← f, k, add-one i, take-suc-set out i (16 * (high % 16) + low % 16) l)
    (joined (take i out) high low (octets_of (drop (2 * i + 2) s)) good (ltb high 16) (ltb low 16) refl refl)

pub read_none : (s : List ℕ) → octets_of s ≡ so_far true [] s
read_none s = by (octets_of s)
  where
    by : (r : Option (List ℕ)) → r ≡ before [] r
    by none = refl
    by (some l) = refl

pub read_all : (s first : List ℕ) (n : ℕ) (good : Bool) → length s ≡ 2 * n → so_far good first (drop (2 * n) s) ≡ cond good (some first) none
unfolding octets_of
read_all s first n good e =
    let l : length s ≤ 2 * n = omega arith in
    rw (drop_of_length-le s l) (ap (λ (t : List ℕ). cond good (some t) none) (append-nil first))

-- what is promised of digits that are read into all of a room
abbrev pub Filled : List ℕ → List ℕ → Bool → Type 0
Filled s out good = (good ≡ not (is_none (octets_of s))) × (good ≡ true → out ≡ contents (octets_of s))

filled : (s out : List ℕ) (good : Bool) → octets_of s ≡ cond good (some out) none → Filled s out good
filled s out true e = (rw e, λ t. rw e)
filled s out false e = (rw e, λ t. absurd (true≢false (sym t)))

pub filled_all : (s out : List ℕ) (i : ℕ) (good : Bool) → length s ≡ 2 * length out → i ≡ length out → octets_of s ≡ so_far good (take i out) (drop (2 * i) s) → Filled s out good
filled_all s out i good z e h =
    filled s out good (h ∙ read_all s (take i out) i good (omega arith) ∙ ap (λ (t : List ℕ). cond good (some t) none) (take_all i out (omega arith)))

pub read_odd : (s : List ℕ) → length s % 2 ≡ 1 → octets_of s ≡ none
read_odd s h = by (octets_of s) refl
  where
    by : (r : Option (List ℕ)) → octets_of s ≡ r → octets_of s ≡ none
    by none e = e
    by (some l) e = absurd (omega (arith, length_digits s l e))
