-- Octets compared as words: equal words have equal octets.
use mathlib.Core.Path.{◌≡◌, refl, ap, ◌∙◌}
use mathlib.Core.Bool.{Bool, ◌&&◌}
use mathlib.Core.List.{List, [], ◌∷◌}
use Prim.Native.Nat.{ℕ, suc, ◌+◌, ◌*◌, ◌<◌}
use native.Mathlib.Omega.{arith}
use borrow.Author.Tests.{eqb-true, eq-eqb}
use lib.Dec.{eqb}
use lib.Pointwise.{pointwise}
use lib.ListN.{length, get_or}
use Rattle.std.specs.Int.{from_le_bytes, w128}
use Rattle.octets.specs.Octets.{same, word}
use Rattle.octets.proofs.Booleans.{both, iff}
use Rattle.octets.proofs.Lists.{each_all}

-- the first octet, and the rest
step : (x y m n : ℕ) → x < 256 → y < 256 → eqb (x + 256 * m) (y + 256 * n) ≡ eqb x y && eqb m n
step x y m n p q =
    iff (eqb (x + 256 * m) (y + 256 * n)) (eqb x y && eqb m n)
    (λ h. let e = eqb-true (x + 256 * m) (y + 256 * n) h in rw (eq-eqb x y (omega arith), eq-eqb m n (omega arith)))
    (λ h. let e = both (eqb x y) (eqb m n) h in eq-eqb (x + 256 * m) (y + 256 * n) (omega (arith, eqb-true x y e.0, eqb-true m n e.1)))

pub words_same : (a b : List ℕ) → length a ≡ length b → ((i : ℕ) → get_or a i 0 < 256) → ((i : ℕ) → get_or b i 0 < 256)
    → eqb (word a) (word b) ≡ same a b
words_same [] [] e p q = refl
words_same [] (y ∷ b) e p q = absurd (omega arith)
words_same (x ∷ a) [] e p q = absurd (omega arith)
words_same (x ∷ a) (y ∷ b) e p q =
    step x y (word a) (word b) (p 0) (q 0)
    ∙ ap (λ (t : Bool). eqb x y && t) (words_same a b (omega arith) (λ i. p (suc i)) (λ i. q (suc i)))

-- lists compared as the library does
pub pointwise_same : (a b : List ℕ) → pointwise eqb a b ≡ same a b
pointwise_same [] [] = refl
pointwise_same [] (y ∷ b) = refl
pointwise_same (x ∷ a) [] = refl
pointwise_same (x ∷ a) (y ∷ b) = ap (λ (t : Bool). eqb x y && t) (pointwise_same a b)

-- sixteen octets as the library reads them
pub word_16 : (a : List ℕ) → length a ≡ 16 → from_le_bytes w128 a ≡ word a
word_16 a e = omega (arith, ap word (each_all a 16 e))
