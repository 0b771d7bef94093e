-- A digit and its number: each gives the other back.
use Rattle.std.proofs.Common.{◌≡◌, ℕ, ◌+◌, ◌-◌, ◌<◌, ◌≤◌, Bool, true, false, cond, ◌&&◌, ltb, leb, refl, arith, ltb-false, ltb-true, le-ltb, lt-ltb, le-leb, leb-true}
use mathlib.Core.Bool.{and-eq-true_iff}
use borrow.Author.Tests.{lt-leb}
use Rattle.book.specs.Hex.{letter, digit}

digit_0_9 : (x : ℕ) → 48 ≤ x → x ≤ 57 → digit x ≡ x - 48
digit_0_9 x a b = rw (le-leb 48 x a, le-leb x 57 b)

digit_a_f : (x : ℕ) → 97 ≤ x → x ≤ 102 → digit x ≡ x - 97 + 10
digit_a_f x a b = rw (le-leb 48 x (omega arith), lt-leb x 57 (omega arith), le-leb 97 x a, le-leb x 102 b)

pub digit_of_letter : (n : ℕ) → n < 16 → digit (letter n) ≡ n
digit_of_letter n l = by (ltb n 10) refl
  where
    by : (b : Bool) → ltb n 10 ≡ b → digit (cond b (48 + n) (97 + (n - 10))) ≡ n
    by true e = let h = ltb-true n 10 e in rw (digit_0_9 (48 + n) (omega arith) (omega arith)) (omega arith)
    by false e = let h = ltb-false n 10 e in rw (digit_a_f (97 + (n - 10)) (omega arith) (omega arith)) (omega arith)

pub letter_of_digit : (x : ℕ) → digit x < 16 → letter (digit x) ≡ x
letter_of_digit x = by (leb 48 x && leb x 57) (leb 97 x && leb x 102) refl refl
  where
    by : (a b : Bool) → leb 48 x && leb x 57 ≡ a → leb 97 x && leb x 102 ≡ b → cond a (x - 48) (cond b (x - 97 + 10) 16) < 16
        → letter (cond a (x - 48) (cond b (x - 97 + 10) 16)) ≡ x
    by true b e f l =
        let h = (and-eq-true_iff (leb 48 x) (leb x 57)).0 e in
        let i = leb-true 48 x h.0 in
        let j = leb-true x 57 h.1 in
        rw (lt-ltb (x - 48) 10 (omega arith)) (omega arith)
    by false true e f l =
        let h = (and-eq-true_iff (leb 97 x) (leb x 102)).0 f in
        let i = leb-true 97 x h.0 in
        rw (le-ltb (x - 97 + 10) 10 (omega arith)) (omega arith)
    by false false e f l = absurd (omega arith)
