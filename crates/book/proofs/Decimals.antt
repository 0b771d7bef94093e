-- A number's decimal digits, from 1 to most_digits of them, are those that the library writes.
use Rattle.std.proofs.Common.{◌≡◌, ℕ, zero, suc, ◌+◌, ◌/◌, ◌%◌, ◌^◌, ◌<◌, ◌≤◌, Bool, true, false, cond, ltb, List, [], ◌∷◌, ◌++◌, length, sym, ap, ◌∙◌, arith, length-append, le-ltb, lt-ltb}
use Rattle.std.specs.Fmt.{decimal as written}
use Rattle.std.proofs.lemmas.Fmt.{AppendsLastDigit, decimal_from_appends, decimal_step, length-decimal-le}
use Rattle.book.specs.Limits.{most_digits}
use Rattle.book.specs.Decimal.{digits_of, decimal}

length_either : (b : Bool) (x y : ℕ) (t : List ℕ)
    → (1 ≤ length (cond b (x ∷ []) (t ++ (y ∷ [])))) × (length (cond b (x ∷ []) (t ++ (y ∷ []))) ≤ 1 + length t)
length_either true x y t = (omega arith, omega arith)
length_either false x y t = let l = length-append t (y ∷ []) in (omega arith, omega arith)

length_most : (k n : ℕ) → length (digits_of k n) ≤ k
unfolding digits_of
length_most zero n = omega arith
length_most (suc k) n = omega (arith, (length_either (ltb n 10) (48 + n) (48 + n % 10) (digits_of k (n / 10))).1, length_most k (n / 10))

length_least : (k n : ℕ) → 1 ≤ length (digits_of (suc k) n)
unfolding digits_of
length_least k n = (length_either (ltb n 10) (48 + n) (48 + n % 10) (digits_of k (n / 10))).0

pub length_decimal : (n : ℕ) → (1 ≤ length (decimal n)) × (length (decimal n) ≤ most_digits)
length_decimal n = (length_least _ n, length_most most_digits n)

pub decimal_small : (n : ℕ) → n < 10 → decimal n ≡ (48 + n) ∷ []
unfolding digits_of
decimal_small n h = rw (lt-ltb n 10 h)

appends : AppendsLastDigit digits_of
unfolding digits_of
appends = record { one = λ k n h. rw (lt-ltb n 10 h); more = λ k n h. rw (le-ltb n 10 h) }

decimal_is : (n : ℕ) → n < 2 ^ 64 → decimal n ≡ written n
decimal_is n h = decimal_from_appends digits_of appends most_digits n h (length-decimal-le most_digits n (omega arith) (omega arith) h)

pub decimal_more : (n : ℕ) → 10 ≤ n → n < 2 ^ 64 → decimal n ≡ decimal (n / 10) ++ ((48 + n % 10) ∷ [])
decimal_more n h l = decimal_is n l ∙ decimal_step n h l ∙ ap (λ t. t ++ ((48 + n % 10) ∷ [])) (sym (decimal_is (n / 10) (omega arith)))
