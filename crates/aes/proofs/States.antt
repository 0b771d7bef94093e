-- From one column to the state, and from one round to the next.
use mathlib.Core.Path.{◌≡◌, refl, ap, ◌∙◌}
use mathlib.Core.List.{List, [], ◌∷◌, ◌++◌}
use Prim.Native.Nat.{ℕ, suc, ◌+◌, ◌-◌, ◌≤◌}
use native.Mathlib.Omega.{arith}
use lib.Bits.{bit_xor}
use Rattle.aes.specs.Cipher.{sub_bytes, shift_rows, mix_column, mix_columns, add_round_key, rounds, cipher}
use Rattle.aes.specs.KeyExpansion.{rot_word, xor_word}
use Rattle.aes.specs.Word.{bytes, products}
use Rattle.aes.proofs.Bytes.{added}

-- a state of which the columns are known
pub columns_are : {a b c d a' b' c' d' : List ℕ} → a ≡ a' → b ≡ b' → c ≡ c' → d ≡ d' → a ++ (b ++ (c ++ d)) ≡ a' ++ (b' ++ (c' ++ d'))
columns_are p q r s = λ i. p i ++ (q i ++ (r i ++ s i))

-- a column of MixColumns is the sum of four products, each turned by its row
pub mixed : (x y z u p q s t : ℕ) → bytes x ≡ products p → bytes y ≡ rot_word (rot_word (rot_word (products q)))
    → bytes z ≡ rot_word (rot_word (products s)) → bytes u ≡ rot_word (products t)
    → bytes (bit_xor (bit_xor (bit_xor x y) z) u) ≡ mix_column (p ∷ q ∷ s ∷ t ∷ [])
unfolding products rot_word xor_word mix_column
mixed x y z u p q s t ex ey ez eu = added (bit_xor (bit_xor x y) z) u (added (bit_xor x y) z (added x y ex ey) ez) eu

-- SubBytes acts on each byte, so that ShiftRows may come before it
commute : (s : List ℕ) → sub_bytes (shift_rows s) ≡ shift_rows (sub_bytes s)
unfolding sub_bytes shift_rows
commute s = refl

-- a round and the last one, as the code makes them: k of m, m of l, l of s
module _ (w s : List ℕ) {l m k : List ℕ} (n : ℕ) (shifts : l ≡ shift_rows s) (adds : k ≡ add_round_key w n m) where
  pub round_is : m ≡ mix_columns (sub_bytes l) → k ≡ add_round_key w n (mix_columns (shift_rows (sub_bytes s)))
  round_is mixes = adds ∙ rw (mixes, shifts, commute)

  pub last_is : m ≡ sub_bytes l → k ≡ add_round_key w n (shift_rows (sub_bytes s))
  last_is subs = adds ∙ rw (subs, shifts, commute)

module _ (w block : List ℕ) where
  pub begun : {s : List ℕ} → s ≡ add_round_key w 0 block → s ≡ rounds w block 0
  unfolding rounds
  begun p = p

  pub again : {s k : List ℕ} (n : ℕ) → 1 ≤ n → s ≡ rounds w block (n - 1) → k ≡ add_round_key w n (mix_columns (shift_rows (sub_bytes s)))
      → k ≡ rounds w block (n + 1 - 1)
  unfolding rounds
  again n h p q =
      let e : n + 1 - 1 ≡ suc (n - 1) = omega arith in
      let e' : n ≡ suc (n - 1) = omega arith in
      q ∙ rw (p, e) (ap (λ (i : ℕ). add_round_key w i (mix_columns (shift_rows (sub_bytes (rounds w block (n - 1)))))) e')

  pub ended : {s k : List ℕ} (n : ℕ) → n ≡ 10 → s ≡ rounds w block (n - 1) → k ≡ add_round_key w 10 (shift_rows (sub_bytes s)) → k ≡ cipher 10 w block
  unfolding cipher
  ended n e p q = q ∙ rw (p, e)
