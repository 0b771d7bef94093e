-- One word of the key schedule, and one turn of each loop that fills it.
use mathlib.Core.Path.{◌≡◌, sym, ap, ap₂, ◌∙◌}
use mathlib.Core.List.{List, [], ◌∷◌, ◌++◌}
use Prim.Native.Nat.{ℕ, suc, ◌+◌, ◌-◌, ◌*◌, ◌/◌, ◌%◌, ◌<◌, ◌≤◌}
use native.Mathlib.Omega.{arith}
use borrow.Author.Tests.{eq-eqb, ne_eqb}
use lib.Bits.{bit_xor}
use lib.ListN.{length, get_or, take, drop, length-take, drop_of_length-le}
use lib.Seq.{get_or-take, get_or-append-add, take_at, length-take-le, take_all}
use borrow.Rule.Slice.PartMut.{put_mid}
use Rattle.std.proofs.lemmas.Slice.{take-put_mid}
use Rattle.aes.specs.Cipher.{word_at}
use Rattle.aes.specs.KeyExpansion.{sub_word, rot_word, xor_word, round_constants, rcon, temp, schedule}
use Rattle.aes.specs.Word.{bytes}
use Rattle.aes.proofs.Bytes.{added, bytes_are}
use Rattle.aes.proofs.Laws.{octet_constant}

-- a round constant as a word
constant : (j : ℕ) → bytes (get_or round_constants (j - 1) 0) ≡ rcon j
unfolding rcon
constant j =
    let h : get_or round_constants (j - 1) 0 < 256 = octet_constant (j - 1) in
    bytes_are (get_or round_constants (j - 1) 0) _ _ _ _ (omega arith) (omega arith) (omega arith) (omega arith)

module _ (i : ℕ) where
  pub temp_turned : (x y last : ℕ) → i % 4 ≡ 0 → bytes y ≡ sub_word (bytes x) → bytes x ≡ rot_word (bytes last)
      → bytes (bit_xor y (get_or round_constants (i / 4 - 1) 0)) ≡ temp 4 i (bytes last)
  unfolding temp
  temp_turned x y last h p q = rw (eq-eqb (i % 4) 0 h) (added y (get_or round_constants (i / 4 - 1) 0) (p ∙ ap sub_word q) (constant (i / 4)))

  pub temp_same : (last : ℕ) → (i % 4 ≡ 0 → ⊥) → bytes last ≡ temp 4 i (bytes last)
  unfolding temp
  temp_same last h = rw (ne_eqb (i % 4) 0 h)

-- the key, copied into the front
pub whole : (w key rest : List ℕ) → length key ≡ 16 → w ≡ take (length key) key ++ rest → take 16 w ≡ key
whole w key rest h e = rw (e, take_all (length key) key (omega arith)) (take_at key rest 16 h)

-- a word that lies in the front of a list
front : (m i : ℕ) (w : List ℕ) → 4 * i + 4 ≤ m → word_at (take m w) i ≡ word_at w i
front m i w h =
    λ k. get_or-take m w (4 * i + 0) 0 (omega arith) k ∷ get_or-take m w (4 * i + 1) 0 (omega arith) k
    ∷ get_or-take m w (4 * i + 2) 0 (omega arith) k ∷ get_or-take m w (4 * i + 3) 0 (omega arith) k ∷ []

-- the word after whole words
behind : (l : List ℕ) (x i : ℕ) → length l ≡ 4 * i → word_at (l ++ bytes x) i ≡ bytes x
behind l x i e =
    let at : (r : ℕ) → get_or (l ++ bytes x) (4 * i + r) 0 ≡ get_or (bytes x) r 0
    = λ r. ap (λ (n : ℕ). get_or (l ++ bytes x) (n + r) 0) (sym e) ∙ get_or-append-add l (bytes x) r 0 in
    λ k. at 0 k ∷ at 1 k ∷ at 2 k ∷ at 3 k ∷ []

-- four bytes, copied over no more
pub laid_word : (w b : List ℕ) (k x : ℕ) → k ≤ 4 → b ≡ bytes x → take (length b) b ++ drop (length b) (take k w) ≡ bytes x
laid_word w b k x h e =
    let short : length (take k w) ≤ 4 = omega (arith, length-take k w) in
    rw (e, drop_of_length-le (take k w) short)

-- a turn of the loop: x, made of the word at hand, is laid as word i and is the next one at hand
module _ (w b : List ℕ) (i k x : ℕ) (hw : length w ≡ 176) (low : 4 ≤ i) (high : i < 44) (is : b ≡ bytes x) where
  stored : take (4 * (i + 1)) (put_mid (4 * i) k w b) ≡ take (4 * i) w ++ bytes x
  stored = take-put_mid (4 * i) k w b (4 * (i + 1)) (omega (arith, ap length is)) (omega arith) ∙ ap (λ (l : List ℕ). take (4 * i) w ++ l) is

  pub at_hand : bytes x ≡ word_at (put_mid (4 * i) k w b) (i + 1 - 1)
  at_hand =
      sym (sym (front (4 * (i + 1)) (i + 1 - 1) (put_mid (4 * i) k w b) (omega arith)) ∙ ap (λ (l : List ℕ). word_at l (i + 1 - 1)) stored
      ∙ behind (take (4 * i) w) x (i + 1 - 1) (omega (arith, length-take-le (4 * i) w (omega arith))))

  pub grown : (key : List ℕ) (last : ℕ) → take (4 * i) w ≡ schedule 4 key (i - 4) → bytes last ≡ word_at w (i - 1)
      → bytes x ≡ xor_word (word_at w (i - 4)) (temp 4 i (bytes last)) → take (4 * (i + 1)) (put_mid (4 * i) k w b) ≡ schedule 4 key (i + 1 - 4)
  unfolding schedule
  grown key last e el ex =
      let n = i - 4 in
      let old : (j k : ℕ) → j ≡ k → j < i → word_at w j ≡ word_at (schedule 4 key n) k
      = λ j k p h. sym (front (4 * i) j w (omega arith)) ∙ ap₂ word_at e p in
      let e₁ : i + 1 - 4 ≡ suc n = omega arith in
      let e₂ : i ≡ 4 + n = omega arith in
      let p = old (i - 4) (4 + n - 4) (omega arith) (omega arith) in
      let q = el ∙ old (i - 1) (4 + n - 1) (omega arith) (omega arith) in
      rw e₁ (stored ∙ (λ k. e k ++ (ex ∙ (λ l. xor_word (p l) (temp 4 (e₂ l) (q l)))) k))
