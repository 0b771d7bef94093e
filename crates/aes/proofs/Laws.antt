-- What the layers above may know of AES: the lengths of what it gives, that octets give octets, and how its words are added.
use mathlib.Core.Path.{◌≡◌, refl, ◌∙◌}
use mathlib.Core.Bool.{Bool, true, false, cond, ◌&&◌}
use mathlib.Core.List.{List, [], ◌∷◌}
use Prim.Native.Nat.{ℕ, zero, suc, ◌+◌, ◌-◌, ◌*◌, ◌/◌, ◌%◌, ◌<◌, ◌≤◌}
use native.Mathlib.Nat.{mod-lt, zero-lt-suc}
use native.Mathlib.Omega.{arith}
use lib.Bits.{bit_xor, xor_lt}
use lib.Dec.{ltb, eqb, ltb→lt, lit<}
use lib.ListN.{length, get_or, length-append}
use Rattle.octets.specs.Octets.{Octets, none, more}
use Rattle.aes.specs.Field.{◌⊕◌, inverse}
use Rattle.aes.specs.Cipher.{byte_at, word, word_at, columns, affine_bit, affine, sbox, sub_bytes, shift_rows, add_round_key, rounds, cipher}
use Rattle.aes.specs.KeyExpansion.{sub_word, rot_word, xor_word, round_constants, rcon, temp, schedule, key_expansion, aes128}
use Rattle.aes.specs.Word.{bytes}
use Rattle.octets.proofs.Every.{every_at}
use Rattle.octets.proofs.Octets.{octet_at, octets_from, octets_append}
use Rattle.aes.proofs.Bytes.{bytes_xor}

pub octet-⊕ : (a b : ℕ) → a < 256 → b < 256 → a ⊕ b < 256
unfolding ◌⊕◌
octet-⊕ = xor_lt 8

octets_cond : (b : Bool) {x y : List ℕ} → Octets x → Octets y → Octets (cond b x y)
octets_cond true p q = p
octets_cond false p q = q

octets_word : (f : ℕ → ℕ) → ((r : ℕ) → f r < 256) → Octets (word f)
octets_word f h = more (h 0) (more (h 1) (more (h 2) (more (h 3) none)))

octets_state : (f : ℕ → ℕ → ℕ) → ((r c : ℕ) → f r c < 256) → Octets (columns (λ c. word (λ r. f r c)))
octets_state f h =
    let p : (c : ℕ) → Octets (word (λ r. f r c)) = λ c. octets_word (λ r. f r c) (λ r. h r c) in
    octets_append (p 0) (octets_append (p 1) (octets_append (p 2) (p 3)))

bit_affine : (b i : ℕ) → affine_bit b i < 2
unfolding affine_bit
bit_affine b i = mod-lt _ (zero-lt-suc 1)

pub octet_sbox : (b : ℕ) → sbox b < 256
unfolding sbox affine
octet_sbox b =
    let h : (i : ℕ) → affine_bit (inverse b) i < 2 = bit_affine (inverse b) in
    omega (arith, h 0, h 1, h 2, h 3, h 4, h 5, h 6, h 7)

octets_sub_bytes : (s : List ℕ) → Octets (sub_bytes s)
unfolding sub_bytes
octets_sub_bytes s = octets_state (λ r c. sbox (byte_at s r c)) (λ r c. octet_sbox (byte_at s r c))

octets_shift_rows : {s : List ℕ} → Octets s → Octets (shift_rows s)
unfolding shift_rows
octets_shift_rows {s} p = octets_state (λ r c. byte_at s r ((c + r) % 4)) (λ r c. octet_at p (4 * ((c + r) % 4) + r))

octets_add_round_key : {w s : List ℕ} (n : ℕ) → Octets w → Octets s → Octets (add_round_key w n s)
unfolding add_round_key
octets_add_round_key {w} {s} n p q =
    octets_state (λ r c. byte_at s r c ⊕ byte_at w r (4 * n + c)) (λ r c. octet-⊕ _ _ (octet_at q (4 * c + r)) (octet_at p (4 * (4 * n + c) + r)))

pub length_cipher : (nr : ℕ) (w block : List ℕ) → length (cipher nr w block) ≡ 16
unfolding cipher add_round_key
length_cipher nr w block = refl

pub octets_cipher : (nr : ℕ) {w : List ℕ} (block : List ℕ) → Octets w → Octets (cipher nr w block)
unfolding cipher
octets_cipher nr {w} block p = octets_add_round_key nr p (octets_shift_rows (octets_sub_bytes (rounds w block (nr - 1))))

octets_word_at : {w : List ℕ} (i : ℕ) → Octets w → Octets (word_at w i)
octets_word_at {w} i p = octets_word (λ r. byte_at w r i) (λ r. octet_at p (4 * i + r))

octets_sub_word : (a : List ℕ) → Octets (sub_word a)
unfolding sub_word
octets_sub_word a = octets_word (λ r. sbox (get_or a r 0)) (λ r. octet_sbox (get_or a r 0))

octets_xor_word : {a b : List ℕ} → Octets a → Octets b → Octets (xor_word a b)
unfolding xor_word
octets_xor_word {a} {b} p q = octets_word (λ r. get_or a r 0 ⊕ get_or b r 0) (λ r. octet-⊕ _ _ (octet_at p r) (octet_at q r))

pub octet_constant : (j : ℕ) → get_or round_constants j 0 < 256
unfolding round_constants
octet_constant =
    let below : ℕ → Bool = λ j. ltb (get_or round_constants j 0) 256 in
    octet_at (octets_from round_constants (λ j h. ltb→lt (get_or round_constants j 0) 256 (every_at below 10 tt j h)))

octets_rcon : (j : ℕ) → Octets (rcon j)
unfolding rcon
octets_rcon j = more (octet_constant (j - 1)) (more (lit< tt) (more (lit< tt) (more (lit< tt) none)))

octets_temp : (nk i : ℕ) {a : List ℕ} → Octets a → Octets (temp nk i a)
unfolding temp
octets_temp nk i {a} p =
    octets_cond (eqb (i % nk) 0) (octets_xor_word (octets_sub_word (rot_word a)) (octets_rcon (i / nk)))
    (octets_cond (ltb 6 nk && eqb (i % nk) 4) (octets_sub_word a) p)

octets_schedule : (nk : ℕ) {key : List ℕ} (n : ℕ) → Octets key → Octets (schedule nk key n)
unfolding schedule
octets_schedule nk zero p = p
octets_schedule nk (suc n) p =
    let w = octets_schedule nk n p in
    octets_append w (octets_xor_word (octets_word_at (nk + n - nk) w) (octets_temp nk (nk + n) (octets_word_at (nk + n - 1) w)))

length_schedule : (nk : ℕ) (key : List ℕ) (n : ℕ) → length (schedule nk key n) ≡ length key + 4 * n
unfolding schedule xor_word
length_schedule nk key zero = omega arith
length_schedule nk key (suc n) = length-append (schedule nk key n) _ ∙ omega (arith, length_schedule nk key n)

pub length_key_expansion : (nk nr : ℕ) (key : List ℕ) → nk ≤ 4 * (nr + 1) → length key ≡ 4 * nk → length (key_expansion nk nr key) ≡ 16 * (nr + 1)
unfolding key_expansion
length_key_expansion nk nr key h e = length_schedule nk key (4 * (nr + 1) - nk) ∙ omega arith

pub octets_key_expansion : (nk nr : ℕ) {key : List ℕ} → Octets key → Octets (key_expansion nk nr key)
unfolding key_expansion
octets_key_expansion nk nr p = octets_schedule nk (4 * (nr + 1) - nk) p

pub aes128_is : (key : List ℕ) → aes128 key ≡ cipher 10 (key_expansion 4 10 key)
unfolding aes128
aes128_is key = refl

pub length_aes128 : (key block : List ℕ) → length (aes128 key block) ≡ 16
unfolding aes128
length_aes128 key block = length_cipher 10 (key_expansion 4 10 key) block

pub octets_aes128 : {key : List ℕ} (block : List ℕ) → Octets key → Octets (aes128 key block)
unfolding aes128
octets_aes128 block p = octets_cipher 10 block (octets_key_expansion 4 10 p)

-- XOR of two words in a u32 is XOR of their bytes
pub bytes_sum : (x y : ℕ) → bytes (bit_xor x y)
    ≡ bit_xor (x % 256) (y % 256) ∷ bit_xor (x / 256 % 256) (y / 256 % 256) ∷ bit_xor (x / 65536 % 256) (y / 65536 % 256) ∷ bit_xor (x / 16777216) (y / 16777216) ∷ []
unfolding ◌⊕◌ xor_word
bytes_sum = bytes_xor
