-- A key schedule of AES-128 begins with the key.
use Rattle.std.proofs.Common.{◌≡◌, ◌≤◌, ℕ, zero, suc, List, length, take, arith, sym, ap, ◌∙◌, length-take}
use Rattle.std.proofs.lemmas.List.{take-append-le}
use lib.Seq.{take_all}
use Rattle.aes.specs.Cipher.{cipher}
use Rattle.aes.specs.KeyExpansion.{schedule, key_expansion, aes128}
use Rattle.aes.proofs.Laws.{aes128_is}

front : (key : List ℕ) (n : ℕ) → length key ≡ 16 → take 16 (schedule 4 key n) ≡ key
unfolding schedule
front key zero h = take_all 16 key (omega arith)
front key (suc n) h =
    let long : 16 ≤ length (schedule 4 key n) = omega (arith, length-take 16 (schedule 4 key n), ap length (front key n h)) in
    take-append-le 16 (schedule 4 key n) _ long ∙ front key n h

pub front_is : (key w : List ℕ) → length key ≡ 16 → w ≡ key_expansion 4 10 key → take 16 w ≡ key
unfolding key_expansion
front_is key w h e = ap (take 16) e ∙ front key 40 h

pub under : (key w : List ℕ) → take 16 w ≡ key → w ≡ key_expansion 4 10 (take 16 w) → cipher 10 w ≡ aes128 key
under key w k e = ap (cipher 10) (e ∙ ap (key_expansion 4 10) k) ∙ sym (aes128_is key)
