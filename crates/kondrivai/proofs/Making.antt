-- A record made in a buffer: the answer, and the buffer, which is written where that is 0.
use mathlib.Core.Path.{◌≡◌, refl, ap, ◌∙◌}
use mathlib.Core.Bool.{Bool, true, false, cond}
use mathlib.Core.List.{List}
use Prim.Native.Nat.{ℕ}
use mathlib.Core.Logic.{◌≢◌}
use borrow.Author.Tests.{eq-eqb, ne_eqb, eqb-true}
use lib.Dec.{eqb}
use lib.ListN.{length}
use Rattle.std.proofs.Common.{Result, Ok, Err, is_ok}
use Rattle.octets.proofs.Booleans.{both}
use Rattle.rules.specs.Limits.{key_octets}
use Rattle.rules.specs.Answers.{Done, Refused, told, answer_number}
use Rattle.rules.specs.Refusals.{answer_of}
use Rattle.rules.specs.declared.answer.Success.{Success}
use Rattle.rules.specs.declared.answer.Refusal.{Refusal}
use Rattle.kondrivai.specs.Exports.{can_hold}

-- the number of an answer that is done, and of one that is not, where making a record answers it
pub done_number : (a : Result Success Refusal) → is_ok a ≡ true → answer_number (answer_of a) ≡ 0
done_number (Ok x) e = refl
done_number (Err x) e = cc

pub refused_number : (fits : Bool) (a : Result Success Refusal) → told (answer_of a) ≡ told (cond fits (Done 0 0 0) (Refused 1)) → is_ok a ≡ false
    → answer_number (answer_of a) ≡ 1
refused_number fits (Ok x) e k = cc
refused_number true (Err x) e k = cc
refused_number false (Err x) e k = cc

-- n is the number of an answer, m the one that the definition gives, x the record's octets
pub kept : (n m : ℕ) (x b : List ℕ) → n ≡ m → n ≡ 1 → b ≡ cond (eqb m 0) x b
kept n m x b e h = rw (← e, h)

-- what can hold a record has its length, and the key its own
pub key_size : (size : ℕ) (b key : List ℕ) → can_hold size b key ≡ true → length key ≡ key_octets
key_size size b key can = eqb-true (length key) key_octets (both (eqb (length b) size) (eqb (length key) key_octets) can).1

pub can : (size : ℕ) (b key : List ℕ) → length b ≡ size → length key ≡ key_octets → can_hold size b key ≡ true
can size b key e k = rw (eq-eqb (length b) size e, eq-eqb (length key) key_octets k)

pub no_buffer : (size : ℕ) (b key : List ℕ) → length b ≢ size → can_hold size b key ≡ false
no_buffer size b key h = rw (ne_eqb (length b) size h)

pub no_key : (size : ℕ) (b key : List ℕ) → length b ≡ size → length key ≢ key_octets → can_hold size b key ≡ false
no_key size b key e h = rw (eq-eqb (length b) size e, ne_eqb (length key) key_octets h)

-- a record made of the key as it was read, and written
pub made : {R : Type 0} (octets : R → List ℕ) (fresh : List ℕ → R) (n m : ℕ) (b : List ℕ) {key k w : List ℕ} {r : R} → n ≡ m → n ≡ 0
    → k ≡ key → r ≡ fresh k → w ≡ octets r → w ≡ cond (eqb m 0) (octets (fresh key)) b
made octets fresh n m b e zero read is put = put ∙ ap octets (is ∙ ap fresh read) ∙ rw (← e, eq-eqb n 0 zero)
