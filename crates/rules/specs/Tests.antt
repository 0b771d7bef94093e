-- Document 01, "Answer numbers": the tests with their numbers. Each is a group of its own, but for those of the header, which always stand together.
use Rattle.std.specs.Prelude.{Bool, not, List, [], ◌∷◌, ℕ, ◌-◌, ltb, eqb, length}
use Rattle.std.proofs.Math.Option.{Option}
use Rattle.octets.specs.Octets.{same}
use Rattle.octets.specs.Options.{is_none}
use Rattle.rules.specs.Limits.{most_number, least_header}
use Rattle.rules.specs.Header.{header_length, address2, priority, protected, authenticated, wrong_kind}
use Rattle.rules.specs.Nonce.{nonce, ccmp_of, text_of, extended, key_id_in, number}
use Rattle.rules.specs.Mode.{opened_body}
use Rattle.rules.specs.Records.{is_replay}
use Rattle.rules.specs.Answers.{Test, ◌⇒◌, outside}
use Rattle.rules.specs.declared.Receiver.{Receiver}

-- whether the record is sound
abbrev pub record_test : Bool → List Test
record_test sound = (not sound ⇒ 1) ∷ []

-- the header; `wrong` is what Protected must not be
abbrev pub header_tests : ℕ → List ℕ → List Test
header_tests wrong f =
    (ltb (length f) least_header ⇒ 2)
    ∷ (wrong_kind f ⇒ 3)
    ∷ (eqb (protected f) wrong ⇒ 4)
    ∷ (ltb (length f) (header_length f) ⇒ 2)
    ∷ []

-- the octets after the header
abbrev pub body_test : ℕ → ℕ → List ℕ → List Test
body_test least most f = (outside least most (length f - header_length f) ⇒ 5) ∷ []

-- a room of so many octets, for a result of so many
abbrev pub room_test : ℕ → ℕ → List Test
room_test room result = (ltb room result ⇒ 6) ∷ []

-- A2
abbrev pub address_test : List ℕ → List ℕ → List Test
address_test address f = (not (same (address2 f) address) ⇒ 7) ∷ []

-- ExtIV
abbrev pub extended_test : List ℕ → List Test
extended_test f = (eqb (extended (ccmp_of f)) 0 ⇒ 8) ∷ []

-- the key ID
abbrev pub key_id_test : ℕ → List ℕ → List Test
key_id_test keyId f = (not (eqb (key_id_in (ccmp_of f)) keyId) ⇒ 9) ∷ []

-- the packet number, against the receiver's windows
abbrev pub replay_test : Receiver → List ℕ → List Test
replay_test r f = (is_replay r (priority f) (number f) ⇒ 10) ∷ []

-- the body of a sealed frame, where its integrity code is right
unfoldable pub body_of : List ℕ → List ℕ → Option (List ℕ)
body_of key f = opened_body key (nonce (priority f) (address2 f) (number f)) (authenticated f) (text_of f)

-- the integrity code
abbrev pub code_test : List ℕ → List ℕ → List Test
code_test key f = (is_none (body_of key f) ⇒ 11) ∷ []

-- whether a packet number is left, and whether so many are
abbrev pub spent_test : ℕ → List Test
spent_test last = (eqb last most_number ⇒ 12) ∷ []

abbrev pub left_test : ℕ → ℕ → List Test
left_test last count = (ltb (most_number - last) count ⇒ 12) ∷ []

-- of a table: whether an entry was found, whether none can be taken, and whether a key is in use
abbrev pub entry_test : Bool → List Test
entry_test found = (not found ⇒ 15) ∷ []

abbrev pub full_test : Bool → List Test
full_test full = (full ⇒ 16) ∷ []

abbrev pub key_test : Bool → List Test
key_test known = (known ⇒ 17) ∷ []
