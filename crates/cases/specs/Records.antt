-- The key and the address of the cases, and receivers with a window written out.
use Rattle.std.specs.Prelude.{List, [], ◌∷◌, ℕ, cond, eqb, set}
use Rattle.rules.specs.declared.Receiver.{Receiver}

abbrev pub case_key : List ℕ
case_key = 0 ∷ 1 ∷ 2 ∷ 3 ∷ 4 ∷ 5 ∷ 6 ∷ 7 ∷ 8 ∷ 9 ∷ 10 ∷ 11 ∷ 12 ∷ 13 ∷ 14 ∷ 15 ∷ []

abbrev pub case_address : List ℕ
case_address = 2 ∷ 0 ∷ 0 ∷ 0 ∷ 0 ∷ 1 ∷ []

-- the receiver with this window in priority p
abbrev pub with_window : Receiver → ℕ → ℕ → ℕ → Receiver
with_window r p greatest seen =
    record {
      key = r.key;
      key_id = r.key_id;
      peer = r.peer;
      size = r.size;
      replay = set r.replay p greatest;
      seen = set r.seen p seen;
      counts = r.counts;
    }

-- the receiver with n as the replay counter of priority p, whose window holds n alone, or nothing where n is 0
abbrev pub with_counter : Receiver → ℕ → ℕ → Receiver
with_counter r p n = with_window r p n (cond (eqb n 0) 0 1)
