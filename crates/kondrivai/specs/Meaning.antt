-- The records that the fields of a layout mean. Where a record has come to hold more than a layout has fields for, this says what the layout means
-- by it; the layout itself stays.
use Rattle.std.specs.Prelude.{List, ℕ}
use Rattle.rules.specs.Records.{new_sender, with_last}
use Rattle.rules.specs.declared.Sender.{Sender}
use Rattle.rules.specs.declared.Receiver.{Receiver}
use Rattle.rules.specs.declared.Counts.{Counts}

-- layout 1
abbrev pub sender1 : ℕ → List ℕ → List ℕ → ℕ → Sender
sender1 keyId address key last = with_last (new_sender key keyId address) last

abbrev pub receiver1 : ℕ → ℕ → List ℕ → List ℕ → Counts → List ℕ → List ℕ → Receiver
receiver1 keyId size peer key counts replay seen =
    record { key = key; key_id = keyId; peer = peer; size = size; replay = replay; seen = seen; counts = counts }
