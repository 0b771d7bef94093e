-- Document 02, request 6: reading and writing undo each other, and a buffer's front alone tells what it is.
use Rattle.std.specs.Prelude.{◌≡◌, true, List, ℕ, ◌<◌, length, take}
use Rattle.octets.specs.Octets.{Octets}
use Rattle.rules.specs.Limits.{key_octets, address_octets, priorities, count_limit}
use Rattle.rules.specs.Records.{sound_sender, sound_receiver}
use Rattle.rules.specs.declared.Sender.{Sender}
use Rattle.rules.specs.declared.Receiver.{Receiver}
use Rattle.kondrivai.specs.Front.{front_octets, sender_kind, receiver_kind, kind_in, layout_in}
use Rattle.kondrivai.specs.Layout1.{layout, is_sender, sender_in, sender_octets, is_receiver, receiver_in, receiver_octets}

-- what the types of the code say of a record
pub record TypedSender (s : Sender) : Type 0 where
  pub address : length s.address ≡ address_octets
  pub key : length s.key ≡ key_octets

pub record TypedReceiver (r : Receiver) : Type 0 where
  pub peer : length r.peer ≡ address_octets
  pub key : length r.key ≡ key_octets
  pub replay : length r.replay ≡ priorities
  pub seen : length r.seen ≡ priorities
  pub format_errors : r.counts.format_errors < count_limit
  pub replays : r.counts.replays < count_limit
  pub decrypt_errors : r.counts.decrypt_errors < count_limit
  pub opened : r.counts.opened < count_limit

-- what is written of a sound record holds it
abbrev pub WrittenReads : Type 0
WrittenReads =
    ((s : Sender) → TypedSender s → sound_sender s ≡ true → (is_sender (sender_octets s) ≡ true) × (sender_in (sender_octets s) ≡ s))
    × ((r : Receiver) → TypedReceiver r → sound_receiver r ≡ true → (is_receiver (receiver_octets r) ≡ true) × (receiver_in (receiver_octets r) ≡ r))

-- what is read of a buffer is written as the buffer, be the record sound or not; a sender that is read is sound
abbrev pub ReadWrites : Type 0
ReadWrites =
    ((b : List ℕ) → Octets b → is_sender b ≡ true → (sender_octets (sender_in b) ≡ b) × (sound_sender (sender_in b) ≡ true))
    × ((b : List ℕ) → Octets b → is_receiver b ≡ true → receiver_octets (receiver_in b) ≡ b)

-- the kind and the number of the layout are read from the front alone, and those of a buffer that holds a record are its own: whatever its length,
-- no buffer with another front holds one
abbrev pub FrontTells : Type 0
FrontTells =
    ((b c : List ℕ) → take front_octets b ≡ take front_octets c → (kind_in b ≡ kind_in c) × (layout_in b ≡ layout_in c))
    × ((b : List ℕ) → is_sender b ≡ true → (kind_in b ≡ sender_kind) × (layout_in b ≡ layout))
    × ((b : List ℕ) → is_receiver b ≡ true → (kind_in b ≡ receiver_kind) × (layout_in b ≡ layout))
