-- docs/LAYOUT.md, "Layout 1": a sender and a receiver as octets.
use Rattle.std.specs.Prelude.{Bool, ◌&&◌, List, [], ◌∷◌, ◌++◌, ℕ, leb, drop, get_or}
use Rattle.octets.specs.Octets.{word}
use Rattle.rules.specs.Limits.{most_key_id}
use Rattle.rules.specs.Header.{part}
use Rattle.rules.specs.Windows.{is_size}
use Rattle.rules.specs.declared.Sender.{Sender}
use Rattle.rules.specs.declared.Receiver.{Receiver}
use Rattle.rules.specs.declared.Counts.{Counts}
use Rattle.kondrivai.specs.Numbers.{octets_of, octets_of_each, words}
use Rattle.kondrivai.specs.Front.{sender_kind, receiver_kind, is_of}
use Rattle.kondrivai.specs.Meaning.{sender1, receiver1}

-- the layout's number
abbrev pub layout : ℕ
layout = 1

-- the octets of each buffer
abbrev pub sender_size : ℕ
sender_size = 31

abbrev pub receiver_size : ℕ
receiver_size = 170

-- a sender: the front, key ID, address, key, last number
unfoldable pub sender_octets : Sender → List ℕ
sender_octets s = sender_kind ∷ layout ∷ s.key_id ∷ (s.address ++ (s.key ++ octets_of 6 s.last))

-- whether a buffer holds a sender: a key ID is at most 3
unfoldable pub is_sender : List ℕ → Bool
is_sender b = is_of sender_kind layout sender_size b && leb (get_or b 2 0) most_key_id

-- the sender in it: key ID, address, key, last number
unfoldable pub sender_in : List ℕ → Sender
sender_in b = sender1 (get_or b 2 0) (part b 3 6) (part b 9 16) (word (part b 25 6))

-- the counts: format errors, replays, decrypt errors, opened
abbrev pub counts_octets : Counts → List ℕ
counts_octets c = octets_of_each 4 (c.format_errors ∷ c.replays ∷ c.decrypt_errors ∷ c.opened ∷ [])

-- a receiver: the front, key ID, size of the windows, peer, key, counts, the windows' greatest numbers, and their bits
unfoldable pub receiver_octets : Receiver → List ℕ
receiver_octets r =
    receiver_kind ∷ layout ∷ r.key_id ∷ r.size
    ∷ (r.peer ++ (r.key ++ (counts_octets r.counts ++ (octets_of_each 6 r.replay ++ octets_of_each 2 r.seen))))

-- whether a buffer holds a receiver: a key ID is at most 3, and a size 1 or 16
unfoldable pub is_receiver : List ℕ → Bool
is_receiver b = is_of receiver_kind layout receiver_size b && (leb (get_or b 2 0) most_key_id && is_size (get_or b 3 0))

unfoldable pub counts_in : List ℕ → Counts
counts_in b =
    record { format_errors = word (part b 26 4); replays = word (part b 30 4); decrypt_errors = word (part b 34 4); opened = word (part b 38 4) }

-- the receiver in it: key ID, size, peer, key, counts, greatest numbers, bits
unfoldable pub receiver_in : List ℕ → Receiver
receiver_in b =
    receiver1 (get_or b 2 0) (get_or b 3 0) (part b 4 6) (part b 10 16) (counts_in b) (words 6 16 (drop 42 b)) (words 2 16 (drop 138 b))
