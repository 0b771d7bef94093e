-- Document 02, request 4: a table of entries, each a sender and a receiver of document 01 in one; soundness, and the search.
use Rattle.std.specs.Prelude.{Bool, true, false, cond, not, ◌&&◌, ◌||◌, List, [], ◌∷◌, ℕ, suc, ltb, eqb, length, get_or, set, replicate}
use Rattle.octets.specs.Octets.{same}
use Rattle.rules.specs.Limits.{address_octets, table_entries}
use Rattle.rules.specs.Records.{sound_sender, sound_receiver, new_receiver, zero_receiver}
use Rattle.rules.specs.declared.Sender.{Sender}
use Rattle.rules.specs.declared.Receiver.{Receiver}
use Rattle.rules.specs.declared.Table.{Table}
use Rattle.rules.specs.declared.Entry.{Entry}
use Rattle.rules.specs.declared.Triple.{Triple}
use Rattle.rules.specs.declared.Pairing.{Pairing}

-- the sender of an entry; its receiver is a field
abbrev pub sender_of : Entry → Sender
sender_of e = record { key = e.receiver.key; key_id = e.receiver.key_id; address = e.own; last = e.last }

-- own address, peer address and key ID
abbrev pub triple_of : Entry → Triple
triple_of e = record { own = e.own; peer = e.receiver.peer; key_id = e.receiver.key_id }

-- an entry with what moves of a sender, its last number; and with another receiver
abbrev pub with_sender : Entry → Sender → Entry
with_sender e s =
    record { used = e.used; may_send = e.may_send; may_receive = e.may_receive; own = e.own; last = s.last; receiver = e.receiver }

abbrev pub with_receiver : Entry → Receiver → Entry
with_receiver e r =
    record { used = e.used; may_send = e.may_send; may_receive = e.may_receive; own = e.own; last = e.last; receiver = r }

-- an entry with nothing sealed and nothing opened yet
abbrev pub new_entry : Pairing → Entry
new_entry x =
    record {
      used = true;
      may_send = x.may_send;
      may_receive = x.may_receive;
      own = x.triple.own;
      last = 0;
      receiver = new_receiver x.key x.triple.key_id x.triple.peer x.size;
    }

-- a free entry of zeros
abbrev pub free_entry : Entry
free_entry =
    record { used = false; may_send = false; may_receive = false; own = replicate address_octets 0; last = 0; receiver = zero_receiver }

unfoldable pub fresh_table : Table
fresh_table = record { entries = replicate table_entries free_entry; format_errors = 0 }

-- the entry at place i; past the last place, a free one
abbrev pub entry_at : Table → ℕ → Entry
entry_at t i = get_or t.entries i free_entry

-- the table with e at place i
abbrev pub put : Table → ℕ → Entry → Table
put t i e = record { entries = set t.entries i e; format_errors = t.format_errors }

abbrev pub same_triple : Triple → Triple → Bool
same_triple x y = same x.own y.own && (same x.peer y.peer && eqb x.key_id y.key_id)

-- in use for this triple; in use with this key; free
unfoldable pub is_for : Triple → Entry → Bool
is_for x e = e.used && same_triple x (triple_of e)

unfoldable pub has_key : List ℕ → Entry → Bool
has_key key e = e.used && same key e.receiver.key

abbrev pub is_free : Entry → Bool
is_free e = not e.used

-- two entries in use with one triple or one key
unfoldable pub clash : Entry → Entry → Bool
clash a b = a.used && (is_for (triple_of a) b || has_key a.receiver.key b)

-- an entry that clashes with none of these, and entries of which no two clash
abbrev pub apart_from : Entry → List Entry → Bool
apart_from a [] = true
apart_from a (b ∷ es) = not (clash a b) && apart_from a es

abbrev pub apart : List Entry → Bool
apart [] = true
apart (a ∷ es) = apart_from a es && apart es

-- a free entry is sound, and one in use where its two records are
unfoldable pub sound_entry : Entry → Bool
sound_entry e = is_free e || (sound_sender (sender_of e) && sound_receiver e.receiver)

abbrev pub all_sound : List Entry → Bool
all_sound [] = true
all_sound (e ∷ es) = sound_entry e && all_sound es

-- each entry in use is sound, and no two in use have one triple or one key
unfoldable pub sound_table : Table → Bool
sound_table t = all_sound t.entries && apart t.entries

-- the first place of an entry that passes b; where none does, the place past the last
abbrev pub first_place : (Entry → Bool) → List Entry → ℕ
first_place b [] = 0
first_place b (e ∷ es) = cond (b e) 0 (suc (first_place b es))

abbrev pub is_place : Table → ℕ → Bool
is_place t i = ltb i (length t.entries)

-- the place of the entry of a triple
unfoldable pub place_of : Table → Triple → ℕ
place_of t x = first_place (is_for x) t.entries
