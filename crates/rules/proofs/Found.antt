-- A call that finds its entry is the entry's own call: the whole order of the tests, and demand 2 through an entry and from table to table.
use mathlib.Core.Path.{◌≡◌, refl, sym, ap, ◌∙◌}
use mathlib.Core.Bool.{Bool, true, false, cond}
use mathlib.Core.List.{List, ◌++◌}
use Prim.Native.Nat.{ℕ, ◌+◌, ◌-◌}
use borrow.Author.Tests.{eq-eqb, lt-ltb}
use lib.ListN.{length, take}
use Rattle.octets.proofs.Booleans.{both}
use Rattle.octets.proofs.Same.{same_refl, same_is}
use Rattle.rules.specs.Header.{address1, address2, priority}
use Rattle.rules.specs.Nonce.{ccmp_of, key_id_in, number}
use Rattle.rules.specs.Mode.{added}
use Rattle.rules.specs.Records.{sound_sender, sound_receiver}
use Rattle.rules.specs.Answers.{Answer, Done, Test, first_that_applies, none_applies, written}
use Rattle.rules.specs.Tests.{entry_test, replay_test, code_test, spent_test}
use Rattle.rules.specs.Sealing.{sealed_frame, seal_answer, seal_output, Sealable}
use Rattle.rules.specs.Opening.{opened_frame, open_answer, open_output}
use Rattle.rules.specs.Table.{sender_of, entry_at, sound_entry, sound_table}
use Rattle.rules.specs.Serving.{seal_triple, seal_place, table_seal_tests, seal_comes, table_seal_answer, table_seal_output, open_triple, open_place, table_open_tests, open_comes, table_open_answer, table_open_output}
use Rattle.rules.specs.Demand2.{Match}
use Rattle.rules.specs.TableDemand1.{TableSealOrder, TableOpenOrder}
use Rattle.rules.specs.TableDemand2.{EntryOpens, EntrySealsBack, TableOpens, TableSealsBack}
use Rattle.rules.specs.declared.Sender.{Sender}
use Rattle.rules.specs.declared.Entry.{Entry}
use Rattle.rules.specs.declared.Table.{Table}
use Rattle.rules.proofs.Fields.{key_in}
use Rattle.rules.proofs.Passing.{all_done, done_all, refuses, any_done, first_append, twice, after_all, seal_done, open_done}
use Rattle.rules.proofs.Sealed.{sealed_ccmp, sealed_address1, sealed_address, written_is, opening_undoes_sealing}
use Rattle.rules.proofs.Resealed.{opened_address1, opened_address, opened_is, sealing_undoes_opening}
use Rattle.rules.proofs.Searching.{IsFor, table_tests, seal_frame_tests, open_frame_tests, seal_comes_lem, open_comes_lem}
use Rattle.rules.proofs.Projecting.{seal_output_is, open_output_is}
use Rattle.rules.proofs.Sound.{sound_places, used_below, placed}

-- the tests of opening that are left where the entry is found, and what is done where none applies
abbrev pub open_left : Entry → List ℕ → List Test
open_left e f = replay_test e.receiver f ++ code_test e.receiver.key f

abbrev pub sealed_done : Entry → List ℕ → Answer
sealed_done e f = Done (e.last + 1) (priority f) (length f + added)

abbrev pub opened_done : List ℕ → Answer
opened_done f = Done (number f) (priority f) (length f - added)

-- the answers of a sound entry to frames of its triple: the tests of the frame, and those that are left
module _ (e : Entry) (f room : List ℕ) where
  seal_own : sound_sender (sender_of e) ≡ true → address2 f ≡ e.own
      → seal_answer (sender_of e) f room ≡ first_that_applies (seal_frame_tests f (length room) ++ spent_test e.last) (sealed_done e f)
  unfolding seal_answer
  seal_own sound own = rw (sound, ← own, same_refl (address2 f))

  open_own : sound_receiver e.receiver ≡ true → address2 f ≡ e.receiver.peer → key_id_in (ccmp_of f) ≡ e.receiver.key_id
      → open_answer e.receiver f room ≡ first_that_applies (open_frame_tests f (length room) ++ open_left e f) (opened_done f)
  unfolding open_answer
  open_own sound peer id = rw (sound, ← peer, same_refl (address2 f), ← id, eq-eqb (key_id_in (ccmp_of f)) (key_id_in (ccmp_of f)) refl)

-- a table's tests and then an entry's own, whose first are those of the frame again
again : (ts us : List Test) (d x : Answer) → x ≡ first_that_applies (ts ++ us) d → first_that_applies (table_tests true ts true) x ≡ x
again ts us d x e = first_append ts (entry_test true) x ∙ ap (first_that_applies ts) e ∙ twice ts us d ∙ sym e

-- the output is what the answer says
written_if : (ts : List Test) (x : Answer) (result room : List ℕ)
    → cond (none_applies ts) (written x result room) room ≡ written (first_that_applies ts x) result room
written_if ts x result room = go (none_applies ts) refl
  where
    go : (b : Bool) → none_applies ts ≡ b → cond b (written x result room) room ≡ written (first_that_applies ts x) result room
    go true e = rw (all_done ts x e)
    go false e = rw ((refuses ts e).1 x)

pub seal_written : (t : Table) (keyId : ℕ) (f room : List ℕ) → let s = sender_of (entry_at t (seal_place t keyId f)) in
    table_seal_output t keyId f room ≡ written (table_seal_answer t keyId f room) (sealed_frame s (s.last + 1) f) room
unfolding table_seal_answer table_seal_output seal_output
seal_written t keyId f room =
    let s = sender_of (entry_at t (seal_place t keyId f)) in
    written_if (table_seal_tests t keyId f (length room)) (seal_answer s f room) (sealed_frame s (s.last + 1) f) room

pub open_written : (t : Table) (f room : List ℕ)
    → table_open_output t f room ≡ written (table_open_answer t f room) (opened_frame (entry_at t (open_place t f)).receiver f) room
unfolding table_open_answer table_open_output open_output
open_written t f room =
    let r = (entry_at t (open_place t f)).receiver in
    written_if (table_open_tests t f (length room)) (open_answer r f room) (opened_frame r f) room

-- the entry at place i of a sound table, in use
module _ (t : Table) (sound : sound_table t ≡ true) (i : ℕ) (used : (entry_at t i).used ≡ true) where
  pub both_sound : (sound_sender (sender_of (entry_at t i)) ≡ true) × (sound_receiver (entry_at t i).receiver ≡ true)
  unfolding sound_entry
  both_sound = both (sound_sender (sender_of (entry_at t i))) (sound_receiver (entry_at t i).receiver) (rw used at ((sound_places t sound).each i))

  seal_through : (keyId : ℕ) (f room : List ℕ) → (entry_at t i).may_send ≡ true → IsFor (seal_triple keyId f) (entry_at t i)
      → let s = sender_of (entry_at t i) in
      (seal_place t keyId f ≡ i) × (table_seal_answer t keyId f room ≡ seal_answer s f room) × (table_seal_output t keyId f room ≡ seal_output s f room)
  unfolding table_seal_answer seal_output
  seal_through keyId f room may h =
      let e = entry_at t i in
      let place = placed t (sound_places t sound) (seal_triple keyId f) i h in
      let own = seal_own e f room both_sound.0 h.own_is in
      let answer : table_seal_answer t keyId f room ≡ seal_answer (sender_of e) f room
      = rw (place, sound, lt-ltb i (length t.entries) (used_below t i used), may)
      (again (seal_frame_tests f (length room)) (spent_test e.last) (sealed_done e f) (seal_answer (sender_of e) f room) own) in
      (place, answer, seal_written t keyId f room ∙ rw (answer, place))

  pub open_through : (f room : List ℕ) → (entry_at t i).may_receive ≡ true → IsFor (open_triple f) (entry_at t i)
      → let r = (entry_at t i).receiver in
      (open_place t f ≡ i) × (table_open_answer t f room ≡ open_answer r f room) × (table_open_output t f room ≡ open_output r f room)
  unfolding table_open_answer open_output
  open_through f room may h =
      let e = entry_at t i in
      let place = placed t (sound_places t sound) (open_triple f) i h in
      let own = open_own e f room both_sound.1 h.peer_is h.id_is in
      let answer : table_open_answer t f room ≡ open_answer e.receiver f room
      = rw (place, sound, lt-ltb i (length t.entries) (used_below t i used), may)
      (again (open_frame_tests f (length room)) (open_left e f) (opened_done f) (open_answer e.receiver f room) own) in
      (place, answer, open_written t f room ∙ rw (answer, place))

-- tests, and then an answer that those left give where none of them applies
orders : (ts us : List Test) (d x : Answer) → (none_applies ts ≡ true → x ≡ first_that_applies us d) → first_that_applies ts x ≡ first_that_applies (ts ++ us) d
orders ts us d x h = go (none_applies ts) refl ∙ sym (first_append ts us d)
  where
    go : (b : Bool) → none_applies ts ≡ b → first_that_applies ts x ≡ first_that_applies ts (first_that_applies us d)
    go true e = ap (first_that_applies ts) (h e)
    go false e = any_done ts x (first_that_applies us d) e

-- the answer of the entry that a call comes to
seal_left : (t : Table) (keyId : ℕ) (f room : List ℕ) → seal_comes t keyId f room ≡ true
    → let e = entry_at t (seal_place t keyId f) in seal_answer (sender_of e) f room ≡ first_that_applies (spent_test e.last) (sealed_done e f)
seal_left t keyId f room comes =
    let e = entry_at t (seal_place t keyId f) in
    let c = seal_comes_lem t keyId f room comes in
    seal_own e f room (both_sound t c.sound (seal_place t keyId f) c.is_for_lem.used).0 c.is_for_lem.own_is
    ∙ after_all (seal_frame_tests f (length room)) (spent_test e.last) (sealed_done e f) c.frame

pub open_left_lem : (t : Table) (f room : List ℕ) → open_comes t f room ≡ true
    → let e = entry_at t (open_place t f) in open_answer e.receiver f room ≡ first_that_applies (open_left e f) (opened_done f)
open_left_lem t f room comes =
    let e = entry_at t (open_place t f) in
    let c = open_comes_lem t f room comes in
    open_own e f room (both_sound t c.sound (open_place t f) c.is_for_lem.used).1 c.is_for_lem.peer_is c.is_for_lem.id_is
    ∙ after_all (open_frame_tests f (length room)) (open_left e f) (opened_done f) c.frame

pub table_seal_order : TableSealOrder
unfolding table_seal_answer
table_seal_order t keyId f room =
    let e = entry_at t (seal_place t keyId f) in
    orders (table_seal_tests t keyId f (length room)) (spent_test e.last) (sealed_done e f) (seal_answer (sender_of e) f room) (seal_left t keyId f room)

pub table_open_order : TableOpenOrder
unfolding table_open_answer
table_open_order t f room =
    let e = entry_at t (open_place t f) in
    orders (table_open_tests t f (length room)) (open_left e f) (opened_done f) (open_answer e.receiver f room) (open_left_lem t f room)

-- a frame that a matching sender sealed to the entry's own address is for the entry
pub sealed_for : (s : Sender) (f : List ℕ) (n : ℕ) → Sealable s f → (e : Entry) → e.used ≡ true → Match s e.receiver → address1 f ≡ e.own
    → IsFor (open_triple (sealed_frame s n f)) e
sealed_for s f n ok e used m own =
    record {
      used = used;
      own_is = sealed_address1 s f n ok ∙ own;
      peer_is = sealed_address s f n ok ∙ same_is (address2 f) s.address ok.own ∙ m.address;
      id_is = ap key_id_in (sealed_ccmp s f n ok) ∙ key_in n s.key_id ok.id_fits ∙ m.key_id;
    }

pub entry_opens : EntryOpens
entry_opens s t i f room room' n p k e sound used may m own enough below =
    let d = seal_done s f room n p k e in
    let g = take k (seal_output s f room) in
    let found : IsFor (open_triple g) (entry_at t i) = rw (written_is s f room n p k e) (sealed_for s f n d.sealable (entry_at t i) used m own) in
    let through = open_through t sound i used g room' may found in
    let undone = opening_undoes_sealing s (entry_at t i).receiver f room room' n p k e (both_sound t sound i used).1 m enough below in
    (through.1 ∙ undone.0, through.2 ∙ undone.1)

pub entry_seals_back : EntrySealsBack
entry_seals_back t i r g room room' n p k e octets sound used may m peer next enough =
    let d = open_done r g room n p k e in
    let f = take k (open_output r g room) in
    let is = opened_is r g room n p k e in
    let keyId = (entry_at t i).receiver.key_id in
    let found : IsFor (seal_triple keyId f) (entry_at t i)
    = record {
      used = used;
      own_is = ap address2 is ∙ opened_address r g room n p k d ∙ same_is (address2 g) r.peer d.openable.peer ∙ sym m.address;
      peer_is = ap address1 is ∙ opened_address1 r g room n p k d ∙ peer;
      id_is = refl;
    } in
    let through = seal_through t sound i used keyId f room' may found in
    let undone = sealing_undoes_opening (sender_of (entry_at t i)) r g room room' n p k e octets (both_sound t sound i used).0 m next enough in
    (through.1 ∙ undone.0, through.2 ∙ undone.1)

pub table_opens : TableOpens
unfolding table_seal_answer
table_opens t t' i keyId f room room' n p k e sound used may m enough below =
    let s = sender_of (entry_at t (seal_place t keyId f)) in
    let q = done_all (table_seal_tests t keyId f (length room)) (seal_answer s f room) n p k e in
    let to = (seal_comes_lem t keyId f room q.1).is_for_lem.peer_is ∙ m.back in
    rw (seal_output_is t keyId f room q.1) (entry_opens s t' i f room room' n p k q.0 sound used may m.match to enough below)

pub table_seals_back : TableSealsBack
unfolding table_open_answer
table_seals_back t t' i g room room' n p k e octets sound used may m next enough =
    let r = (entry_at t (open_place t g)).receiver in
    let q = done_all (table_open_tests t g (length room)) (open_answer r g room) n p k e in
    let to = (open_comes_lem t g room q.1).is_for_lem.own_is ∙ sym m.back in
    rw (open_output_is t g room q.1) (entry_seals_back t' i r g room room' n p k q.0 octets sound used may m.match to next enough)
