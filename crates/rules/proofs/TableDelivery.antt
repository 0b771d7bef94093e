-- Demand 3, first half, for an entry: over calls that don't change it, its windows are those of its own deliveries.
use mathlib.Core.Path.{◌≡◌, refl, sym, ap, ◌∙◌}
use mathlib.Core.Bool.{Bool, true, false, cond, true≢false}
use mathlib.Core.List.{List}
use mathlib.Core.Logic.{◌↔◌, inl, inr, ⊎_elim}
use Prim.Native.Nat.{ℕ, ◌+◌, ◌<◌}
use native.Mathlib.Omega.{arith}
use lib.Dec.{leb}
use lib.ListN.{length}
use lib.Seq.{get_or-set_same}
use Rattle.octets.specs.Octets.{Octets, none}
use Rattle.octets.proofs.Booleans.{both}
use Rattle.rules.specs.Limits.{most_key_id, priorities}
use Rattle.rules.specs.Header.{address1}
use Rattle.rules.specs.Windows.{is_size, takes}
use Rattle.rules.specs.Records.{window_of, with_last, fresh_sender, fresh_receiver}
use Rattle.rules.specs.Opening.{open_answer, open_next, open_output}
use Rattle.rules.specs.Calls.{no_call}
use Rattle.rules.specs.Sending.{Sent}
use Rattle.rules.specs.Table.{sender_of, free_entry, fresh_table, new_entry, entry_at}
use Rattle.rules.specs.Adding.{add_place, add_next}
use Rattle.rules.specs.Serving.{open_place, table_open_answer, table_open_output}
use Rattle.rules.specs.TableCalls.{TableCall, to_open, to_add, lent, table_answer, table_next, table_run, call_at, before, OctetCalls, opens_at, changes, Unchanged}
use Rattle.rules.specs.Demand2.{Match}
use Rattle.rules.specs.Tables.{AddedFresh, as_made}
use Rattle.rules.specs.TableDemand3.{DeliversTo, InWindowAt, TableOpensTo, TableReplayed, TableDelivered}
use Rattle.rules.specs.declared.Sender.{Sender}
use Rattle.rules.specs.declared.Receiver.{Receiver}
use Rattle.rules.specs.declared.Table.{Table}
use Rattle.rules.specs.declared.Window.{Window}
use Rattle.rules.proofs.Steps.{DoneIn, zeros, moves}
use Rattle.rules.proofs.Windows.{Moves, taken_when, Windows, held, replays}
use Rattle.rules.proofs.Sends.{Genuine, sent_at_lem, still_matches}
use Rattle.rules.proofs.Delivery.{decided}
use Rattle.rules.proofs.Projecting.{step_made, step_receiver, own_opening, table_runs}
use Rattle.rules.proofs.Sound.{Good, next_good, reached, add_done}
use Rattle.rules.proofs.Found.{both_sound, open_through, sealed_for}

-- the call on u comes to the entry at place i and opens n in priority p
abbrev pub OpensAt : ℕ → Table → TableCall → ℕ → ℕ → Type 0
OpensAt i u c p n = (opens_at u i c ≡ true) × DoneIn (table_answer u c) p n

-- the window for priority p of the entry at place i
abbrev pub window_at : Table → ℕ → ℕ → Window
window_at u i p = window_of (entry_at u i).receiver p

-- what one call that doesn't change the entry at place i leaves of its window for priority p
module _ (u : Table) (good : Good u) (i : ℕ) (c : TableCall) (same : changes u i c ≡ false) (p : ℕ) where
  abbrev r : Receiver
  r = (entry_at u i).receiver

  window_next_lem : (b : Bool) → opens_at u i c ≡ b → window_at (table_next u c) i p ≡ window_of (cond b (open_next r (lent c).frame (lent c).room) r) p
  window_next_lem b h = ap (λ x. window_of x p) (step_receiver u i c same) ∙ rw h

  pub entry_moves : Moves (window_at u i p) (window_at (table_next u c) i p) (OpensAt i u c p)
  entry_moves = go (opens_at u i c) refl
    where
      go : (b : Bool) → opens_at u i c ≡ b → Moves (window_at u i p) (window_at (table_next u c) i p) (OpensAt i u c p)
      go false h = inl (window_next_lem false h, (λ n o. true≢false (sym o.0 ∙ h)))
      go true h =
          let own = (own_opening u i c h).0 in
          let back : (n : ℕ) → OpensAt i u c p n → DoneIn (open_answer r (lent c).frame (lent c).room) p n = λ n (o, (k, e)). (k, sym own ∙ e) in
          ⊎_elim (λ (e, never). inl (window_next_lem true h ∙ e, (λ n o. never n (back n o))))
          (λ t.
          inr
          (record {
            number = t.number;
            opens = (h, (t.opens.0, own ∙ t.opens.1));
            alone = λ m o. t.alone m (back m o);
            taken = t.taken;
            after = window_next_lem true h ∙ t.after;
          }))
          (moves r (lent c).frame (lent c).room (good.windowed i) p)

-- a good table whose entry at place i is as in t, but for what sealing and opening move
record Stays (t : Table) (i : ℕ) (u : Table) : Type 0 where
  good : Good u
  made : as_made (entry_at u i) ≡ as_made (entry_at t i)

windows : (t : Table) (i : ℕ)
    → Windows table_next (λ u. window_at u i) (OpensAt i)
    (λ u c. (changes u i c ≡ false) × Octets (lent c).frame) (Stays t i)
windows t i =
    record {
      keeps = λ {u} c h f. record { good = next_good u h.good c f.1; made = step_made u i c f.0 ∙ h.made };
      sound = λ h. (h.good.windowed i).windows;
      moves = λ {u} c h f. entry_moves u h.good i c f.0;
    }

-- the entry at place i, in use, over calls that don't change it: it may receive, and nothing was opened yet
module _ (t : Table) (i : ℕ) (good : Good t) (used : (entry_at t i).used ≡ true) (may : (entry_at t i).may_receive ≡ true)
    (empty : (p : ℕ) → (window_at t i p).greatest ≡ 0) (ds : List TableCall) (od : OctetCalls ds) (same : Unchanged t i ds) where
  start : Stays t i t
  start = record { good = good; made = refl }

  fit : (j : ℕ) → j < length ds → (changes (before t ds j) i (call_at ds j) ≡ false) × Octets (lent (call_at ds j)).frame
  fit j l = (same j l, od j)

  module _ (s : Sender) (last : ℕ) (x : Sent) (j : ℕ) (m : Match s (entry_at t i).receiver) (g : Genuine (with_last s last) x)
      (own : address1 x.original ≡ (entry_at t i).own) (d : DeliversTo x ds j) where
    abbrev u : Table
    u = before t ds j

    stays : Stays t i u
    stays = held table_runs (windows t i) (to_open no_call) t ds start fit j (omega (arith, d.below))

    match : Match s (entry_at u i).receiver
    match =
        let made = stays.made in
        record {
          key = m.key ∙ sym (ap (λ e. e.receiver.key) made);
          key_id = m.key_id ∙ sym (ap (λ e. e.receiver.key_id) made);
          address = m.address ∙ sym (ap (λ e. e.receiver.peer) made);
        }

    used_still : (entry_at u i).used ≡ true
    used_still = ap (λ e. e.used) stays.made ∙ used

    through : let r = (entry_at u i).receiver in
        (open_place u x.octets ≡ i)
        × (table_open_answer u x.octets d.room ≡ open_answer r x.octets d.room)
        × (table_open_output u x.octets d.room ≡ open_output r x.octets d.room)
    through =
        open_through u stays.good.sound i used_still x.octets d.room (ap (λ e. e.may_receive) stays.made ∙ may)
        (rw g.octets_are
        (sealed_for (with_last s last) x.original x.number g.sealable (entry_at u i) used_still
        (still_matches s last (entry_at u i).receiver match) (own ∙ sym (ap (λ e. e.own) stays.made))))

    when : (takes (window_at u i x.priority) x.number ≡ true) ↔ InWindowAt t i ds j x
    when =
        let window = replays table_runs (windows t i) (to_open no_call) t ds start fit x.priority in
        taken_when window (empty x.priority) j x.number (omega (arith, d.below)) (omega (arith, g.number_is))

    delivered_at : (TableOpensTo t ds j x ↔ InWindowAt t i ds j x) × (¬ (InWindowAt t i ds j x) → TableReplayed t ds j)
    delivered_at =
        rw (d.opens, through.1, through.2)
        (decided s last x g (entry_at u i).receiver d.room (both_sound u stays.good.sound i used_still).1 match d.enough
        (InWindowAt t i ds j x) when)

pub added_fresh : AddedFresh
unfolding fresh_sender fresh_receiver
added_fresh t x e =
    let d = add_done t x 0 0 0 e in
    let i = add_place t x.triple in
    let new : entry_at (add_next t x) i ≡ new_entry x = rw e (get_or-set_same t.entries i (new_entry x) free_entry d.within) in
    let id_fits = (both (leb x.triple.key_id most_key_id) (is_size x.size) d.fits).0 in
    (new, ap sender_of new ∙ rw id_fits, ap (λ e. e.receiver) new ∙ rw d.fits)

pub table_delivered : TableDelivered
table_delivered cs o x may e s cs' ds y j m (a, l, is) own od same d =
    let t = table_run fresh_table cs in
    let new = (added_fresh t x e).0 in
    delivered_at (add_next t x) (add_place t x.triple) (next_good t (reached cs o) (to_add x) none)
    (ap (λ e. e.used) new) (ap (λ e. e.may_receive) new ∙ may) (λ p. ap (λ e. (window_of e.receiver p).greatest) new ∙ zeros priorities p)
    ds od same s (s.last + a) y j m (rw is at (sent_at_lem s cs' a l)) own d
