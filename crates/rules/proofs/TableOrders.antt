-- Demand 3, second half, for a table: what a delivery is answered rests on the window of its entry and priority alone.
use mathlib.Core.Path.{◌≡◌, refl, sym, ap, ◌∙◌, subst}
use mathlib.Core.Bool.{Bool, true, false, cond, ◌&&◌}
use mathlib.Core.List.{List, [], ◌∷◌, map}
use mathlib.Core.Option.{Option, none, some}
use Prim.Native.Nat.{ℕ, zero, suc}
use borrow.Author.Tests.{eq-eqb}
use lib.ListN.{length, take, length-set, get_or-map}
use lib.Seq.{ext_get_or}
use Rattle.octets.specs.Octets.{Octets}
use Rattle.rules.specs.Header.{priority}
use Rattle.rules.specs.Answers.{Answer, Test, first_that_applies, none_applies, among, answer_number}
use Rattle.rules.specs.Opening.{open_answer, open_next, open_output}
use Rattle.rules.specs.Calls.{Call, no_call, at}
use Rattle.rules.specs.Table.{free_entry, fresh_table, entry_at, is_for, place_of}
use Rattle.rules.specs.Serving.{open_triple, open_place, table_open_tests, open_comes, table_open_answer, opened_at, format_counted, table_open_next, table_open_output}
use Rattle.rules.specs.TableCalls.{to_open, table_answer, table_next, table_output, table_run, opens_at, table_answer_at, table_output_at}
use Rattle.rules.specs.Tables.{as_made}
use Rattle.rules.specs.TableDemand1.{counted_by_table}
use Rattle.rules.specs.TableDemand3.{Through, TableReordered}
use Rattle.rules.specs.declared.Receiver.{Receiver}
use Rattle.rules.specs.declared.Table.{Table}
use Rattle.rules.specs.declared.Window.{Window}
use Rattle.rules.proofs.Passing.{any_done, open_done}
use Rattle.rules.proofs.Steps.{DoneIn}
use Rattle.rules.proofs.States.{Runs}
use Rattle.rules.proofs.Tallies.{plus_one}
use Rattle.rules.proofs.Windows.{Moves, Windows}
use Rattle.rules.proofs.Channels.{Channelled, orders-alike}
use Rattle.rules.proofs.Runs.{Count, answers_of, value_of, same_counts, count_moves, Keeps, same_windows, same_window, same_output}
use Rattle.rules.proofs.Searching.{first_alike, open_comes_lem}
use Rattle.rules.proofs.Projecting.{step, step_made, step_receiver, own_opening}
use Rattle.rules.proofs.Sound.{Good, next_good, reached}
use Rattle.rules.proofs.Found.{both_sound}
use Rattle.rules.proofs.TableDemand1.{format_moved}
use Rattle.rules.proofs.TableDelivery.{window_at, entry_moves}

-- one delivery on a table
abbrev next : Table → Call → Table
next u c = table_next u (to_open c)

abbrev answer : Table → Call → Answer
answer u c = table_answer u (to_open c)

abbrev output : Table → Call → List ℕ
output u c = table_output u (to_open c)

abbrev deliver : Table → List Call → Table
deliver u cs = table_run u (map to_open cs)

deliver_runs : Runs next deliver
deliver_runs = record { ends = λ u. refl; goes_on = λ u c cs. refl }

-- a good table that differs from t in what opening moves alone
record Kin (t u : Table) : Type 0 where
  good : Good u
  size : length u.entries ≡ length t.entries
  made : (i : ℕ) → as_made (entry_at u i) ≡ as_made (entry_at t i)
  last : (i : ℕ) → (entry_at u i).last ≡ (entry_at t i).last

kin_next : {t u : Table} (c : Call) → Kin t u → Octets c.frame → Kin t (next u c)
unfolding table_open_next
kin_next {t} {u} c k o =
    record {
      good = next_good u k.good (to_open c) o;
      size = go (open_comes u c.frame c.room) ∙ k.size;
      made = λ i. step_made u i (to_open c) refl ∙ k.made i;
      last = λ i. ap (λ e. e.last) (step u i (to_open c) refl) ∙ k.last i;
    }
  where
    go : (b : Bool) → let place = open_place u c.frame in
        length (cond b (opened_at u place c.frame c.room) (format_counted u (answer u c))).entries ≡ length u.entries
    go true = simp length-set
    go false = refl

-- such a table finds for a delivery the entry that t finds
module _ {t u : Table} (good : Good t) (k : Kin t u) (c : Call) where
  place_alike : open_place u c.frame ≡ open_place t c.frame
  unfolding place_of is_for
  place_alike =
      let b = is_for (open_triple c.frame) in
      first_alike b u.entries t.entries k.size (λ i. ap b (k.made i))

  tests_alike : table_open_tests u c.frame (length c.room) ≡ table_open_tests t c.frame (length c.room)
  tests_alike = rw (good.sound, k.good.sound, place_alike, k.size, ap (λ e. e.may_receive) (k.made (open_place t c.frame)))

  comes_alike : open_comes u c.frame c.room ≡ open_comes t c.frame c.room
  comes_alike = ap none_applies tests_alike

  opens_alike : (i : ℕ) → opens_at u i (to_open c) ≡ opens_at t i (to_open c)
  opens_alike i = rw (comes_alike, place_alike)

  -- where it comes to an entry, the receiver there is t's but for windows and counts, and the answer and the output are its own
  module _ (comes : open_comes t c.frame c.room ≡ true) where
    abbrev r : Receiver
    r = (entry_at u (open_place t c.frame)).receiver

    keeps : Keeps (entry_at t (open_place t c.frame)).receiver r
    keeps =
        let i = open_place t c.frame in
        let made = k.made i in
        let used = ap (λ e. e.used) made ∙ (open_comes_lem t c.frame c.room comes).is_for_lem.used in
        record {
          key_is = ap (λ e. e.receiver.key) made;
          id_is = ap (λ e. e.receiver.key_id) made;
          peer_is = ap (λ e. e.receiver.peer) made;
          size_is = ap (λ e. e.receiver.size) made;
          sound = (both_sound u k.good.sound i used).1;
          windowed = k.good.windowed i;
        }

    own : (answer u c ≡ open_answer r c.frame c.room) × (output u c ≡ open_output r c.frame c.room)
    own =
        let i = open_place t c.frame in
        own_opening u i (to_open c) (rw (comes_alike, place_alike, comes) (eq-eqb i i refl))

-- the window of a place and a priority
abbrev window : Table → ℕ × ℕ → Window
window u q = window_at u q.0 q.1

-- the delivery comes to the place in t, and the answer is done with n in the priority
abbrev Opens : Table → Call → Answer → ℕ × ℕ → ℕ → Type 0
Opens t c a q n = (opens_at t q.0 (to_open c) ≡ true) × DoneIn a q.1 n

-- the counts of a table, its own and four at each place
abbrev Which : Type 0
Which = Option (ℕ × Count)

abbrev count : Table → Which → ℕ
count u none = u.format_errors
count u (some (i, d)) = value_of d (entry_at u i).receiver.counts

-- the deliveries that move them
abbrev moves : Table → Which → Call → Answer → Bool
moves t none c a = among counted_by_table (answer_number a)
moves t (some (i, d)) c a = opens_at t i (to_open c) && among (answers_of d) (answer_number a)

module _ {t : Table} (good : Good t) where
  windows : Windows next window (λ u c. Opens t c (answer u c)) (λ u c. Octets c.frame) (Kin t)
  windows =
      record {
        keeps = kin_next;
        sound = λ k q. (k.good.windowed q.0).windows q.1;
        moves =
            λ {u} c k o q.
            subst (λ b. Moves (window u q) (window (next u c) q) (λ n. (b ≡ true) × DoneIn (answer u c) q.1 n)) (opens_alike good k c q.0)
            (entry_moves u k.good q.0 (to_open c) refl q.1);
      }

  within : {u : Table} (c : Call) → Kin t u → (q : ℕ × ℕ) (n : ℕ) → Opens t c (answer u c) q n → Through t c q
  within {u} c k q n (h, (m, e)) =
      let own = (own_opening u q.0 (to_open c) (opens_alike good k c q.0 ∙ h)).0 in
      (h, sym (open_done (entry_at u q.0).receiver c.frame c.room n q.1 m (sym own ∙ e)).priority_is)

  rests : {u w : Table} (c : Call) → Kin t u → Kin t w → ((q : ℕ × ℕ) → Through t c q → window u q ≡ window w q) → answer u c ≡ answer w c
  unfolding table_open_answer
  rests {u} {w} c ku kw h = go (open_comes t c.frame c.room) refl
    where
      go : (b : Bool) → open_comes t c.frame c.room ≡ b → answer u c ≡ answer w c
      go true e =
          let i = open_place t c.frame in
          (own good ku c e).0
          ∙ same_window (keeps good ku c e) (keeps good kw c e) c.frame c.room (h (i, priority c.frame) (rw e (eq-eqb i i refl), refl))
          ∙ sym (own good kw c e).0
      go false e =
          let d = open_answer (entry_at u (open_place u c.frame)).receiver c.frame c.room in
          ap (λ (ts : List Test). first_that_applies ts d) (tests_alike good ku c ∙ sym (tests_alike good kw c))
          ∙ any_done (table_open_tests w c.frame (length c.room)) d _ (comes_alike good kw c ∙ e)

  shows : {u w : Table} (c : Call) → Kin t u → Kin t w → answer u c ≡ answer w c → output u c ≡ output w c
  unfolding table_open_output
  shows {u} {w} c ku kw h = go (open_comes t c.frame c.room) refl
    where
      go : (b : Bool) → open_comes t c.frame c.room ≡ b → output u c ≡ output w c
      go true e =
          let ou = own good ku c e in
          let ow = own good kw c e in
          ou.1 ∙ same_output (keeps good ku c e) (keeps good kw c e) c.frame c.room (sym ou.0 ∙ h ∙ ow.0) ∙ sym ow.1
      go false e = rw (comes_alike good ku c ∙ e, comes_alike good kw c ∙ e)

  counts : {u : Table} (c : Call) → Kin t u → (e : Which) → count (next u c) e ≡ cond (moves t e c (answer u c)) (plus_one (count u e)) (count u e)
  counts {u} c k none = format_moved u c.frame c.room
  counts {u} c k (some (i, d)) =
      ap (λ r. value_of d r.counts) (step_receiver u i (to_open c) refl) ∙ rw (← opens_alike good k c i) (go (opens_at u i (to_open c)) refl)
    where
      go : (b : Bool) → opens_at u i (to_open c) ≡ b → let r = (entry_at u i).receiver in
          value_of d (cond b (open_next r c.frame c.room) r).counts
          ≡ cond (b && among (answers_of d) (answer_number (answer u c))) (plus_one (value_of d r.counts)) (value_of d r.counts)
      go true h = rw (own_opening u i (to_open c) h).0 (count_moves (entry_at u i).receiver c.frame c.room d)
      go false h = refl

  module _ {u w : Table} (ku : Kin t u) (kw : Kin t w) (same_at : (q : ℕ × ℕ) → window u q ≡ window w q)
      (same_count : (e : Which) → count u e ≡ count w e) where
    same_entry : (i : ℕ) → entry_at u i ≡ entry_at w i
    same_entry i =
        let a = (entry_at u i).receiver in
        let b = (entry_at w i).receiver in
        let made = ku.made i ∙ sym (kw.made i) in
        let last = ku.last i ∙ sym (kw.last i) in
        let (replay, seen) = same_windows (ku.good.windowed i) (kw.good.windowed i) (λ p. same_at (i, p)) in
        let counts = same_counts a.counts b.counts (λ d. same_count (some (i, d))) in
        λ j.
        record {
          used = (made j).used;
          may_send = (made j).may_send;
          may_receive = (made j).may_receive;
          own = (made j).own;
          last = last j;
          receiver =
              record {
                key = (made j).receiver.key;
                key_id = (made j).receiver.key_id;
                peer = (made j).receiver.peer;
                size = (made j).receiver.size;
                replay = replay j;
                seen = seen j;
                counts = counts j;
              };
        }

    same_table : u ≡ w
    same_table =
        let entries = ext_get_or free_entry u.entries w.entries (ku.size ∙ sym kw.size) (λ i l. same_entry i) in
        λ j. record { entries = entries j; format_errors = same_count none j }

  channelled : Channelled (Through t) next answer output window (Opens t) count (moves t) (Kin t)
  channelled = record { windows = windows; within = within; rests = rests; shows = shows; counts = counts; whole = same_table }

-- the deliveries as calls on a table
take_map : {X Y : Type 0} (f : X → Y) (i : ℕ) (xs : List X) → take i (map f xs) ≡ map f (take i xs)
take_map f zero xs = refl
take_map f (suc i) [] = refl
take_map f (suc i) (x ∷ xs) = ap (λ ys. f x ∷ ys) (take_map f i xs)

module _ (t : Table) (xs : List Call) (i : ℕ) where
  answer_at : table_answer_at t (map to_open xs) i ≡ answer (deliver t (take i xs)) (at xs i)
  answer_at = rw (take_map to_open i xs, get_or-map to_open xs i no_call)

  output_at : table_output_at t (map to_open xs) i ≡ output (deliver t (take i xs)) (at xs i)
  output_at = rw (take_map to_open i xs, get_or-map to_open xs i no_call)

pub table_reordered : TableReordered
table_reordered cs o xs ys ox ρ =
    let t = table_run fresh_table cs in
    let good = reached cs o in
    let start : Kin t t = record { good = good; size = refl; made = λ i. refl; last = λ i. refl } in
    let alike = orders-alike deliver_runs (channelled good) t start xs ys ox ρ in (
      (λ i l.
          let q = alike.0 i l in (
            answer_at t ys (ρ.to i) ∙ q.0 ∙ sym (answer_at t xs i),
            output_at t ys (ρ.to i) ∙ q.1 ∙ sym (output_at t xs i),
          )),
      alike.1,
    )
