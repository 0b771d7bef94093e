-- Sound tables: by places, and through every call from the fresh table on.
use mathlib.Core.Path.{◌≡◌, refl, sym, ap, ◌∙◌}
use mathlib.Core.Bool.{Bool, true, false, cond, not, ◌&&◌, ◌||◌, true≢false, and-false}
use mathlib.Core.List.{List, [], ◌∷◌}
use mathlib.Core.Logic.{◌≢◌, ◌⊎◌, inl, inr, ⊎_elim}
use Prim.Native.Nat.{ℕ, zero, suc, ◌<◌}
use native.Mathlib.Decide.{ℕ_discrete, dec_lt}
use native.Mathlib.Nat.{not-suc-le-zero, le_of_suc-le-suc}
use native.Mathlib.Omega.{arith}
use borrow.Author.Tests.{eqb-true, eq-eqb, ltb-true, ltb-false, not-true, not-false}
use lib.Dec.{leb, eqb}
use lib.ListN.{length, get_or, set, replicate, get_or-eq_default}
use Rattle.octets.specs.Octets.{Octets, same}
use Rattle.octets.proofs.Booleans.{both, iff}
use Rattle.octets.proofs.Same.{same_refl, same_is}
use Rattle.rules.specs.Limits.{most_key_id, key_octets, address_octets, table_entries}
use Rattle.rules.specs.Windows.{is_size}
use Rattle.rules.specs.Records.{sound_sender, receiver_fits, sound_receiver, zero_receiver}
use Rattle.rules.specs.Sealing.{seal_next}
use Rattle.rules.specs.Opening.{open_next}
use Rattle.rules.specs.Sending.{sealing}
use Rattle.rules.specs.Table.{sender_of, triple_of, new_entry, free_entry, fresh_table, entry_at, put, is_for, has_key, clash, apart_from, apart, sound_entry, all_sound, sound_table, is_place, place_of}
use Rattle.rules.specs.Adding.{free_place, add_place, add_tests, add_answer, put_if, add_next, remove_answer, remove_next}
use Rattle.rules.specs.Serving.{seal_place, seal_comes, sealed_at, table_seal_next, open_place, open_comes, table_open_answer, opened_at, format_counted, table_open_next}
use Rattle.rules.specs.Calls.{Call}
use Rattle.rules.specs.TableCalls.{TableCall, to_seal, to_open, to_add, to_remove, lent, table_next, table_run, OctetCalls, opens_at}
use Rattle.rules.specs.Tables.{as_made, TablesSound}
use Rattle.rules.specs.Answers.{Answer, Done, Refused}
use Rattle.rules.specs.declared.Entry.{Entry}
use Rattle.rules.specs.declared.Table.{Table}
use Rattle.rules.specs.declared.Triple.{Triple}
use Rattle.rules.specs.declared.Pairing.{Pairing}
use Rattle.rules.proofs.Passing.{Passed, passed, done_all}
use Rattle.rules.proofs.Steps.{Windowed, windows_sound, new_windowed, keeps_windowed, keeps_sound}
use Rattle.rules.proofs.Sends.{next_sound}
use Rattle.rules.proofs.Searching.{none_first, only_first, IsFor, for_is, is_for_lem, not_found}
use Rattle.rules.proofs.Projecting.{served, served_made, served_sender, step_receiver}

-- a clash is one whichever entry comes first
eqb_sym : (x y : ℕ) → eqb x y ≡ eqb y x
eqb_sym x y = iff (eqb x y) (eqb y x) (λ e. eq-eqb y x (sym (eqb-true x y e))) (λ e. eq-eqb x y (sym (eqb-true y x e)))

same_sym : (a b : List ℕ) → same a b ≡ same b a
same_sym a b = iff (same a b) (same b a) (λ e. rw (same_is a b e) (same_refl b)) (λ e. rw (same_is b a e) (same_refl a))

clash_sym : (a b : Entry) → clash a b ≡ clash b a
unfolding clash is_for has_key
clash_sym a b =
    rw (
      same_sym a.own b.own,
      same_sym a.receiver.peer b.receiver.peer,
      eqb_sym a.receiver.key_id b.receiver.key_id,
      same_sym a.receiver.key b.receiver.key,
    )
    (go a.used b.used _ _)
  where
    go : (u v x y : Bool) → (u && (v && x || v && y)) ≡ (v && (u && x || u && y))
    go true true x y = refl
    go true false x y = refl
    go false true x y = refl
    go false false x y = refl

-- no entry clashes with a free one
clash_free : (e : Entry) → clash e free_entry ≡ false
unfolding clash is_for has_key
clash_free e = and-false e.used

-- a test of every entry of a list, by places
module _ (b : Entry → Bool) (all : List Entry → Bool) (none : all [] ≡ true)
    (more : (e : Entry) (es : List Entry) → all (e ∷ es) ≡ b e && all es) where
  at_each : b free_entry ≡ true → (es : List Entry) → all es ≡ true → (i : ℕ) → b (get_or es i free_entry) ≡ true
  at_each d [] h i = d
  at_each d (e ∷ es) h zero = (both (b e) (all es) (sym (more e es) ∙ h)).0
  at_each d (e ∷ es) h (suc i) = at_each d es (both (b e) (all es) (sym (more e es) ∙ h)).1 i

  each_at : (es : List Entry) → ((i : ℕ) → b (get_or es i free_entry) ≡ true) → all es ≡ true
  each_at [] h = none
  each_at (e ∷ es) h = more e es ∙ rw (h 0) (each_at es (λ i. h (suc i)))

-- soundness by places
pub record Sound (t : Table) : Type 0 where
  pub each : (i : ℕ) → sound_entry (entry_at t i) ≡ true
  pub clear : (i j : ℕ) → i ≢ j → clash (entry_at t i) (entry_at t j) ≡ false

apart_at : (es : List Entry) → apart es ≡ true → (i j : ℕ) → i < j → clash (get_or es i free_entry) (get_or es j free_entry) ≡ false
apart_at [] h i j l = clash_free free_entry
apart_at (e ∷ es) h i zero l = absurd (not-suc-le-zero l)
apart_at (e ∷ es) h zero (suc j) l =
    not-true _ (at_each (λ b. not (clash e b)) (apart_from e) refl (λ b bs. refl) (ap not (clash_free e)) es (both (apart_from e es) (apart es) h).0 j)
apart_at (e ∷ es) h (suc i) (suc j) l = apart_at es (both (apart_from e es) (apart es) h).1 i j (le_of_suc-le-suc l)

at_apart : (es : List Entry) → ((i j : ℕ) → i < j → clash (get_or es i free_entry) (get_or es j free_entry) ≡ false) → apart es ≡ true
at_apart [] h = refl
at_apart (e ∷ es) h =
    rw (each_at (λ b. not (clash e b)) (apart_from e) refl (λ b bs. refl) es (λ j. ap not (h 0 (suc j) (omega arith))))
    (at_apart es (λ i j l. h (suc i) (suc j) (omega arith)))

pub sound_places : (t : Table) → sound_table t ≡ true → Sound t
unfolding sound_table sound_entry
sound_places t h =
    record {
      each = at_each sound_entry all_sound refl (λ e es. refl) refl t.entries (both (all_sound t.entries) (apart t.entries) h).0;
      clear = λ i j ne. go i j ne (dec_lt i j);
    }
  where
    clears : (i j : ℕ) → i < j → clash (entry_at t i) (entry_at t j) ≡ false
    clears = apart_at t.entries (both (all_sound t.entries) (apart t.entries) h).1

    go : (i j : ℕ) → i ≢ j → Dec (i < j) → clash (entry_at t i) (entry_at t j) ≡ false
    go i j ne (yes l) = clears i j l
    go i j ne (no l) = clash_sym (entry_at t i) (entry_at t j) ∙ clears j i (omega arith)

places_sound : (t : Table) → Sound t → sound_table t ≡ true
unfolding sound_table
places_sound t h =
    rw (each_at sound_entry all_sound refl (λ e es. refl) t.entries h.each) (at_apart t.entries (λ i j l. h.clear i j (λ e. omega arith)))

-- a place after a write: the one written, or as it was
put_cases : (es : List Entry) (i : ℕ) (e : Entry) (j : ℕ)
    → ((j ≡ i) × (get_or (set es i e) j free_entry ≡ e)) ⊎ (get_or (set es i e) j free_entry ≡ get_or es j free_entry)
put_cases [] i e j = inr refl
put_cases (x ∷ es) zero e zero = inl (refl, refl)
put_cases (x ∷ es) zero e (suc j) = inr refl
put_cases (x ∷ es) (suc i) e zero = inr refl
put_cases (x ∷ es) (suc i) e (suc j) = ⊎_elim (λ q. inl (ap suc q.0, q.1)) inr (put_cases es i e j)

-- a sound entry that clashes with none of the others keeps a table sound
put_sound : (t : Table) → Sound t → (i : ℕ) (e : Entry) → sound_entry e ≡ true → ((j : ℕ) → j ≢ i → clash e (entry_at t j) ≡ false)
    → sound_table (put t i e) ≡ true
put_sound t s i e ok clear =
    places_sound (put t i e)
    (record {
      each = λ j. ⊎_elim (λ q. rw q.1 ok) (λ q. rw q (s.each j)) (put_cases t.entries i e j);
      clear = λ j k ne. go j k ne (put_cases t.entries i e j) (put_cases t.entries i e k);
    })
  where
    Cases : ℕ → Type 0
    Cases j = ((j ≡ i) × (entry_at (put t i e) j ≡ e)) ⊎ (entry_at (put t i e) j ≡ entry_at t j)

    go : (j k : ℕ) → j ≢ k → Cases j → Cases k → clash (entry_at (put t i e) j) (entry_at (put t i e) k) ≡ false
    go j k ne (inl p) (inl q) = absurd (ne (p.0 ∙ sym q.0))
    go j k ne (inl p) (inr q) = rw (p.1, q) (clear k (λ z. ne (p.0 ∙ sym z)))
    go j k ne (inr p) (inl q) = rw (p, q.1) (clash_sym (entry_at t j) e ∙ clear j (λ z. ne (z ∙ sym q.0)))
    go j k ne (inr p) (inr q) = rw (p, q) (s.clear j k ne)

pub used_below : (t : Table) (i : ℕ) → (entry_at t i).used ≡ true → i < length t.entries
used_below t i h = go (dec_lt i (length t.entries))
  where
    go : Dec (i < length t.entries) → i < length t.entries
    go (yes l) = l
    go (no l) = absurd (true≢false (sym h ∙ ap (λ e. e.used) (get_or-eq_default t.entries free_entry {n = i} (omega arith))))

-- a sound table, of which an entry that is for a triple is in its place
module _ (t : Table) (s : Sound t) (x : Triple) where
  same_place : (i j : ℕ) → IsFor x (entry_at t i) → IsFor x (entry_at t j) → i ≡ j
  unfolding clash
  same_place i j u w = go (ℕ_discrete i j)
    where
      clashes : clash (entry_at t i) (entry_at t j) ≡ true
      clashes =
          let other : IsFor (triple_of (entry_at t i)) (entry_at t j)
          = record {
            used = w.used;
            own_is = sym u.own_is ∙ w.own_is;
            peer_is = sym u.peer_is ∙ w.peer_is;
            id_is = sym u.id_is ∙ w.id_is;
          } in
          rw (u.used, is_for_lem (triple_of (entry_at t i)) (entry_at t j) other)

      go : Dec (i ≡ j) → i ≡ j
      go (yes e) = e
      go (no ne) = absurd (true≢false (sym clashes ∙ s.clear i j ne))

  pub placed : (i : ℕ) → IsFor x (entry_at t i) → place_of t x ≡ i
  unfolding place_of
  placed i h =
      only_first (is_for x) t.entries i (used_below t i h.used) (is_for_lem x (entry_at t i) h) (λ j q. same_place j i (for_is x (entry_at t j) q) h)

-- what adding, where it is done, has found
pub record AddDone (t : Table) (x : Pairing) : Type 0 where
  pub fits : receiver_fits x.triple.key_id x.size ≡ true
  pub new_key : (j : ℕ) → has_key x.key (entry_at t j) ≡ false
  pub within : add_place t x.triple < length t.entries
  pub alone : (j : ℕ) → j ≢ add_place t x.triple → is_for x.triple (entry_at t j) ≡ false

pub add_done : (t : Table) (x : Pairing) (n p k : ℕ) → add_answer t x ≡ Done n p k → AddDone t x
unfolding add_answer add_place has_key
add_done t x n p k e = go (passed (add_tests t x) (done_all (add_tests t x) (Done 0 0 0) n p k e).1)
  where
    alone : sound_table t ≡ true → (b : Bool) → is_place t (place_of t x.triple) ≡ b
        → (j : ℕ) → j ≢ cond b (place_of t x.triple) (free_place t) → is_for x.triple (entry_at t j) ≡ false
    alone sound false h j ne = not_found t x.triple h j
    alone sound true h j ne = by (is_for x.triple (entry_at t j)) refl
      where
        by : (b : Bool) → is_for x.triple (entry_at t j) ≡ b → b ≡ false
        by false q = refl
        by true q = absurd (ne (sym (placed t (sound_places t sound) x.triple j (for_is x.triple (entry_at t j) q))))

    go : Passed (add_tests t x) → AddDone t x
    go (sound, (fits, (key, (full, end)))) =
        record {
          fits = not-false _ fits;
          new_key = none_first (has_key x.key) t.entries refl (ltb-false _ _ key);
          within = ltb-true _ _ (not-false _ full);
          alone = alone (not-false _ sound) (is_place t (place_of t x.triple)) refl;
        }

-- a sound table, each of whose entries, in use or not, has a sound window for each priority
pub record Good (t : Table) : Type 0 where
  pub sound : sound_table t ≡ true
  pub windowed : (j : ℕ) → Windowed (entry_at t j).receiver

zero_windowed : Windowed zero_receiver
zero_windowed = new_windowed (replicate key_octets 0) 0 (replicate address_octets 0) 0

-- an entry stays sound where its records do
either_sound : (u s r s' r' : Bool) → (s ≡ true → s' ≡ true) → (r ≡ true → r' ≡ true) → not u || (s && r) ≡ true → not u || (s' && r') ≡ true
either_sound true s r s' r' f g h = let q = both s r h in rw (f q.0, g q.1)
either_sound false s r s' r' f g h = refl

served_sound : (e : Entry) (c : Call) (seals opens : Bool) → Octets c.frame → Windowed e.receiver → sound_entry e ≡ true
    → sound_entry (served seals opens e c) ≡ true
unfolding sound_entry
served_sound e c seals opens octets windowed =
    either_sound e.used (sound_sender (sender_of e)) (sound_receiver e.receiver)
    (sound_sender (sender_of (served seals opens e c))) (sound_receiver (served seals opens e c).receiver)
    (λ h. rw (served_sender e c seals opens) (sender seals h)) (receiver opens)
  where
    sender : (b : Bool) → sound_sender (sender_of e) ≡ true → sound_sender (cond b (seal_next (sender_of e) c.frame c.room) (sender_of e)) ≡ true
    sender true h = next_sound (sender_of e) (sealing c) h
    sender false h = h

    receiver : (b : Bool) → sound_receiver e.receiver ≡ true
        → sound_receiver (cond b (open_next e.receiver c.frame c.room) e.receiver) ≡ true
    receiver true h = keeps_sound e.receiver c.frame c.room windowed octets h
    receiver false h = h

-- a clash rests on what an entry is made as
clash_made : (a a' b : Entry) → as_made a ≡ as_made a' → clash a b ≡ clash a' b
unfolding clash
clash_made a a' b e = ap (λ x. clash x b) e

module _ (t : Table) (g : Good t) where
  places : Sound t
  places = sound_places t g.sound

  serve_sound : (i : ℕ) (seals opens : Bool) (c : Call) → Octets c.frame → sound_table (put t i (served seals opens (entry_at t i) c)) ≡ true
  serve_sound i seals opens c octets =
      let e = entry_at t i in
      put_sound t places i (served seals opens e c) (served_sound e c seals opens octets (g.windowed i) (places.each i))
      (λ j ne. clash_made (served seals opens e c) e (entry_at t j) (served_made e c seals opens) ∙ places.clear i j (λ z. ne (sym z)))

  serve_windowed : (j : ℕ) (b : Bool) (f room : List ℕ) → Octets f → let r = (entry_at t j).receiver in Windowed (cond b (open_next r f room) r)
  serve_windowed j true f room octets = keeps_windowed (entry_at t j).receiver f room (g.windowed j) octets
  serve_windowed j false f room octets = g.windowed j

  -- a sound entry with all its windows that clashes with none of the others
  new_good : (i : ℕ) (e : Entry) → Windowed e.receiver → sound_entry e ≡ true → ((j : ℕ) → j ≢ i → clash e (entry_at t j) ≡ false)
      → Good (put t i e)
  new_good i e windowed ok clear =
      record {
        sound = put_sound t places i e ok clear;
        windowed = λ j. ⊎_elim (λ q. rw q.1 windowed) (λ q. rw q (g.windowed j)) (put_cases t.entries i e j);
      }

  add_good : (x : Pairing) → Good (add_next t x)
  unfolding clash sound_entry sound_sender
  add_good x = go (add_answer t x) refl
    where
      go : (a : Answer) → add_answer t x ≡ a → Good (put_if a t (add_place t x.triple) (new_entry x))
      go (Refused b) e = g
      go (Done n p k) e =
          let d = add_done t x n p k e in
          let windowed = new_windowed x.key x.triple.key_id x.triple.peer x.size in
          let id_fits = (both (leb x.triple.key_id most_key_id) (is_size x.size) d.fits).0 in
          new_good (add_place t x.triple) (new_entry x) windowed (rw (id_fits, windows_sound (new_entry x).receiver d.fits windowed))
          (λ j ne. rw (d.alone j ne, d.new_key j))

  remove_good : (x : Triple) → Good (remove_next t x)
  unfolding clash sound_entry
  remove_good x = go (remove_answer t x)
    where
      go : (a : Answer) → Good (put_if a t (place_of t x) free_entry)
      go (Refused b) = g
      go (Done n p k) = new_good (place_of t x) free_entry zero_windowed refl (λ j ne. refl)

  pub next_good : (c : TableCall) → Octets (lent c).frame → Good (table_next t c)
  unfolding sound_table table_seal_next table_open_next
  next_good (to_seal keyId c) octets =
      record {
        sound = go (seal_comes t keyId c.frame c.room);
        windowed = λ j. rw (step_receiver t j (to_seal keyId c) refl) (g.windowed j);
      }
    where
      go : (b : Bool) → sound_table (cond b (sealed_at t (seal_place t keyId c.frame) c.frame c.room) t) ≡ true
      go true = serve_sound (seal_place t keyId c.frame) true false c octets
      go false = g.sound
  next_good (to_open c) octets =
      record {
        sound = go (open_comes t c.frame c.room);
        windowed = λ j. rw (step_receiver t j (to_open c) refl) (serve_windowed j (opens_at t j (to_open c)) c.frame c.room octets);
      }
    where
      go : (b : Bool) → let counted = format_counted t (table_open_answer t c.frame c.room) in
          sound_table (cond b (opened_at t (open_place t c.frame) c.frame c.room) counted) ≡ true
      go true = serve_sound (open_place t c.frame) false true c octets
      go false = g.sound
  next_good (to_add x) octets = add_good x
  next_good (to_remove x) octets = remove_good x

run_good : (t : Table) (cs : List TableCall) → Good t → OctetCalls cs → Good (table_run t cs)
run_good t [] g o = g
run_good t (c ∷ cs) g o = run_good (table_next t c) cs (next_good t g c (o 0)) (λ j. o (suc j))

fresh_good : Good fresh_table
unfolding fresh_table sound_table sound_entry clash
fresh_good = record { sound = refl; windowed = free table_entries }
  where
    free : (n j : ℕ) → Windowed (get_or (replicate n free_entry) j free_entry).receiver
    free zero j = zero_windowed
    free (suc n) zero = zero_windowed
    free (suc n) (suc j) = free n j

-- every table that calls leave of the fresh one
pub reached : (cs : List TableCall) → OctetCalls cs → Good (table_run fresh_table cs)
reached cs o = run_good fresh_table cs fresh_good o

pub tables_sound : TablesSound
tables_sound cs o = (reached cs o).sound
