-- The search of a table: the first entry that passes a test, the entry of a triple, and where a call comes to its entry.
use mathlib.Core.Path.{◌≡◌, refl, sym, ap, ap₂, ◌∙◌}
use mathlib.Core.Bool.{Bool, true, false, cond, not, ◌&&◌, true≢false}
use mathlib.Core.List.{List, [], ◌∷◌, ◌++◌}
use Prim.Native.Nat.{ℕ, zero, suc, ◌+◌, ◌-◌, ◌<◌, ◌≤◌}
use native.Mathlib.Decide.{dec_lt}
use native.Mathlib.Nat.{not-suc-le-zero, le_of_suc-le-suc}
use native.Mathlib.Omega.{arith}
use borrow.Author.Tests.{eqb-true, eq-eqb, ltb-true, ltb-false, not-true, not-false}
use lib.ListN.{length, get_or, get_or-eq_default}
use Rattle.octets.specs.Octets.{same}
use Rattle.octets.proofs.Booleans.{both}
use Rattle.octets.proofs.Same.{same_refl, same_is}
use Rattle.rules.specs.Limits.{least_body, most_body}
use Rattle.rules.specs.Mode.{added}
use Rattle.rules.specs.Answers.{Test, in_order, none_applies}
use Rattle.rules.specs.Tests.{record_test, header_tests, body_test, room_test, extended_test, entry_test}
use Rattle.rules.specs.Table.{triple_of, free_entry, entry_at, same_triple, is_for, sound_table, first_place, is_place, place_of}
use Rattle.rules.specs.Serving.{seal_triple, seal_place, seal_comes, open_triple, open_place, open_comes}
use Rattle.rules.specs.declared.Table.{Table}
use Rattle.rules.specs.declared.Entry.{Entry}
use Rattle.rules.specs.declared.Triple.{Triple}
use Rattle.rules.proofs.Passing.{passed, none_append}

module _ (b : Entry → Bool) where
  pub first_passes : (es : List Entry) → first_place b es < length es → b (get_or es (first_place b es) free_entry) ≡ true
  first_passes [] l = absurd (not-suc-le-zero l)
  first_passes (e ∷ es) l = go (b e) refl (first_passes es) l
    where
      go : (x : Bool) → b e ≡ x → (first_place b es < length es → b (get_or es (first_place b es) free_entry) ≡ true)
          → cond x 0 (suc (first_place b es)) < suc (length es) → b (get_or (e ∷ es) (cond x 0 (suc (first_place b es))) free_entry) ≡ true
      go true h later q = h
      go false h later q = later (le_of_suc-le-suc q)

  first_least : (es : List Entry) (j : ℕ) → j < first_place b es → b (get_or es j free_entry) ≡ false
  first_least [] j l = absurd (not-suc-le-zero l)
  first_least (e ∷ es) j l = go (b e) refl (first_least es) j l
    where
      go : (x : Bool) → b e ≡ x → ((i : ℕ) → i < first_place b es → b (get_or es i free_entry) ≡ false)
          → (i : ℕ) → i < cond x 0 (suc (first_place b es)) → b (get_or (e ∷ es) i free_entry) ≡ false
      go true h later i q = absurd (not-suc-le-zero q)
      go false h later zero q = h
      go false h later (suc i) q = later i (le_of_suc-le-suc q)

  -- where no place is the first, none passes
  pub none_first : (es : List Entry) → b free_entry ≡ false → length es ≤ first_place b es → (j : ℕ) → b (get_or es j free_entry) ≡ false
  none_first es d l j = go (dec_lt j (length es))
    where
      go : Dec (j < length es) → b (get_or es j free_entry) ≡ false
      go (yes h) = first_least es j (omega arith)
      go (no h) = ap b (get_or-eq_default es free_entry {n = j} (omega arith)) ∙ d

  -- the one entry that passes is the first
  pub only_first : (es : List Entry) (i : ℕ) → i < length es → b (get_or es i free_entry) ≡ true
      → ((j : ℕ) → b (get_or es j free_entry) ≡ true → j ≡ i) → first_place b es ≡ i
  only_first es i l h only = only (first_place b es) (first_passes es (go (dec_lt i (first_place b es))))
    where
      go : Dec (i < first_place b es) → first_place b es < length es
      go (yes q) = absurd (true≢false (sym h ∙ first_least es i q))
      go (no q) = omega arith

  -- entries that the test can't tell apart have one first place
  pub first_alike : (es fs : List Entry) → length es ≡ length fs → ((j : ℕ) → b (get_or es j free_entry) ≡ b (get_or fs j free_entry))
      → first_place b es ≡ first_place b fs
  first_alike [] [] l h = refl
  first_alike [] (f ∷ fs) l h = absurd (omega arith)
  first_alike (e ∷ es) [] l h = absurd (omega arith)
  first_alike (e ∷ es) (f ∷ fs) l h = ap₂ (λ (x : Bool) (n : ℕ). cond x 0 (suc n)) (h 0) (first_alike es fs (omega arith) (λ j. h (suc j)))

-- what an entry that is for a triple has
pub record IsFor (x : Triple) (e : Entry) : Type 0 where
  pub used : e.used ≡ true
  pub own_is : x.own ≡ e.own
  pub peer_is : x.peer ≡ e.receiver.peer
  pub id_is : x.key_id ≡ e.receiver.key_id

pub for_is : (x : Triple) (e : Entry) → is_for x e ≡ true → IsFor x e
unfolding is_for
for_is x e h =
    let q = both e.used (same_triple x (triple_of e)) h in
    let w = both (same x.own e.own) _ q.1 in
    let z = both (same x.peer e.receiver.peer) _ w.1 in
    record { used = q.0; own_is = same_is _ _ w.0; peer_is = same_is _ _ z.0; id_is = eqb-true _ _ z.1 }

pub is_for_lem : (x : Triple) (e : Entry) → IsFor x e → is_for x e ≡ true
unfolding is_for
is_for_lem x e h =
    rw (h.used, h.own_is, h.peer_is, h.id_is, same_refl e.own, same_refl e.receiver.peer, eq-eqb e.receiver.key_id _ refl)

-- where a triple has a place, the entry there is for it
found : (t : Table) (x : Triple) → is_place t (place_of t x) ≡ true → IsFor x (entry_at t (place_of t x))
unfolding place_of
found t x h = for_is x (entry_at t (place_of t x)) (first_passes (is_for x) t.entries (ltb-true _ _ h))

-- and where it has none, no entry is for it
pub not_found : (t : Table) (x : Triple) → is_place t (place_of t x) ≡ false → (j : ℕ) → is_for x (entry_at t j) ≡ false
unfolding place_of is_for
not_found t x h = none_first (is_for x) t.entries refl (ltb-false _ _ h)

-- the tests of a table's call up to the search: of the table, of the frame, of the entry
abbrev pub table_tests : Bool → List Test → Bool → List Test
table_tests sound ts entry = in_order (record_test sound ∷ ts ∷ entry_test entry ∷ [])

-- those of the frame, which an entry's own call has too
abbrev pub seal_frame_tests : List ℕ → ℕ → List Test
seal_frame_tests f room = in_order (header_tests 1 f ∷ body_test least_body most_body f ∷ room_test room (length f + added) ∷ [])

abbrev pub open_frame_tests : List ℕ → ℕ → List Test
open_frame_tests f room =
    in_order (header_tests 0 f ∷ body_test (least_body + added) (most_body + added) f ∷ room_test room (length f - added) ∷ extended_test f ∷ [])

-- what is so where none of them applies: the call comes to its entry
pub record Comes (t : Table) (ts : List Test) (x : Triple) : Type 0 where
  pub sound : sound_table t ≡ true
  pub frame : none_applies ts ≡ true
  pub below : place_of t x < length t.entries
  pub is_for_lem : IsFor x (entry_at t (place_of t x))

comes : (t : Table) (ts : List Test) (x : Triple) (may : Bool) → none_applies (table_tests (sound_table t) ts (is_place t (place_of t x) && may)) ≡ true
    → Comes t ts x
comes t ts x may e =
    let entry = is_place t (place_of t x) && may in
    let q = both (not (not (sound_table t))) (none_applies (ts ++ entry_test entry)) e in
    let w = both (none_applies ts) (none_applies (entry_test entry)) (sym (none_append ts (entry_test entry)) ∙ q.1) in
    let z = both (is_place t (place_of t x)) may (not-false _ (passed (entry_test entry) w.1).0) in
    record {
      sound = not-false _ (not-true _ q.0);
      frame = w.0;
      below = ltb-true _ _ z.0;
      is_for_lem = found t x z.0;
    }

pub seal_comes_lem : (t : Table) (keyId : ℕ) (f room : List ℕ) → seal_comes t keyId f room ≡ true
    → Comes t (seal_frame_tests f (length room)) (seal_triple keyId f)
seal_comes_lem t keyId f room e = comes t (seal_frame_tests f (length room)) (seal_triple keyId f) (entry_at t (seal_place t keyId f)).may_send e

pub open_comes_lem : (t : Table) (f room : List ℕ) → open_comes t f room ≡ true → Comes t (open_frame_tests f (length room)) (open_triple f)
open_comes_lem t f room e = comes t (open_frame_tests f (length room)) (open_triple f) (entry_at t (open_place t f)).may_receive e
