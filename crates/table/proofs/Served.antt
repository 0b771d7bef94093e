-- From the tests before the search, and what the entry's own call gives, to what sealing and opening hand back.
use mathlib.Core.Path.{◌≡◌, refl, sym, ap, ◌∙◌}
use mathlib.Core.Bool.{Bool, true, false}
use mathlib.Core.List.{List, [], ◌∷◌, ◌++◌}
use Prim.Native.Nat.{ℕ, ◌+◌, ◌-◌, ◌≤◌}
use native.Mathlib.Omega.{arith}
use borrow.Author.Tests.{ltb-false, not-false}
use lib.ListN.{length}
use Rattle.std.proofs.Common.{Ok, Err}
use Rattle.octets.proofs.Booleans.{both}
use Rattle.rules.specs.Limits.{least_header}
use Rattle.rules.specs.Header.{header_length}
use Rattle.rules.specs.Answers.{Answer, Refused, Test, ◌⇒◌, told, first_that_applies, none_applies}
use Rattle.rules.specs.Tests.{entry_test}
use Rattle.rules.specs.Sealing.{seal_answer, seal_output}
use Rattle.rules.specs.Opening.{open_answer, open_output}
use Rattle.rules.specs.Table.{sender_of, entry_at, is_place}
use Rattle.rules.specs.Serving.{seal_place, table_seal_tests, table_seal_answer, sealed_at, table_seal_next, table_seal_output, open_place, table_open_tests, table_open_answer, opened_at, format_counted, table_open_next, table_open_output}
use Rattle.rules.specs.declared.Header.{Header}
use Rattle.rules.specs.declared.Table.{Table}
use Rattle.rules.proofs.Passing.{inside, Passed, passed, all_done}
use Rattle.ccmp.specs.Verdict.{Refuse, Pass, verdict}
use Rattle.table.specs.Forms.{form_tests}
use Rattle.table.specs.Places.{place_after}

-- where the first tests pass, those after them decide
pub goes_on : (ts us : List Test) (h h' : Header) → Pass h' ≡ verdict ts h → verdict (ts ++ us) h ≡ verdict us h'
goes_on [] us h h' e = let z : h ≡ h' = cc in ap (verdict us) z
goes_on ((true ⇒ a) ∷ ts) us h h' e = absurd (let z : ◌≡◌ {A = ℕ} 0 1 = cc in omega arith)
goes_on ((false ⇒ a) ∷ ts) us h h' e = goes_on ts us h h' e

-- the same of a place: a test that refuses is the answer, and where the first tests pass, those after them decide
pub place_refused : (ts us : List Test) (h : Header) (i n : ℕ) → Refuse n ≡ verdict ts h → Err n ≡ place_after (ts ++ us) i
place_refused [] us h i n e = cc
place_refused ((true ⇒ a) ∷ ts) us h i n e = let z : n ≡ a = cc in cc
place_refused ((false ⇒ a) ∷ ts) us h i n e = place_refused ts us h i n e

place_goes_on : (ts us : List Test) (h h' : Header) (i : ℕ) → Pass h' ≡ verdict ts h → place_after (ts ++ us) i ≡ place_after us i
place_goes_on [] us h h' i e = refl
place_goes_on ((true ⇒ a) ∷ ts) us h h' i e = cc
place_goes_on ((false ⇒ a) ∷ ts) us h h' i e = place_goes_on ts us h h' i e

-- the test of the entry alone is left
module _ (ts : List Test) (h h' : Header) (i : ℕ) (b : Bool) (e : Pass h' ≡ verdict ts h) where
  pub serves : (k : ℕ) → k ≡ i → b ≡ true → Ok k ≡ place_after (ts ++ entry_test b) i
  serves k at on = sym (place_goes_on ts (entry_test b) h h' i e ∙ rw (on, at))

  pub serves_not : b ≡ false → Err 15 ≡ place_after (ts ++ entry_test b) i
  serves_not off = sym (place_goes_on ts (entry_test b) h h' i e ∙ rw off)

-- what a place, or a refusal in its stead, says of the tests
place_given : (ts : List Test) (i k : ℕ) → Ok k ≡ place_after ts i → (k ≡ i) × (none_applies ts ≡ true)
place_given [] i k e = (cc, refl)
place_given ((true ⇒ a) ∷ ts) i k e = cc
place_given ((false ⇒ a) ∷ ts) i k e = place_given ts i k e

none_given : (ts : List Test) (i n : ℕ) (d : Answer) → Err n ≡ place_after ts i → (first_that_applies ts d ≡ Refused n) × (none_applies ts ≡ false)
none_given [] i n d e = cc
none_given ((true ⇒ a) ∷ ts) i n d e = let z : n ≡ a = cc in (cc, refl)
none_given ((false ⇒ a) ∷ ts) i n d e = none_given ts i n d e

-- the lengths of a frame that passed, whatever tests follow
pub formed : (t : Table) (wrong least most : ℕ) (f : List ℕ) (us : List Test) → none_applies (form_tests t wrong least most f ++ us) ≡ true
    → (least_header ≤ length f) × (header_length f + least ≤ length f)
formed t wrong least most f us e = go (passed (form_tests t wrong least most f ++ us) e)
  where
    go : Passed (form_tests t wrong least most f ++ us) → (least_header ≤ length f) × (header_length f + least ≤ length f)
    go (sound, (long, (kind, (mark, (whole, (body, later)))))) =
        (ltb-false _ _ long, omega (arith, ltb-false (length f) (header_length f) whole, inside least most (length f - header_length f) body))

-- what a call hands back: its answer, the table and the output
abbrev pub Sealed : Table → ℕ → List ℕ → List ℕ → Answer → Table → List ℕ → Type 0
Sealed t keyId f o a u out =
    record { answer_value : told a ≡ told (table_seal_answer t keyId f o); table_value : u ≡ table_seal_next t keyId f o; out_after : out ≡ table_seal_output t keyId f o }

abbrev pub Opened : Table → List ℕ → List ℕ → Answer → Table → List ℕ → Type 0
Opened t f o a u out =
    record { answer_value : told a ≡ told (table_open_answer t f o); table_value : u ≡ table_open_next t f o; out_after : out ≡ table_open_output t f o }

module _ (t : Table) (keyId : ℕ) (f o : List ℕ) where
  pub seal_refused : (n : ℕ) → Err n ≡ place_after (table_seal_tests t keyId f (length o)) (seal_place t keyId f) → Sealed t keyId f o (Refused n) t o
  unfolding table_seal_answer table_seal_next table_seal_output
  seal_refused n e =
      let i = seal_place t keyId f in
      let p = none_given (table_seal_tests t keyId f (length o)) i n (seal_answer (sender_of (entry_at t i)) f o) e in
      rw (p.0, p.1) record { answer_value = refl; table_value = refl; out_after = refl }

  module _ (i : ℕ) (e : Ok i ≡ place_after (table_seal_tests t keyId f (length o)) (seal_place t keyId f)) where
    seal_given : (i ≡ seal_place t keyId f) × (none_applies (table_seal_tests t keyId f (length o)) ≡ true)
    seal_given = place_given (table_seal_tests t keyId f (length o)) (seal_place t keyId f) i e

    pub seal_is_place : is_place t i ≡ true
    seal_is_place = rw seal_given.0 (go (passed (table_seal_tests t keyId f (length o)) seal_given.1))
      where
        go : Passed (table_seal_tests t keyId f (length o)) → is_place t (seal_place t keyId f) ≡ true
        go (sound, (long, (kind, (mark, (whole, (body, (room, (entry, end)))))))) =
            (both (is_place t (seal_place t keyId f)) (entry_at t (seal_place t keyId f)).may_send (not-false _ entry)).0

    pub seal_served : (a : Answer) (u : Table) (out : List ℕ) → told a ≡ told (seal_answer (sender_of (entry_at t i)) f o)
        → u ≡ sealed_at t i f o → out ≡ seal_output (sender_of (entry_at t i)) f o → Sealed t keyId f o a u out
    unfolding table_seal_answer table_seal_next table_seal_output
    seal_served a u out ea eu eo =
        let p = seal_given in
        rw (all_done (table_seal_tests t keyId f (length o)) (seal_answer (sender_of (entry_at t (seal_place t keyId f))) f o) p.1, p.1, ← p.0)
        record { answer_value = ea; table_value = eu; out_after = eo }

module _ (t : Table) (f o : List ℕ) where
  pub open_refused : (n : ℕ) (u : Table) → Err n ≡ place_after (table_open_tests t f (length o)) (open_place t f) → u ≡ format_counted t (Refused n)
      → Opened t f o (Refused n) u o
  unfolding table_open_answer table_open_next table_open_output
  open_refused n u e eu =
      let i = open_place t f in
      let p = none_given (table_open_tests t f (length o)) i n (open_answer (entry_at t i).receiver f o) e in
      rw (p.0, p.1) record { answer_value = refl; table_value = eu; out_after = refl }

  module _ (i : ℕ) (e : Ok i ≡ place_after (table_open_tests t f (length o)) (open_place t f)) where
    open_given : (i ≡ open_place t f) × (none_applies (table_open_tests t f (length o)) ≡ true)
    open_given = place_given (table_open_tests t f (length o)) (open_place t f) i e

    pub open_is_place : is_place t i ≡ true
    open_is_place = rw open_given.0 (go (passed (table_open_tests t f (length o)) open_given.1))
      where
        go : Passed (table_open_tests t f (length o)) → is_place t (open_place t f) ≡ true
        go (sound, (long, (kind, (mark, (whole, (body, (room, (extended, (entry, end))))))))) =
            (both (is_place t (open_place t f)) (entry_at t (open_place t f)).may_receive (not-false _ entry)).0

    pub open_served : (a : Answer) (u : Table) (out : List ℕ) → told a ≡ told (open_answer (entry_at t i).receiver f o)
        → u ≡ opened_at t i f o → out ≡ open_output (entry_at t i).receiver f o → Opened t f o a u out
    unfolding table_open_answer table_open_next table_open_output
    open_served a u out ea eu eo =
        let p = open_given in
        rw (all_done (table_open_tests t f (length o)) (open_answer (entry_at t (open_place t f)).receiver f o) p.1, p.1, ← p.0)
        record { answer_value = ea; table_value = eu; out_after = eo }
