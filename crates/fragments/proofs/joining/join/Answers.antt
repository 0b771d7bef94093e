use mathlib.Core.Path.{◌≡◌, refl, sym, ap, ◌∙◌}
use mathlib.Core.Bool.{cond}
use mathlib.Core.List.{List}
use Prim.Native.Nat.{ℕ, ◌+◌, ◌-◌, ◌≤◌}
use native.Mathlib.Omega.{arith}
use borrow.Author.Rules.{rules}
use borrow.Author.Tests.{eqb-true}
use lib.Dec.{eqb}
use lib.ListN.{length, length-take}
use denote.Enum.Bare.{sameb}
use Rattle.rules.specs.contracts.answer.Refusal.{the_type}
use Rattle.rules.specs.declared.answer.Refusal.{Refusal}
use Rattle.rules.specs.declared.answer.Refusal.TheVariants as R
use Rattle.rules.specs.Refusals.{refusal_number}
use Rattle.rules.specs.Limits.{most_message}
use Rattle.rules.specs.Header.{header_length, more_fragments, priority, header_of}
use Rattle.rules.specs.Joining.{fragment_of, joined, returned, join_tests, Joinable}
use Rattle.rules.specs.declared.Fragment.{Fragment}
use Rattle.rules.specs.declared.Header.{Header}
use Rattle.rules.specs.declared.Joiner.{Joiner}
use Rattle.rules.proofs.Joined.{returns_all, join_passes}
use Rattle.ccmp.specs.Verdict.{Pass, verdict}
use Rattle.ccmp.proofs.Headers.{fields_of}
use Rattle.ccmp.proofs.Verdicts.{passes}
use Rattle.fragments.specs.Held.{Has}
use Rattle.fragments.proofs.Fragments.{no_more}
use Rattle.fragments.proofs.Joins.{held_most, rest, Adds, rest_size, joined_size, joined_put, held_anew, held_on, join_refused, join_holds, join_ends}
use Rattle.fragments.proofs.joining.join.Goals as goal

-- A refusal is the answer; where no test applies, what is then held or written is the rules'.
-- the refusal that drops what is held is the one with number 14
drops : (x : Refusal) → sameb the_type x R.Fragment ≡ eqb (refusal_number x) 14
drops x = elim x as (λ y. sameb the_type y R.Fragment ≡ eqb (refusal_number y) 14) [ R.Record ↦ refl | R.Short ↦ refl | R.Kind ↦ refl | R.Protected ↦ refl | R.Body ↦ refl | R.Room ↦ refl | R.Address ↦ refl | R.ExtIv ↦ refl | R.KeyId ↦ refl | R.Replay ↦ refl | R.Integrity ↦ refl | R.Spent ↦ refl | R.Split ↦ refl | R.Fragment ↦ refl | R.Entry ↦ refl | R.Full ↦ refl | R.KnownKey ↦ refl ]

itself : (j : Joiner) → length j.held ≡ most_message → Has j j.length j.last
itself j l = record { octets = l; length_is = refl; last_is = refl }

-- what is known of a frame whose tests find the header h
record Taken (j : Joiner) (f : List ℕ) (n room : ℕ) (h : Header) : Type 0 where
  length_is : h.length ≡ header_length f
  priority_is : h.priority ≡ priority f
  joinable : Joinable j f n
  enough : length (returned j f) ≤ room
  ends : h.length ≤ length f

taken : (j : Joiner) (f : List ℕ) (n room : ℕ) (h : Header) → Pass h ≡ verdict (join_tests j f n room) (header_of f) → Taken j f n room h
taken j f n room h e =
    let p = passes (join_tests j f n room) (header_of f) h e in
    let is = fields_of f h p.0 in
    let q = join_passes j f n room p.1 in
    record { length_is = is.length_is; priority_is = is.priority_is; joinable = q.0; enough = q.1; ends = omega (arith, is.length_is, q.0.whole) }

-- the frame, as it is added to what is held
module _ {j : Joiner} {f : List ℕ} {n room : ℕ} {h : Header} (q : Taken j f n room h) {next : Fragment} {at : ℕ} (en : next ≡ fragment_of f n)
    (kept : (at ≡ cond (eqb next.fragment 0) 0 j.length) × (at ≤ j.length)) where
  adds : Adds f n j.length h.length at next
  adds = record { header = q.length_is; fragment = en; kept = kept.0; fits = omega (arith, kept.1, held_most j q.joinable.sound) }

  -- the octets of the message, as it is lent
  lent : length (rest f h.length) ≡ length f - h.length
  lent = rest_size f n j.length h.length at next adds

  module _ (l : length j.held ≡ most_message) where
    total : length (joined j f) ≡ at + (length f - h.length)
    total = joined_size j j.length j.last (itself j l) f n h.length at next adds

    returned_size : more_fragments f ≡ 0 → length (returned j f) ≡ at + (length f - h.length)
    returned_size end = ap length (returns_all j f end) ∙ total

pub returns-then-eq : goal.returns-then-eq
returns-then-eq c =
    let a = c.args in
    join_refused a.j a.frame.now a.number a.out.now _ (header_of a.frame.now) _
    (c.in-Err.ensures a.j (itself a.j (search rules))) (c.new_joiner-joiner.ensures ∙ rw (sym (drops c.in-Err.refusal) ∙ sym c.eq.ensures ∙ c.if-eq.true))

pub returns-else-eq : goal.returns-else-eq
returns-else-eq c =
    let a = c.args in
    join_refused a.j a.frame.now a.number a.out.now a.j (header_of a.frame.now) _
    (c.in-Err.ensures a.j (itself a.j (search rules))) (rw (sym (drops c.in-Err.refusal) ∙ sym c.eq.ensures ∙ c.if-eq.false))

pub fragment_of-next-requires : goal.fragment_of-next-requires
fragment_of-next-requires c =
    let a = c.args in
    let q = taken a.j a.frame.now a.number (length a.out.now) c.in-Ok.header (c.in-Ok.ensures a.j (itself a.j (search rules))) in
    (q.joinable.long, q.priority_is)

pub slice_bounds-body-count : goal.slice_bounds-body-count
slice_bounds-body-count c = let a = c.args in (taken a.j a.frame.now a.number (length a.out.now) c.in-Ok.header (c.in-Ok.ensures a.j (itself a.j (search rules)))).ends

pub slice_bounds-body-start : goal.slice_bounds-body-start
slice_bounds-body-start c = let a = c.args in (taken a.j a.frame.now a.number (length a.out.now) c.in-Ok.header (c.in-Ok.ensures a.j (itself a.j (search rules)))).ends

pub slice_bounds-held-end : goal.slice_bounds-held-end
slice_bounds-held-end c =
    let a = c.args in
    let f = a.frame.now in
    let q = taken a.j f a.number (length a.out.now) c.in-Ok.header (c.in-Ok.ensures a.j (itself a.j (search rules))) in
    let next = c.fragment_of-next.ensures in
    let kept = c.held_before-at.ensures in
    let held : length a.j.held ≡ most_message = search rules in
    omega (arith, (adds q next kept).fits, held)

pub slice_bounds-put_both-end : goal.slice_bounds-put_both-end
slice_bounds-put_both-end c =
    let a = c.args in
    let f = a.frame.now in
    let q = taken a.j f a.number (length a.out.now) c.in-Ok.header (c.in-Ok.ensures a.j (itself a.j (search rules))) in
    let next = c.fragment_of-next.ensures in
    let kept = c.held_before-at.ensures in
    let held : length a.j.held ≡ most_message = search rules in
    omega (arith, (adds q next kept).fits, held, length-take c.held_before-at.result a.j.held)

pub put_both-requires : goal.put_both-requires
put_both-requires c =
    let a = c.args in
    let f = a.frame.now in
    let q = taken a.j f a.number (length a.out.now) c.in-Ok.header (c.in-Ok.ensures a.j (itself a.j (search rules))) in
    let next = c.fragment_of-next.ensures in
    let kept = c.held_before-at.ensures in
    let end = no_more f (sym c.has_more.ensures ∙ c.if-not-has_more.true) in
    omega (arith, length-take c.held_before-at.result a.j.held, lent q next kept, returned_size q next kept (search rules) end, q.enough)

pub overflow_add-octets : goal.overflow_add-octets
overflow_add-octets c =
    let a = c.args in
    let f = a.frame.now in
    let q = taken a.j f a.number (length a.out.now) c.in-Ok.header (c.in-Ok.ensures a.j (itself a.j (search rules))) in
    let next = c.fragment_of-next.ensures in
    let kept = c.held_before-at.ensures in
    let held : length a.j.held ≡ most_message = search rules in
    record { fits = omega (arith, lent q next kept, total q next kept held, q.joinable.short) }

pub hold-joiner-requires : goal.hold-joiner-requires
hold-joiner-requires c =
    let a = c.args in
    let f = a.frame.now in
    let q = taken a.j f a.number (length a.out.now) c.in-Ok.header (c.in-Ok.ensures a.j (itself a.j (search rules))) in
    let next = c.fragment_of-next.ensures in
    let kept = c.held_before-at.ensures in
    omega (arith, lent q next kept, q.length_is, q.joinable.most)

pub hold-joiner-requires-in-Ok : goal.hold-joiner-requires-in-Ok
hold-joiner-requires-in-Ok c =
    let a = c.args in
    let f = a.frame.now in
    let q = taken a.j f a.number (length a.out.now) c.in-Ok.header (c.in-Ok.ensures a.j (itself a.j (search rules))) in
    let next = c.fragment_of-next.ensures in
    let kept = c.held_before-at.ensures in
    let held : length a.j.held ≡ most_message = search rules in
    omega (arith, lent q next kept, total q next kept held, q.joinable.short)

pub returns-then-not-has_more : goal.returns-then-not-has_more
returns-then-not-has_more c =
    let a = c.args in
    let f = a.frame.now in
    let q = taken a.j f a.number (length a.out.now) c.in-Ok.header (c.in-Ok.ensures a.j (itself a.j (search rules))) in
    let next = c.fragment_of-next.ensures in
    let kept = c.held_before-at.ensures in
    let held : length a.j.held ≡ most_message = search rules in
    let end = no_more f (sym c.has_more.ensures ∙ c.if-not-has_more.true) in
    join_ends a.j f a.number a.out.now _ c.in-Ok.header.priority q.joinable q.priority_is _ _ end
    (omega (arith, lent q next kept, total q next kept held)) (omega (arith, lent q next kept, returned_size q next kept held end, q.enough))
    c.new_joiner-joiner-then-not-has_more.ensures (c.put_both.ensures ∙ joined_put a.j a.j.length a.j.last (itself a.j held) f a.number c.in-Ok.header.length _ _ (adds q next kept) a.out.now)

pub returns-then-next-eq0 : goal.returns-then-next-eq0
returns-then-next-eq0 c =
    let a = c.args in
    let f = a.frame.now in
    let q = taken a.j f a.number (length a.out.now) c.in-Ok.header (c.in-Ok.ensures a.j (itself a.j (search rules))) in
    let next = c.fragment_of-next.ensures in
    let kept = c.held_before-at.ensures in
    let more = eqb-true _ _ (sym c.has_more.ensures ∙ c.if-not-has_more.false) in
    join_holds a.j f a.number a.out.now _ c.in-Ok.header.priority q.joinable q.priority_is more
    (c.hold-joiner.ensures ∙ held_anew a.j a.j.length a.j.last (itself a.j (search rules)) f a.number c.in-Ok.header.length _ _ (adds q next kept) c.if-next-eq0.true)

pub returns-else-next-eq0 : goal.returns-else-next-eq0
returns-else-next-eq0 c =
    let a = c.args in
    let f = a.frame.now in
    let q = taken a.j f a.number (length a.out.now) c.in-Ok.header (c.in-Ok.ensures a.j (itself a.j (search rules))) in
    let next = c.fragment_of-next.ensures in
    let kept = c.held_before-at.ensures in
    let more = eqb-true _ _ (sym c.has_more.ensures ∙ c.if-not-has_more.false) in
    join_holds a.j f a.number a.out.now _ c.in-Ok.header.priority q.joinable q.priority_is more
    (c.hold-joiner-in-Ok.ensures ∙ held_on a.j a.j.length a.j.last (itself a.j (search rules)) f a.number c.in-Ok.header.length _ _ (adds q next kept) c.if-next-eq0.false)
