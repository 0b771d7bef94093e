use mathlib.Core.Path.{◌≡◌, refl, sym, ap, ◌∙◌}
use mathlib.Core.Bool.{Bool, true, false, cond, ◌&&◌, ◌||◌}
use mathlib.Core.List.{List, [], ◌∷◌}
use Prim.Native.Nat.{ℕ, ◌+◌, ◌-◌, ◌≤◌}
use native.Mathlib.Omega.{arith}
use borrow.Author.Tests.{lt-ltb, le-ltb, le-leb, eqb-true}
use lib.Dec.{ltb, eqb}
use lib.ListN.{length}
use Rattle.rules.specs.Limits.{most_number, least_body, most_message, most_size}
use Rattle.rules.specs.Header.{header_length, more_fragments, header_of}
use Rattle.rules.specs.Answers.{◌⇒◌, outside}
use Rattle.rules.specs.Tests.{header_tests}
use Rattle.rules.specs.Joining.{narrow, fragment_of, follows, starts, continues, joined, returned, astray, join_tests}
use Rattle.rules.specs.declared.Fragment.{Fragment}
use Rattle.rules.specs.declared.Header.{Header}
use Rattle.rules.specs.declared.Joiner.{Joiner}
use Rattle.rules.proofs.Joined.{returns_none, returns_all}
use Rattle.ccmp.specs.Verdict.{Pass, verdict}
use Rattle.ccmp.proofs.Headers.{fields_of}
use Rattle.ccmp.proofs.Verdicts.{headed}
use Rattle.fragments.specs.Held.{Has}
use Rattle.fragments.proofs.Fragments.{no_more}
use Rattle.fragments.proofs.Joins.{Adds, sound_is, goes_on_is, joined_size, decided, strays}
use Rattle.fragments.proofs.joining.later_tests.Goals as goal

-- Test by test, after those that passed before.
module _ (f : List ℕ) (h : Header) (e : Pass h ≡ verdict (header_tests 1 f) (header_of f)) where
  length_is : h.length ≡ header_length f
  length_is = (fields_of f h (headed 1 f h e).is).length_is

  ends : h.length ≤ length f
  ends = omega (arith, length_is, (headed 1 f h e).whole)

  -- the frame, as it is added to what is held
  adds : (n m at : ℕ) (next : Fragment) → m ≤ most_message → next ≡ fragment_of f n → (at ≡ cond (eqb next.fragment 0) 0 m) × (at ≤ m) → Adds f n m h.length at next
  adds n m at next l en kept = record { header = length_is; fragment = en; kept = kept.0; fits = omega (arith, kept.1) }

  -- a joiner of which m octets are held and x came last
  module _ (j : Joiner) (m : ℕ) (x : Fragment) (has : Has j m x) (n room : ℕ) (p : (m ≤ most_message) × (narrow x ≡ true) × (n ≤ most_number)) where
    decide : (a b c : Bool) → outside least_body most_size (length f - h.length) ≡ a → astray j f n ≡ b → ltb room (length (returned j f)) ≡ c
        → verdict ((a ⇒ 5) ∷ (b ⇒ 14) ∷ (c ⇒ 6) ∷ []) h ≡ verdict (join_tests j f n room) (header_of f)
    decide = decided j f n room (rw (sound_is j m x has, le-leb _ _ p.0, p.1, le-leb _ _ p.2)) h (headed 1 f h e)

    module _ (next : Fragment) (en : next ≡ fragment_of f n) where
      on_is : (r on : Bool) → r ≡ eqb next.fragment 0 || (ltb 0 m && follows x next) → r ≡ on → starts f || continues j f n ≡ on
      on_is r on er eo = sym (er ∙ goes_on_is j m x has f n next en) ∙ eo

      module _ (at : ℕ) (kept : (at ≡ cond (eqb next.fragment 0) 0 m) × (at ≤ m)) where
        total_is : length (joined j f) ≡ at + (length f - h.length)
        total_is = joined_size j m x has f n h.length at next (adds n m at next p.0 en kept)

        stays : (r : Bool) → r ≡ eqb next.fragment 0 || (ltb 0 m && follows x next) → r ≡ true → at + (length f - h.length) ≤ most_message → astray j f n ≡ false
        stays r er eo l = strays j f n true false (on_is r true er eo) (le-ltb most_message (length (joined j f)) (omega (arith, total_is)))

        all_is : more_fragments f ≡ 0 → length (returned j f) ≡ at + (length f - h.length)
        all_is end = ap length (returns_all j f end) ∙ total_is

pub overflow_sub-n : goal.overflow_sub-n
overflow_sub-n c = ends c.args.frame.now c.args.header c.requires.header_value

pub returns-then-outside : goal.returns-then-outside
returns-then-outside c j has =
    let a = c.args in
    let r = c.requires in
    decide a.frame.now a.header r.header_value j a.standing.length a.standing.last has a.number a.room r.sound_value
    true _ _ (sym c.outside.ensures ∙ c.if-outside.true) refl refl

pub fragment_of-next-requires : goal.fragment_of-next-requires
fragment_of-next-requires c =
    let t = headed 1 c.args.frame.now c.args.header c.requires.header_value in
    (t.long, (fields_of c.args.frame.now c.args.header t.is).priority_is)

pub returns-then-not-goes_on : goal.returns-then-not-goes_on
returns-then-not-goes_on c j has =
    let a = c.args in
    let r = c.requires in
    decide a.frame.now a.header r.header_value j a.standing.length a.standing.last has a.number a.room r.sound_value
    false true _ (sym c.outside.ensures ∙ c.if-outside.false)
    (strays j a.frame.now a.number false _
    (on_is a.frame.now a.header r.header_value j a.standing.length a.standing.last has a.number a.room r.sound_value c.fragment_of-next.result c.fragment_of-next.ensures
    c.goes_on.result false c.goes_on.ensures c.if-not-goes_on.true) refl) refl

pub returns-then-total-gt-MOST_MESSAGE : goal.returns-then-total-gt-MOST_MESSAGE
returns-then-total-gt-MOST_MESSAGE c j has =
    let a = c.args in
    let r = c.requires in
    decide a.frame.now a.header r.header_value j a.standing.length a.standing.last has a.number a.room r.sound_value
    false true _ (sym c.outside.ensures ∙ c.if-outside.false)
    (strays j a.frame.now a.number true true
    (on_is a.frame.now a.header r.header_value j a.standing.length a.standing.last has a.number a.room r.sound_value c.fragment_of-next.result c.fragment_of-next.ensures
    c.goes_on.result true c.goes_on.ensures c.if-not-goes_on.false)
    (lt-ltb most_message (length (joined j a.frame.now))
    (omega (
      arith,
      c.if-total-gt-MOST_MESSAGE.true,
      total_is a.frame.now a.header r.header_value j a.standing.length a.standing.last has a.number a.room r.sound_value c.fragment_of-next.result c.fragment_of-next.ensures
          c.held_before.result c.held_before.ensures,
    )))) refl

pub returns-then-has_more : goal.returns-then-has_more
returns-then-has_more c j has =
    let a = c.args in
    let r = c.requires in
    let f = a.frame.now in
    let none = ap length (returns_none j f (eqb-true (more_fragments f) 1 (sym c.has_more.ensures ∙ c.if-has_more.true))) in
    decide f a.header r.header_value j a.standing.length a.standing.last has a.number a.room r.sound_value
    false false false (sym c.outside.ensures ∙ c.if-outside.false)
    (stays f a.header r.header_value j a.standing.length a.standing.last has a.number a.room r.sound_value c.fragment_of-next.result c.fragment_of-next.ensures
    c.held_before.result c.held_before.ensures c.goes_on.result c.goes_on.ensures c.if-not-goes_on.false c.if-total-gt-MOST_MESSAGE.false)
    (le-ltb a.room (length (returned j f)) (omega (arith, none)))

pub returns-then-room-total : goal.returns-then-room-total
returns-then-room-total c j has =
    let a = c.args in
    let r = c.requires in
    let f = a.frame.now in
    decide f a.header r.header_value j a.standing.length a.standing.last has a.number a.room r.sound_value
    false false true (sym c.outside.ensures ∙ c.if-outside.false)
    (stays f a.header r.header_value j a.standing.length a.standing.last has a.number a.room r.sound_value c.fragment_of-next.result c.fragment_of-next.ensures
    c.held_before.result c.held_before.ensures c.goes_on.result c.goes_on.ensures c.if-not-goes_on.false c.if-total-gt-MOST_MESSAGE.false)
    (lt-ltb a.room (length (returned j f)) (omega (
      arith,
      c.if-room-total.true,
      all_is f a.header r.header_value j a.standing.length a.standing.last has a.number a.room r.sound_value c.fragment_of-next.result c.fragment_of-next.ensures
          c.held_before.result c.held_before.ensures (no_more f (sym c.has_more.ensures ∙ c.if-has_more.false)),
    )))

pub returns : goal.returns
returns c j has =
    let a = c.args in
    let r = c.requires in
    let f = a.frame.now in
    decide f a.header r.header_value j a.standing.length a.standing.last has a.number a.room r.sound_value
    false false false (sym c.outside.ensures ∙ c.if-outside.false)
    (stays f a.header r.header_value j a.standing.length a.standing.last has a.number a.room r.sound_value c.fragment_of-next.result c.fragment_of-next.ensures
    c.held_before.result c.held_before.ensures c.goes_on.result c.goes_on.ensures c.if-not-goes_on.false c.if-total-gt-MOST_MESSAGE.false)
    (le-ltb a.room (length (returned j f)) (omega (
      arith,
      c.if-room-total.false,
      all_is f a.header r.header_value j a.standing.length a.standing.last has a.number a.room r.sound_value c.fragment_of-next.result c.fragment_of-next.ensures
          c.held_before.result c.held_before.ensures (no_more f (sym c.has_more.ensures ∙ c.if-has_more.false)),
    )))
