-- The tests of the form, and then of the room and of the extended mark.
use mathlib.Core.Path.{◌≡◌, sym, ◌∙◌}
use mathlib.Core.List.{List, [], ◌++◌}
use Prim.Native.Nat.{ℕ, ◌+◌, ◌-◌, ◌≤◌, ◌<◌}
use native.Mathlib.Omega.{arith}
use borrow.Author.Tests.{le-ltb}
use lib.ListN.{length, get_or}
use Rattle.rules.specs.Limits.{least_header, least_body, most_body}
use Rattle.rules.specs.Header.{header_length, header_of}
use Rattle.rules.specs.Mode.{added}
use Rattle.rules.specs.Answers.{Test}
use Rattle.rules.specs.Tests.{room_test, extended_test}
use Rattle.rules.specs.declared.Header.{Header}
use Rattle.rules.specs.declared.Table.{Table}
use Rattle.rules.proofs.Fields.{header_range}
use Rattle.ccmp.specs.Verdict.{Pass, verdict}
use Rattle.ccmp.proofs.Headers.{Fields, fields_of}
use Rattle.ccmp.proofs.Keys.{extended_not, extended_set}
use Rattle.ccmp.proofs.Verdicts.{passes}
use Rattle.table.specs.Forms.{form_tests}
use Rattle.table.proofs.Served.{goes_on, formed}
use borrow.Author.Rules.{rules}
use Rattle.table.proofs.serving.open_tests.Goals as goal

abbrev forms : Table → List ℕ → List Test
forms t f = form_tests t 0 (least_body + added) (most_body + added) f

abbrev more : List ℕ → ℕ → List Test
more f room = room_test room (length f - added) ++ extended_test f

-- the form is in order: the fields, the lengths, and the tests after it decide
module _ (t : Table) (f : List ℕ) (h : Header) (e : Pass h ≡ verdict (forms t f) (header_of f)) where
  fields : Fields f h
  fields = fields_of f h (passes (forms t f) (header_of f) h e).0

  sizes : (least_header ≤ length f) × (header_length f + (least_body + added) ≤ length f)
  sizes = formed t 0 (least_body + added) (most_body + added) f [] (passes (forms t f) (header_of f) h e).1

  on : (room : ℕ) → verdict (forms t f ++ more f room) (header_of f) ≡ verdict (more f room) h
  on room = goes_on (forms t f) (more f room) (header_of f) h e

pub overflow_add-header : goal.overflow_add-header
overflow_add-header c =
    let f = c.args.frame.now in
    record { fits = omega (arith, (fields c.args.t.now f _ c.in_ok-header.ensures).length_is, header_range f) }

pub bounds-frame-header : goal.bounds-frame-header
bounds-frame-header c =
    let f = c.args.frame.now in
    let e = c.in_ok-header.ensures in
    omega (arith, (fields c.args.t.now f _ e).length_is, sizes c.args.t.now f _ e)

pub returns-then-frame-header-eq0 : goal.returns-then-frame-header-eq0
returns-then-frame-header-eq0 c =
    let f = c.args.frame.now in
    let h = c.in_ok-header.header in
    let e = c.in_ok-header.ensures in
    let small : get_or f (h.length + 3) 0 < 256 = search rules in
    let plain = extended_not f h.length (fields c.args.t.now f h e).length_is small c.if-frame-header-eq0.true in
    sym (on c.args.t.now f h e c.args.room ∙ rw (le-ltb _ _ c.if-room-frame.false, plain))

pub returns : goal.returns
returns c =
    let f = c.args.frame.now in
    let h = c.in_ok-header.header in
    let e = c.in_ok-header.ensures in
    let small : get_or f (h.length + 3) 0 < 256 = search rules in
    let marked = extended_set f h.length (fields c.args.t.now f h e).length_is small c.if-frame-header-eq0.false in
    sym (on c.args.t.now f h e c.args.room ∙ rw (le-ltb _ _ c.if-room-frame.false, marked))
