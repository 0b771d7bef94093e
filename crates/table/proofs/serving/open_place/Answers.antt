-- The tests before the search, the addresses and the key ID as they are read, and whether the entry that is found may open.
use mathlib.Core.Path.{◌≡◌, refl, sym, ◌∙◌}
use mathlib.Core.Bool.{Bool, true, false, ◌&&◌}
use mathlib.Core.List.{List, ◌++◌}
use Prim.Native.Nat.{ℕ, ◌+◌, ◌-◌, ◌/◌, ◌≤◌}
use native.Mathlib.Omega.{arith}
use borrow.Author.Tests.{eqb-true}
use lib.ListN.{length, get_or}
use Rattle.std.proofs.lemmas.Result.{err_from_is_err_and}
use Rattle.rules.specs.Limits.{address_octets, least_header, least_body, most_body}
use Rattle.rules.specs.Header.{part, address1, address2, header_length, header_of}
use Rattle.rules.specs.Mode.{added}
use Rattle.rules.specs.Tests.{room_test, extended_test, entry_test}
use Rattle.rules.specs.Table.{entry_at, is_place, place_of}
use Rattle.rules.specs.Serving.{open_place}
use Rattle.rules.specs.declared.Header.{Header}
use Rattle.rules.specs.declared.Table.{Table}
use Rattle.rules.proofs.Fields.{header_range}
use Rattle.ccmp.specs.Verdict.{Pass, verdict}
use Rattle.ccmp.proofs.Headers.{Fields, fields_of}
use Rattle.ccmp.proofs.Keys.{id_same}
use Rattle.ccmp.proofs.Verdicts.{passes}
use Rattle.table.specs.Forms.{open_forms}
use Rattle.table.proofs.Loops.{found_some, found_none, flag_at}
use Rattle.table.proofs.Served.{formed, place_refused, serves, serves_not}
use Rattle.table.proofs.serving.open_place.Goals as goal

-- whether the entry of a frame may open it
abbrev may_open : Table → List ℕ → Bool
may_open t f = is_place t (open_place t f) && (entry_at t (open_place t f)).may_receive

-- the tests are passed: the fields and the lengths
module _ (t : Table) (f : List ℕ) (room : ℕ) (h : Header) (e : Pass h ≡ verdict (open_forms t f room) (header_of f)) where
  fields : Fields f h
  fields = fields_of f h (passes (open_forms t f room) (header_of f) h e).0

  sizes : (least_header ≤ length f) × (header_length f + (least_body + added) ≤ length f)
  sizes =
      formed t 0 (least_body + added) (most_body + added) f (room_test room (length f - added) ++ extended_test f)
      (passes (open_forms t f room) (header_of f) h e).1

-- the place of the two addresses and the key ID, as they are read
place_is : (t : Table) (f own peer : List ℕ) (h i : ℕ) → h ≡ header_length f → own ≡ part f 4 address_octets → peer ≡ part f 10 address_octets
    → i ≡ place_of t (record { own = own; peer = peer; key_id = get_or f (h + 3) 0 / 64 }) → i ≡ open_place t f
unfolding address1 address2
place_is t f own peer h i at a b e =
    let id = sym (eqb-true _ _ (id_same f h at (get_or f (h + 3) 0 / 64) refl)) in
    e ∙ (λ j. place_of t (record { own = a j; peer = b j; key_id = id j }))

pub returns-in_err-header : goal.returns-in_err-header
returns-in_err-header c =
    let a = c.args in
    let f = a.frame.now in
    let p = err_from_is_err_and c.from_residual.result c.from_residual.ensures.1 in
    rw (p.1, p.2)
    (place_refused (open_forms a.t.now f a.room) (entry_test (may_open a.t.now f)) (header_of f) (open_place a.t.now f) _ c.in_err-header.ensures)

pub overflow_add-key_id : goal.overflow_add-key_id
overflow_add-key_id c =
    let f = c.args.frame.now in
    record { fits = omega (arith, (fields c.args.t.now f c.args.room _ c.in_ok-header.ensures).length_is, header_range f) }

pub bounds-frame-header : goal.bounds-frame-header
bounds-frame-header c =
    let a = c.args in
    let e = c.in_ok-header.ensures in
    omega (arith, (fields a.t.now a.frame.now a.room _ e).length_is, sizes a.t.now a.frame.now a.room _ e)

pub returns-in-Some : goal.returns-in-Some
returns-in-Some c =
    let t = c.args.t.now in
    let f = c.args.frame.now in
    let e = c.in_ok-header.ensures in
    let i = c.in-Some.i in
    let at = found_some t _ i c.in-Some.ensures.value in
    let is = place_is t f _ _ c.in_ok-header.header.length i (fields t f c.args.room _ e).length_is c.octets_at-own.ensures c.octets_at-peer.ensures at.0 in
    let may : may_open t f ≡ true = rw (← is) (flag_at t i (λ e. e.may_receive) _ true at.2 c.if-t-i.true) in
    serves (open_forms t f c.args.room) (header_of f) _ (open_place t f) (may_open t f) e i is may

pub returns-in_default : goal.returns-in_default
returns-in_default c =
    let t = c.args.t.now in
    let f = c.args.frame.now in
    let e = c.in_ok-header.ensures in
    let i = c.in-Some.i in
    let at = found_some t _ i c.in-Some.ensures.value in
    let is = place_is t f _ _ c.in_ok-header.header.length i (fields t f c.args.room _ e).length_is c.octets_at-own.ensures c.octets_at-peer.ensures at.0 in
    let may : may_open t f ≡ false = rw (← is) (flag_at t i (λ e. e.may_receive) _ false at.2 c.if-t-i.false) in
    serves_not (open_forms t f c.args.room) (header_of f) _ (open_place t f) (may_open t f) e may

pub returns-in_default-2 : goal.returns-in_default-2
returns-in_default-2 c =
    let t = c.args.t.now in
    let f = c.args.frame.now in
    let e = c.in_ok-header.ensures in
    let h = c.in_ok-header.header.length in
    let i = place_of t (record { own = c.octets_at-own.result; peer = c.octets_at-peer.result; key_id = get_or f (h + 3) 0 / 64 }) in
    let is = place_is t f _ _ h i (fields t f c.args.room _ e).length_is c.octets_at-own.ensures c.octets_at-peer.ensures refl in
    let may : may_open t f ≡ false = rw (← is, found_none t i c.in_default.ensures.value) in
    serves_not (open_forms t f c.args.room) (header_of f) _ (open_place t f) (may_open t f) e may
