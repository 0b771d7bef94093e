-- The tests before the search, the addresses as they are read, and whether the entry that is found may seal.
use mathlib.Core.Path.{◌≡◌, refl, ◌∙◌}
use mathlib.Core.Bool.{Bool, true, false, ◌&&◌}
use mathlib.Core.List.{List}
use Prim.Native.Nat.{ℕ, ◌+◌, ◌≤◌}
use lib.ListN.{length}
use Rattle.std.proofs.lemmas.Result.{err_from_is_err_and}
use Rattle.rules.specs.Limits.{address_octets, least_header, least_body, most_body}
use Rattle.rules.specs.Header.{part, address1, address2, header_of}
use Rattle.rules.specs.Mode.{added}
use Rattle.rules.specs.Tests.{room_test, entry_test}
use Rattle.rules.specs.Table.{entry_at, is_place, place_of}
use Rattle.rules.specs.Serving.{seal_place}
use Rattle.rules.specs.declared.Header.{Header}
use Rattle.rules.specs.declared.Table.{Table}
use Rattle.ccmp.specs.Verdict.{Pass, verdict}
use Rattle.ccmp.proofs.Verdicts.{passes}
use Rattle.table.specs.Forms.{seal_forms}
use Rattle.table.proofs.Loops.{found_some, found_none, flag_at}
use Rattle.table.proofs.Served.{formed, place_refused, serves, serves_not}
use Rattle.table.proofs.serving.seal_place.Goals as goal

-- whether the entry of a frame may seal it
abbrev may_seal : Table → ℕ → List ℕ → Bool
may_seal t keyId f = is_place t (seal_place t keyId f) && (entry_at t (seal_place t keyId f)).may_send

long : (t : Table) (f : List ℕ) (room : ℕ) (h : Header) → Pass h ≡ verdict (seal_forms t f room) (header_of f) → least_header ≤ length f
long t f room h e = (formed t 1 least_body most_body f (room_test room (length f + added)) (passes (seal_forms t f room) (header_of f) h e).1).0

-- the place of the two addresses, as they are read
place_is : (t : Table) (f own peer : List ℕ) (keyId i : ℕ) → own ≡ part f 10 address_octets → peer ≡ part f 4 address_octets
    → i ≡ place_of t (record { own = own; peer = peer; key_id = keyId }) → i ≡ seal_place t keyId f
unfolding address1 address2
place_is t f own peer keyId i a b e = e ∙ (λ j. place_of t (record { own = a j; peer = b j; key_id = keyId }))

pub returns-in_err-seal_tests-clause-value : goal.returns-in_err-seal_tests-clause-value
returns-in_err-seal_tests-clause-value c =
    let a = c.args in
    let f = a.frame.now in
    let p = err_from_is_err_and c.from_residual.result c.from_residual.ensures.1 in
    rw (p.1, p.2)
    (place_refused (seal_forms a.t.now f a.room) (entry_test (may_seal a.t.now a.key_id f)) (header_of f) (seal_place a.t.now a.key_id f) _ c.in_err-seal_tests.ensures)

pub returns-in-Some-clause-value : goal.returns-in-Some-clause-value
returns-in-Some-clause-value c =
    let t = c.args.t.now in
    let f = c.args.frame.now in
    let key_id = c.args.key_id in
    let i = c.in-Some.i in
    let at = found_some t _ i c.in-Some.ensures.value in
    let is = place_is t f _ _ key_id i c.octets_at-own.ensures c.octets_at-peer.ensures at.0 in
    let may : may_seal t key_id f ≡ true = rw (← is) (flag_at t i (λ e. e.may_send) _ true at.2 c.if-t-i.true) in
    serves (seal_forms t f c.args.room) (header_of f) _ (seal_place t key_id f) (may_seal t key_id f) c.in_ok-seal_tests.ensures i is may

pub returns-in_default-clause-value : goal.returns-in_default-clause-value
returns-in_default-clause-value c =
    let t = c.args.t.now in
    let f = c.args.frame.now in
    let key_id = c.args.key_id in
    let i = c.in-Some.i in
    let at = found_some t _ i c.in-Some.ensures.value in
    let is = place_is t f _ _ key_id i c.octets_at-own.ensures c.octets_at-peer.ensures at.0 in
    let may : may_seal t key_id f ≡ false = rw (← is) (flag_at t i (λ e. e.may_send) _ false at.2 c.if-t-i.false) in
    serves_not (seal_forms t f c.args.room) (header_of f) _ (seal_place t key_id f) (may_seal t key_id f) c.in_ok-seal_tests.ensures may

pub returns-in_default-2-clause-value : goal.returns-in_default-2-clause-value
returns-in_default-2-clause-value c =
    let t = c.args.t.now in
    let f = c.args.frame.now in
    let key_id = c.args.key_id in
    let i = place_of t (record { own = c.octets_at-own.result; peer = c.octets_at-peer.result; key_id = key_id }) in
    let is = place_is t f _ _ key_id i c.octets_at-own.ensures c.octets_at-peer.ensures refl in
    let may : may_seal t key_id f ≡ false = rw (← is, found_none t i c.in_default.ensures.value) in
    serves_not (seal_forms t f c.args.room) (header_of f) _ (seal_place t key_id f) (may_seal t key_id f) c.in_ok-seal_tests.ensures may
