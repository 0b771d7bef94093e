use Rattle.std.proofs.Common.{◌≡◌, ℕ, ◌≤◌, List, length, take, sym, ap, ◌∙◌, arith, take_at}
use lib.Seq.{take-length}
use Rattle.octets.proofs.Lists.{laid, lay}
use Rattle.rules.specs.Header.{authenticated, authenticated_length, header_length, header_of}
use Rattle.rules.specs.declared.Header.{Header}
use Rattle.rules.proofs.Fields.{authenticated_size, data_range}
use Rattle.ccmp.proofs.Headers.{fields_of, whole}
use Rattle.ccmp.proofs.frame.Frame.authenticated_data.Invariants.{zeros}
use Rattle.ccmp.proofs.frame.Frame.authenticated_data.Goals as goal

size : (f : List ℕ) (h : Header) → h ≡ header_of f → header_length f ≤ length f → length (authenticated f) ≡ h.«data»
size f h is whole = authenticated_size f whole ∙ sym (fields_of f h is).data_is

pub authenticated_octet-requires : goal.authenticated_octet-requires
unfolding authenticated_length
authenticated_octet-requires c =
    let s = c.args.self in
    let f = s.octets.now in
    let h = fields_of f s.header s.is in
    record {
      inside = omega (arith, c.loop-i-test.true, h.data_is);
      in_bounds = omega (arith, c.loop-i-test.true, h.data_is, h.length_is, s.whole);
    }

pub bounds-data-i : goal.bounds-data-i
bounds-data-i c =
    let s = c.args.self in
    omega (arith, c.loop-i-test.true, (fields_of s.octets.now s.header s.is).data_is, data_range s.octets.now)

pub loop-i-preserved : goal.loop-i-preserved
loop-i-preserved c =
    let s = c.args.self in
    let l = c.loop-i in
    let f = s.octets.now in
    let d = (fields_of s.octets.now s.header s.is).data_is in
    lay l.i (authenticated f) zeros l.«data» _ (omega (arith, size s.octets.now s.header s.is (whole s.octets.now s.header s.is s.whole), c.loop-i-test.true)) (omega (arith, d, data_range f, c.loop-i-test.true)) c.authenticated_octet.ensures l.invariant

pub returns : goal.returns
returns c =
    let s = c.args.self in
    let l = c.loop-i in
    let f = s.octets.now in
    let all : l.i ≡ s.header.«data» = omega (arith, c.loop-i-test.false) in
    let n = size s.octets.now s.header s.is (whole s.octets.now s.header s.is s.whole) in
    rw (l.invariant, all)
    (ap (λ (k : ℕ). take s.header.«data» (laid k (authenticated f) zeros)) (sym n)
    ∙ take_at (take (length (authenticated f)) (authenticated f)) _ s.header.«data» (ap length (take-length (authenticated f)) ∙ n) ∙ take-length (authenticated f))
