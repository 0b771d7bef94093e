use mathlib.Core.Path.{◌≡◌}
use Prim.Native.Nat.{◌+◌, ◌*◌}
use native.Mathlib.Omega.{arith}
use Rattle.rules.proofs.Splits.{pieces_count, fragments_count}
use Rattle.fragments.proofs.Turns.{starts_below, below, puts, written_fits, goes_on}
use Rattle.fragments.proofs.splitting.Pieces.put_all.Goals as goal

-- A turn puts the next fragment behind those before it.
pub end_of-end-requires : goal.end_of-end-requires
end_of-end-requires c =
    let a = c.args in
    let p = a.self in
    let e = c.count-i-end.ensures in
    omega (arith, starts_below a.s p.size p.frame.now p.header.length a.out.now p.cut.header c.requires.0 c.requires.1 c.loop-i.i (omega (arith, e, c.loop-i-test.true)))

pub overflow_cast-i : goal.overflow_cast-i
overflow_cast-i c =
    let p = c.args.self in
    omega (arith, c.loop-i-test.true, c.count-i-end.ensures, fragments_count p.size p.frame.now, pieces_count p.size p.frame.now)

pub slice_bounds-put-count : goal.slice_bounds-put-count
slice_bounds-put-count c =
    let a = c.args in
    let p = a.self in
    let l = c.loop-i in
    omega (
      arith,
      written_fits a.s p.size p.frame.now p.header.length a.out.now p.cut.header c.requires.0 c.requires.1 l.out l.sender l.i _ l.written l.invariant
          (omega (arith, c.count-i-end.ensures, c.loop-i-test.true)) c.end_of-end.result c.end_of-end.ensures,
    )

pub slice_bounds-put-start : goal.slice_bounds-put-start
slice_bounds-put-start c =
    let a = c.args in
    let p = a.self in
    let l = c.loop-i in
    omega (
      arith,
      written_fits a.s p.size p.frame.now p.header.length a.out.now p.cut.header c.requires.0 c.requires.1 l.out l.sender l.i _ l.written l.invariant
          (omega (arith, c.count-i-end.ensures, c.loop-i-test.true)) c.end_of-end.result c.end_of-end.ensures,
    )

pub put-sender-requires : goal.put-sender-requires
put-sender-requires c =
    let a = c.args in
    let p = a.self in
    let l = c.loop-i in
    puts a.s p.size p.frame.now p.header.length a.out.now p.cut.header c.requires.0 c.requires.1 l.out l.sender l.i _ l.written l.invariant
    (omega (arith, c.count-i-end.ensures, c.loop-i-test.true)) c.end_of-end.result c.end_of-end.ensures

pub overflow_sub-written : goal.overflow_sub-written
overflow_sub-written c =
    let a = c.args in
    let p = a.self in
    let l = c.loop-i in
    omega (
      arith,
      below a.s p.size p.frame.now p.header.length a.out.now p.cut.header c.requires.0 c.requires.1 l.out l.sender l.i _ l.written l.invariant
          (omega (arith, c.count-i-end.ensures, c.loop-i-test.true)) c.end_of-end.result c.end_of-end.ensures,
      c.end_of-end.ensures,
    )

pub overflow_add-written-in-loop-i-2 : goal.overflow_add-written-in-loop-i-2
overflow_add-written-in-loop-i-2 c =
    let a = c.args in
    let p = a.self in
    let l = c.loop-i in
    record {
      fits = omega (
        arith,
        written_fits a.s p.size p.frame.now p.header.length a.out.now p.cut.header c.requires.0 c.requires.1 l.out l.sender l.i _ l.written l.invariant
            (omega (arith, c.count-i-end.ensures, c.loop-i-test.true)) c.end_of-end.result c.end_of-end.ensures,
      );
    }

pub loop-i-preserved : goal.loop-i-preserved
loop-i-preserved c =
    let a = c.args in
    let p = a.self in
    let l = c.loop-i in
    let put = c.put-sender.ensures in
    rw (let z : p.header.length + (l.i + 1) * p.size ≡ p.header.length + l.i * p.size + p.size = omega arith in z)
    (goes_on a.s p.size p.frame.now p.header.length a.out.now p.cut.header c.requires.0 c.requires.1 l.out l.sender l.i _ l.written l.invariant
    (omega (arith, c.count-i-end.ensures, c.loop-i-test.true)) c.end_of-end.result c.end_of-end.ensures _ _ put.value put.out_after)
