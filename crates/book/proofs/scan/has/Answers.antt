use Rattle.std.proofs.Common.{Bool, ◌||◌, eqb, get_or, sym, ap, ◌∙◌, arith}
use Rattle.book.proofs.Searches.{among_turn}
use Rattle.book.proofs.scan.has.Goals as goal

pub loop-y-preserved : goal.loop-y-preserved
loop-y-preserved c =
    let l = c.loop-y in
    let a = c.args in
    ap (λ (b : Bool). b || eqb (get_or a.s.now l.y-index 0) a.x) l.invariant ∙ sym (among_turn a.x a.s.now l.y-index (omega arith))
