use mathlib.Core.Path.{ap, ap₂, ◌∙◌}
use mathlib.Core.Bool.{Bool, ◌&&◌}
use lib.Dec.{eqb}
use Rattle.rules.specs.Table.{same_triple, is_for}
use Rattle.table.proofs.Words.{pointwise_same}
use Rattle.table.proofs.entry.is_for.Goals as goal

-- In use, and of the triple, field by field.
pub returns-then-e : goal.returns-then-e
unfolding is_for
returns-then-e c =
    let x = c.args.x.now in
    let y = c.triple_of.result in
    rw c.if-e.true
    (c.eq.ensures
    ∙ ap₂ (λ (a b : Bool). a && (b && eqb x.key_id y.key_id)) (pointwise_same x.own y.own) (pointwise_same x.peer y.peer)
    ∙ ap (same_triple x) c.triple_of.ensures)
