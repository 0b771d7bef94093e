use Rattle.std.proofs.Common.{ℕ, ◌+◌, ◌-◌, ◌*◌, sym, ◌∙◌, arith, rules}
use Rattle.book.specs.Handed.{block}
use Rattle.book.proofs.Turns.{read_odd}
use Rattle.book.proofs.Blocks.{part_turn}
use Rattle.book.proofs.hex.read_hex.Goals as goal

pub returns-then-digits-eq1-clause-out_after : goal.returns-then-digits-eq1-clause-out_after
returns-then-digits-eq1-clause-out_after c = sym (read_odd c.args.digits.now c.if-digits-eq1.true)

pub loop-j-preserved : goal.loop-j-preserved
loop-j-preserved c =
    let r = c.read_block-read in
    let l = c.loop-j in
    let i : ℕ = block * l.j in
    l.invariant
    ∙ part_turn c.args.digits.now l.out i (block * (l.j + 1)) (2 * (i + block) - 2 * i) l.good (omega arith) (omega arith) (omega arith) (omega arith) r.new.out _ r.result (search rules) (r.ensures.value, r.ensures.out_after)
