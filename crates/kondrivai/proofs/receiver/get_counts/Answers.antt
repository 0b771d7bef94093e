use mathlib.Core.Path.{ap, ◌∙◌}
use native.Mathlib.Omega.{arith}
use lib.ListN.{length}
use Rattle.kondrivai.specs.Layout1.{counts_in}
use Rattle.kondrivai.proofs.Numbers.{le_4, part_size}
use Rattle.octets.specs.Octets.{word}
use Rattle.kondrivai.proofs.receiver.get_counts.Goals as goal

-- Four numbers of four octets.
pub returns : goal.returns
unfolding counts_in
returns c =
    let b = c.args.b.now in
    rw (
      c.from_le_bytes.ensures ∙ le_4 _ (ap length c.octets_at.ensures ∙ part_size 4 26 b (omega arith)) ∙ ap word c.octets_at.ensures,
      c.from_le_bytes-2.ensures ∙ le_4 _ (ap length c.octets_at-2.ensures ∙ part_size 4 30 b (omega arith)) ∙ ap word c.octets_at-2.ensures,
      c.from_le_bytes-3.ensures ∙ le_4 _ (ap length c.octets_at-3.ensures ∙ part_size 4 34 b (omega arith)) ∙ ap word c.octets_at-3.ensures,
      c.from_le_bytes-4.ensures ∙ le_4 _ (ap length c.octets_at-4.ensures ∙ part_size 4 38 b (omega arith)) ∙ ap word c.octets_at-4.ensures,
    )
