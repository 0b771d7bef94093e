use mathlib.Core.Path.{ap, ◌∙◌}
use Prim.Native.Nat.{◌+◌}
use native.Mathlib.Omega.{arith}
use lib.ListN.{length}
use Rattle.octets.specs.Octets.{word}
use Rattle.kondrivai.proofs.Numbers.{word_parts, le_2, le_4, part_size}
use Rattle.kondrivai.proofs.number.six_at.Goals as goal

-- A number of four octets and one of two.
pub returns : goal.returns
returns c =
    let b = c.args.b.now in
    let i = c.args.i in
    let is = word_parts 4 2 i b (omega (arith, c.requires)) in
    let low = c.from_le_bytes-low.ensures ∙ le_4 _ (ap length c.octets_at.ensures ∙ part_size 4 i b (omega (arith, c.requires))) ∙ ap word c.octets_at.ensures in
    let high = c.from_le_bytes-high.ensures ∙ le_2 _ (omega (arith, ap length c.octets_at-2.ensures, part_size 2 (i + 4) b (omega (arith, c.requires)))) ∙ ap word c.octets_at-2.ensures in
    omega (arith, is, low, high, c.from.ensures, c.from-2.ensures)
