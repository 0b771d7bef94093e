use mathlib.Core.List.{◌++◌}
use Rattle.aes.proofs.Laws.{bytes_sum}
use Rattle.ccm.proofs.blocks.add.Goals as goal

-- Word by word.
pub returns : goal.returns
returns c =
    let a = c.args in
    λ i. bytes_sum a.x.a a.y.a i ++ (bytes_sum a.x.b a.y.b i ++ (bytes_sum a.x.c a.y.c i ++ bytes_sum a.x.d a.y.d i))
