use mathlib.Core.Path.{refl, ◌∙◌}
use Prim.Native.Nat.{◌+◌, ◌/◌, ◌%◌}
use Rattle.kondrivai.proofs.Numbers.{le_octets, low_4, low_2, put_is, parts_put}
use Rattle.kondrivai.proofs.number.put_six.Goals as goal

-- A number of six octets is written as one of four and one of two.
pub returns : goal.returns
returns c =
    let i = c.args.i in
    let n = c.args.n in
    let low = put_is 4 i (i + 4) n _ _ _ c.put_octets.ensures (c.to_le_bytes.ensures ∙ le_octets 4 (n % 4294967296) ∙ low_4 n) refl in
    let high =
    put_is 2 (i + 4) (i + 4 + 2) (n / 4294967296) _ _ _ c.put_octets-2.ensures
    (c.to_le_bytes-2.ensures ∙ le_octets 2 (n / 4294967296 % 65536) ∙ low_2 (n / 4294967296)) refl in
    parts_put 4 2 n i c.args.b.now c.put_octets.new.b c.put_octets-2.new.b low high
