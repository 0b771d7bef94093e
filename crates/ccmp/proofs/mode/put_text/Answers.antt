use Rattle.ccmp.proofs.Modes.{text_put}
use Rattle.ccmp.proofs.mode.put_text.Goals as goal

-- The lengths of frames are within CCM's limits, and the text fits.
pub returns : goal.returns
returns c =
    let a = c.args in
    let pre = c.requires in
    text_put a.key a.nonce a.aad.now a.out.now a.body.now _ pre.least_data_in_bounds.0 pre.least_data_in_bounds.1 pre.least_data_in_bounds.2
    pre.code_octets_in_bounds c.seal.ensures.out_after
