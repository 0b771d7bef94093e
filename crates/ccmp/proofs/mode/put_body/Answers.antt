use Rattle.std.proofs.Common.{is_some, ap, ◌∙◌, rules}
use Rattle.ccmp.proofs.Modes.{body_put, told}
use Rattle.ccmp.proofs.mode.put_body.Goals as goal

-- A body that there is fits, so CCM's answer says whether there is one.
pub returns : goal.returns
returns c =
    let a = c.args in
    record {
      value = told a.key a.nonce a.aad.now a.out.now a.text.now c.requires _ (search rules ∙ (c.is_some.ensures ∙ ap is_some c.«open».ensures.value));
      out_after = body_put a.key a.nonce a.aad.now a.out.now a.text.now c.requires _ c.«open».ensures.out_after;
    }
