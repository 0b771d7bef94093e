use Rattle.std.proofs.Common.{rules, sym, ap, ◌∙◌}
use Rattle.aes.specs.KeyExpansion.{key_expansion}
use Rattle.ccm.proofs.Schedules.{front_is}
use Rattle.ccm.proofs.keyed.Cipher.new.Goals as goal

pub invariant_of-result : goal.invariant_of-result
invariant_of-result c =
    let e = c.expand.ensures c.fill_products.ensures in
    (c.fill_products.ensures, e ∙ ap (key_expansion 4 10) (sym (front_is c.args.key c.expand.result (search rules) e)))

pub returns : goal.returns
returns c = front_is c.args.key c.expand.result (search rules) (c.expand.ensures c.fill_products.ensures)
