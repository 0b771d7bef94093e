use Rattle.std.proofs.Common.{sym, ap, ◌∙◌, nat_eq}
use borrow.Author.Tests.{ne_eqb}
use Rattle.octets.proofs.Same.{sizes_differ, none_differs}
use Rattle.octets.proofs.equal.Goals as goal

pub returns-then-a-b : goal.returns-then-a-b
returns-then-a-b c = let a = c.args in ap (λ bits. nat_eq bits 0) c.difference.ensures ∙ none_differs a.a.now a.b.now 0 c.if-a-b.true

pub returns-else-a-b : goal.returns-else-a-b
returns-else-a-b c = let a = c.args in ne_eqb _ _ c.if-a-b.false ∙ sym (sizes_differ a.a.now a.b.now c.if-a-b.false)
