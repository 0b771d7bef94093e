use mathlib.Core.Bool.{◌&&◌, and-true, and_assoc}
use mathlib.Core.List.{[], ◌∷◌}
use Rattle.std.proofs.Common.{arith, ◌≡◌, ◌==◌, ℕ, Bool, true, List, sym, ◌∙◌}
use Rattle.std.proofs.lemmas.Grind.{common_steps}
use Rattle.std.specs.List.{fold, list_all}
use Rattle.cases.proofs.all_aa.Goals as goal

-- each octet goes on where all before it and it itself are aa
all_from : (b : Bool) (s : List ℕ) → fold (λ all x. all && (x == 170)) b s ≡ b && list_all (λ x. x == 170) s
all_from b [] = sym (and-true b)
all_from b (x ∷ s) = all_from (b && (x == 170)) s ∙ and_assoc b (x == 170) (list_all (λ x. x == 170) s)

pub returns : goal.returns
returns c =
    let s = c.args.s.now in
    let folded : c.fold.result ≡ fold (λ (all : Bool) (x : ℕ). all && (x == 170)) true s = grind (arith, common_steps) in
    folded ∙ all_from true s
