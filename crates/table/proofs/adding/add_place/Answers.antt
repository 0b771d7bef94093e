use mathlib.Core.Path.{◌≡◌, ◌∙◌}
use Prim.Native.Nat.{ℕ}
use borrow.Author.Rules.{rules}
use Rattle.std.proofs.Common.{Option, Some, None}
use Rattle.std.specs.Option.{MatchOption}
use Rattle.rules.specs.Table.{place_of}
use Rattle.rules.specs.Adding.{free_place, add_place}
use Rattle.rules.specs.declared.Table.{Table}
use Rattle.rules.specs.declared.Triple.{Triple}
use Rattle.table.specs.Places.{found}
use Rattle.table.proofs.Loops.{found_some, found_none}
use Rattle.table.proofs.adding.add_place.Goals as goal

-- The place of a present triple, or else the first free one.
placed : {P : Type 0} (t : Table) (x : Triple) (p r : Option ℕ) → p ≡ found t (place_of t x) → MatchOption p P (λ i. r ≡ Some i)
    → (P → r ≡ found t (free_place t)) → r ≡ found t (add_place t x)
unfolding add_place
placed t x None r e m k = rw (found_none t (place_of t x) e) (k m)
placed t x (Some i) r e m k = rw ((found_some t (place_of t x) i e).1) (m ∙ e)

pub returns : goal.returns
returns c = placed c.args.t.now c.args.x.now c.place_of.result c.or_else.result c.place_of.ensures.value c.or_else.ensures (λ h. search rules)
