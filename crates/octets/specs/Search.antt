-- Where an octet stands: in a string, and in a part of one.
use Rattle.std.specs.Prelude.{Bool, true, false, List, [], ◌∷◌, ℕ, suc, eqb, take, drop}

-- the octets from one place up to another
unfoldable pub slice : ℕ → ℕ → List ℕ → List ℕ
slice i j s = drop i (take j s)

-- the place in a string, given whether its first octet is the one, and the place in the rest
unfoldable pub index_after : Bool → ℕ → ℕ
index_after true n = 0
index_after false n = suc n

-- the place of the first x, or the length where there is none
unfoldable pub index_of : ℕ → List ℕ → ℕ
index_of x [] = 0
index_of x (y ∷ s) = index_after (eqb y x) (index_of x s)
