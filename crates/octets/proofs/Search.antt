-- What `find` answers, said by `index_of`: the length where there is no x, and else the place of the first.
use Rattle.std.proofs.Common.{◌≡◌, ◌==◌, ℕ, ◌+◌, ◌<◌, Bool, true, false, cond, not, List, length, Some, None, position, nat_lt, refl, ◌∙◌, arith}
use Rattle.std.proofs.lemmas.Bool.{ltb-true, ltb-false}
use Rattle.std.proofs.lemmas.List.Recursion.{is_position_or_len}
use Rattle.std.proofs.lemmas.List.Sums.{prefix_len-le-length}
use Rattle.std.specs.List.{position_or_len}
use Rattle.octets.specs.Search.{index_after, index_of}

after : (b : Bool) (n : ℕ) → index_after b n ≡ cond b 0 (1 + n)
unfolding index_after
after true n = refl
after false n = omega arith

module _ (x : ℕ) (s : List ℕ) where
  index_is : index_of x s ≡ position_or_len (λ y. y == x) s
  unfolding index_of
  index_is = is_position_or_len (index_of x) (λ y. y == x) refl (λ y t. after (y == x) (index_of x t)) s

  answer_is : position (λ y. y == x) s ≡ cond (nat_lt (index_of x s) (length s)) (Some (index_of x s)) None
  answer_is = rw index_is

  pub not_found : None ≡ position (λ y. y == x) s → index_of x s ≡ length s
  not_found e = go (nat_lt (index_of x s) (length s)) refl (e ∙ answer_is)
    where
      go : (b : Bool) → nat_lt (index_of x s) (length s) ≡ b → None ≡ cond b (Some (index_of x s)) None → index_of x s ≡ length s
      go true q f = cc
      go false q f = omega (arith, index_is, prefix_len-le-length (λ y. not (y == x)) s, ltb-false (index_of x s) (length s) q)

  pub found : (i : ℕ) → Some i ≡ position (λ y. y == x) s → (index_of x s ≡ i) × (i < length s)
  found i e = go (nat_lt (index_of x s) (length s)) refl (e ∙ answer_is)
    where
      go : (b : Bool) → nat_lt (index_of x s) (length s) ≡ b → Some i ≡ cond b (Some (index_of x s)) None → (index_of x s ≡ i) × (i < length s)
      go true q f = let here : index_of x s ≡ i = cc in (here, omega (arith, ltb-true (index_of x s) (length s) q))
      go false q f = cc
