-- The first part of a text, and the parts of two texts together.
use Rattle.std.proofs.Common.{◌≡◌, ℕ, suc, ◌-◌, ◌<◌, ◌≤◌, Bool, true, false, cond, eqb, List, [], ◌∷◌, ◌++◌, length, take, drop, refl, ap, arith, length-drop, take_all, eqb-true}
use Rattle.octets.specs.Search.{index_after, index_of}
use Rattle.book.specs.Text.{prefix, parts, all_but_last, last_of}

-- the rest of a text from a place on
pub rest_of : (s : List ℕ) (i : ℕ) → take (length s - i) (drop i s) ≡ drop i s
rest_of s i = take_all (length s - i) (drop i s) (omega (arith, length-drop i s))

-- the parts are never none
pub parts_some : (x : ℕ) (s : List ℕ) → (p : List ℕ) × ((ps : List (List ℕ)) × (parts x s ≡ p ∷ ps))
unfolding parts
parts_some x [] = ([], ([], refl))
parts_some x (y ∷ s) = step (eqb y x) (parts x s)
  where
    step : (b : Bool) (qs : List (List ℕ)) → (p : List ℕ) × ((ps : List (List ℕ)) × (cond b ([] ∷ qs) (prefix (y ∷ []) qs) ≡ p ∷ ps))
    step true qs = ([], (qs, refl))
    step false [] = ((y ∷ []), ([], refl))
    step false (q ∷ qs) = ((y ∷ q), (qs, refl))

module _ (x : ℕ) where
  -- up to the first x
  pub parts_found : (s : List ℕ) → index_of x s < length s → parts x s ≡ take (index_of x s) s ∷ parts x (drop (suc (index_of x s)) s)
  unfolding parts index_of index_after
  parts_found [] h = absurd (omega arith)
  parts_found (y ∷ s) h = step (eqb y x) (parts_found s) h
    where
      step : (b : Bool) → (index_of x s < length s → parts x s ≡ take (index_of x s) s ∷ parts x (drop (suc (index_of x s)) s)) → index_after b (index_of x s) < suc (length s)
          → cond b ([] ∷ parts x s) (prefix (y ∷ []) (parts x s)) ≡ take (index_after b (index_of x s)) (y ∷ s) ∷ parts x (drop (suc (index_after b (index_of x s))) (y ∷ s))
      step true ih h = refl
      step false ih h = rw (ih (omega arith))

  pub parts_none : (s : List ℕ) → length s ≤ index_of x s → parts x s ≡ s ∷ []
  unfolding parts index_of index_after
  parts_none [] h = refl
  parts_none (y ∷ s) h = step (eqb y x) (parts_none s) h
    where
      step : (b : Bool) → (length s ≤ index_of x s → parts x s ≡ s ∷ []) → suc (length s) ≤ index_after b (index_of x s)
          → cond b ([] ∷ parts x s) (prefix (y ∷ []) (parts x s)) ≡ (y ∷ s) ∷ []
      step true ih h = absurd (omega arith)
      step false ih h = rw (ih (omega arith))

  pub split_found : (s : List ℕ) → index_of x s < length s → s ≡ take (index_of x s) s ++ (x ∷ drop (suc (index_of x s)) s)
  unfolding index_of index_after
  split_found [] h = absurd (omega arith)
  split_found (y ∷ s) h = step (eqb y x) refl (split_found s) h
    where
      step : (b : Bool) → eqb y x ≡ b → (index_of x s < length s → s ≡ take (index_of x s) s ++ (x ∷ drop (suc (index_of x s)) s)) → index_after b (index_of x s) < suc (length s)
          → y ∷ s ≡ take (index_after b (index_of x s)) (y ∷ s) ++ (x ∷ drop (suc (index_after b (index_of x s))) (y ∷ s))
      step true e ih h = ap (λ (z : ℕ). z ∷ s) (eqb-true y x e)
      step false e ih h = ap (λ (t : List ℕ). y ∷ t) (ih (omega arith))

  -- the parts of two texts together: the last part of the first goes on in the second
  pub parts_append : (s t : List ℕ) → parts x (s ++ t) ≡ all_but_last (parts x s) ++ prefix (last_of (parts x s)) (parts x t)
  unfolding parts
  parts_append [] t = let q = parts_some x t in rw q.1.1
  parts_append (y ∷ s) t =
      let q = parts_some x s in
      let r = parts_some x t in
      step (eqb y x) q.0 q.1.0 r.0 r.1.0 q.1.1 r.1.1 (parts_append s t)
    where
      step : (b : Bool) (p : List ℕ) (ps : List (List ℕ)) (r : List ℕ) (rs : List (List ℕ)) → parts x s ≡ p ∷ ps → parts x t ≡ r ∷ rs
          → parts x (s ++ t) ≡ all_but_last (parts x s) ++ prefix (last_of (parts x s)) (parts x t)
          → cond b ([] ∷ parts x (s ++ t)) (prefix (y ∷ []) (parts x (s ++ t)))
          ≡ all_but_last (cond b ([] ∷ parts x s) (prefix (y ∷ []) (parts x s))) ++ prefix (last_of (cond b ([] ∷ parts x s) (prefix (y ∷ []) (parts x s)))) (parts x t)
      step true p ps r rs e f ih = rw (ih, e)
      step false p [] r rs e f ih = rw (ih, e, f)
      step false p (q ∷ ps) r rs e f ih = rw (ih, e)

  -- a line and the octet that ends it
  pub parts_ended : (s : List ℕ) → index_of x s < length s → parts x (take (suc (index_of x s)) s) ≡ take (index_of x s) s ∷ [] ∷ []
  unfolding parts index_of index_after
  parts_ended [] h = absurd (omega arith)
  parts_ended (y ∷ s) h = step (eqb y x) refl (parts_ended s) h
    where
      step : (b : Bool) → eqb y x ≡ b → (index_of x s < length s → parts x (take (suc (index_of x s)) s) ≡ take (index_of x s) s ∷ [] ∷ []) → index_after b (index_of x s) < suc (length s)
          → parts x (take (suc (index_after b (index_of x s))) (y ∷ s)) ≡ take (index_after b (index_of x s)) (y ∷ s) ∷ [] ∷ []
      step true e ih h = rw e
      step false e ih h = rw (e, ih (omega arith))
