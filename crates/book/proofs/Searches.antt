-- The first x of a text in two parts is in the first of them, or it is the first one of the second.
use Rattle.std.proofs.Common.{◌≡◌, ◌==◌, ℕ, suc, ◌+◌, ◌<◌, ◌≤◌, Bool, true, false, cond, ◌||◌, eqb, ltb, List, [], ◌∷◌, ◌++◌, length, get_or, take, drop, Some, None, position, sym, refl, ap, ◌∙◌, add-one, arith, length-drop, take-append-drop, length-take-le, take-suc, drop-drop, lt-ltb, le-ltb}
use Rattle.std.proofs.lemmas.List.Recursion.{is_position_or_len}
use Rattle.std.specs.List.{position_or_len}
use lib.Dec.{leb-suc-suc}
use Rattle.octets.specs.Search.{index_after, index_of}

module _ (x : ℕ) where
  -- whether x is among the octets
  abbrev pub among : List ℕ → Bool
  among s = ltb (index_of x s) (length s)

  among_last : (p : List ℕ) (y : ℕ) → among (p ++ (y ∷ [])) ≡ among p || eqb y x
  unfolding index_of index_after
  among_last [] y = step (eqb y x)
    where
      step : (b : Bool) → ltb (index_after b 0) 1 ≡ b
      step true = refl
      step false = refl
  among_last (z ∷ p) y = step (eqb z x) (among_last p y)
    where
      step : (b : Bool) → among (p ++ (y ∷ [])) ≡ among p || eqb y x
          → ltb (index_after b (index_of x (p ++ (y ∷ [])))) (suc (length (p ++ (y ∷ [])))) ≡ ltb (index_after b (index_of x p)) (suc (length p)) || eqb y x
      step true ih = rw (lt-ltb 0 (suc (length (p ++ (y ∷ [])))) (omega arith), lt-ltb 0 (suc (length p)) (omega arith))
      step false ih = rw (leb-suc-suc, leb-suc-suc) ih

  pub among_turn : (s : List ℕ) (i : ℕ) → i < length s → among (take (i + 1) s) ≡ among (take i s) || eqb (get_or s i 0) x
  among_turn s i h = rw (add-one i, take-suc s i 0 h) (among_last (take i s) (get_or s i 0))

  in_first : (p q : List ℕ) → index_of x p < length p → index_of x (p ++ q) ≡ index_of x p
  unfolding index_of index_after
  in_first [] q h = absurd (omega arith)
  in_first (y ∷ p) q h = step (eqb y x) (in_first p q) h
    where
      step : (b : Bool) → (index_of x p < length p → index_of x (p ++ q) ≡ index_of x p) → index_after b (index_of x p) < suc (length p) → index_after b (index_of x (p ++ q)) ≡ index_after b (index_of x p)
      step true ih h = refl
      step false ih h = ap suc (ih (omega arith))

  in_second : (p q : List ℕ) → length p ≤ index_of x p → index_of x (p ++ q) ≡ length p + index_of x q
  unfolding index_of index_after
  in_second [] q h = omega arith
  in_second (y ∷ p) q h = step (eqb y x) (in_second p q) h
    where
      step : (b : Bool) → (length p ≤ index_of x p → index_of x (p ++ q) ≡ length p + index_of x q) → suc (length p) ≤ index_after b (index_of x p) → index_after b (index_of x (p ++ q)) ≡ suc (length p) + index_of x q
      step true ih h = absurd (omega arith)
      step false ih h = omega (arith, ih (omega arith))

  -- n octets from a place on
  module _ (s : List ℕ) (at n : ℕ) (l : at + n ≤ length s) where
    abbrev part : List ℕ
    part = take n (drop at s)

    size : length part ≡ n
    size = length-take-le n (drop at s) (omega (arith, length-drop at s))

    parts : drop at s ≡ part ++ drop (at + n) s
    parts = sym (take-append-drop n (drop at s)) ∙ ap (λ t. part ++ t) (drop-drop n at s)

    pub here : (i : ℕ) → (index_of x part ≡ i) × (i < length part) → index_of x (drop at s) ≡ i
    here i e = ap (index_of x) parts ∙ in_first part (drop (at + n) s) (omega (arith, e)) ∙ e.0

    pub beyond : length part ≤ index_of x part → index_of x (drop at s) ≡ n + index_of x (drop (at + n) s)
    beyond e = omega (arith, size, ap (index_of x) parts ∙ in_second part (drop (at + n) s) e)

  after : (b : Bool) (n : ℕ) → index_after b n ≡ cond b 0 (1 + n)
  unfolding index_after
  after true n = refl
  after false n = omega arith

  -- the place as `position` says it
  module _ (s : List ℕ) where
    index_is : index_of x s ≡ position_or_len (λ y. y == x) s
    unfolding index_of
    index_is = is_position_or_len (index_of x) (λ y. y == x) refl (λ y t. after (y == x) (index_of x t)) s

    answer_is : position (λ y. y == x) s ≡ cond (ltb (index_of x s) (length s)) (Some (index_of x s)) None
    answer_is = rw index_is

    pub answer : (i : ℕ) → index_of x s ≡ i → i < length s → Some i ≡ position (λ y. y == x) s
    answer i e h = sym (answer_is ∙ rw (e, lt-ltb i (length s) h))

    pub nothing : index_of x s ≡ length s → None ≡ position (λ y. y == x) s
    nothing e = sym (answer_is ∙ rw (e, le-ltb (length s) (length s) (omega arith)))
