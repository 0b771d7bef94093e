-- However a text comes in pieces, the output is that to the whole: the line that has not ended goes on in the next piece.
use Rattle.std.proofs.Common.{◌≡◌, ℕ, suc, ◌≤◌, List, [], ◌∷◌, ◌++◌, length, take, sym, refl, ap, ◌∙◌, ap₂, append_assoc, append-nil, arith, take_all, take-take}
use Rattle.book.specs.Limits.{most_line, most_kept}
use Rattle.book.specs.declared.Book.{Book}
use Rattle.book.specs.Text.{line_feed, prefix, parts, all_but_last, last_of, unended, lines}
use Rattle.book.specs.Book.{new_book, book_says, book_next}
use Rattle.book.specs.Pieces.{says, after, book_output, cut, ended, left, fed_output, joined, AnyPieces}
use Rattle.book.proofs.Parts.{parts_some, parts_append}
use Rattle.book.proofs.Held.{cut_append, same_says, same_next}

pub says_append : (ks ls : List (List ℕ)) (b : Book) → says b (ks ++ ls) ≡ says b ks ++ says (after b ks) ls
unfolding says after
says_append [] ls b = refl
says_append (k ∷ ks) ls b = rw (says_append ks ls (book_next b k)) (sym (append_assoc (book_says b k) (says (book_next b k) ks) (says (after (book_next b k) ks) ls)))

pub after_append : (ks ls : List (List ℕ)) (b : Book) → after b (ks ++ ls) ≡ after (after b ks) ls
unfolding after
after_append [] ls b = refl
after_append (k ∷ ks) ls b = after_append ks ls (book_next b k)

-- a line in front of two pieces
module _ (p s t : List ℕ) where
  both : prefix p (parts line_feed (s ++ t)) ≡ ended p s ++ prefix (left p s) (parts line_feed t)
  both =
      let q = parts_some line_feed s in
      let r = parts_some line_feed t in
      rw (parts_append line_feed s t, q.1.1, r.1.1) (go q.0 q.1.0 r.0 r.1.0)
    where
      go : (q : List ℕ) (qs : List (List ℕ)) (r : List ℕ) (rs : List (List ℕ))
          → prefix p (all_but_last (q ∷ qs) ++ prefix (last_of (q ∷ qs)) (r ∷ rs)) ≡ all_but_last ((p ++ q) ∷ qs) ++ prefix (last_of ((p ++ q) ∷ qs)) (r ∷ rs)
      go q [] r rs = ap (λ (l : List ℕ). l ∷ rs) (sym (append_assoc p q r))
      go q (q' ∷ qs) r rs = refl

  pub ended_append : ended p (s ++ t) ≡ ended p s ++ ended (left p s) t
  ended_append =
      let r = parts_some line_feed t in
      ap all_but_last both ∙ rw r.1.1 (go (ended p s) (left p s ++ r.0) r.1.0)
    where
      go : (xs : List (List ℕ)) (y : List ℕ) (ys : List (List ℕ)) → all_but_last (xs ++ (y ∷ ys)) ≡ xs ++ all_but_last (y ∷ ys)
      go [] y ys = refl
      go (x ∷ []) y ys = refl
      go (x ∷ x' ∷ xs) y ys = ap (λ (l : List (List ℕ)). x ∷ l) (go (x' ∷ xs) y ys)

  pub left_append : left p (s ++ t) ≡ left (left p s) t
  left_append =
      let r = parts_some line_feed t in
      ap last_of both ∙ rw r.1.1 (go (ended p s) (left p s ++ r.0) r.1.0)
    where
      go : (xs : List (List ℕ)) (y : List ℕ) (ys : List (List ℕ)) → last_of (xs ++ (y ∷ ys)) ≡ last_of (y ∷ ys)
      go [] y ys = refl
      go (x ∷ []) y ys = refl
      go (x ∷ x' ∷ xs) y ys = go (x' ∷ xs) y ys

-- what is beyond the cut of a line plays no part
module _ (p q : List ℕ) (e : cut p ≡ cut q) where
  pub says_cut : (b : Book) (t : List ℕ) → says b (ended p t) ≡ says b (ended q t)
  unfolding says
  says_cut b t = let r = parts_some line_feed t in rw r.1.1 (go r.0 r.1.0)
    where
      go : (s : List ℕ) (ss : List (List ℕ)) → says b (all_but_last ((p ++ s) ∷ ss)) ≡ says b (all_but_last ((q ++ s) ∷ ss))
      go s [] = refl
      go s (s' ∷ ss) =
          ap₂ (λ (x : List ℕ) (b' : Book). x ++ says b' (all_but_last (s' ∷ ss))) (same_says b (p ++ s) (q ++ s) (cut_append p q s e)) (same_next b (p ++ s) (q ++ s) (cut_append p q s e))

  pub after_cut : (b : Book) (t : List ℕ) → after b (ended p t) ≡ after b (ended q t)
  unfolding after
  after_cut b t = let r = parts_some line_feed t in rw r.1.1 (go r.0 r.1.0)
    where
      go : (s : List ℕ) (ss : List (List ℕ)) → after b (all_but_last ((p ++ s) ∷ ss)) ≡ after b (all_but_last ((q ++ s) ∷ ss))
      go s [] = refl
      go s (s' ∷ ss) = ap (λ (b' : Book). after b' (all_but_last (s' ∷ ss))) (same_next b (p ++ s) (q ++ s) (cut_append p q s e))

  pub left_cut : (t : List ℕ) → cut (left p t) ≡ cut (left q t)
  left_cut t = let r = parts_some line_feed t in rw r.1.1 (go r.0 r.1.0)
    where
      go : (s : List ℕ) (ss : List (List ℕ)) → cut (last_of ((p ++ s) ∷ ss)) ≡ cut (last_of ((q ++ s) ∷ ss))
      go s [] = cut_append p q s e
      go s (s' ∷ ss) = refl

-- before any piece
pub before_any : (b : Book) (p : List ℕ) → length p ≤ most_kept → (b ≡ after b (ended p [])) × (p ≡ cut (left p []))
unfolding after parts
before_any b p l = (refl, sym (ap cut (append-nil p) ∙ take_all most_kept p l))

-- a piece, and another after it
pub another : (b : Book) (p t : List ℕ) (b₁ : Book) (q u : List ℕ) → b₁ ≡ after b (ended p t) → q ≡ cut (left p t)
    → (after b₁ (ended q u) ≡ after b (ended p (t ++ u))) × (cut (left q u) ≡ cut (left p (t ++ u)))
another b p t b₁ q u be qe =
    let e : cut q ≡ cut (left p t) = ap cut qe ∙ take-take most_kept most_kept (left p t) (omega arith) in (
      ap (λ (x : Book). after x (ended q u)) be ∙ after_cut q (left p t) e (after b (ended p t)) u
          ∙ sym (ap (after b) (ended_append p t u) ∙ after_append (ended p t) (ended (left p t) u) b),
      left_cut q (left p t) e u ∙ ap cut (sym (left_append p t u)),
    )

-- a line feed ends a line as the end of the text does, unless the line is empty
pub line_feed_lem : (b : Book) (p : List ℕ) → (length p ≡ 0 → ⊥) → says b (ended p (line_feed ∷ [])) ≡ says b (unended p)
unfolding parts
line_feed_lem b [] h = absurd (h refl)
line_feed_lem b (x ∷ p) h = ap (λ (l : List ℕ). says b ((x ∷ l) ∷ [])) (append-nil p)

-- two last lines of which the book says the same, and of which neither or both are empty
last_said : (b : Book) (p q : List ℕ) (n : ℕ) → take (suc n) p ≡ take (suc n) q → book_says b p ≡ book_says b q → says b (unended p) ≡ says b (unended q)
unfolding says
last_said b [] [] n e h = refl
last_said b [] (y ∷ q) n e h = absurd (omega (arith, ap length e))
last_said b (x ∷ p) [] n e h = absurd (omega (arith, ap length e))
last_said b (x ∷ p) (y ∷ q) n e h = ap (λ (l : List ℕ). l ++ []) h

last_cut : (b : Book) (p q : List ℕ) → cut p ≡ cut q → says b (unended p) ≡ says b (unended q)
last_cut b p q e = last_said b p q most_line e (same_says b p q e)

from_any : (ts : List (List ℕ)) (b : Book) (p q : List ℕ) → cut p ≡ cut q → fed_output b p ts ≡ says b (ended q (joined ts) ++ unended (left q (joined ts)))
unfolding fed_output parts
from_any [] b p q e = last_cut b p q e ∙ ap (λ (l : List ℕ). says b (unended l)) (sym (append-nil q))
from_any (t ∷ ts) b p q e =
    let rest = ended (left q t) (joined ts) ++ unended (left (left q t) (joined ts)) in
    ap₂ (λ (x : List ℕ) (b' : Book). x ++ fed_output b' (cut (left p t)) ts) (says_cut p q e b t) (after_cut p q e b t)
    ∙ ap (λ (x : List ℕ). says b (ended q t) ++ x)
    (from_any ts (after b (ended q t)) (cut (left p t)) (left q t) (take-take most_kept most_kept (left p t) (omega arith) ∙ left_cut p q e t))
    ∙ sym (says_append (ended q t) rest b)
    ∙ ap (says b) (sym (append_assoc (ended q t) (ended (left q t) (joined ts)) (unended (left (left q t) (joined ts))))
    ∙ ap₂ (λ (x : List (List ℕ)) (y : List ℕ). x ++ unended y) (sym (ended_append q t (joined ts))) (sym (left_append q t (joined ts))))

pub any_pieces : AnyPieces
unfolding book_output lines
any_pieces ts =
    let r = parts_some line_feed (joined ts) in
    from_any ts new_book [] [] refl ∙ rw r.1.1
