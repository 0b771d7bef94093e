-- What is kept of a line tells all that the book says of it.
use Rattle.std.proofs.Common.{◌≡◌, ℕ, ◌+◌, ◌-◌, ◌<◌, ◌≤◌, min, List, [], ◌∷◌, ◌++◌, length, take, sym, refl, ap, ◌∙◌, ap₂, ⊎_elim, arith, length-append, length-take-le, take_all, take-take, lt-ltb}
use lib.Seq.{take-append-le, take-append-add}
use Rattle.octets.proofs.Orders.{le_or_lt}
use Rattle.book.specs.Limits.{most_kept, most_line}
use Rattle.book.specs.declared.Book.{Book}
use Rattle.book.specs.Put.{put}
use Rattle.book.specs.Text.{unended}
use Rattle.book.specs.Line.{fields}
use Rattle.book.specs.Book.{says_at, next_at, book_says, book_next}
use Rattle.book.specs.Pieces.{says, cut}
use Rattle.book.proofs.Puts.{take_put}

cut_size : (l : List ℕ) → most_kept < length l → length (cut l) ≡ most_kept
cut_size l h = length-take-le most_kept l (omega arith)

cut_cut : (p s : List ℕ) → cut (cut p ++ s) ≡ cut (p ++ s)
cut_cut p s =
    ⊎_elim
    (λ h. ap (λ (q : List ℕ). cut (q ++ s)) (take_all most_kept p h))
    (λ h. take-append-le most_kept (cut p) s (omega (arith, cut_size p h)) ∙ take-take most_kept most_kept p (omega arith) ∙ sym (take-append-le most_kept p s (omega arith)))
    (le_or_lt (length p) most_kept)

pub cut_append : (p q s : List ℕ) → cut p ≡ cut q → cut (p ++ s) ≡ cut (q ++ s)
cut_append p q s e = sym (cut_cut p s) ∙ ap (λ (r : List ℕ). cut (r ++ s)) e ∙ cut_cut q s

fields_cut : (l : List ℕ) → fields (cut l) ≡ fields l
unfolding fields
fields_cut l =
    ⊎_elim
    (λ h. ap fields (take_all most_kept l h))
    (λ h. rw (lt-ltb most_line (length (cut l)) (omega (arith, cut_size l h)), lt-ltb most_line (length l) (omega arith)))
    (le_or_lt (length l) most_kept)

pub same_fields : (l m : List ℕ) → cut l ≡ cut m → fields l ≡ fields m
same_fields l m e = sym (fields_cut l) ∙ ap fields e ∙ fields_cut m

pub same_says : (b : Book) (l m : List ℕ) → cut l ≡ cut m → book_says b l ≡ book_says b m
unfolding book_says
same_says b l m e = ap (says_at b.stage b) (same_fields l m e)

pub same_next : (b : Book) (l m : List ℕ) → cut l ≡ cut m → book_next b l ≡ book_next b m
unfolding book_next
same_next b l m e = ap (next_at b.stage b) (same_fields l m e)

-- n octets of x are kept behind p: all of them, or as many as there is room for
cut_room : (p x : List ℕ) (n : ℕ) → n ≡ min (length x) (most_kept - length p) → length p ≤ most_kept → p ++ take n x ≡ cut (p ++ x)
cut_room p x n e l =
    ⊎_elim
    (λ h. ap (λ (q : List ℕ). p ++ q) (take_all n x (omega arith)) ∙ sym (take_all most_kept (p ++ x) (omega (arith, length-append p x))))
    (λ h. let full : length p + n ≡ most_kept = omega arith in sym (take-append-add p x n) ∙ ap (λ (k : ℕ). take k (p ++ x)) full)
    (le_or_lt (length p + length x) most_kept)

pub kept_cut : (line x : List ℕ) (kept n : ℕ) → length line ≡ most_kept → kept ≤ most_kept → n ≡ min (length x) (most_kept - kept)
    → (end : ℕ) (line' : List ℕ) → end ≡ kept + length (take n x) → line' ≡ put kept (take n x) line → take end line' ≡ cut (take kept line ++ x)
kept_cut line x kept n z l h end line' e p =
    let size : length (take n x) ≡ n = length-take-le n x (omega arith) in
    let front : length (take kept line) ≡ kept = length-take-le kept line (omega arith) in
    ap₂ (λ (i : ℕ) (y : List ℕ). take i y) e p ∙ take_put line kept (take n x) (omega arith) ∙ cut_room (take kept line) x n (omega arith) (omega arith)

-- a length of most_kept or more keeps all of a line
pub kept_held : (line : List ℕ) (n k : ℕ) → length line ≡ most_kept → k ≡ min n most_kept → take k line ≡ take n line
kept_held line n k z h =
    ⊎_elim
    (λ l. let all : k ≡ n = omega arith in ap (λ (i : ℕ). take i line) all)
    (λ l. take_all k line (omega arith) ∙ sym (take_all n line (omega arith)))
    (le_or_lt n most_kept)

pub none_said : (b : Book) (l : List ℕ) → length l ≡ 0 → says b (unended l) ≡ []
unfolding says
none_said b [] h = refl
none_said b (x ∷ l) h = absurd (omega arith)
