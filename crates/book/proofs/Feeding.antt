-- What holds between two lines of a piece, and what one more line of it, or the rest of it, makes of that.
use Rattle.std.proofs.Common.{◌≡◌, ℕ, suc, ◌+◌, ◌-◌, ◌<◌, ◌≤◌, List, [], ◌∷◌, ◌++◌, length, take, drop, sym, ap, ◌∙◌, ap₂, ⊎_elim, append-nil, zero-add, add-one, arith, length-append, length-drop, length-take-le, take-append-drop, take-take, take-add}
use lib.Seq.{take-length}
use Rattle.octets.proofs.Orders.{le_or_lt}
use Rattle.octets.specs.Search.{index_of}
use Rattle.book.specs.Limits.{most_kept, most_answer}
use Rattle.book.specs.declared.Book.{Book}
use Rattle.book.specs.declared.put.Page.{Page}
use Rattle.book.specs.Put.{put}
use Rattle.book.specs.Text.{line_feed, parts}
use Rattle.book.specs.Book.{book_says, book_next}
use Rattle.book.specs.Pieces.{says, after, cut, ended, left, Gave, Enough}
use Rattle.book.proofs.Held.{cut_append, same_says, same_next}
use Rattle.book.proofs.Parts.{parts_none, parts_ended}
use Rattle.book.proofs.Puts.{put_nothing, put_put, put_within}
use Rattle.book.proofs.Whole.{says_append, after_append, ended_append, left_append, before_any}
use Rattle.book.proofs.Answered.{Left}

module _ (b : Book) (p piece out : List ℕ) where
  pub record Here (line : List ℕ) (book : Book) (h at : ℕ) (page : Page) : Type 0 where
    pub small : h ≤ most_kept
    pub place : at ≤ length piece
    pub out_size : length page.room.now ≡ length out
    pub room : page.end ≤ length out
    pub gave : Gave b p (take at piece) out book (take h line) page.room.now page.end

  -- before the first line
  pub start : (line : List ℕ) (h : ℕ) → length line ≡ most_kept → h ≤ most_kept → p ≡ take h line → (page : Page) → page.room.now ≡ out → page.end ≡ 0 → Here line b h 0 page
  unfolding says parts
  start line h z l e page is none =
      let before = before_any b p (omega (arith, ap length e, length-take-le h line (omega arith))) in
      record {
        small = l;
        place = omega arith;
        out_size = ap length is;
        room = omega arith;
        gave = record {
          book_is = before.0;
          line_is = sym e ∙ before.1;
          room_is = is ∙ sym (put_nothing 0 out);
          written_is = none;
        };
      }

  module _ (line : List ℕ) (book : Book) (h at : ℕ) (page : Page) (here : Here line book h at page) where
    abbrev t : List ℕ
    t = take at piece

    abbrev l : List ℕ
    l = left p t

    abbrev s : List ℕ
    s = drop at piece

    -- what is then kept of the line, r being the rest of the piece
    module _ (r : List ℕ) (is : r ≡ drop at piece) (line₂ : List ℕ) (h₂ : ℕ) where
      kept_is : (x : List ℕ) → take h₂ line₂ ≡ cut (take h line ++ x) → take h₂ line₂ ≡ cut (l ++ x)
      kept_is x kept = kept ∙ cut_append (take h line) l x (ap cut here.gave.line_is ∙ take-take most_kept most_kept l (omega arith))

      -- there is no line feed: the rest of the piece goes on with the line
      pub rest : index_of line_feed r ≡ length r → h₂ ≤ most_kept → take h₂ line₂ ≡ cut (take h line ++ r) → Here line₂ book h₂ (length piece) page
      unfolding says after
      rest e l₂ kept =
          let one : parts line_feed s ≡ s ∷ [] = rw (← is) (parts_none line_feed r (omega arith)) in
          let two : take (length piece) piece ≡ t ++ s = take-length piece ∙ sym (take-append-drop at piece) in
          let lines : ended p (take (length piece) piece) ≡ ended p t = ap (ended p) two ∙ ended_append p t s ∙ rw one (append-nil (ended p t)) in
          let line-left : left p (take (length piece) piece) ≡ l ++ s = ap (left p) two ∙ left_append p t s ∙ rw one in
          record {
            small = l₂;
            place = omega arith;
            out_size = here.out_size;
            room = here.room;
            gave = record {
              book_is = here.gave.book_is ∙ ap (after b) (sym lines);
              line_is = kept_is r kept ∙ ap (λ (x : List ℕ). cut (l ++ x)) is ∙ ap cut (sym line-left);
              room_is = here.gave.room_is ∙ ap (λ (x : List (List ℕ)). put 0 (says b x) out) (sym lines);
              written_is = here.gave.written_is ∙ ap (λ (x : List (List ℕ)). length (says b x)) (sym lines);
            };
          }

      -- a line feed after n octets: the line is answered
      pub more : (n : ℕ) → (index_of line_feed r ≡ n) × (n < length r) → take h₂ line₂ ≡ cut (take h line ++ take n r)
          → (book₂ : Book) (page₂ : Page) → Left book (take h₂ line₂) page book₂ page₂ → Here line₂ book₂ 0 (at + (n + 1)) page₂
      unfolding says after
      more n found kept book₂ page₂ e =
          let sizes : length r ≡ length piece - at = ap length is ∙ length-drop at piece in
          let size : index_of line_feed s < length s = rw (← is) (omega (arith, found)) in
          let at₂ : ℕ = at + (n + 1) in
          let first : take (suc (index_of line_feed s)) s ≡ take (n + 1) s = rw (← is, found.0, add-one) in
          let two : take at₂ piece ≡ t ++ take (suc (index_of line_feed s)) s = take-add at (n + 1) piece ∙ ap (λ (x : List ℕ). t ++ x) (sym first) in
          let one = parts_ended line_feed s size in
          let line-left : left p (take at₂ piece) ≡ [] = ap (left p) two ∙ left_append p t (take (suc (index_of line_feed s)) s) ∙ rw one in
          let x : List ℕ = l ++ take (index_of line_feed s) s in
          let x_is : l ++ take n r ≡ x = rw (← is, found.0) in
          let lines : ended p (take at₂ piece) ≡ ended p t ++ (x ∷ []) = ap (ended p) two ∙ ended_append p t (take (suc (index_of line_feed s)) s) ∙ rw one in
          let same : cut (take h₂ line₂) ≡ cut x = ap cut (kept_is (take n r) kept ∙ ap cut x_is) ∙ take-take most_kept most_kept x (omega arith) in
          let b₁ = after b (ended p t) in
          let book_is = here.gave.book_is in
          let said : book_says book (take h₂ line₂) ≡ book_says b₁ x = ap (λ (y : Book). book_says y (take h₂ line₂)) book_is ∙ same_says b₁ (take h₂ line₂) x same in
          let all : says b (ended p (take at₂ piece)) ≡ says b (ended p t) ++ book_says b₁ x
          = ap (says b) lines ∙ says_append (ended p t) (x ∷ []) b ∙ ap (λ (y : List ℕ). says b (ended p t) ++ y) (append-nil (book_says b₁ x)) in
          let w-is = here.gave.written_is in
          let fits : page.end + length (book_says book (take h₂ line₂)) ≤ length page.room.now = put_within page.end (book_says book (take h₂ line₂)) page.room.now (omega (arith, here.room, here.out_size)) (ap length (sym e.1.is) ∙ e.1.size) in
          record {
            small = omega arith;
            place = omega (arith, found);
            out_size = e.1.size ∙ here.out_size;
            room = omega (arith, e.1.ends, here.out_size);
            gave = record {
              book_is = e.0 ∙ ap (λ (y : Book). book_next y (take h₂ line₂)) book_is ∙ same_next b₁ (take h₂ line₂) x same ∙ sym (ap (after b) lines ∙ after_append (ended p t) (x ∷ []) b);
              line_is = sym (ap cut line-left);
              room_is =
                  e.1.is ∙ ap₂ (λ (i : ℕ) (y : List ℕ). put i (book_says book (take h₂ line₂)) y) (w-is ∙ sym (zero-add (length (says b (ended p t))))) here.gave.room_is
                  ∙ put_put out 0 (says b (ended p t)) (omega (arith, here.room)) (book_says book (take h₂ line₂))
                  ∙ ap (λ (y : List ℕ). put 0 y out) (ap (λ (y : List ℕ). says b (ended p t) ++ y) said ∙ sym all);
              written_is = e.1.ends ∙ ap₂ (λ (i : ℕ) (y : List ℕ). i + length y) w-is said ∙ sym (ap length all ∙ length-append (says b (ended p t)) (book_says b₁ x));
            };
          }

    -- something was taken, or there was too little room from the start
    none_yet : at ≡ 0 → page.end ≡ 0
    unfolding says parts
    none_yet e = here.gave.written_is ∙ ap (λ (k : ℕ). length (says b (ended p (take k piece)))) e

    pub short : length out - page.end < most_answer → Enough (length piece) at (length out) page.end
    short less =
        record {
          within = here.place;
          fits = here.room;
          whole = λ q. omega (arith, here.room);
          some = λ q r. ⊎_elim (λ k. k) (λ k. absurd (omega (arith, none_yet (omega arith)))) (le_or_lt 1 at);
        }

  pub all_taken : (taken w : ℕ) → taken ≡ length piece → w ≤ length out → Enough (length piece) taken (length out) w
  all_taken taken w e l = record { within = omega arith; fits = l; whole = λ q. absurd (omega arith); some = λ q r. omega arith }
