-- What a book's answer takes from sealing and opening: room that is enough is as good as any other.
use Rattle.std.proofs.Common.{◌≡◌, ℕ, ◌+◌, ◌≤◌, true, false, List, [], ◌∷◌, ◌++◌, length, take, sym, refl, ap, ◌∙◌, ap₂, arith}
use Rattle.std.specs.Prelude.{Result, Ok, Err, MatchResult}
use lib.ListN.{length-replicate}
use Rattle.rules.specs.Mode.{added}
use Rattle.rules.specs.Limits.{small_window}
use Rattle.rules.specs.Records.{fresh_sender, fresh_receiver}
use Rattle.rules.specs.Answers.{Answer, Done, Refused, told, answer_number}
use Rattle.rules.specs.Sealing.{sealed_frame, seal_answer, seal_next, seal_output}
use Rattle.rules.specs.Opening.{opened_frame, open_answer, open_next, open_output}
use Rattle.rules.specs.Refusals.{answer_of}
use Rattle.rules.specs.declared.answer.Success.{Success}
use Rattle.rules.specs.declared.answer.Refusal.{Refusal}
use Rattle.rules.specs.declared.Sender.{Sender}
use Rattle.rules.specs.declared.Receiver.{Receiver}
use Rattle.rules.proofs.Passing.{told_apart, seal_done, open_done}
use Rattle.rules.proofs.Sealed.{written_is}
use Rattle.rules.proofs.Resealed.{opened_is}
use Rattle.rules.proofs.Rooms.{seal_room_lem, open_room_lem}
use Rattle.book.specs.declared.Book.{Book}
use Rattle.book.specs.declared.Stage.{Stage}
use Rattle.book.specs.declared.Stage.TheVariants.{Going, Ended}
use Rattle.book.specs.declared.line.Keys.{Keys}
use Rattle.book.specs.declared.put.Page.{Page}
use Rattle.book.specs.Put.{Writes}
use Rattle.book.proofs.Puts.{writes_none, writes_as}
use Rattle.book.specs.Hex.{hex_of}
use Rattle.book.specs.Decimal.{decimal}
use Rattle.book.specs.Text.{tab, line_feed}
use Rattle.book.specs.Line.{fields, seal_word, open_word, is_key_line, asked, Asked, malformed, sealing, opening}
use Rattle.book.specs.Book.{line_number, room_for, shown, answer_line, bad_line, seal_line, open_line, answer_to, after_asked, begun, says_at, next_at, book_says, book_next}
use Rattle.book.specs.Handed.{Given, tabbed, as_answer, answer_text, octets_written}

-- line 1
module _ (b : Book) (fs : List (List ℕ)) where
  pub first_bad : is_key_line fs ≡ false → record { lines = line_number b; stage = Ended; sender = b.sender; receiver = b.receiver } ≡ begun b fs
  unfolding begun
  first_bad e = rw e

  pub first_good : is_key_line fs ≡ true → (k : Keys) → Given fs k → (s : Sender) (r : Receiver) → s ≡ fresh_sender k.key k.key_id k.own → r ≡ fresh_receiver k.key k.key_id k.peer small_window
      → record { lines = line_number b; stage = Going; sender = s; receiver = r } ≡ begun b fs
  unfolding begun
  first_good e k g s r se re = rw (e, se, re, g.key_is, g.key_id_is, g.own_is, g.peer_is)

-- an answer is handed on by what of it a line shows
pub handed_on : (r : Result Success Refusal) (h : Result ℕ Refusal) → MatchResult r (λ d. h ≡ Ok d.octets) (λ x. h ≡ Err x)
    → (octets_written (as_answer h) ≡ octets_written (answer_of r)) × ((n : ℕ) (word output : List ℕ) → answer_text n word (as_answer h) output ≡ answer_text n word (answer_of r) output)
handed_on (Ok d) h e = rw e (refl, λ n word output. refl)
handed_on (Err x) h e = rw e (refl, λ n word output. refl)

-- an answer in two rooms that gives the same answer in both, and the same result where it is done
module _ (answer : List ℕ → Answer) (output : List ℕ → List ℕ) (result : ℕ → List ℕ) (is : (room : List ℕ) (n p k : ℕ) → answer room ≡ Done n p k → take k (output room) ≡ result n)
    (room room' : List ℕ) (same : answer room ≡ answer room') where
  shown_alike : shown (answer room) (output room) ≡ shown (answer room') (output room')
  shown_alike = go (answer room') refl
    where
      go : (a : Answer) → answer room' ≡ a → shown (answer room) (output room) ≡ shown (answer room') (output room')
      go (Done n p k) e = rw (same ∙ e, e) (ap hex_of (is room n p k (same ∙ e) ∙ sym (is room' n p k e)))
      go (Refused a) e = rw (same ∙ e, e)

  -- the line written with the one is the line written with the other
  pub line_alike : (n : ℕ) (word : List ℕ) (a : Answer) (out : List ℕ) → told a ≡ told (answer room) → out ≡ output room → answer_text n word a out ≡ answer_text n word (answer room') (output room')
  line_alike n word a out t o =
      let e = told_apart a (answer room) t in
      ap₂ (λ (x : ℕ) (y : List ℕ). decimal n ++ (word ++ (decimal x ++ (tab ∷ (y ++ (line_feed ∷ []))))))
      (ap answer_number (e ∙ same)) (ap₂ shown e o ∙ shown_alike)

-- sealing and opening in a room that is enough, as in the room for the frame
module _ (f room : List ℕ) where
  pub sealed_fits : (s : Sender) (a : Answer) → told a ≡ told (seal_answer s f room) → octets_written a ≤ length room
  sealed_fits s a t = go a (sym (told_apart a (seal_answer s f room) t))
    where
      go : (a : Answer) → seal_answer s f room ≡ a → octets_written a ≤ length room
      go (Done n p k) e = let d = seal_done s f room n p k e in omega arith
      go (Refused a) e = omega arith

  pub opened_fits : (r : Receiver) (a : Answer) → told a ≡ told (open_answer r f room) → octets_written a ≤ length room
  opened_fits r a t = go a (sym (told_apart a (open_answer r f room) t))
    where
      go : (a : Answer) → open_answer r f room ≡ a → octets_written a ≤ length room
      go (Done n p k) e = let d = open_done r f room n p k e in omega arith
      go (Refused a) e = omega arith

  module _ (fits : length f + added ≤ length room) where
    enough : length f + added ≤ length (room_for f)
    enough = omega (arith, length-replicate {A = ℕ} (length f + added) 0)

    pub seals_alike : (s : Sender) → seal_answer s f room ≡ seal_answer s f (room_for f)
    seals_alike s = seal_room_lem f room (room_for f) s fits enough

    pub opens_alike : (r : Receiver) → open_answer r f room ≡ open_answer r f (room_for f)
    opens_alike r = open_room_lem f room (room_for f) r (omega arith) (omega (arith, enough))

    -- the line that sealing writes, and the one that opening writes
    pub seal_line_lem : (n : ℕ) (s : Sender) (a : Answer) (result : List ℕ) → told a ≡ told (seal_answer s f room) → result ≡ seal_output s f room
        → answer_text n (tabbed seal_word) a result ≡ seal_line n s f
    unfolding seal_line answer_line
    seal_line_lem n s a result t o =
        line_alike (seal_answer s f) (seal_output s f) (λ m. sealed_frame s m f) (written_is s f) room (room_for f) (seals_alike s) n (tabbed seal_word) a result t o

    pub open_line_lem : (n : ℕ) (r : Receiver) (a : Answer) (result : List ℕ) → told a ≡ told (open_answer r f room) → result ≡ open_output r f room
        → answer_text n (tabbed open_word) a result ≡ open_line n r f
    unfolding open_line answer_line
    open_line_lem n r a result t o =
        line_alike (open_answer r f) (open_output r f) (λ m. opened_frame r f) (opened_is r f) room (room_for f) (opens_alike r) n (tabbed open_word) a result t o

-- what a line leaves: the book after it, and its answer on the page
abbrev pub Left : Book → List ℕ → Page → Book → Page → Type 0
Left b line p book q = (book ≡ book_next b line) × Writes p (book_says b line) q

-- what is said at a stage is said of the book
pub at_stage : (b book : Book) (stage : Stage) (line : List ℕ) (p q : Page) → b.stage ≡ stage
    → (book ≡ next_at stage b (fields line)) × Writes p (says_at stage b (fields line)) q → Left b line p book q
unfolding book_next book_says
at_stage b book stage line p q e h =
    (h.0 ∙ ap (λ (s : Stage). next_at s b (fields line)) (sym e), writes_as p q _ _ (ap (λ (s : Stage). says_at s b (fields line)) (sym e)) h.1)

pub nothing_left : (b : Book) (line : List ℕ) (p : Page) → b.stage ≡ Ended → Left b line p b p
nothing_left b line p e = at_stage b b Ended line p p e (refl, writes_none p)

-- a line after a good line 1 that asks x
module _ (b : Book) (line : List ℕ) (going : b.stage ≡ Going) (p q : Page) where
  as_asked : (x : Asked) → x ≡ asked (fields line) → (book : Book) → book ≡ after_asked b x → Writes p (answer_to b x) q → Left b line p book q
  as_asked x is book be w = at_stage b book Going line p q going (be ∙ ap (after_asked b) is, writes_as p q _ _ (ap (answer_to b) is) w)

  pub bad_left : malformed ≡ asked (fields line) → Writes p (bad_line (line_number b)) q
      → Left b line p (record { lines = line_number b; stage = b.stage; sender = b.sender; receiver = b.receiver }) q
  unfolding after_asked answer_to
  bad_left is w = as_asked malformed is _ (rw going) w

  pub sealed_left : (f : List ℕ) → sealing f ≡ asked (fields line) → (s : Sender) → s ≡ seal_next b.sender f (room_for f) → Writes p (seal_line (line_number b) b.sender f) q
      → Left b line p (record { lines = line_number b; stage = b.stage; sender = s; receiver = b.receiver }) q
  unfolding after_asked answer_to
  sealed_left f is s se w = as_asked (sealing f) is _ (rw (going, se)) w

  pub opened_left : (f : List ℕ) → opening f ≡ asked (fields line) → (r : Receiver) → r ≡ open_next b.receiver f (room_for f) → Writes p (open_line (line_number b) b.receiver f) q
      → Left b line p (record { lines = line_number b; stage = b.stage; sender = b.sender; receiver = r }) q
  unfolding after_asked answer_to
  opened_left f is r re w = as_asked (opening f) is _ (rw (going, re)) w
