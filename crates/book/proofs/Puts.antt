-- Text in a room is what a run of stores leaves; text behind it lengthens it, and its last octet can be stored first.
use Rattle.std.proofs.Common.{◌≡◌, ℕ, suc, ◌+◌, ◌<◌, ◌≤◌, List, [], ◌∷◌, ◌++◌, length, take, drop, set, sym, refl, ap, ◌∙◌, ap₂, subst, add-zero, append_assoc, append-nil, arith, length-append, length-set, drop_of_length-le, length-take-le, take-append-drop, drop-cons, get_or-set_same, drop-drop, take_at, drop-set-lt, drop_at}
use lib.Seq.{sets, sets-eq, append_snoc, take-set-le}
use Rattle.book.specs.declared.put.Page.{Page}
use Rattle.book.specs.Put.{put, HasRoom, Writes}

pub stored : (at : ℕ) (text room : List ℕ) → at + length text ≤ length room → sets room at text ≡ put at text room
stored at text room h = sets-eq text room at h ∙ append_assoc (take at room) text (drop (at + length text) room)

pub put_last : (at : ℕ) (text room : List ℕ) (x : ℕ) → at + length text < length room
    → put at text (set room (at + length text) x) ≡ put at (text ++ (x ∷ [])) room
put_last at text room x h =
    let e = at + length text in
    let d : drop e (set room e x) ≡ x ∷ drop (suc e) room =
    drop-cons (set room e x) e 0 (rw length-set h) ∙ rw (get_or-set_same room e x 0 h, drop-set-lt (suc e) room e x (omega arith)) in
    let n : at + length (text ++ (x ∷ [])) ≡ suc e = omega (arith, length-append text (x ∷ [])) in
    rw (take-set-le at room e x (omega arith), d, n) (ap (λ l. take at room ++ l) (sym (append_snoc text x (drop (suc e) room))))

-- text that fills the room
pub put_all : (text room : List ℕ) → length room ≡ length text → put 0 text room ≡ text
put_all text room e = ap (λ (l : List ℕ). text ++ l) (drop_of_length-le room {i = 0 + length text} (omega arith)) ∙ append-nil text

module _ (o : List ℕ) (at : ℕ) (a : List ℕ) (l : at + length a ≤ length o) where
  abbrev front : List ℕ
  front = take at o ++ a

  front_size : length front ≡ at + length a
  front_size = length-append (take at o) a ∙ ap (λ (n : ℕ). n + length a) (length-take-le at o (omega arith))

  shape : put at a o ≡ front ++ drop (at + length a) o
  shape = sym (append_assoc (take at o) a (drop (at + length a) o))

  pub take_put : take (at + length a) (put at a o) ≡ take at o ++ a
  take_put = ap (take (at + length a)) shape ∙ take_at front (drop (at + length a) o) (at + length a) front_size

  -- two texts, one after the other
  pub put_put : (b : List ℕ) → put (at + length a) b (put at a o) ≡ put at (a ++ b) o
  put_put b =
      let place : at + length a + length b ≡ at + length (a ++ b) = omega (arith, length-append a b) in
      let n = at + length a in
      let rest : drop (n + length b) (put at a o) ≡ drop (at + length (a ++ b)) o
      = sym (drop-drop (length b) n (put at a o))
      ∙ ap (drop (length b)) (ap (drop n) shape ∙ drop_at front (drop n o) n front_size)
      ∙ drop-drop (length b) n o ∙ ap (λ (k : ℕ). drop k o) place in
      ap₂ (λ (x y : List ℕ). x ++ (b ++ y)) take_put rest
      ∙ append_assoc (take at o) a (b ++ drop (at + length (a ++ b)) o)
      ∙ ap (λ (x : List ℕ). take at o ++ x) (sym (append_assoc a b (drop (at + length (a ++ b)) o)))

-- text that leaves the room its length is within it
pub put_within : (at : ℕ) (text o : List ℕ) → at ≤ length o → length (put at text o) ≡ length o → at + length text ≤ length o
put_within at text o l e =
    omega (arith, length-append (take at o) (text ++ drop (at + length text) o), length-append text (drop (at + length text) o), length-take-le at o l)

-- nothing written
pub put_nothing : (at : ℕ) (o : List ℕ) → put at [] o ≡ o
put_nothing at o = rw (add-zero at) (take-append-drop at o)

pub writes_none : (p : Page) → Writes p [] p
writes_none p = record { same_room = refl; size = refl; ends = sym (add-zero p.end); is = sym (put_nothing p.end p.room.now) }

-- more text behind a text
pub writes_more : (p q r : Page) (a b : List ℕ) → HasRoom p (length a) → Writes p a q → Writes q b r → Writes p (a ++ b) r
writes_more p q r a b l v w =
    record {
      same_room = w.same_room ∙ v.same_room;
      size = w.size ∙ v.size;
      ends = omega (arith, v.ends, w.ends, length-append a b);
      is = w.is ∙ ap₂ (λ (x : ℕ) (y : List ℕ). put x b y) v.ends v.is ∙ put_put p.room.now p.end a l b;
    }

-- what is said of a text is said of one that is the same
pub writes_as : (p q : Page) (t u : List ℕ) → t ≡ u → Writes p t q → Writes p u q
writes_as p q t u e w = subst (λ (x : List ℕ). Writes p x q) e w
