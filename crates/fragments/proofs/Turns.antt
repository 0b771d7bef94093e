-- Fragment after fragment: the piece from `at` on is the next fragment, and what is sealed of it goes after what was written before.
use mathlib.Core.Path.{◌≡◌, refl, sym, ap, ap₂, ◌∙◌}
use mathlib.Core.Bool.{Bool, true, false}
use mathlib.Core.List.{List, [], ◌∷◌, ◌++◌, append_assoc, append-nil}
use mathlib.Core.Logic.{⊎_elim}
use Prim.Native.Nat.{ℕ, zero, suc, ◌+◌, ◌-◌, ◌*◌, ◌<◌, ◌≤◌, min}
use native.Mathlib.Nat.{add-zero}
use native.Mathlib.Numerals.{add-one}
use native.Mathlib.Omega.{arith}
use borrow.Author.Tests.{ltb-true, ltb-false}
use lib.Dec.{ltb}
use lib.ListN.{length, take, drop, get_or, length-append, length-take, length-drop, drop_of_length-le}
use lib.Seq.{take-suc, take_all, drop-drop, drop_at, take_at, length-take-le}
use Rattle.octets.proofs.Orders.{le_or_lt}
use Rattle.rules.specs.Header.{header_length, set_fragment, part}
use Rattle.rules.specs.Mode.{added}
use Rattle.rules.specs.Counts.{bit}
use Rattle.rules.specs.Records.{with_last}
use Rattle.rules.specs.Sealing.{sealed_frame}
use Rattle.rules.specs.Splitting.{message, pieces, more, fragments, sealed_frames, sealed_length, Splittable}
use Rattle.rules.specs.declared.Sender.{Sender}
use Rattle.rules.proofs.Fragmented.{set_size}
use Rattle.rules.proofs.Sealed.{sealed_size}
use Rattle.rules.proofs.Splits.{pieces_count, fragments_count, piece_at, fragment_at, piece_starts, more_left, more_ended, is_part, part_sealable}
use Rattle.fragments.specs.Cutting.{fragment_with, Puts}
use Rattle.fragments.proofs.Counting.{message_size}

-- frames sealed one after another, and the octets that they have, with one more at the end
frames_append : (s : Sender) (n : ℕ) (fs : List (List ℕ)) (g : List ℕ) → sealed_frames s n (fs ++ (g ∷ [])) ≡ sealed_frames s n fs ++ sealed_frame s (n + length fs) g
frames_append s n [] g = append-nil (sealed_frame s n g) ∙ ap (λ (k : ℕ). sealed_frame s k g) (sym (add-zero n))
frames_append s n (f ∷ fs) g =
    ap (λ (t : List ℕ). sealed_frame s n f ++ t)
    (frames_append s (n + 1) fs g ∙ ap (λ (k : ℕ). sealed_frames s (n + 1) fs ++ sealed_frame s k g) (let z : n + 1 + length fs ≡ n + suc (length fs) = omega arith in z))
    ∙ sym (append_assoc (sealed_frame s n f) (sealed_frames s (n + 1) fs) (sealed_frame s (n + suc (length fs)) g))

octets_append : (fs : List (List ℕ)) (g : List ℕ) → sealed_length (fs ++ (g ∷ [])) ≡ sealed_length fs + (length g + added)
octets_append [] g = omega arith
octets_append (f ∷ fs) g = omega (arith, octets_append fs g)

octets_front : (k : ℕ) (fs : List (List ℕ)) → sealed_length (take k fs) ≤ sealed_length fs
octets_front zero fs = omega arith
octets_front (suc k) [] = omega arith
octets_front (suc k) (f ∷ fs) = omega (arith, octets_front k fs)

-- a list taken to no more than its length
shorter : (xs : List ℕ) (n k : ℕ) → k ≡ min n (length xs) → take k xs ≡ take n xs
shorter xs n k e = ⊎_elim (λ l. ap (λ (i : ℕ). take i xs) (let z : k ≡ n = omega arith in z)) (λ l. take_all k xs (omega arith) ∙ sym (take_all n xs (omega arith))) (le_or_lt n (length xs))

-- before fragment i, whose piece begins at `at`: what the loop holds, o being the room as it was
pub record Put (s : Sender) (size : ℕ) (f : List ℕ) (h : ℕ) (o out : List ℕ) (t : Sender) (i at written : ℕ) : Type 0 where
  pub reached : i ≤ length (fragments size f)
  pub place : at ≡ h + i * size
  pub moved : t ≡ with_last s (s.last + i)
  pub octets : written ≡ sealed_length (take i (fragments size f))
  pub room : out ≡ sealed_frames s (s.last + 1) (take i (fragments size f)) ++ drop written o

module _ (s : Sender) (size : ℕ) (f : List ℕ) (h : ℕ) (o : List ℕ) (is : h ≡ header_length f) (d : Splittable s size f)
    (enough : sealed_length (fragments size f) ≤ length o) where
  abbrev G : List (List ℕ)
  G = fragments size f

  abbrev front : ℕ → List ℕ
  front k = sealed_frames s (s.last + 1) (take k G)

  piece_below : (k : ℕ) → k < length G → k < length (pieces size f)
  piece_below k l = omega (arith, fragments_count size f)

  -- one fragment more
  module _ (k : ℕ) (l : k < length G) where
    abbrev g : List ℕ
    g = get_or G k []

    next : take (suc k) G ≡ take k G ++ (g ∷ [])
    next = take-suc G k [] l

    octets_next : sealed_length (take (suc k) G) ≡ sealed_length (take k G) + (length g + added)
    octets_next = ap sealed_length next ∙ octets_append (take k G) g

    front_next : front (suc k) ≡ front k ++ sealed_frame s (s.last + 1 + k) g
    front_next =
        ap (sealed_frames s (s.last + 1)) next ∙ frames_append s (s.last + 1) (take k G) g
        ∙ ap (λ (i : ℕ). front k ++ sealed_frame s (s.last + 1 + i) g) (length-take-le k G (omega arith))

    seal_size : length (sealed_frame s (s.last + 1 + k) g) ≡ length g + added
    unfolding sealed_frame
    seal_size = sealed_size (with_last s (s.last + k)) g (s.last + 1 + k) (part_sealable s size f d k (piece_below k l))

  front_size : (k : ℕ) → k ≤ length G → length (front k) ≡ sealed_length (take k G)
  front_size zero l = refl
  front_size (suc k) l =
      ap (λ (x : List ℕ). length x) (front_next k l)
      ∙ omega (arith, length-append (front k) (sealed_frame s (s.last + 1 + k) (get_or G k [])), front_size k (omega arith), seal_size k l, octets_next k l)

  -- where a fragment begins
  pub starts_below : (i : ℕ) → i < length G → h + i * size < length f
  starts_below i l = omega (arith, (piece_starts size f d.fit.few i).0 (piece_below i l), message_size f, d.whole)

  pub begins : Put s size f h o o s 0 (h + 0 * size) 0
  begins = record { reached = omega arith; place = refl; moved = rw add-zero; octets = refl; room = refl }

  module _ (out : List ℕ) (t : Sender) (i at written : ℕ) (p : Put s size f h o out t i at written) where
    pub out_size : length out ≡ length o
    out_size =
        let e = ap (λ (x : List ℕ). length x) p.room in
        omega (arith, e, length-append (front i) (drop written o), front_size i p.reached, p.octets, octets_front i G, length-drop written o)

    module _ (left : i < length G) (end : ℕ) (is-end : end ≡ min (at + size) (length f)) where
      message_is : length (message f) ≡ length f - h
      message_is = omega (arith, message_size f)

      pub below : at < length f
      below = omega (arith, starts_below i left, p.place)

      -- the piece
      piece_is : part f at (end - at) ≡ get_or (pieces size f) i []
      unfolding message
      piece_is =
          shorter (drop at f) size (end - at) (omega (arith, length-drop at f))
          ∙ ap (take size) (ap (λ (k : ℕ). drop k f) (p.place ∙ ap (λ (x : ℕ). x + i * size) is) ∙ sym (drop-drop (i * size) (header_length f) f))
          ∙ sym (piece_at size f i (piece_below i left))

      more_is : bit (ltb end (length f)) ≡ more (drop (suc i) (pieces size f))
      more_is = go (ltb end (length f)) refl
        where
          go : (b : Bool) → ltb end (length f) ≡ b → bit b ≡ more (drop (suc i) (pieces size f))
          go true e = sym (more_left size f d.fit.few i (omega (arith, ltb-true end (length f) e, p.place, message_is)))
          go false e = sym (more_ended size f d.fit.few i (omega (arith, ltb-false end (length f) e, p.place, message_is)))

      with_is : fragment_with f h i at end ≡ get_or G i []
      unfolding fragment_with
      with_is = rw (piece_is, more_is, is) (sym (fragment_at size f i (piece_below i left)))

      pub puts : Puts t f h i at end (length (take (length out - written) (drop written out)))
      puts =
          let l = piece_below i left in
          record {
            header = is;
            inside = omega (arith, d.whole);
            numbered = omega (arith, pieces_count size f);
            begins = omega (arith, below);
            ends = omega arith;
            sealable = rw (with_is, p.moved) (part_sealable s size f d i l);
            exact = rw with_is ((is_part s size f d i l).header_is ∙ sym is);
            enough =
                rw with_is
                (omega (arith, length-take (length out - written) (drop written out), length-drop written out, out_size, p.octets, octets_next i left, octets_front (suc i) G));
          }

      -- the octets of the fragment
      fragment_size : length (get_or G i []) ≡ h + (end - at)
      unfolding fragment_with
      fragment_size =
          ap (λ (x : List ℕ). length x) (sym with_is)
          ∙ omega (
            arith,
            length-append (set_fragment (take h f) (bit (ltb end (length f))) i) (part f at (end - at)),
            set_size (take h f) (bit (ltb end (length f))) i,
            length-take-le h f (omega (arith, d.whole)),
            length-take (end - at) (drop at f),
            length-drop at f,
          )

      pub written_fits : written + (h + (end - at) + added) ≤ length out
      written_fits = omega (arith, out_size, fragment_size, p.octets, octets_next i left, octets_front (suc i) G)

      sealed_is : sealed_frame t (t.last + 1) (fragment_with f h i at end) ≡ sealed_frame s (s.last + 1 + i) (get_or G i [])
      unfolding sealed_frame
      sealed_is =
          ap₂ (λ (u : Sender) (x : List ℕ). sealed_frame u (u.last + 1) x) p.moved with_is
          ∙ ap (λ (n : ℕ). sealed_frame s n (get_or G i [])) (let z : s.last + i + 1 ≡ s.last + 1 + i = omega arith in z)

      -- the fragment sealed into the room from `written` on
      pub goes_on : (t' : Sender) (ys : List ℕ) → t' ≡ with_last t (t.last + 1)
          → ys ≡ sealed_frame t (t.last + 1) (fragment_with f h i at end)
          ++ drop (length (fragment_with f h i at end) + added) (take (length out - written) (drop written out))
          → Put s size f h o (take written out ++ (ys ++ drop (length out - written) (drop written out))) t' (i + 1) (at + size)
          (written + (h + (end - at) + added))
      goes_on t' ys et ey =
          let k : ℕ = length (get_or G i []) + added in
          let D : List ℕ = drop written o in
          let F : List ℕ = sealed_frame s (s.last + 1 + i) (get_or G i []) in
          let size_is : length (front i) ≡ written = front_size i p.reached ∙ sym p.octets in
          let taken : take written out ≡ front i = ap (take written) p.room ∙ take_at (front i) D written size_is in
          let dropped : drop written out ≡ D = ap (drop written) p.room ∙ drop_at (front i) D written size_is in
          let all : length D ≤ length out - written = omega (arith, out_size, length-drop written o) in
          let none : drop (length out - written) (drop written out) ≡ [] = ap (drop (length out - written)) dropped ∙ drop_of_length-le D all in
          let rest : drop (length (fragment_with f h i at end) + added) (take (length out - written) (drop written out)) ≡ drop (written + k) o
          = ap₂ (λ (g x : List ℕ). drop (length g + added) x) with_is (ap (take (length out - written)) dropped ∙ take_all (length out - written) D all) ∙ drop-drop k written o in
          let ys-is : ys ≡ F ++ drop (written + k) o = ey ∙ ap₂ (λ (a b : List ℕ). a ++ b) sealed_is rest in
          record {
            reached = omega (arith, left);
            place = omega (arith, p.place);
            moved =
                et ∙ ap (λ (u : Sender). with_last u (u.last + 1)) p.moved ∙ ap (with_last s) (let z : s.last + i + 1 ≡ s.last + (i + 1) = omega arith in z);
            octets = rw add-one (omega (arith, octets_next i left, p.octets, fragment_size));
            room =
                ap₂ (λ (a b : List ℕ). a ++ b) taken (ap₂ (λ (a b : List ℕ). a ++ b) ys-is none ∙ append-nil (F ++ drop (written + k) o))
                ∙ sym (append_assoc (front i) F (drop (written + k) o))
                ∙ ap₂ (λ (a : List ℕ) (n : ℕ). a ++ drop (written + n) o) (sym (front_next i left)) (ap (λ (n : ℕ). n + added) fragment_size)
                ∙ ap (λ (n : ℕ). front n ++ drop (written + (h + (end - at) + added)) o) (sym (add-one i));
          }
