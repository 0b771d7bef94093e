-- One fragment: its header is the given frame's but for MoreFrag and the fragment number, and what comes after it is its piece.
use mathlib.Core.Path.{◌≡◌, refl, ap, ap₂, ◌∙◌}
use mathlib.Core.Bool.{false}
use mathlib.Core.List.{List, [], ◌∷◌, ◌++◌}
use mathlib.Core.Logic.{◌≢◌}
use Prim.Native.Nat.{ℕ, zero, suc, ◌+◌, ◌-◌, ◌*◌, ◌%◌, ◌/◌, ◌<◌, ◌≤◌}
use native.Mathlib.Nat.{not-suc-le-zero}
use native.Mathlib.Omega.{arith}
use lib.ListN.{length, take, drop, get_or, set, length-set, length-append, get_or-append}
use lib.Seq.{get_or-take, get_or-set_same, get_or-set_other, length-take-le, drop_at}
use Rattle.rules.specs.Limits.{least_header, most_header, most_fragments, least_body, most_size}
use Rattle.rules.specs.Header.{header_length, address2, priority, protected, more_fragments, fragment_number, sequence_number, set_fragment, wrong_kind}
use Rattle.rules.specs.Mode.{added}
use Rattle.rules.specs.Splitting.{message, more, fragments_from, sealed_length}
use Rattle.rules.proofs.Fields.{header_range, Alike, kind_alike, length_alike, address_alike, priority_alike}
use Rattle.rules.proofs.Pieces.{together, more_bit}

pub set_size : (h : List ℕ) (m i : ℕ) → length (set_fragment h m i) ≡ length h
unfolding set_fragment
set_size h m i = rw (length-set, length-set)

-- the fragments with the pieces ps after the header h: how many, number b of them, and the octets that they have sealed
module _ (h : List ℕ) where
  pub from_count : (i : ℕ) (ps : List (List ℕ)) → length (fragments_from i h ps) ≡ length ps
  from_count i [] = refl
  from_count i (p ∷ ps) = ap suc (from_count (i + 1) ps)

  pub from_at : (i : ℕ) (ps : List (List ℕ)) (b : ℕ) → b < length ps
      → get_or (fragments_from i h ps) b [] ≡ set_fragment h (more (drop (suc b) ps)) (i + b) ++ get_or ps b []
  from_at i [] b l = absurd (not-suc-le-zero l)
  from_at i (p ∷ ps) zero l = ap (λ (k : ℕ). set_fragment h (more ps) k ++ p) (let z : i ≡ i + 0 = omega arith in z)
  from_at i (p ∷ ps) (suc b) l =
      from_at (i + 1) ps b (omega arith)
      ∙ ap (λ (k : ℕ). set_fragment h (more (drop (suc b) ps)) k ++ get_or ps b []) (let z : i + 1 + b ≡ i + suc b = omega arith in z)

  pub from_octets : (i : ℕ) (ps : List (List ℕ)) → sealed_length (fragments_from i h ps) ≡ length (together ps) + length ps * (length h + added)
  from_octets i [] = omega arith
  from_octets i (p ∷ ps) =
      omega (arith, length-append (set_fragment h (more ps) i) p, set_size h (more ps) i, length-append p (together ps), from_octets (i + 1) ps)

-- g is fragment b of the frame f cut in the pieces ps, and joining's tests 2 to 5 pass it
pub record IsPart (f : List ℕ) (ps : List (List ℕ)) (b : ℕ) (g : List ℕ) : Type 0 where
  pub long : least_header ≤ length g
  pub kind : wrong_kind g ≡ false
  pub plain : protected g ≡ 0
  pub header_is : header_length g ≡ header_length f
  pub whole : header_length g ≤ length g
  pub least : least_body ≤ length g - header_length g
  pub most : length g - header_length g ≤ most_size
  pub address_is : address2 g ≡ address2 f
  pub priority_is : priority g ≡ priority f
  pub sequence_is : sequence_number g ≡ sequence_number f
  pub fragment_is : fragment_number g ≡ b
  pub more_is : more_fragments g ≡ more (drop (suc b) ps)
  pub message_is : message g ≡ get_or ps b []

module _ (f : List ℕ) (ps : List (List ℕ)) (b : ℕ) (whole : header_length f ≤ length f) (few : b < most_fragments) where
  abbrev p : List ℕ
  p = get_or ps b []

  abbrev m : ℕ
  m = more (drop (suc b) ps)

  abbrev h : List ℕ
  h = take (header_length f) f

  abbrev g : List ℕ
  g = set_fragment h m b ++ p

  bit : m ≤ 1
  bit = more_bit (drop (suc b) ps)

  range : (least_header ≤ header_length f) × (header_length f ≤ most_header)
  range = header_range f

  front_size : length h ≡ header_length f
  front_size = length-take-le (header_length f) f whole

  head_size : length (set_fragment h m b) ≡ header_length f
  head_size = set_size h m b ∙ front_size

  size : length g ≡ header_length f + length p
  size = omega (arith, length-append (set_fragment h m b) p, head_size)

  first_octet : get_or g 1 0 ≡ get_or f 1 0 % 4 + 4 * m + 8 * (get_or f 1 0 / 8)
  unfolding set_fragment
  first_octet =
      get_or-append (set_fragment h m b) p 0 1 (omega (arith, head_size, range))
      ∙ get_or-set_other (set h 1 _) 22 1 _ 0 (omega arith)
      ∙ get_or-set_same h 1 _ 0 (omega (arith, front_size, range))
      ∙ ap (λ (y : ℕ). y % 4 + 4 * m + 8 * (y / 8)) (get_or-take (header_length f) f 1 0 (omega (arith, range)))

  sequence_octet : get_or g 22 0 ≡ b + 16 * (get_or f 22 0 / 16)
  unfolding set_fragment
  sequence_octet =
      get_or-append (set_fragment h m b) p 0 22 (omega (arith, head_size, range))
      ∙ get_or-set_same (set h 1 _) 22 _ 0 (rw length-set (omega (arith, front_size, range)))
      ∙ ap (λ (y : ℕ). b + 16 * (y / 16)) (get_or-take (header_length f) f 22 0 (omega (arith, range)))

  other_octet : (i : ℕ) → i < header_length f → i ≢ 1 → i ≢ 22 → get_or g i 0 ≡ get_or f i 0
  unfolding set_fragment
  other_octet i l ne ne' =
      get_or-append (set_fragment h m b) p 0 i (omega (arith, head_size))
      ∙ get_or-set_other (set h 1 _) 22 i _ 0 ne'
      ∙ get_or-set_other h 1 i _ 0 ne
      ∙ get_or-take (header_length f) f i 0 l

  alike : Alike f g (header_length f)
  alike =
      record {
        octet = other_octet;
        low = let e = first_octet in let l = bit in omega arith;
        high = let e = first_octet in let l = bit in omega arith;
        long_f = whole;
        long_g = omega (arith, size);
      }

  header_is : header_length g ≡ header_length f
  header_is = length_alike f g (header_length f) alike range.0

  pub carries : wrong_kind f ≡ false → protected f ≡ 0 → least_body ≤ length (get_or ps b []) → length (get_or ps b []) ≤ most_size
      → IsPart f ps b (set_fragment (take (header_length f) f) (more (drop (suc b) ps)) b ++ get_or ps b [])
  unfolding fragment_number sequence_number message
  carries kind plain least most =
      let e = first_octet in
      let l = bit in
      let s = sequence_octet in
      record {
        long = omega (arith, size, range);
        kind = kind_alike f g (header_length f) alike range.0 ∙ kind;
        plain = ap (λ (x : ℕ). x % 2) (let z : get_or g 1 0 / 64 ≡ get_or f 1 0 / 64 = omega arith in z) ∙ plain;
        header_is = header_is;
        whole = omega (arith, size, header_is);
        least = omega (arith, size, header_is);
        most = omega (arith, size, header_is);
        address_is = address_alike f g (header_length f) alike range.0;
        priority_is = priority_alike f g (header_length f) alike range.0 refl;
        sequence_is =
            ap₂ (λ (x y : ℕ). x + 16 * y) (let z : get_or g 22 0 / 16 ≡ get_or f 22 0 / 16 = omega arith in z)
            (other_octet 23 (omega (arith, range)) (omega arith) (omega arith));
        fragment_is = omega arith;
        more_is = omega arith;
        message_is = rw header_is (drop_at (set_fragment h m b) p (header_length f) head_size);
      }
