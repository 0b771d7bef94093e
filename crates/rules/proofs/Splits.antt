-- A frame that splitting's tests pass: its pieces are the message, and each of its fragments is a frame that the sender seals.
use mathlib.Core.Path.{◌≡◌, ap, ◌∙◌}
use mathlib.Core.Bool.{true, false, not, ◌||◌}
use mathlib.Core.List.{List, [], ◌++◌}
use mathlib.Core.Logic.{◌↔◌, ⊎_elim}
use Prim.Native.Nat.{ℕ, zero, suc, ◌+◌, ◌-◌, ◌*◌, ◌%◌, ◌<◌, ◌≤◌}
use native.Mathlib.Nat.{zero-add}
use native.Mathlib.Numerals.{add-one}
use native.Mathlib.Omega.{arith}
use borrow.Author.Tests.{eqb-false, leb-true, ltb-false, not-false}
use lib.Dec.{leb, ltb, eqb}
use lib.ListN.{length, take, drop, get_or, length-take, length-drop}
use lib.Seq.{length-take-le}
use Rattle.octets.specs.Octets.{same}
use Rattle.octets.proofs.Booleans.{both}
use Rattle.octets.proofs.Orders.{le_or_lt}
use Rattle.rules.specs.Limits.{most_number, most_key_id, least_size, most_size, least_message, most_message, most_fragments}
use Rattle.rules.specs.Header.{header_length, priority, protected, set_fragment}
use Rattle.rules.specs.Mode.{added}
use Rattle.rules.specs.Records.{sound_sender, with_last}
use Rattle.rules.specs.Answers.{Done, none_applies, outside}
use Rattle.rules.specs.Sealing.{Sealable}
use Rattle.rules.specs.Splitting.{message, pieces, more, fragments, sealed_length, unfit, split_tests, split_answer, Fit, Splittable}
use Rattle.rules.specs.declared.Sender.{Sender}
use Rattle.rules.proofs.Passing.{neither, inside, Passed, passed, done_all}
use Rattle.rules.proofs.Pieces.{together, more_one, more_none, cut_together, cut_count, cut_at, cut_starts, cut_reaches}
use Rattle.rules.proofs.Fragmented.{from_count, from_at, from_octets, IsPart, carries}

-- what test 13 says
pub fit : (size n : ℕ) → unfit size n ≡ false → Fit size n
unfolding unfit
fit size n e =
    let odd = not (eqb (size % 2) 0) in
    let wrong_size = outside least_size most_size size in
    let wrong-message = outside least_message most_message n in
    let t = neither (odd || wrong_size || wrong-message) (ltb (most_fragments * size) n) e in
    let u = neither (odd || wrong_size) wrong-message t.0 in
    let size_fits = inside least_size most_size size (neither odd wrong_size u.0).1 in
    let message-fits = inside least_message most_message n u.1 in
    record { least_size_lem = size_fits.0; most_size_lem = size_fits.1; least = message-fits.0; most = message-fits.1; few = ltb-false _ _ t.1 }

-- what the tests of splitting say
pub split_passes : (s : Sender) (size : ℕ) (f : List ℕ) (room : ℕ) → none_applies (split_tests s size f room) ≡ true
    → Splittable s size f × (sealed_length (fragments size f) ≤ room)
unfolding sound_sender
split_passes s size f room e = go (passed (split_tests s size f room) e)
  where
    go : Passed (split_tests s size f room) → Splittable s size f × (sealed_length (fragments size f) ≤ room)
    go (sound, (long, (kind, (mark, (whole, (fits, (enough, (own, (left, end))))))))) =
        let both-fit = both (leb s.key_id most_key_id) (leb s.last most_number) (not-false _ sound) in (
          record {
            id_fits = leb-true _ _ both-fit.0;
            long = ltb-false _ _ long;
            kind = kind;
            plain = let z = eqb-false (protected f) 1 mark in omega arith;
            whole = ltb-false _ _ whole;
            fit = fit size (length (message f)) fits;
            own = not-false _ own;
            unspent =
                let z = ltb-false (most_number - s.last) (length (fragments size f)) left in
                let w = leb-true s.last most_number both-fit.1 in
                omega arith;
          },
          ltb-false _ _ enough,
        )

pub record SplitDone (s : Sender) (size : ℕ) (f : List ℕ) (n p : ℕ) : Type 0 where
  pub number_is : n ≡ s.last + 1
  pub priority_is : p ≡ priority f
  pub splittable : Splittable s size f

pub split_done : (s : Sender) (size : ℕ) (f room : List ℕ) (n p k : ℕ) → split_answer s size f room ≡ Done n p k → SplitDone s size f n p
unfolding split_answer
split_done s size f room n p k e =
    let t = done_all (split_tests s size f (length room)) (Done (s.last + 1) (priority f) (sealed_length (fragments size f))) n p k e in
    let d = t.0 in
    record { number_is = cc; priority_is = cc; splittable = (split_passes s size f (length room) t.1).0 }

module _ (size : ℕ) (f : List ℕ) where
  pub pieces_count : length (pieces size f) ≤ most_fragments
  unfolding pieces
  pieces_count = cut_count size most_fragments (message f)

  pub fragments_count : length (fragments size f) ≡ length (pieces size f)
  unfolding fragments
  fragments_count = from_count (take (header_length f) f) 0 (pieces size f)

  module _ (b : ℕ) (l : b < length (pieces size f)) where
    pub piece_at : get_or (pieces size f) b [] ≡ take size (drop (b * size) (message f))
    unfolding pieces
    piece_at = cut_at size most_fragments (message f) b l

    pub fragment_at : get_or (fragments size f) b [] ≡ set_fragment (take (header_length f) f) (more (drop (suc b) (pieces size f))) b ++ get_or (pieces size f) b []
    unfolding fragments
    fragment_at = from_at (take (header_length f) f) 0 (pieces size f) b l ∙ rw zero-add

  -- of a message that is not too long for the size
  module _ (few : length (message f) ≤ most_fragments * size) where
    pub pieces_together : together (pieces size f) ≡ message f
    unfolding pieces
    pieces_together = cut_together size most_fragments (message f) few

    -- there is a piece b exactly where the message reaches so far
    pub piece_starts : (b : ℕ) → (b < length (pieces size f)) ↔ (b * size < length (message f))
    unfolding pieces
    piece_starts b = (cut_starts size most_fragments (message f) b, cut_reaches size most_fragments (message f) b few)

    pieces_end : (c : ℕ) → length (message f) ≤ c * size → length (pieces size f) ≤ c
    pieces_end c h = ⊎_elim (λ l. l) (λ l. absurd (omega (arith, (piece_starts c).0 l))) (le_or_lt (length (pieces size f)) c)

    -- their number is the message's length divided by the size and rounded up
    pub count_is : (c : ℕ) → length (message f) ≤ c * size → c * size < length (message f) + size → length (pieces size f) ≡ c
    count_is zero h l = omega (arith, pieces_end zero h)
    count_is (suc b) h l = omega (arith, pieces_end (suc b) h, (piece_starts b).1 (omega arith))

    -- MoreFrag of fragment b
    pub more_left : (b : ℕ) → (b + 1) * size < length (message f) → more (drop (suc b) (pieces size f)) ≡ 1
    more_left b l = more_one (pieces size f) (suc b) ((piece_starts (suc b)).1 (rw add-one at l))

    pub more_ended : (b : ℕ) → length (message f) ≤ (b + 1) * size → more (drop (suc b) (pieces size f)) ≡ 0
    more_ended b l = more_none (pieces size f) (suc b) (pieces_end (suc b) (rw add-one at l))

    pub fragments_octets : header_length f ≤ length f → sealed_length (fragments size f) ≡ length (message f) + length (fragments size f) * (header_length f + added)
    unfolding fragments
    fragments_octets whole =
        from_octets (take (header_length f) f) 0 (pieces size f)
        ∙ rw (pieces_together, length-take-le (header_length f) f whole, ← fragments_count)

module _ (s : Sender) (size : ℕ) (f : List ℕ) (d : Splittable s size f) where
  pub some_piece : 1 ≤ length (pieces size f)
  some_piece = (piece_starts size f d.fit.few 0).1 (omega (arith, d.fit.least))

  module _ (b : ℕ) (l : b < length (pieces size f)) where
    piece_size : (1 ≤ length (get_or (pieces size f) b [])) × (length (get_or (pieces size f) b []) ≤ size)
    piece_size =
        let starts = (piece_starts size f d.fit.few b).0 l in
        rw (piece_at size f b l, length-take, length-drop) (omega (arith, d.fit.least_size_lem), omega arith)

    pub is_part : IsPart f (pieces size f) b (get_or (fragments size f) b [])
    is_part =
        rw (fragment_at size f b l)
        (carries f (pieces size f) b d.whole (omega (arith, pieces_count size f)) d.kind d.plain piece_size.0 (omega (arith, piece_size.1, d.fit.most_size_lem)))

    pub part_sealable : Sealable (with_last s (s.last + b)) (get_or (fragments size f) b [])
    part_sealable =
        let i = is_part in
        record {
          id_fits = d.id_fits;
          long = i.long;
          kind = i.kind;
          plain = i.plain;
          whole = i.whole;
          least = i.least;
          most = omega (arith, i.most);
          own = ap (λ (a : List ℕ). same a s.address) i.address_is ∙ d.own;
          unspent = omega (arith, d.unspent, fragments_count size f);
        }
