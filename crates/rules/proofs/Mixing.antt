-- No message is joined of two: no number is used twice, so the frame under the next number is the next fragment of the split call held.
-- With it, request 2 whole.
use mathlib.Core.Path.{◌≡◌, refl, sym, ap, ◌∙◌}
use mathlib.Core.Bool.{Bool, true, false, cond, ◌&&◌, ◌||◌}
use mathlib.Core.List.{List, [], ◌∷◌, ◌++◌}
use mathlib.Core.Logic.{◌⊎◌, inl, inr, ⊎_elim}
use Prim.Native.Nat.{ℕ, zero, suc, ◌+◌, ◌<◌, ◌≤◌}
use native.Mathlib.Decide.{dec_lt}
use native.Mathlib.Omega.{arith}
use borrow.Author.Tests.{eqb-true, ltb-true}
use lib.Dec.{ltb, eqb}
use lib.ListN.{length, take, get_or, length-append, get_or-append}
use lib.Seq.{get_or-append-add}
use Rattle.octets.specs.Octets.{same}
use Rattle.octets.proofs.Booleans.{both}
use Rattle.rules.specs.Header.{address2, priority, fragment_number, sequence_number}
use Rattle.rules.specs.Records.{fresh_answer, new_sender, fresh_sender}
use Rattle.rules.specs.Splitting.{message, pieces}
use Rattle.rules.specs.Joining.{fragment_of, fresh_joiner, follows, starts, continues, joined, join_answer, holding, joiner_next, join_next, join_output}
use Rattle.rules.specs.Calls.{Call, JoinCall, given_at, join_run, join_answer_at, join_output_at}
use Rattle.rules.specs.Sending.{SenderCall, splitting, asked_at, send_next, Sent, no_sent, sent_at, Among, sent_by, send_run, sent}
use Rattle.rules.specs.Fragments.{Gives, Split, sealed_by, GivenFragments, NeverMixed, Fragments}
use Rattle.rules.specs.Answers.{Answer, Done, Refused}
use Rattle.rules.specs.declared.Sender.{Sender}
use Rattle.rules.specs.declared.Joiner.{Joiner}
use Rattle.rules.proofs.Pieces.{together, together_next, together_all, more_one, more_none}
use Rattle.rules.proofs.Fragmented.{IsPart}
use Rattle.rules.proofs.Splits.{split_done, pieces_together}
use Rattle.rules.proofs.Sends.{part_sent, parts_count, frames_like_others}
use Rattle.rules.proofs.Returning.{joins_in_order}
use Rattle.rules.proofs.Joined.{joined_anew, joined_on, returns_none, returns_all, next_holds, next_fresh, holds, taken_up, done_octets, done_written, run_suc, stays_sound}
use Rattle.rules.proofs.Numbering.{number_at}
use Rattle.rules.proofs.Delivery.{made_sender}

-- what a split call of a list sealed is among what the list sealed
placed : (s : Sender) (cs : List SenderCall) (a size : ℕ) (c : Call) → asked_at cs a ≡ splitting size c
    → (b : ℕ) → b < length (sent_by (send_run s (take a cs)) (splitting size c)) → Among (sent_at (sent_by (send_run s (take a cs)) (splitting size c)) b) (sent s cs)
placed s [] a size c e b l = absurd (let z : ◌≡◌ {A = ℕ} 0 1 = cc in omega arith)
placed s (x ∷ cs) zero size c e b l =
    rw (← e) (b, omega (arith, length-append (sent_by s x) (sent (send_next s x) cs), rw (← e) at l), get_or-append (sent_by s x) (sent (send_next s x) cs) no_sent b (rw (← e) at l))
placed s (x ∷ cs) (suc a) size c e b l =
    let r = placed (send_next s x) cs a size c e b l in (
      length (sent_by s x) + r.0,
      omega (arith, length-append (sent_by s x) (sent (send_next s x) cs), r.1),
      get_or-append-add (sent_by s x) (sent (send_next s x) cs) r.0 no_sent ∙ r.2,
    )

-- what continues has something held before it, and the next number
continues_next : (j : Joiner) (f : List ℕ) (n : ℕ) → continues j f n ≡ true → (0 < j.length) × (n ≡ j.last.number + 1)
unfolding fragment_of follows continues
continues_next j f n e =
    let x = j.last in
    let t = both (ltb 0 j.length) (follows x (fragment_of f n)) e in
    let same-message = same (address2 f) x.address && eqb (priority f) x.priority && eqb (sequence_number f) x.sequence && eqb (fragment_number f) (x.fragment + 1) in
    (ltb-true 0 j.length t.0, eqb-true n (x.number + 1) (both same-message (eqb n (x.number + 1)) t.1).1)

module _ (key address : List ℕ) (keyId : ℕ) (cs : List SenderCall) where
  abbrev s₀ : Sender
  s₀ = new_sender key keyId address

  -- no number is used twice
  one_number : (x y : Sent) → Among x (sent s₀ cs) → Among y (sent s₀ cs) → x.number ≡ y.number → x ≡ y
  one_number x y (i, l, e) (i', l', e') h =
      let same_place : i ≡ i' = omega (arith, number_at key address keyId cs i l, number_at key address keyId cs i' l', ap (λ (z : Sent). z.number) e, ap (λ (z : Sent). z.number) e') in
      sym e ∙ ap (sent_at (sent s₀ cs)) same_place ∙ e'

  -- the pieces of a split call, and fragment b as it was sealed
  abbrev pieces_of : Split s₀ cs → List (List ℕ)
  pieces_of c = pieces c.size c.call.frame

  abbrev sealed_at : Split s₀ cs → ℕ → Sent
  sealed_at c b = sent_at (sealed_by s₀ cs c) b

  module _ (c : Split s₀ cs) where
    abbrev s : Sender
    s = send_run s₀ (take c.place cs)

    count : length (sealed_by s₀ cs c) ≡ length (pieces_of c)
    count = parts_count s c.size c.call c.first c.priority c.octets c.done

    whole : together (pieces_of c) ≡ message c.call.frame
    whole =
        pieces_together c.size c.call.frame
        (split_done s c.size c.call.frame c.call.room c.first c.priority c.octets c.done).splittable.fit.few

    module _ (b : ℕ) (l : b < length (pieces_of c)) where
      part_is : IsPart c.call.frame (pieces_of c) b (sealed_at c b).original
      part_is = (part_sent s c.size c.call c.first c.priority c.octets c.done b l).0

      number_is : (sealed_at c b).number ≡ c.first + b
      number_is = (part_sent s c.size c.call c.first c.priority c.octets c.done b l).1

      among : Among (sealed_at c b) (sent s₀ cs)
      among = placed s₀ cs c.place c.size c.call c.is_split b (rw count l)

  -- the joiner holds the pieces 0 to b of the split call c, and more are to come
  record Holds (j : Joiner) (c : Split s₀ cs) (b : ℕ) : Type 0 where
    left : suc b < length (pieces_of c)
    held : take j.length j.held ≡ together (take (suc b) (pieces_of c))
    number : j.last.number ≡ c.first + b

  -- what joining keeps true of the joiner: it holds nothing, or the first pieces of one split call
  abbrev State : Joiner → Type 0
  State j = (j.length ≡ 0) ⊎ ((c : Split s₀ cs) × (b : ℕ) × Holds j c b)

  -- the call g is given a fragment that a split call sealed
  abbrev Given : JoinCall → Type 0
  Given g = (c : Split s₀ cs) × (x : Sent) × Among x (sealed_by s₀ cs c) × Gives g x

  -- the call g is given fragment b of the split call c, and joined with it the joiner has the pieces 0 to b
  record Reaches (j : Joiner) (g : JoinCall) : Type 0 where
    c : Split s₀ cs
    b : ℕ
    below : b < length (pieces_of c)
    part : IsPart c.call.frame (pieces_of c) b g.frame
    number : g.number ≡ c.first + b
    has : joined j g.frame ≡ together (take (suc b) (pieces_of c))

  fresh_state : State fresh_joiner
  unfolding fresh_joiner
  fresh_state = inl refl

  module _ (j : Joiner) (g : JoinCall) where
    abbrev f : List ℕ
    f = g.frame

    abbrev n : ℕ
    n = g.number

    abbrev room : List ℕ
    room = g.room

    -- fragment 0 starts anew
    first : Given g → starts f ≡ true → Reaches j g
    first (c, x, (b, l, is), (fe, ne)) e =
        let below : b < length (pieces_of c) = rw (count c) at l in
        let part : IsPart c.call.frame (pieces_of c) b f = rw (fe, ← is) (part_is c b below) in
        let zeroth : b ≡ 0 = sym part.fragment_is ∙ eqb-true (fragment_number f) 0 e in
        record {
          c = c;
          b = b;
          below = below;
          part = part;
          number = ne ∙ ap (λ (z : Sent). z.number) (sym is) ∙ number_is c b below;
          has =
              joined_anew j f e ∙ part.message_is
              ∙ ap (λ (z : ℕ). together (take z (pieces_of c)) ++ get_or (pieces_of c) b []) (sym zeroth)
              ∙ sym (together_next (pieces_of c) b below);
        }

    -- any other has the number after the one held, and so is the next fragment of the split call held
    next : Given g → starts f ≡ false → n ≡ j.last.number + 1 → (c : Split s₀ cs) (b : ℕ) → Holds j c b → Reaches j g
    next (c', x, (b', l', is), (fe, ne)) e after c b h =
        let y = sealed_at c (suc b) in
        let number : n ≡ c.first + suc b = omega (arith, h.number) in
        let among-x : Among x (sent s₀ cs) = rw is at (among c' b' (rw (count c') at l')) in
        let same-frame : x ≡ y = one_number x y among-x (among c (suc b) h.left) (sym ne ∙ number ∙ sym (number_is c (suc b) h.left)) in
        let part : IsPart c.call.frame (pieces_of c) (suc b) f = rw (fe, same-frame) (part_is c (suc b) h.left) in
        record {
          c = c;
          b = suc b;
          below = h.left;
          part = part;
          number = number;
          has =
              joined_on j f e
              ∙ ap (λ (z : List ℕ). z ++ message f) h.held
              ∙ ap (λ (z : List ℕ). together (take (suc b) (pieces_of c)) ++ z) part.message_is
              ∙ sym (together_next (pieces_of c) (suc b) h.left);
        }

    module _ (state : State j) (given : Given g) where
      reaches : starts f || continues j f n ≡ true → Reaches j g
      reaches t = go (starts f) refl
        where
          go : (b : Bool) → starts f ≡ b → Reaches j g
          go true e = first given e
          go false e =
              let q = continues_next j f n (rw e at t) in
              ⊎_elim (λ z. absurd (omega (arith, q.0))) (λ (c, b, h). next given e q.1 c b h) state

      -- a call keeps the joiner to the pieces of one split call
      keeps : State (join_next j f n room)
      unfolding fragment_of holding joiner_next
      keeps = go (join_answer j f n room) refl
        where
          refused : (b : Bool) → State (cond b fresh_joiner j)
          refused true = fresh_state
          refused false = state

          taken : (m p k : ℕ) (r : Reaches j g) → Dec (suc r.b < length (pieces_of r.c)) → State (joiner_next j f n (Done m p k))
          taken m p k r (yes h) =
              rw (next_holds j f n m p k (r.part.more_is ∙ more_one (pieces_of r.c) (suc r.b) h))
              (inr (r.c, r.b, record { left = h; held = holds j f n ∙ r.has; number = r.number }))
          taken m p k r (no h) =
              rw (next_fresh j f n m p k (r.part.more_is ∙ more_none (pieces_of r.c) (suc r.b) (omega arith))) fresh_state

          go : (a : Answer) → join_answer j f n room ≡ a → State (joiner_next j f n a)
          go (Refused a) e = refused (eqb a 14)
          go (Done m p k) e =
              let r = reaches (taken_up j f n room m p k e).taken in
              taken m p k r (dec_lt (suc r.b) (length (pieces_of r.c)))

      -- a message that it finishes is that of one split call
      finishes : (m p k : ℕ) → join_answer j f n room ≡ Done m p k → 0 < k
          → (c : Split s₀ cs) × (take k (join_output j f n room) ≡ message c.call.frame)
      finishes m p k e l = by r (dec_lt (suc r.b) (length (pieces_of r.c)))
        where
          r : Reaches j g
          r = reaches (taken_up j f n room m p k e).taken

          by : (r : Reaches j g) → Dec (suc r.b < length (pieces_of r.c))
              → (c : Split s₀ cs) × (take k (join_output j f n room) ≡ message c.call.frame)
          by r (yes h) =
              let none = returns_none j f (r.part.more_is ∙ more_one (pieces_of r.c) (suc r.b) h) in
              absurd (omega (arith, done_octets j f n room m p k e, ap (λ (z : List ℕ). length z) none))
          by r (no h) = (
            r.c,
            done_written j f n room m p k e
                ∙ returns_all j f (r.part.more_is ∙ more_none (pieces_of r.c) (suc r.b) (omega arith))
                ∙ r.has
                ∙ together_all (pieces_of r.c) (suc r.b) (omega arith)
                ∙ whole r.c,
          )

  module _ (js : List JoinCall) (given : GivenFragments s₀ cs js) where
    state_at : (i : ℕ) → i ≤ length js → State (join_run fresh_joiner (take i js))
    state_at zero l = fresh_state
    state_at (suc i) l =
        rw (run_suc fresh_joiner js i l)
        (keeps (join_run fresh_joiner (take i js)) (given_at js i) (state_at i (omega arith)) (given i l))

    one_message : (i n p k : ℕ) → i < length js → join_answer_at fresh_joiner js i ≡ Done n p k → 0 < k
        → (c : Split s₀ cs) × (take k (join_output_at fresh_joiner js i) ≡ message c.call.frame)
    one_message i n p k l = finishes (join_run fresh_joiner (take i js)) (given_at js i) (state_at i (omega arith)) (given i l) n p k

never_mixed : (key address : List ℕ) (keyId : ℕ) → fresh_answer keyId ≡ Done 0 0 0 → NeverMixed (fresh_sender key keyId address)
never_mixed key address keyId e = rw (made_sender key keyId address e) (λ cs js given. one_message key address keyId cs js given)

pub fragments_hold : Fragments
fragments_hold = (frames_like_others, stays_sound, joins_in_order, never_mixed)
