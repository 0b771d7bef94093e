-- What one opening call leaves of a receiver: it stays sound, and of its windows one moves at most, by the number opened.
use mathlib.Core.Path.{◌≡◌, refl, sym, ap, ◌∙◌}
use mathlib.Core.Bool.{Bool, true, false, and-false}
use mathlib.Core.List.{List}
use mathlib.Core.Logic.{◌≢◌, ◌⊎◌, inl, inr, ⊎_elim}
use Prim.Native.Nat.{ℕ, zero, suc, ◌<◌, ◌≤◌, min}
use native.Mathlib.Decide.{ℕ_discrete}
use native.Mathlib.Nat.{eq-or-lt_of_le, le_of_suc-le-suc, not-suc-le-zero}
use native.Mathlib.Omega.{arith}
use borrow.Author.Tests.{eqb-true}
use lib.Dec.{leb, eqb}
use lib.ListN.{length, get_or, replicate, length-set}
use lib.Seq.{get_or-set_same, get_or-set_other}
use Rattle.octets.specs.Octets.{Octets}
use Rattle.octets.proofs.Booleans.{both}
use Rattle.rules.specs.Limits.{most_key_id, small_window, large_window, priorities}
use Rattle.rules.specs.Windows.{is_size, window_next, sound_window}
use Rattle.rules.specs.Records.{window_of, each_below, receiver_fits, sound_receiver, new_receiver, receiver_next}
use Rattle.rules.specs.Opening.{open_answer, open_next}
use Rattle.rules.specs.Answers.{Answer, Done, Refused}
use Rattle.rules.specs.declared.Receiver.{Receiver}
use Rattle.rules.proofs.Fields.{priority_below, number_most}
use Rattle.rules.proofs.Passing.{open_done}
use Rattle.rules.proofs.Standing.{stays_sound}
use Rattle.rules.proofs.Windows.{Moves}

-- a test of each number below n
module _ (b : ℕ → Bool) where
  pub each_passes : (n : ℕ) → ((i : ℕ) → i < n → b i ≡ true) → each_below n b ≡ true
  each_passes zero h = refl
  each_passes (suc n) h = rw (h n (omega arith)) (each_passes n (λ i l. h i (omega arith)))

  pub one_fails : (n i : ℕ) → i < n → b i ≡ false → each_below n b ≡ false
  one_fails zero i l e = absurd (not-suc-le-zero l)
  one_fails (suc n) i l e =
      ⊎_elim (λ h. rw (← h, e)) (λ q. rw (one_fails n i q e) (and-false (b n))) (eq-or-lt_of_le (le_of_suc-le-suc l))

  passes_at : (n : ℕ) → each_below n b ≡ true → (i : ℕ) → i < n → b i ≡ true
  passes_at zero e i l = absurd (not-suc-le-zero l)
  passes_at (suc n) e i l =
      let q = both (b n) (each_below n b) e in
      ⊎_elim (λ h. rw h q.0) (passes_at n q.1 i) (eq-or-lt_of_le (le_of_suc-le-suc l))

pub size_is : (size : ℕ) → is_size size ≡ true → (size ≡ small_window) ⊎ (size ≡ large_window)
size_is size e = go (eqb size small_window) refl e
  where
    go : (b : Bool) → eqb size small_window ≡ b → is_size size ≡ true → (size ≡ small_window) ⊎ (size ≡ large_window)
    go true q h = inl (eqb-true size small_window q)
    go false q h = inr (eqb-true size large_window (rw q at h))

pub size_range : (size : ℕ) → is_size size ≡ true → (small_window ≤ size) × (size ≤ large_window)
size_range size e = ⊎_elim (λ q. (omega arith, omega arith)) (λ q. (omega arith, omega arith)) (size_is size e)

pub fits_size : (keyId size : ℕ) → receiver_fits keyId size ≡ true → (small_window ≤ size) × (size ≤ large_window)
fits_size keyId size e = size_range size (both (leb keyId most_key_id) (is_size size) e).1

-- a receiver with a sound window for each priority, whatever its key ID and its size are
pub record Windowed (r : Receiver) : Type 0 where
  pub replays : length r.replay ≡ priorities
  pub seens : length r.seen ≡ priorities
  pub windows : (p : ℕ) → sound_window (window_of r p) ≡ true

module _ (r : Receiver) where
  abbrev sound_at : ℕ → Bool
  sound_at p = sound_window (window_of r p)

  pub sound_parts : sound_receiver r ≡ true → (receiver_fits r.key_id r.size ≡ true) × ((p : ℕ) → p < priorities → sound_window (window_of r p) ≡ true)
  unfolding sound_receiver
  sound_parts e =
      let q = both (receiver_fits r.key_id r.size) (each_below priorities sound_at) e in
      (q.0, passes_at sound_at priorities q.1)

  pub windows_sound : receiver_fits r.key_id r.size ≡ true → Windowed r → sound_receiver r ≡ true
  unfolding sound_receiver
  windows_sound fits w = rw fits (each_passes sound_at priorities (λ p l. w.windows p))

  pub sound_size : sound_receiver r ≡ true → (small_window ≤ r.size) × (r.size ≤ large_window)
  sound_size e = fits_size r.key_id r.size (sound_parts e).0

pub zeros : (n i : ℕ) → ◌≡◌ {A = ℕ} (get_or (replicate n 0) i 0) 0
zeros zero i = refl
zeros (suc n) zero = refl
zeros (suc n) (suc i) = zeros n i

pub new_windowed : (key : List ℕ) (keyId : ℕ) (peer : List ℕ) (size : ℕ) → Windowed (new_receiver key keyId peer size)
unfolding sound_window
new_windowed key keyId peer size =
    let none : min size 0 ≡ 0 = omega arith in
    record { replays = refl; seens = refl; windows = λ p. rw (zeros priorities p, none) }

-- the windows after an answer
module _ (r : Receiver) (n p k : ℕ) where
  window_moved : Windowed r → p < priorities → window_of (receiver_next r (Done n p k)) p ≡ window_next (window_of r p) n
  unfolding receiver_next window_next
  window_moved w l =
      let v = window_next (window_of r p) n in
      λ t.
      record {
        size = r.size;
        greatest = get_or-set_same r.replay p v.greatest 0 (omega (arith, w.replays)) t;
        seen = get_or-set_same r.seen p v.seen 0 (omega (arith, w.seens)) t;
      }

  window_other : (q : ℕ) → q ≢ p → window_of (receiver_next r (Done n p k)) q ≡ window_of r q
  unfolding receiver_next
  window_other q h =
      let v = window_next (window_of r p) n in
      λ t.
      record {
        size = r.size;
        greatest = get_or-set_other r.replay p q v.greatest 0 h t;
        seen = get_or-set_other r.seen p q v.seen 0 h t;
      }

-- the answer is done with the number n in priority p
abbrev pub DoneIn : Answer → ℕ → ℕ → Type 0
DoneIn a p n = (k : ℕ) × (a ≡ Done n p k)

module _ (r : Receiver) (f room : List ℕ) (w : Windowed r) where
  pub moves : (p : ℕ) → Moves (window_of r p) (window_of (open_next r f room) p) (DoneIn (open_answer r f room) p)
  unfolding receiver_next
  moves p = go (open_answer r f room) refl
    where
      go : (a : Answer) → open_answer r f room ≡ a → Moves (window_of r p) (window_of (receiver_next r a) p) (DoneIn a p)
      go (Refused b) e = inl (refl, (λ n (k, q). let z : ◌≡◌ {A = ℕ} 0 1 = cc in omega arith))
      go (Done n q k) e = by (ℕ_discrete p q)
        where
          by : Dec (p ≡ q) → Moves (window_of r p) (window_of (receiver_next r (Done n q k)) p) (DoneIn (Done n q k) p)
          by (no h) = inl (window_other r n q k p h, (λ m (j, z). h (let y : p ≡ q = cc in y)))
          by (yes h) =
              let d = open_done r f room n q k e in
              inr
              (record {
                number = n;
                opens = (k, ap (λ z. Done n z k) (sym h));
                alone = λ m (j, z). cc;
                taken = rw (h, d.priority_is, d.number_is) d.openable.taken;
                after = rw (← h) (window_moved r n p k w (omega (arith, d.priority_is, priority_below f)));
              })

  pub keeps_windowed : Octets f → Windowed (open_next r f room)
  unfolding receiver_next
  keeps_windowed octets = record { replays = replays (open_answer r f room); seens = seens (open_answer r f room); windows = λ p. go p (moves p) }
    where
      replays : (a : Answer) → length (receiver_next r a).replay ≡ priorities
      replays (Done n p k) = (simp length-set) ∙ w.replays
      replays (Refused b) = w.replays

      seens : (a : Answer) → length (receiver_next r a).seen ≡ priorities
      seens (Done n p k) = (simp length-set) ∙ w.seens
      seens (Refused b) = w.seens

      go : (p : ℕ) → Moves (window_of r p) (window_of (open_next r f room) p) (DoneIn (open_answer r f room) p) → sound_window (window_of (open_next r f room) p) ≡ true
      go p (inl (e, never)) = ap sound_window e ∙ w.windows p
      go p (inr t) =
          let d = open_done r f room t.number p t.opens.0 t.opens.1 in
          ap sound_window t.after
          ∙ stays_sound (window_of r p) (w.windows p) t.number (sound_size r d.sound).0 (omega (arith, d.number_is, number_most f octets)) t.taken

  pub keeps_sound : Octets f → sound_receiver r ≡ true → sound_receiver (open_next r f room) ≡ true
  unfolding receiver_next
  keeps_sound octets sound = windows_sound (open_next r f room) (sound_parts r sound).0 (keeps_windowed octets)
