-- Demand 3, whole: a receiver's window takes a number exactly when that is in the window of those opened before in its priority.
use mathlib.Core.Path.{◌≡◌, refl, sym, ◌∙◌}
use mathlib.Core.Bool.{Bool, true, false, cond}
use mathlib.Core.List.{List}
use mathlib.Core.Logic.{◌↔◌}
use Prim.Native.Nat.{ℕ, ◌≤◌}
use native.Mathlib.Nat.{zero-add}
use native.Mathlib.Omega.{arith}
use lib.Dec.{leb}
use lib.ListN.{length, take}
use Rattle.octets.proofs.Booleans.{both}
use Rattle.rules.specs.Limits.{most_key_id, priorities}
use Rattle.rules.specs.Windows.{is_size, takes}
use Rattle.rules.specs.Records.{window_of, receiver_fits, sound_receiver, new_sender, new_receiver, with_last, fresh_answer, fresh_sender, receiver_answer, fresh_receiver}
use Rattle.rules.specs.Opening.{open_answer, open_output}
use Rattle.rules.specs.Calls.{no_call, at, open_run}
use Rattle.rules.specs.Sending.{Sent}
use Rattle.rules.specs.Demand2.{Match}
use Rattle.rules.specs.Demand3.{InWindow, Delivered, Demand3}
use Rattle.rules.specs.Answers.{Done, Refused}
use Rattle.rules.specs.declared.Sender.{Sender}
use Rattle.rules.specs.declared.Receiver.{Receiver}
use Rattle.rules.proofs.Sends.{Genuine, sent_at_lem, Opens, sent_answer, opens}
use Rattle.rules.proofs.Windows.{taken_when, held, replays}
use Rattle.rules.proofs.Steps.{windows_sound, zeros, new_windowed}
use Rattle.rules.proofs.Runs.{Keeps, open_runs, windows, reordered}

refused_not_done : (n p k : ℕ) → Refused 10 ≡ Done n p k → ⊥
refused_not_done n p k e = let z : ◌≡◌ {A = ℕ} 0 1 = cc in omega arith

-- one delivery of a sealed frame to a sound matching receiver with room: it opens to its original exactly where its
-- number is taken, and is otherwise a replay
module _ (s : Sender) (l : ℕ) (x : Sent) (g : Genuine (with_last s l) x) (r : Receiver) (room : List ℕ)
    (sound : sound_receiver r ≡ true) (m : Match s r) (enough : length x.original ≤ length room) where
  abbrev taken : Bool
  taken = takes (window_of r x.priority) x.number

  opened_taken : open_answer r x.octets room ≡ Done x.number x.priority (length x.original) → taken ≡ true
  opened_taken done = go taken refl
    where
      go : (b : Bool) → taken ≡ b → taken ≡ true
      go true e = e
      go false e = absurd (refused_not_done _ _ _ (sym (sent_answer s l x g r room sound m enough ∙ rw e) ∙ done))

  replayed : taken ≡ false → (open_answer r x.octets room ≡ Refused 10) × (open_output r x.octets room ≡ room)
  unfolding open_output
  replayed e =
      let refused : open_answer r x.octets room ≡ Refused 10 = sent_answer s l x g r room sound m enough ∙ rw e in
      (refused, rw refused)

  pub decided : (When : Type 0) → (taken ≡ true) ↔ When
      → (Opens r x room ↔ When) × (¬ When → (open_answer r x.octets room ≡ Refused 10) × (open_output r x.octets room ≡ room))
  decided When when = (
    ((λ o. when.0 (opened_taken o.0)), (λ a. opens s l x g r room sound m enough (when.1 a))),
    (λ h. replayed (not_taken h taken refl)),
  )
    where
      not_taken : ¬ When → (b : Bool) → taken ≡ b → taken ≡ false
      not_taken h true e = absurd (h (when.0 e))
      not_taken h false e = e

module _ (key address : List ℕ) (keyId size : ℕ) (fits : receiver_fits keyId size ≡ true) where
  abbrev s₀ : Sender
  s₀ = new_sender key keyId address

  abbrev r₀ : Receiver
  r₀ = new_receiver key keyId address size

  pub new_keeps : Keeps r₀ r₀
  new_keeps =
      let windowed = new_windowed key keyId address size in
      record { key_is = refl; id_is = refl; peer_is = refl; size_is = refl; sound = windows_sound r₀ fits windowed; windowed = windowed }

  delivered : Delivered InWindow s₀ r₀
  delivered cs ds x j (i, l, is) od d =
      let g : Genuine (with_last s₀ i) x = rw (zero-add, is) at (sent_at_lem s₀ cs i l) in
      let kept = held open_runs (windows r₀) no_call r₀ ds new_keeps (λ i l. od i) j (omega (arith, d.below)) in
      let window = replays open_runs (windows r₀) no_call r₀ ds new_keeps (λ i l. od i) x.priority in
      let when = taken_when window (zeros priorities x.priority) j x.number (omega (arith, d.below)) (omega (arith, g.number_is)) in
      rw d.unchanged
      (decided s₀ i x g (open_run r₀ (take j ds)) (at ds j).room kept.sound
      (record { key = sym kept.key_is; key_id = sym kept.id_is; address = sym kept.peer_is }) d.enough (InWindow r₀ ds j x) when)

-- records whose making wasn't refused
granted : (b : Bool) → cond b (Done 0 0 0) (Refused 1) ≡ Done 0 0 0 → b ≡ true
granted true e = refl
granted false e = cc

pub made : (keyId : ℕ) → fresh_answer keyId ≡ Done 0 0 0 → leb keyId most_key_id ≡ true
unfolding fresh_answer
made keyId = granted (leb keyId most_key_id)

pub receiver_made : (keyId size : ℕ) → receiver_answer keyId size ≡ Done 0 0 0 → receiver_fits keyId size ≡ true
unfolding receiver_answer
receiver_made keyId size = granted (receiver_fits keyId size)

pub made_sender : (key : List ℕ) (keyId : ℕ) (address : List ℕ) → fresh_answer keyId ≡ Done 0 0 0
    → fresh_sender key keyId address ≡ new_sender key keyId address
unfolding fresh_sender
made_sender key keyId address e = rw (made keyId e)

pub made_receiver : (key : List ℕ) (keyId : ℕ) (peer : List ℕ) (size : ℕ) → receiver_fits keyId size ≡ true
    → fresh_receiver key keyId peer size ≡ new_receiver key keyId peer size
unfolding fresh_receiver
made_receiver key keyId peer size fits = rw fits

pub demand_3 : Demand3
unfolding fresh_sender
demand_3 key address keyId size e =
    let fits = receiver_made keyId size e in
    rw ((both (leb keyId most_key_id) (is_size size) fits).0, made_receiver key keyId address size fits)
    (delivered key address keyId size fits, reordered (new_receiver key keyId address size) (new_keeps key address keyId size fits))
