-- A call on what is written of a sound record is the call beneath, and leaves what is written of the next one, which is sound too.
use mathlib.Core.Path.{◌≡◌, refl, sym, subst}
use mathlib.Core.Bool.{Bool, true, false, cond}
use mathlib.Core.List.{List, [], ◌∷◌, map}
use Prim.Native.Nat.{ℕ, zero, suc, ◌+◌, ◌%◌, ◌<◌}
use native.Mathlib.Nat.{mod-lt}
use native.Mathlib.Omega.{arith}
use borrow.Author.Tests.{eq-eqb}
use lib.Dec.{eqb, leb}
use Rattle.octets.specs.Octets.{Octets}
use Rattle.rules.specs.Limits.{most_key_id, count_limit}
use Rattle.rules.specs.Records.{sound_sender, receiver_fits, sound_receiver, new_sender, new_receiver, fresh_answer, fresh_sender, receiver_answer, fresh_receiver, sender_next, count_of, counted, receiver_next}
use Rattle.rules.specs.Answers.{answer_number}
use Rattle.rules.specs.Sealing.{seal_answer, seal_next}
use Rattle.rules.specs.Opening.{open_answer, open_next}
use Rattle.rules.specs.Calls.{Call, OctetFrames, open_run}
use Rattle.rules.specs.Sending.{sealing, send_run}
use Rattle.rules.specs.declared.Sender.{Sender}
use Rattle.rules.specs.declared.Receiver.{Receiver}
use Rattle.rules.specs.Answers.{Answer}
use Rattle.rules.specs.Answers.{Done, Refused}
use Rattle.rules.proofs.Sends.{next_sound}
use Rattle.rules.proofs.Steps.{Windowed, windows_sound, new_windowed, keeps_windowed, keeps_sound}
use Rattle.kondrivai.specs.Layout1.{sender_size, is_sender, sender_in, sender_octets, receiver_size, is_receiver, receiver_in, receiver_octets}
use Rattle.kondrivai.specs.Exports.{seal_number, seal_buffer, seal_room, open_number, open_buffer, open_room, can_hold, fresh_sender_number, fresh_sender_buffer, fresh_receiver_number, fresh_receiver_buffer}
use Rattle.kondrivai.specs.Undone.{TypedSender, TypedReceiver}
use Rattle.kondrivai.specs.Hosts.{seal_buffer_run, open_buffer_run, StandsForSender, StandsForReceiver, HostSeals, HostOpens}
use Rattle.kondrivai.proofs.Making.{key_size}
use Rattle.kondrivai.proofs.Undone.{sender_written, sender_reads, receiver_written, receiver_reads}

-- a sender that can stand in a buffer
pub record GoodSender (s : Sender) : Type 0 where
  pub typed : TypedSender s
  pub sound : sound_sender s ≡ true

module _ (s : Sender) (good : GoodSender s) (c : Call) where
  held : is_sender (sender_octets s) ≡ true
  held = sender_written s good.typed good.sound

  is : sender_in (sender_octets s) ≡ s
  is = sender_reads s good.typed good.sound

  stands : StandsForSender (sender_octets s) s c
  unfolding seal_number seal_room
  stands = record { held = refl; answered = rw (held, is); written = rw (held, is) }

  buffer_next : seal_buffer (sender_octets s) c.frame c.room ≡ sender_octets (seal_next s c.frame c.room)
  unfolding seal_buffer
  buffer_next = rw (held, is)

  good_next : GoodSender (seal_next s c.frame c.room)
  unfolding sender_next
  good_next = record { typed = go (seal_answer s c.frame c.room); sound = next_sound s (sealing c) good.sound }
    where
      go : (a : Answer) → TypedSender (sender_next s a)
      go (Done n p k) = record { address = good.typed.address; key = good.typed.key }
      go (Refused a) = good.typed

seals : (s : Sender) → GoodSender s → (cs : List Call) (c : Call) → StandsForSender (seal_buffer_run (sender_octets s) cs) (send_run s (map sealing cs)) c
seals s good [] c = stands s good c
seals s good (d ∷ cs) c =
    let t = seal_next s d.frame d.room in
    subst (λ (b : List ℕ). StandsForSender (seal_buffer_run b cs) (send_run t (map sealing cs)) c) (sym (buffer_next s good d)) (seals t (good_next s good d) cs c)

-- a receiver that can stand in a buffer
pub record GoodReceiver (r : Receiver) : Type 0 where
  pub typed : TypedReceiver r
  pub windowed : Windowed r
  pub sound : sound_receiver r ≡ true

count_fits : (k m v : ℕ) → v < count_limit → counted k m v < count_limit
count_fits k m v l = go (eqb m k)
  where
    go : (b : Bool) → cond b ((v + 1) % count_limit) v < count_limit
    go true = mod-lt (v + 1) (omega arith)
    go false = l

module _ (r : Receiver) (good : GoodReceiver r) (c : Call) where
  receiver_held : is_receiver (receiver_octets r) ≡ true
  receiver_held = receiver_written r good.typed good.sound

  receiver_is : receiver_in (receiver_octets r) ≡ r
  receiver_is = receiver_reads r good.typed good.sound

  receiver_stands : StandsForReceiver (receiver_octets r) r c
  unfolding open_number open_room
  receiver_stands = record { held = refl; answered = rw (receiver_held, receiver_is); written = rw (receiver_held, receiver_is) }

  receiver_next_lem : open_buffer (receiver_octets r) c.frame c.room ≡ receiver_octets (open_next r c.frame c.room)
  unfolding open_buffer
  receiver_next_lem = rw (receiver_held, receiver_is)

  good_receiver : Octets c.frame → GoodReceiver (open_next r c.frame c.room)
  unfolding receiver_next
  good_receiver octets =
      let w = good.windowed in
      let t = good.typed in
      let next = keeps_windowed r c.frame c.room w octets in
      let m = count_of (open_answer r c.frame c.room) in
      record {
        typed = record {
          peer = t.peer;
          key = t.key;
          replay = next.replays;
          seen = next.seens;
          format_errors = count_fits 1 m r.counts.format_errors t.format_errors;
          replays = count_fits 2 m r.counts.replays t.replays;
          decrypt_errors = count_fits 3 m r.counts.decrypt_errors t.decrypt_errors;
          opened = count_fits 4 m r.counts.opened t.opened;
        };
        windowed = next;
        sound = keeps_sound r c.frame c.room w octets good.sound;
      }

opens : (r : Receiver) → GoodReceiver r → (cs : List Call) → OctetFrames cs → (c : Call) → StandsForReceiver (open_buffer_run (receiver_octets r) cs) (open_run r cs) c
opens r good [] octets c = receiver_stands r good c
opens r good (d ∷ cs) octets c =
    let t = open_next r d.frame d.room in
    subst (λ (b : List ℕ). StandsForReceiver (open_buffer_run b cs) (open_run t cs) c) (sym (receiver_next_lem r good d))
    (opens t (good_receiver r good d (octets zero)) cs (λ i. octets (suc i)) c)

-- where a record was made, buffer and key had their lengths, and the call beneath was done
made_when : (can fits : Bool) → cond can (answer_number (cond fits (Done 0 0 0) (Refused 1))) 1 ≡ 0 → (can ≡ true) × (fits ≡ true)
made_when true true e = (refl, refl)
made_when true false e = absurd (omega arith)
made_when false fits e = absurd (omega arith)

pub host_seals : HostSeals
unfolding fresh_sender_number fresh_sender_buffer fresh_answer fresh_sender sound_sender
host_seals b key address keyId size done cs c =
    let w = made_when (can_hold sender_size b key) (leb keyId most_key_id) done in
    let s = new_sender key keyId address in
    let good : GoodSender s = record { typed = record { address = size; key = key_size sender_size b key w.0 }; sound = rw w.1 } in
    rw (eq-eqb _ 0 done, w.1) (seals s good cs c)

pub host_opens : HostOpens
unfolding fresh_receiver_number fresh_receiver_buffer receiver_answer fresh_receiver
host_opens b key peer keyId size peers done cs octets c =
    let w = made_when (can_hold receiver_size b key) (receiver_fits keyId size) done in
    let r = new_receiver key keyId peer size in
    let new = new_windowed key keyId peer size in
    let none : 0 < count_limit = omega arith in
    let good : GoodReceiver r = record {
      typed = record {
        peer = peers;
        key = key_size receiver_size b key w.0;
        replay = new.replays;
        seen = new.seens;
        format_errors = none;
        replays = none;
        decrypt_errors = none;
        opened = none;
      };
      windowed = new;
      sound = windows_sound r w.1 new;
    } in
    rw (eq-eqb _ 0 done, w.1) (opens r good cs octets c)
