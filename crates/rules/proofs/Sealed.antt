-- A sealed frame, and what a matching receiver answers to it: opening undoes sealing.
use mathlib.Core.Path.{◌≡◌, refl, sym, ap, ◌∙◌}
use mathlib.Core.Bool.{true, cond}
use mathlib.Core.List.{List, ◌++◌, append_assoc}
use mathlib.Core.Logic.{◌≢◌}
use mathlib.Core.Option.{some}
use Prim.Native.Nat.{ℕ, ◌+◌, ◌-◌, ◌*◌, ◌%◌, ◌/◌, ◌<◌, ◌≤◌}
use native.Mathlib.Omega.{arith}
use borrow.Author.Tests.{eq-eqb, ne_eqb, le-ltb}
use lib.ListN.{length, take, drop, get_or, length-drop, length-set, length-append, get_or-append, take-append-drop}
use lib.Seq.{get_or-take, get_or-set_same, get_or-set_other, length-take-le, take_at, drop_at}
use Rattle.octets.specs.Options.{contents}
use Rattle.rules.specs.Limits.{most_number, least_header, most_header, ccmp_octets, least_body, most_body}
use Rattle.rules.specs.Header.{part, header_length, address1, address2, priority, protected, authenticated, protect, unprotect}
use Rattle.rules.specs.Nonce.{nonce, ccmp_header, ccmp_of, text_of, extended, key_id_in, number}
use Rattle.rules.specs.Mode.{code_octets, added, sealed_text}
use Rattle.rules.specs.Tests.{body_of}
use Rattle.rules.specs.Records.{sound_receiver, is_replay}
use Rattle.rules.specs.Sealing.{sealed_frame, seal_answer, seal_output, Sealable}
use Rattle.rules.specs.Opening.{opened_frame, open_answer, open_output}
use Rattle.rules.specs.Demand2.{Match, OpeningUndoesSealing}
use Rattle.rules.specs.Answers.{Done, Refused}
use Rattle.rules.specs.declared.Sender.{Sender}
use Rattle.rules.specs.declared.Receiver.{Receiver}
use Rattle.rules.proofs.Fields.{header_range, authenticated_size, data_range, Alike, kind_alike, length_alike, address1_alike, address_alike, priority_alike, authenticated_alike, unprotect_protect, number_in_lem, key_in, extended_in}
use Rattle.rules.proofs.Mode.{text_length, text_opens, text_is}
use Rattle.rules.proofs.Passing.{not_outside, seal_done}

back : (n : ℕ) → n + added - added ≡ n
back n = omega arith

module _ (s : Sender) (f : List ℕ) (n : ℕ) (ok : Sealable s f) where
  H : ℕ
  H = header_length f

  range : (least_header ≤ header_length f) × (header_length f ≤ most_header)
  range = header_range f

  abbrev head : List ℕ
  head = protect (take (header_length f) f)

  abbrev ccmp : List ℕ
  ccmp = ccmp_header n s.key_id

  abbrev pub text : List ℕ
  text = contents (sealed_text s.key (nonce (priority f) (address2 f) n) (authenticated f) (drop (header_length f) f))

  front_size : length (take (header_length f) f) ≡ header_length f
  front_size = length-take-le (header_length f) f ok.whole

  head_size : length head ≡ header_length f
  unfolding protect
  head_size = rw length-set front_size

  ccmp_size : length ccmp ≡ ccmp_octets
  unfolding ccmp_header
  ccmp_size = refl

  pub sealed_is : sealed_text s.key (nonce (priority f) (address2 f) n) (authenticated f) (drop (header_length f) f) ≡ some text
  sealed_is =
      let a = authenticated_size f ok.whole in
      let r = data_range f in
      text_is s.key (nonce (priority f) (address2 f) n) (authenticated f) (drop (header_length f) f) (omega arith) (omega arith) (omega (arith, length-drop (header_length f) f, ok.most))

  pub text_size : length text ≡ length f - header_length f + code_octets
  text_size =
      text_length s.key (nonce (priority f) (address2 f) n) (authenticated f) (drop (header_length f) f) text sealed_is
      ∙ ap (λ (x : ℕ). x + code_octets) (length-drop (header_length f) f)

  pub sealed_size : length (sealed_frame s n f) ≡ length f + added
  unfolding sealed_frame
  sealed_size = omega (arith, length-append head (ccmp ++ text), length-append ccmp text, head_size, ccmp_size, text_size, ok.whole)

  first_octet : get_or (sealed_frame s n f) 1 0 ≡ get_or f 1 0 % 64 + 64 + 128 * (get_or f 1 0 / 128)
  unfolding sealed_frame protect
  first_octet =
      get_or-append head (ccmp ++ text) 0 1 (omega (arith, head_size, range))
      ∙ get_or-set_same (take (header_length f) f) 1 _ 0 (omega (arith, front_size, range))
      ∙ ap (λ (x : ℕ). x % 64 + 64 + 128 * (x / 128)) (get_or-take (header_length f) f 1 0 (omega (arith, range)))

  other_octet : (i : ℕ) → i < header_length f → i ≢ 1 → get_or (sealed_frame s n f) i 0 ≡ get_or f i 0
  unfolding sealed_frame protect
  other_octet i l ne =
      get_or-append head (ccmp ++ text) 0 i (omega (arith, head_size))
      ∙ get_or-set_other (take (header_length f) f) 1 i _ 0 ne
      ∙ get_or-take (header_length f) f i 0 l

  sealed_alike : Alike f (sealed_frame s n f) (header_length f)
  sealed_alike =
      record {
        octet = λ i l ne ne'. other_octet i l ne;
        low = let e = first_octet in omega arith;
        high = let e = first_octet in omega arith;
        long_f = ok.whole;
        long_g = omega (arith, sealed_size, ok.whole);
      }

  sealed_protected : protected (sealed_frame s n f) ≡ 1
  sealed_protected = let e = first_octet in omega arith

  sealed_header : header_length (sealed_frame s n f) ≡ header_length f
  sealed_header = length_alike f (sealed_frame s n f) (header_length f) sealed_alike range.0

  sealed_part : part (sealed_frame s n f) (header_length f) ccmp_octets ≡ ccmp
  unfolding sealed_frame
  sealed_part = ap (take ccmp_octets) (drop_at head (ccmp ++ text) (header_length f) head_size) ∙ take_at ccmp text ccmp_octets ccmp_size

  pub sealed_ccmp : ccmp_of (sealed_frame s n f) ≡ ccmp
  sealed_ccmp = ap (λ (h : ℕ). part (sealed_frame s n f) h ccmp_octets) sealed_header ∙ sealed_part

  sealed_text_lem : text_of (sealed_frame s n f) ≡ text
  unfolding sealed_frame
  sealed_text_lem =
      ap (λ (h : ℕ). drop (h + ccmp_octets) (sealed_frame s n f)) sealed_header
      ∙ ap (drop (header_length f + ccmp_octets)) (sym (append_assoc head ccmp text))
      ∙ drop_at (head ++ ccmp) text (header_length f + ccmp_octets) (omega (arith, length-append head ccmp, head_size, ccmp_size))

  sealed_priority : priority (sealed_frame s n f) ≡ priority f
  sealed_priority = priority_alike f (sealed_frame s n f) (header_length f) sealed_alike range.0 refl

  sealed_authenticated : authenticated (sealed_frame s n f) ≡ authenticated f
  sealed_authenticated =
      authenticated_alike f (sealed_frame s n f) (header_length f) sealed_alike range.0 refl
      (let e = first_octet in omega arith) (other_octet 22 (omega (arith, range)) (omega arith))

  pub sealed_address1 : address1 (sealed_frame s n f) ≡ address1 f
  sealed_address1 = address1_alike f (sealed_frame s n f) (header_length f) sealed_alike range.0

  pub sealed_address : address2 (sealed_frame s n f) ≡ address2 f
  sealed_address = address_alike f (sealed_frame s n f) (header_length f) sealed_alike range.0

  head_back : unprotect head ≡ take (header_length f) f
  head_back =
      unprotect_protect (take (header_length f) f) (omega (arith, front_size, range))
      (ap (λ (x : ℕ). x / 64 % 2) (get_or-take (header_length f) f 1 0 (omega (arith, range))) ∙ ok.plain)

  front_is : take (header_length f) (sealed_frame s n f) ≡ head
  unfolding sealed_frame
  front_is = take_at head (ccmp ++ text) (header_length f) head_size

  module _ (fits : n ≤ most_number) where
    pub sealed_number : number (sealed_frame s n f) ≡ n
    unfolding number
    sealed_number = rw sealed_ccmp (number_in_lem n s.key_id fits)

    module _ (r : Receiver) (sound : sound_receiver r ≡ true) (m : Match s r) where
      sealed_opens : body_of r.key (sealed_frame s n f) ≡ some (drop (header_length f) f)
      unfolding body_of
      sealed_opens =
          rw (sealed_priority, sealed_address, sealed_number, sealed_authenticated, sealed_text_lem, ← m.key)
          (text_opens s.key (nonce (priority f) (address2 f) n) (authenticated f) (drop (header_length f) f) text sealed_is)

      pub opened_frame_lem : opened_frame r (sealed_frame s n f) ≡ f
      unfolding opened_frame
      opened_frame_lem = rw (sealed_opens, sealed_header, front_is, head_back) (take-append-drop (header_length f) f)

      pub sealed_answer : (room : List ℕ) → length f ≤ length room
          → open_answer r (sealed_frame s n f) room ≡ cond (is_replay r (priority f) n) (Refused 10) (Done n (priority f) (length f))
      unfolding open_answer
      sealed_answer room enough =
          rw (
            sound,
            le-ltb (length (sealed_frame s n f)) least_header (omega (arith, sealed_size)),
            kind_alike f (sealed_frame s n f) (header_length f) sealed_alike range.0 ∙ ok.kind,
            ne_eqb (protected (sealed_frame s n f)) 0 (λ e. omega (arith, sealed_protected)),
            sealed_header,
            le-ltb (length (sealed_frame s n f)) (header_length f) (omega (arith, sealed_size, ok.whole)),
            sealed_size,
            not_outside (least_body + added) (most_body + added) (length f + added - header_length f) (omega (arith, ok.least)) (omega (arith, ok.most)),
            le-ltb (length room) (length f + added - added) (omega arith),
            sealed_opens,
            sealed_address,
            ← m.address,
            ok.own,
            sealed_part,
            ne_eqb (extended (ccmp_header n s.key_id)) 0 (λ e. omega (arith, extended_in n s.key_id ok.id_fits)),
            ← m.key_id,
            eq-eqb (key_id_in (ccmp_header n s.key_id)) s.key_id (key_in n s.key_id ok.id_fits),
            sealed_number,
            sealed_priority,
            back (length f),
          )

-- the octets that sealing writes are the frame that the rules give
pub written_is : (s : Sender) (f room : List ℕ) (n p k : ℕ) → seal_answer s f room ≡ Done n p k → take k (seal_output s f room) ≡ sealed_frame s n f
unfolding seal_output
written_is s f room n p k e =
    let d = seal_done s f room n p k e in
    let size : length (sealed_frame s (s.last + 1) f) ≡ k = sealed_size s f (s.last + 1) d.sealable ∙ sym d.length_is in
    rw e (take_at (sealed_frame s (s.last + 1) f) (drop k room) k size) ∙ ap (λ (x : ℕ). sealed_frame s x f) (sym d.number_is)

pub opening_undoes_sealing : OpeningUndoesSealing
unfolding open_output
opening_undoes_sealing s r f room room' n p k e sound m enough taken =
    let d = seal_done s f room n p k e in
    let fits : n ≤ most_number = omega (arith, d.number_is, d.sealable.unspent) in
    let is = written_is s f room n p k e in
    let answer : open_answer r (sealed_frame s n f) room' ≡ Done n p (length f)
    = sealed_answer s f n d.sealable fits r sound m room' enough
    ∙ rw (← d.priority_is, taken) in (
      ap (λ (g : List ℕ). open_answer r g room') is ∙ answer,
      rw (is, answer) (ap (λ (g : List ℕ). g ++ drop (length f) room') (opened_frame_lem s f n d.sealable fits r sound m)),
    )
