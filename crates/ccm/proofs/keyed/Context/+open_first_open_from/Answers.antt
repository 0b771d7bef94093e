-- The first part and what is opened after it make the whole.
use Rattle.std.proofs.Common.{true, false, ◌≡◌, ℕ, ◌+◌, ◌-◌, ◌*◌, ◌<◌, ◌≤◌, List, length, take, drop, sym, ap, ◌∙◌, arith, length-drop, length-append}
use Rattle.std.proofs.Math.ListN.{length-take}
use lib.Seq.{length-take-le}
use Rattle.octets.proofs.Lists.{laid_all}
use Rattle.aes.specs.KeyExpansion.{aes128}
use Rattle.aes.specs.Word.{bytes_of}
use Rattle.aes.proofs.Laws.{length_aes128}
use Rattle.ccm.specs.Limits.{code_octets, held, held_blocks}
use Rattle.ccm.specs.Ccm.{S}
use Rattle.ccm.specs.Room.{message_from}
use Rattle.ccm.proofs.Turns.{counter_within}
use Rattle.ccm.proofs.Parts.{joined, right_parts, kept_out, put_out}
use Rattle.ccm.proofs.keyed.Context.+open_first_open_from.Goals as goal

-- the text after its first part is shorter
shorter : (t : List ℕ) → held + code_octets < length t → 2 * length (take (length t - held) (drop held t)) + 1 < 2 * length t
shorter t h = omega (arith, length-take (length t - held) (drop held t), length-drop held t)

pub open_first-slice_bounds-pass-end : goal.open_first-slice_bounds-pass-end
open_first-slice_bounds-pass-end t c = sym (length-take-le _ _ (omega (arith, c.requires.1)))

pub open_first-slice_bounds-copy-end-3 : goal.open_first-slice_bounds-copy-end-3
open_first-slice_bounds-copy-end-3 t c = sym (length-take-le _ _ (simp (length-append, length-take, length-drop) (omega (arith, c.requires.0.room_holds, c.requires.1))))

pub open_first-copy-requires : goal.open_first-copy-requires
open_first-copy-requires t c = simp (length-take, length-append, length-drop) (omega (arith, c.requires.0.room_holds, c.requires.1, c.pass-next.auto.out))

pub open_first-pass-next-requires : goal.open_first-pass-next-requires
open_first-pass-next-requires t c =
    let a = c.args in
    let h = c.requires.0 in
    let long = c.requires.1 in
    let e : length (take held a.text.now) ≡ held = omega (arith, length-take held a.text.now) in
    let one = counter_within (length a.text.now - code_octets) 0 a.i 0 (omega (arith, long)) ∙ sym (counter_within (length (take held a.text.now)) 0 a.i _ (omega (arith, e))) in
    (omega (arith, h.counted, e), omega (arith, h.counted), sym e, h.at_hand ∙ ap (S (aes128 a.self.now.cipher) a.self.now.nonce) one)

pub open_first-returns-then-not-open_from : goal.open_first-returns-then-not-open_from
open_first-returns-then-not-open_from t c =
    let a = c.args in
    let E = aes128 a.self.now.cipher in
    let wrong : c.open_from.result ≡ false = cc in
    let long = c.requires.1 in
    record {
      value = sym wrong ∙ right_parts E (length_aes128 a.self.now.cipher) a.self.now.nonce a.i a.text.now long (bytes_of a.from.x) _ _ c.pass-next.ensures.x c.open_from.ensures.value;
      out_after = kept_out a.out.now (omega (arith, c.requires.0.room_holds, long)) _ (c.open_from.ensures.out_after ∙ rw wrong);
    }

pub open_first-returns : goal.open_first-returns
open_first-returns t c =
    let a = c.args in
    let E = aes128 a.self.now.cipher in
    let hE = length_aes128 a.self.now.cipher in
    let found : c.open_from.result ≡ true = cc in
    let long = c.requires.1 in
    let fits : held ≤ length a.out.now = omega (arith, c.requires.0.room_holds, long) in
    let part = c.copy.ensures.copied ∙ laid_all _ _ (simp length-take (omega (arith, fits))) ∙ c.pass-next.ensures.out_after in
    let after = take (length a.text.now - held) (drop held a.text.now) in
    record {
      value = sym found ∙ right_parts E hE a.self.now.nonce a.i a.text.now long (bytes_of a.from.x) _ _ c.pass-next.ensures.x c.open_from.ensures.value;
      out_after = put_out a.out.now fits _ _ _ (message_from E a.self.now.nonce (a.i + held_blocks) after) (length after - code_octets) part (c.open_from.ensures.out_after ∙ rw found)
          ∙ joined E hE a.self.now.nonce a.i a.text.now long a.out.now;
    }
