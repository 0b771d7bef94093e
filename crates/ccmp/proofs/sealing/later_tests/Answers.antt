use Rattle.std.proofs.Common.{◌≡◌, ℕ, ◌+◌, ◌-◌, ◌<◌, ◌≤◌, true, false, List, ◌++◌, length, sym, ap, ◌∙◌, arith, length-append, le-ltb, lt-ltb, eq-eqb, ne_eqb, ltb}
use Rattle.octets.specs.Octets.{same}
use Rattle.rules.specs.Limits.{most_number, least_body, most_body}
use Rattle.rules.specs.Header.{header_length, address2}
use Rattle.rules.specs.Mode.{added}
use Rattle.rules.specs.Records.{sound_sender}
use Rattle.rules.specs.Answers.{outside}
use Rattle.rules.specs.Sealing.{seal_tests}
use Rattle.rules.specs.declared.Header.{Header}
use Rattle.rules.specs.declared.Sender.{Sender}
use Rattle.ccmp.specs.Verdict.{Verdict, Refuse, Pass, verdict}
use Rattle.ccmp.specs.Parts.{Heads}
use Rattle.ccmp.proofs.Verdicts.{Headed}
use Rattle.ccmp.proofs.Parts.{whole_header, whole_address, head_exact, headed_whole}
use Rattle.ccmp.proofs.sealing.later_tests.Goals as goal

-- Test by test, after those that passed before.
module _ (s : Sender) (head body : List ℕ) (h : Header) (room : ℕ) (sound : sound_sender s ≡ true) (ok : Heads head h) where
  -- the frame that the two parts make
  abbrev F : List ℕ
  F = head ++ body

  abbrev Found : Verdict → Type 0
  Found v = v ≡ verdict (seal_tests s F room) h

  t : Headed 1 F h
  t = headed_whole head body h ok

  exact : length head ≡ header_length head
  exact = head_exact head body h ok

  size : length F ≡ length head + length body
  size = length-append head body

  -- the octets after the header
  body_is : outside least_body most_body (length F - header_length F) ≡ outside least_body most_body (length body)
  body_is =
      let after : length F - header_length F ≡ length body = omega (arith, size, exact, whole_header head body exact) in
      ap (outside least_body most_body) after

  address_is : same (address2 F) s.address ≡ same (address2 head) s.address
  address_is = ap (λ (a : List ℕ). same a s.address) (whole_address head body exact)

  found_5 : outside least_body most_body (length body) ≡ true → Found (Refuse 5)
  found_5 e = rw (sound, t.short, t.kind, t.mark, t.cut, body_is ∙ e)

  module _ (w : outside least_body most_body (length body) ≡ false) where
    found_6 : room < length head + length body + added → Found (Refuse 6)
    found_6 l = rw (sound, t.short, t.kind, t.mark, t.cut, body_is ∙ w, lt-ltb room (length F + added) (omega (arith, size)))

    module _ (enough : length head + length body + added ≤ room) where
      holds : ltb room (length F + added) ≡ false
      holds = le-ltb room (length F + added) (omega (arith, size))

      found_7 : same (address2 head) s.address ≡ false → Found (Refuse 7)
      found_7 e = rw (sound, t.short, t.kind, t.mark, t.cut, body_is ∙ w, holds, address_is ∙ e)

      module _ (own : same (address2 head) s.address ≡ true) where
        found_12 : s.last ≡ most_number → Found (Refuse 12)
        found_12 e = rw (sound, t.short, t.kind, t.mark, t.cut, body_is ∙ w, holds, address_is ∙ own, eq-eqb s.last most_number e)

        found_none : (s.last ≡ most_number → ⊥) → Found (Pass h)
        found_none e = rw (sound, t.short, t.kind, t.mark, t.cut, body_is ∙ w, holds, address_is ∙ own, ne_eqb s.last most_number e)

pub returns-then-outside : goal.returns-then-outside
returns-then-outside c =
    let a = c.args in
    found_5 a.s a.head.frame.octets.now a.body.now a.head.frame.header a.room c.requires a.head.heads (sym c.outside.ensures ∙ c.if-outside.true)

pub returns-then-room-octets : goal.returns-then-room-octets
returns-then-room-octets c =
    let a = c.args in
    found_6 a.s a.head.frame.octets.now a.body.now a.head.frame.header a.room c.requires a.head.heads (sym c.outside.ensures ∙ c.if-outside.false) c.if-room-octets.true

pub returns-then-not-equal : goal.returns-then-not-equal
unfolding address2
returns-then-not-equal c =
    let a = c.args in
    found_7 a.s a.head.frame.octets.now a.body.now a.head.frame.header a.room c.requires a.head.heads (sym c.outside.ensures ∙ c.if-outside.false) c.if-room-octets.false
    (sym c.equal.ensures ∙ c.if-not-equal.true)

pub returns-then-s-eq-MOST_NUMBER : goal.returns-then-s-eq-MOST_NUMBER
unfolding address2
returns-then-s-eq-MOST_NUMBER c =
    let a = c.args in
    found_12 a.s a.head.frame.octets.now a.body.now a.head.frame.header a.room c.requires a.head.heads (sym c.outside.ensures ∙ c.if-outside.false) c.if-room-octets.false
    (sym c.equal.ensures ∙ c.if-not-equal.false) c.if-s-eq-MOST_NUMBER.true

pub returns : goal.returns
unfolding address2
returns c =
    let a = c.args in
    found_none a.s a.head.frame.octets.now a.body.now a.head.frame.header a.room c.requires a.head.heads (sym c.outside.ensures ∙ c.if-outside.false) c.if-room-octets.false
    (sym c.equal.ensures ∙ c.if-not-equal.false) c.if-s-eq-MOST_NUMBER.false
