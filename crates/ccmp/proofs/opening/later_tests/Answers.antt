use Rattle.std.proofs.Common.{◌≡◌, ℕ, ◌+◌, ◌-◌, ◌/◌, ◌<◌, ◌≤◌, Bool, true, false, List, length, get_or, sym, ap, ◌∙◌, arith, le-ltb, lt-ltb}
use lib.Bits.{bit_and}
use Rattle.octets.specs.Octets.{same}
use Rattle.rules.specs.Limits.{least_body, most_body}
use Rattle.rules.specs.Header.{header_length, address2, priority, header_of}
use Rattle.rules.specs.Nonce.{number}
use Rattle.rules.specs.Mode.{added}
use Rattle.rules.specs.Windows.{takes}
use Rattle.rules.specs.Records.{window_of, sound_receiver}
use Rattle.rules.specs.Answers.{outside}
use Rattle.rules.specs.Opening.{earlier_tests}
use Rattle.rules.specs.declared.Header.{Header}
use Rattle.rules.specs.declared.Receiver.{Receiver}
use Rattle.rules.proofs.Fields.{priority_below}
use Rattle.rules.proofs.Passing.{inside}
use Rattle.rules.proofs.Steps.{sound_size}
use Rattle.ccmp.specs.Verdict.{Verdict, Refuse, Pass, verdict}
use Rattle.ccmp.proofs.Headers.{fields_of}
use Rattle.ccmp.proofs.Keys.{extended_not, extended_set, id_other, id_same}
use Rattle.ccmp.proofs.Verdicts.{Headed, headed}
use Rattle.ccmp.proofs.opening.later_tests.Goals as goal

-- Test by test, after those that passed before.
module _ (r : Receiver) (f : List ℕ) (h : Header) (room : ℕ) (sound : sound_receiver r ≡ true) (t : Headed 0 f h) where
  abbrev Found : Verdict → Type 0
  Found v = v ≡ verdict (earlier_tests r f room) (header_of f)

  abbrev body_outside : ℕ → Bool
  body_outside k = outside (least_body + added) (most_body + added) (length f - k)

  length_is : h.length ≡ header_length f
  length_is = (fields_of f h t.is).length_is

  -- the octets after the header
  body_is : body_outside (header_length f) ≡ body_outside h.length
  body_is = ap body_outside (sym length_is)

  found_5 : body_outside h.length ≡ true → Found (Refuse 5)
  found_5 e = rw (sound, t.short, t.kind, t.mark, t.cut, body_is ∙ e)

  module _ (w : body_outside h.length ≡ false) where
    -- the CCMP header and the code stand after the header
    long : h.length + (least_body + added) ≤ length f
    long = omega (arith, inside (least_body + added) (most_body + added) (length f - header_length f) (body_is ∙ w), length_is, t.whole)

    found_6 : room < length f - added → Found (Refuse 6)
    found_6 l = rw (sound, t.short, t.kind, t.mark, t.cut, body_is ∙ w, lt-ltb room (length f - added) l)

    module _ (enough : length f - added ≤ room) where
      found_7 : same (address2 f) r.peer ≡ false → Found (Refuse 7)
      found_7 e = rw (sound, t.short, t.kind, t.mark, t.cut, body_is ∙ w, le-ltb room (length f - added) enough, e)

      module _ (peer : same (address2 f) r.peer ≡ true) (o : get_or f (h.length + 3) 0 < 256) where
        abbrev octet : ℕ
        octet = get_or f (h.length + 3) 0

        found_8 : bit_and octet 32 ≡ 0 → Found (Refuse 8)
        found_8 e =
            rw (sound, t.short, t.kind, t.mark, t.cut, body_is ∙ w, le-ltb room (length f - added) enough, peer, extended_not f h.length length_is o e)

        module _ (x : bit_and octet 32 ≡ 0 → ⊥) where
          found_9 : (octet / 64 ≡ r.key_id → ⊥) → Found (Refuse 9)
          found_9 e =
              rw (
                sound,
                t.short,
                t.kind,
                t.mark,
                t.cut,
                body_is ∙ w,
                le-ltb room (length f - added) enough,
                peer,
                extended_set f h.length length_is o x,
                id_other f h.length length_is r.key_id e,
              )

          module _ (id : octet / 64 ≡ r.key_id) where
            found_10 : takes (window_of r (priority f)) (number f) ≡ false → Found (Refuse 10)
            found_10 e =
                rw (
                  sound,
                  t.short,
                  t.kind,
                  t.mark,
                  t.cut,
                  body_is ∙ w,
                  le-ltb room (length f - added) enough,
                  peer,
                  extended_set f h.length length_is o x,
                  id_same f h.length length_is r.key_id id,
                  e,
                )

            found_none : takes (window_of r (priority f)) (number f) ≡ true → Found (Pass h)
            found_none e =
                rw (
                  sound,
                  t.short,
                  t.kind,
                  t.mark,
                  t.cut,
                  body_is ∙ w,
                  le-ltb room (length f - added) enough,
                  peer,
                  extended_set f h.length length_is o x,
                  id_same f h.length length_is r.key_id id,
                  e,
                  t.is,
                )

pub returns-then-outside : goal.returns-then-outside
returns-then-outside c =
    let a = c.args in
    found_5 a.r a.frame.octets.now a.frame.header a.room c.requires.0 (headed 0 a.frame.octets.now a.frame.header c.requires.1) (sym c.outside.ensures ∙ c.if-outside.true)

pub returns-then-room-octets : goal.returns-then-room-octets
returns-then-room-octets c =
    let a = c.args in
    found_6 a.r a.frame.octets.now a.frame.header a.room c.requires.0 (headed 0 a.frame.octets.now a.frame.header c.requires.1)
    (sym c.outside.ensures ∙ c.if-outside.false) c.if-room-octets.true

pub returns-then-not-equal : goal.returns-then-not-equal
unfolding address2
returns-then-not-equal c =
    let a = c.args in
    found_7 a.r a.frame.octets.now a.frame.header a.room c.requires.0 (headed 0 a.frame.octets.now a.frame.header c.requires.1)
    (sym c.outside.ensures ∙ c.if-outside.false) c.if-room-octets.false (sym c.equal.ensures ∙ c.if-not-equal.true)

pub returns-then-octet-eq0 : goal.returns-then-octet-eq0
unfolding address2
returns-then-octet-eq0 c =
    let a = c.args in
    found_8 a.r a.frame.octets.now a.frame.header a.room c.requires.0 (headed 0 a.frame.octets.now a.frame.header c.requires.1)
    (sym c.outside.ensures ∙ c.if-outside.false) c.if-room-octets.false (sym c.equal.ensures ∙ c.if-not-equal.false)
    (omega arith) c.if-octet-eq0.true

pub returns-then-octet-r : goal.returns-then-octet-r
unfolding address2
returns-then-octet-r c =
    let a = c.args in
    found_9 a.r a.frame.octets.now a.frame.header a.room c.requires.0 (headed 0 a.frame.octets.now a.frame.header c.requires.1)
    (sym c.outside.ensures ∙ c.if-outside.false) c.if-room-octets.false (sym c.equal.ensures ∙ c.if-not-equal.false)
    (omega arith) c.if-octet-eq0.false c.if-octet-r.true

pub window_of-requires : goal.window_of-requires
window_of-requires c =
    let a = c.args in
    let t = headed 0 a.frame.octets.now a.frame.header c.requires.1 in
    omega (arith, (fields_of a.frame.octets.now a.frame.header t.is).priority_is, priority_below a.frame.octets.now)

pub takes-requires : goal.takes-requires
takes-requires c =
    rw c.window_of.ensures (sound_size c.args.r c.requires.0).1

pub returns-then-not-takes : goal.returns-then-not-takes
unfolding address2
returns-then-not-takes c =
    let a = c.args in
    let t = headed 0 a.frame.octets.now a.frame.header c.requires.1 in
    found_10 a.r a.frame.octets.now a.frame.header a.room c.requires.0 t
    (sym c.outside.ensures ∙ c.if-outside.false) c.if-room-octets.false (sym c.equal.ensures ∙ c.if-not-equal.false)
    (omega arith) c.if-octet-eq0.false c.if-octet-r.false
    (rw (← (fields_of a.frame.octets.now a.frame.header t.is).priority_is, ← c.number.ensures, ← c.window_of.ensures) (sym c.takes.ensures ∙ c.if-not-takes.true))

pub returns : goal.returns
unfolding address2
returns c =
    let a = c.args in
    let t = headed 0 a.frame.octets.now a.frame.header c.requires.1 in
    found_none a.r a.frame.octets.now a.frame.header a.room c.requires.0 t
    (sym c.outside.ensures ∙ c.if-outside.false) c.if-room-octets.false (sym c.equal.ensures ∙ c.if-not-equal.false)
    (omega arith) c.if-octet-eq0.false c.if-octet-r.false
    (rw (← (fields_of a.frame.octets.now a.frame.header t.is).priority_is, ← c.number.ensures, ← c.window_of.ensures) (sym c.takes.ensures ∙ c.if-not-takes.false))
