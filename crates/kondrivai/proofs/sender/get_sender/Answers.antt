use mathlib.Core.Path.{◌≡◌, sym, ap, ◌∙◌}
use Prim.Native.Nat.{ℕ}
use lib.ListN.{length}
use borrow.Author.Rules.{rules}
use borrow.Author.Tests.{lt-leb, le-leb}
use Rattle.std.proofs.Common.{Some}
use Rattle.rules.specs.Records.{with_last}
use Rattle.rules.specs.declared.Sender.{Sender}
use Rattle.kondrivai.specs.Front.{sender_kind, is_of}
use Rattle.kondrivai.specs.Layout1.{layout, sender_size, is_sender, sender_in}
use Rattle.kondrivai.proofs.sender.get_sender.Goals as goal
use Rattle.kondrivai.proofs.sender.get_sender.Goals.{then-not-is_of-via-then-not-is_of, then-not-is_of-via-else-not-is_of+then-b-gt-MOST_KEY_ID}

pub returns-then-not-is_of : goal.returns-then-not-is_of
unfolding is_sender
returns-then-not-is_of c =
    let is = c.is_of.ensures ∙ ap (λ (n : ℕ). is_of sender_kind layout n c.args.b.now) (let z : length c.args.b.now ≡ sender_size = search rules in z) in
    elim c.then-not-is_of.branch [
      | then-not-is_of-via-then-not-is_of w ↦ rw (sym is ∙ w.if-not-is_of.true)
      | then-not-is_of-via-else-not-is_of+then-b-gt-MOST_KEY_ID w ↦
          rw (sym is ∙ w.if-not-is_of.false, lt-leb _ _ w.if-b-gt-MOST_KEY_ID.true)
    ]

-- A new sender of the fields that are read, with the last number set.
pub returns : goal.returns
unfolding is_sender sender_in
returns c =
    let is = c.is_of.ensures ∙ ap (λ (n : ℕ). is_of sender_kind layout n c.args.b.now) (let z : length c.args.b.now ≡ sender_size = search rules in z) in
    rw (sym is ∙ c.if-not-is_of.false, le-leb _ _ c.if-b-gt-MOST_KEY_ID.false)
    (ap (λ (s : Sender). Some (with_last s c.six_at-last.result)) c.new_sender-new.ensures
    ∙ rw (c.octets_at.ensures, c.octets_at-2.ensures, c.six_at-last.ensures))
