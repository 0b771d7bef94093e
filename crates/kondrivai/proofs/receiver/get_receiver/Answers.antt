use mathlib.Core.Path.{◌≡◌, sym, ap, ◌∙◌}
use mathlib.Core.Bool.{true}
use Prim.Native.Nat.{ℕ, ◌+◌, ◌*◌}
use native.Mathlib.Omega.{arith}
use borrow.Author.Rules.{rules}
use lib.ListN.{length, drop, length-take}
use Rattle.std.proofs.Common.{Some}
use Rattle.std.specs.Int.{w16, from_le_bytes}
use Rattle.rules.specs.Header.{part}
use Rattle.rules.specs.declared.Receiver.{Receiver}
use Rattle.kondrivai.specs.Front.{receiver_kind, is_of}
use Rattle.kondrivai.specs.Meaning.{receiver1}
use Rattle.kondrivai.specs.Layout1.{layout, receiver_size, is_receiver, receiver_in}
use Rattle.kondrivai.proofs.Numbers.{le_2, words_read}
use Rattle.kondrivai.proofs.receiver.get_receiver.Goals as goal
use Rattle.kondrivai.proofs.receiver.get_receiver.Goals.{then-not-is_of-via-then-not-is_of, then-not-is_of-via-else-not-is_of+then-not-receiver_fits}

pub returns-then-not-is_of : goal.returns-then-not-is_of
unfolding is_receiver
returns-then-not-is_of c =
    let is = c.is_of.ensures ∙ ap (λ (n : ℕ). is_of receiver_kind layout n c.args.b.now) (let z : length c.args.b.now ≡ receiver_size = search rules in z) in
    elim c.then-not-is_of.branch [
      | then-not-is_of-via-then-not-is_of w ↦ rw (sym is ∙ w.if-not-is_of.true)
      | then-not-is_of-via-else-not-is_of+then-not-receiver_fits w ↦
          rw (sym is ∙ w.if-not-is_of.false, sym w.receiver_fits.ensures ∙ w.if-not-receiver_fits.true)
    ]

-- A new receiver of the fields that are read, with counts and windows set.
pub returns : goal.returns
unfolding is_receiver receiver_in
returns c =
    let b = c.args.b.now in
    let size : length b ≡ receiver_size = search rules in
    let is = c.is_of.ensures ∙ ap (λ (n : ℕ). is_of receiver_kind layout n b) size in
    let held : is_receiver b ≡ true = rw (sym is ∙ c.if-not-is_of.false) (sym c.receiver_fits.ensures ∙ c.if-not-receiver_fits.false) in
    let replay = words_read _ _ 6 42 b c.from_fn-replay.result (λ p x q k. (search rules, search rules)) 16 c.from_fn-replay.ensures.items in
    let seen =
    words_read _ _ 2 138 b c.from_fn-seen.result
    (λ p x q k. let e : x ≡ from_le_bytes w16 (part b (138 + 2 * p) 2) = search rules in (search rules, e ∙ le_2 _ (omega (arith, length-take 2 (drop (138 + 2 * p) b)))))
    16 c.from_fn-seen.ensures.items in
    rw held
    (ap (λ (r : Receiver). Some (receiver1 r.key_id r.size r.peer r.key c.get_counts-counts.result c.from_fn-replay.result c.from_fn-seen.result)) c.new_receiver-new.ensures
    ∙ rw (c.octets_at.ensures, c.octets_at-2.ensures, c.get_counts-counts.ensures, replay, seen))
