use mathlib.Core.Path.{◌≡◌, refl, sym, ap, ◌∙◌}
use mathlib.Core.List.{List, [], ◌∷◌, ◌++◌, append_assoc}
use Prim.Native.Nat.{ℕ, ◌+◌, ◌*◌}
use native.Mathlib.Omega.{arith}
use lib.ListN.{length, take, get_or}
use lib.Seq.{take_all}
use Rattle.rules.specs.Limits.{key_octets, address_octets, priorities}
use Rattle.kondrivai.specs.Numbers.{octets_of_each}
use Rattle.kondrivai.specs.Layout1.{receiver_size, counts_octets, receiver_octets}
use Rattle.kondrivai.proofs.Numbers.{le_octets, put_is, none_written, one_written, all_written}
use borrow.Author.Rules.{rules}
use Rattle.kondrivai.proofs.receiver.put_receiver.Goals as goal

pub loop-p-init : goal.loop-p-init
loop-p-init c = none_written 6 42 c.args.r.replay c.put_counts.new.b

pub loop-p-preserved : goal.loop-p-preserved
loop-p-preserved c =
    one_written c.loop-p.invariant (search rules) c.put_six.new.b (search rules) (search rules) c.put_six.ensures

pub loop-q-init : goal.loop-q-init
loop-q-init c = none_written 2 138 c.args.r.seen c.loop-p.b

pub loop-q-preserved : goal.loop-q-preserved
loop-q-preserved c =
    let at = 138 + 2 * c.loop-q.q in
    let x = get_or c.args.r.seen c.loop-q.q 0 in
    let put = put_is 2 at (at + 2) x _ _ _ c.put_octets-in-loop-q.ensures (c.to_le_bytes.ensures ∙ le_octets 2 x) refl in
    one_written c.loop-q.invariant (search rules) c.put_octets-in-loop-q.new.b (search rules) (search rules) put

-- Each field is written behind the one before it.
pub returns : goal.returns
unfolding receiver_octets
returns c =
    let r = c.args.r in
    let peer_size : length r.peer ≡ address_octets = search rules in
    let key_size : length r.key ≡ key_octets = search rules in
    let replay_size : length r.replay ≡ priorities = search rules in
    let seen_size : length r.seen ≡ priorities = search rules in
    let key_end : 26 ≡ 10 + length r.key = omega (arith, key_size) in
    let peer_end : 10 ≡ 4 + length r.peer = omega (arith, peer_size) in
    sym (take_all receiver_size c.loop-q.b (search rules))
    ∙ all_written c.loop-q.invariant seen_size c.loop-q-test.false
    ∙ ap (λ (t : List ℕ). t ++ octets_of_each 2 r.seen)
    (all_written c.loop-p.invariant replay_size c.loop-p-test.false
    ∙ ap (λ (t : List ℕ). t ++ octets_of_each 6 r.replay)
    (c.put_counts.ensures
    ∙ ap (λ (t : List ℕ). t ++ counts_octets r.counts)
    (ap (λ (n : ℕ). take n c.put_octets-2.new.b) key_end
    ∙ c.put_octets-2.ensures
    ∙ ap (λ (t : List ℕ). t ++ r.key)
    (ap (λ (n : ℕ). take n c.put_octets.new.b) peer_end
    ∙ c.put_octets.ensures
    ∙ ap (λ (t : List ℕ). t ++ r.peer)
    (c.put_octet-2.ensures
    ∙ ap (λ (t : List ℕ). t ++ (r.size ∷ [])) (c.put_octet.ensures ∙ ap (λ (t : List ℕ). t ++ (r.key_id ∷ [])) c.put_front.ensures))))))
    ∙ simp append_assoc
