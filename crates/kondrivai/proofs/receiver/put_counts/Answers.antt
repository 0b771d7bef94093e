use mathlib.Core.Path.{refl, ap, ◌∙◌}
use mathlib.Core.List.{List, ◌++◌, append_assoc, append-nil}
use Prim.Native.Nat.{ℕ}
use Rattle.kondrivai.specs.Numbers.{octets_of, octets_of_each}
use Rattle.kondrivai.proofs.Numbers.{le_octets, put_is}
use Rattle.kondrivai.proofs.receiver.put_counts.Goals as goal

-- Four numbers of four octets, one behind the other.
pub returns : goal.returns
unfolding octets_of_each
returns c =
    let n = c.args.c in
    put_is 4 38 42 n.opened _ _ _ c.put_octets-4.ensures (c.to_le_bytes-4.ensures ∙ le_octets 4 n.opened) refl
    ∙ ap (λ (t : List ℕ). t ++ octets_of 4 n.opened)
    (put_is 4 34 38 n.decrypt_errors _ _ _ c.put_octets-3.ensures (c.to_le_bytes-3.ensures ∙ le_octets 4 n.decrypt_errors) refl
    ∙ ap (λ (t : List ℕ). t ++ octets_of 4 n.decrypt_errors)
    (put_is 4 30 34 n.replays _ _ _ c.put_octets-2.ensures (c.to_le_bytes-2.ensures ∙ le_octets 4 n.replays) refl
    ∙ ap (λ (t : List ℕ). t ++ octets_of 4 n.replays)
    (put_is 4 26 30 n.format_errors _ _ _ c.put_octets.ensures (c.to_le_bytes.ensures ∙ le_octets 4 n.format_errors) refl)))
    ∙ simp (append_assoc, append-nil)
