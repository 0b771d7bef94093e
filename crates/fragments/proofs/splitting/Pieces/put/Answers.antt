use mathlib.Core.Path.{◌≡◌, sym, ap, ◌∙◌}
use mathlib.Core.List.{List, ◌++◌}
use Prim.Native.Nat.{ℕ, ◌-◌}
use lib.Dec.{ltb}
use lib.ListN.{length, take}
use lib.Seq.{length-take-le}
use Rattle.rules.specs.Header.{header_length, part, set_fragment}
use Rattle.rules.specs.Counts.{bit}
use Rattle.rules.proofs.Fragmented.{set_size}
use Rattle.ccmp.specs.Parts.{parts_next, parts_output}
use Rattle.ccmp.proofs.Answering.{parts_next_lem, parts_output_lem}
use Rattle.fragments.specs.Cutting.{fragment_with}
use Rattle.fragments.proofs.splitting.Pieces.put.Goals as goal

-- The header made of the frame's and the piece lent are the fragment, which the sender seals.
pub returns : goal.returns
unfolding fragment_with
returns c =
    let a = c.args in
    let f = a.self.frame.now in
    let h = a.self.header.length in
    let o = a.out.now in
    let p = c.requires in
    let head = set_fragment (take h f) (bit (ltb a.end (length f))) a.i in
    let body = part f a.at (a.end - a.at) in
    let exact : length head ≡ header_length (head ++ body) = set_size (take h f) _ a.i ∙ length-take-le h f p.inside ∙ sym p.exact in
    record {
      value = c.seal_parts.ensures.sender_value ∙ ap (λ (x : List ℕ). parts_next a.s x body o) c.head-head.ensures ∙ parts_next_lem a.s head body o p.sealable exact p.enough;
      out_after = c.seal_parts.ensures.out_after ∙ ap (λ (x : List ℕ). parts_output a.s x body o) c.head-head.ensures ∙ parts_output_lem a.s head body o p.sealable exact p.enough;
    }
