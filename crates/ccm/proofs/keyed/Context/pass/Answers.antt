use mathlib.Core.Path.{◌≡◌, refl, ap, ◌∙◌}
use mathlib.Core.Bool.{cond}
use Prim.Native.Nat.{ℕ, ◌<◌, ◌-◌, ◌+◌, ◌*◌}
use native.Mathlib.Omega.{arith}
use lib.ListN.{length, take, drop}
use Rattle.std.specs.Int.{div_ceil}
use Rattle.aes.specs.KeyExpansion.{aes128}
use Rattle.aes.specs.Word.{bytes_of}
use Rattle.ccm.specs.Blocks.{xors, padded}
use Rattle.ccm.specs.Ccm.{formatted, S}
use Rattle.ccm.specs.Room.{counter_at}
use Rattle.aes.proofs.Laws.{length_aes128}
use Rattle.ccm.proofs.Turns.{within, behind, to_is, counter_within, counter_behind, counter_as, spliced, length_spliced, block_masked, length_part, masks, masks_end, feeds, fed}
use Rattle.ccm.proofs.keyed.Context.pass.Goals as goal

pub loop-k-preserved : goal.loop-k-preserved
unfolding S
loop-k-preserved g c =
    let l = c.loop-k in
    let a = c.args in
    let s = a.s.now in
    let N = a.self.now.nonce in
    let E = aes128 a.self.now.cipher in
    let hE = length_aes128 a.self.now.cipher in
    let at = 16 * l.k in
    let out = l.out in
    let lo = l.invariant.1 in
    let count : c.div_ceil-k-end.result ≡ div_ceil (length s) 16 = omega (arith, c.div_ceil-k-end.ensures) in
    let h : at < length s = within (length s) l.k _ count c.loop-k-test.true in
    let key = l.invariant.3 ∙ ap (S E N) (counter_within (length s) at (a.i + l.k) a.after h) in
    let part : (n : ℕ) → n ≡ length s - at → take n (bytes_of c.add-masked.result) ≡ xors (take 16 (drop at s)) (S E N (a.i + l.k))
    = λ n e. block_masked E s l.k hE N a.i _ _ _ n h e c.block_at-block.ensures key c.add-masked.ensures in
    let q = part (length out - at) (ap (λ (n : ℕ). n - at) lo) in
    let ys = take (length out - at) (bytes_of c.add-masked.result) in
    let ly = length_part E s l.k hE N a.i ys q in
    let counted = counter_as (length s) (16 * (l.k + 1)) _ a.after _ (a.i + (l.k + 1)) (c.counter-next.ensures ∙ ap (λ (n : ℕ). counter_at (length s) n (a.i + l.k + 1) a.after) (to_is E s l.k)) (omega arith) in (
      l.invariant.0,
      ap length c.put_block.ensures ∙ length_spliced s out ys at h lo ly,
      l.invariant.2,
      c.encrypt_two-two.ensures.first_value ∙ ap E c.formatted.ensures
          ∙ ap (λ (j : ℕ). E (formatted 1 N j)) counted,
      masks E s l.k hE N a.i out _ ys _ h q (ap (take (at + 16)) c.put_block.ensures ∙ spliced s out ys at h lo ly) l.invariant.4,
      feeds E s l.k hE N a.i g.D.Direction.opens (bytes_of l.x) _ _ _ _ h (part (length s - at) refl)
          (c.message_block-message.ensures ∙ ap (cond g.D.Direction.opens (padded (take (length s - at) (bytes_of c.add-masked.result)))) c.block_at-block.ensures)
          (c.encrypt_two-two.ensures.second_value ∙ ap E c.add.ensures) l.invariant.5,
    )

pub returns : goal.returns
returns g c =
    let l = c.loop-k in
    let a = c.args in
    let s = a.s.now in
    let E = aes128 a.self.now.cipher in
    let hE = length_aes128 a.self.now.cipher in
    let count : c.div_ceil-k-end.result ≡ div_ceil (length s) 16 = omega (arith, c.div_ceil-k-end.ensures) in
    let end = behind (length s) l.k _ count c.loop-k-test.false in
    record {
      key = l.invariant.3 ∙ ap (S E a.self.now.nonce) (counter_behind (length s) (16 * l.k) (a.i + l.k) a.after end);
      x = fed E s l.k hE a.self.now.nonce a.i g.D.Direction.opens (bytes_of l.x) _ end l.invariant.5;
      out_after = masks_end E s l.k hE a.self.now.nonce a.i l.out _ l.invariant.1 end l.invariant.4;
    }
