use Rattle.std.proofs.Common.{◌≡◌, ℕ, ◌+◌, ◌-◌, ◌≤◌, List, ◌++◌, length, get_or, take, drop, set, sym, refl, ap, ◌∙◌, ap₂, arith, length-append, length-drop, length-take, take_all}
use lib.Bits.{bit_or}
use Rattle.rules.specs.Limits.{ccmp_octets}
use Rattle.rules.specs.Header.{header_length, protect}
use Rattle.rules.specs.Nonce.{nonce}
use Rattle.rules.specs.Mode.{added}
use Rattle.rules.specs.declared.Header.{Header}
use Rattle.rules.proofs.Fields.{header_range, authenticated_size, data_range}
use Rattle.ccmp.specs.Parts.{Heads}
use Rattle.ccmp.proofs.Headers.{Fields, fields_of}
use Rattle.ccmp.proofs.Verdicts.{Headed, headed}
use Rattle.ccmp.proofs.Parts.{whole_header, whole_address, whole_priority, whole_data, front_whole, back_whole, head_exact}
use Rattle.ccmp.proofs.Writes.{replaced, length_replaced, sealed_layout}
use Rattle.ccmp.proofs.Frames.{protect_is, copied_all, ccmp_size, sealed_put}
use Rattle.ccmp.proofs.sealing.put_sealed.Goals as goal

-- The text, the CCMP header and the header stand one after the other, as the rules put them together.
module _ (f b : List ℕ) (h : Header) (ok : Heads f h) where
  headed_is : Headed 1 f h
  headed_is = headed 1 f h ok.passed

  exact : length f ≡ header_length f
  exact = head_exact f b h ok

  fields : Fields f h
  fields = fields_of f h headed_is.is

  -- the header stands in the frame, and the CCMP header after it in the output
  room : (o : List ℕ) → length (f ++ b) + added ≤ length o → h.length + ccmp_octets ≤ length o
  room o enough = omega (arith, ok.exact, length-append f b, enough)

pub slice_bounds-data-end : goal.slice_bounds-data-end
slice_bounds-data-end c =
    let a = c.args in
    omega (arith, (fields a.head.frame.octets.now a.body.now a.head.frame.header a.head.heads).data_is, data_range a.head.frame.octets.now)

pub slice_bounds-put_text-end : goal.slice_bounds-put_text-end
slice_bounds-put_text-end c =
    let a = c.args in
    let f = a.head.frame.octets.now in
    let whole = (headed_is f a.body.now a.head.frame.header a.head.heads).whole in
    omega (arith, ap length c.authenticated_data-data.ensures, authenticated_size f whole, (fields f a.body.now a.head.frame.header a.head.heads).data_is)

pub put_text-requires : goal.put_text-requires
put_text-requires c =
    let a = c.args in
    let f = a.head.frame.octets.now in
    let b = a.body.now in
    let o = a.out.now in
    let h = a.head.frame.header.length in
    let ok = a.head.heads in
    let size = ap length c.authenticated_data-data.ensures ∙ authenticated_size f (headed_is f b a.head.frame.header ok).whole in
    let range = data_range f in
    let whole = length-append f b in
    record {
      least_data_in_bounds = (
        omega (arith, size, range),
        omega (arith, size, range),
        omega (arith, whole, exact f b a.head.frame.header ok, whole_header f b (exact f b a.head.frame.header ok), c.requires.0.most),
      );
      code_octets_in_bounds =
          omega (arith, length-take (length o - (h + ccmp_octets)) (drop (h + ccmp_octets) o), length-drop (h + ccmp_octets) o, whole, ok.exact, c.requires.1);
    }

pub returns : goal.returns
returns c =
    let a = c.args in
    let f = a.head.frame.octets.now in
    let b = a.body.now in
    let w = f ++ b in
    let o = a.out.now in
    let h = a.head.frame.header.length in
    let n = a.n in
    let ok = a.head.heads in
    let fit = room f b a.head.frame.header ok o c.requires.1 in
    let is = (fields f b a.head.frame.header ok).length_is in
    let ex = exact f b a.head.frame.header ok in
    let ys = c.put_text.new.out in
    let zs = c.copy.new.to in
    let o₁ = replaced o ys (h + ccmp_octets) fit in
    let part = take (h + ccmp_octets - h) (drop h o₁) in
    let eight : length c.ccmp_header.result ≡ ccmp_octets = ap length c.ccmp_header.ensures ∙ ccmp_size n a.s.key_id in
    let size : length part ≡ length c.ccmp_header.result
    = omega (arith, length-take (h + ccmp_octets - h) (drop h o₁), length-drop h o₁, length_replaced o ys (h + ccmp_octets) fit) in
    let out-head = set (take h f) 1 (bit_or (get_or f 1 0) 64) in
    let range = header_range f in
    let front : take h f ≡ take h w = take_all h f (omega (arith, ok.exact)) ∙ sym (ap (λ (k : ℕ). take k w) is ∙ front_whole f b ex) in
    c.put_header.ensures
    ∙ sealed_layout o ys zs out-head h (h + ccmp_octets) refl fit
    ∙ sealed_put a.s n h w o (is ∙ sym (whole_header f b ex)) c.requires.0.whole _ _ _ _ out-head zs ys
    (c.nonce-nonce.ensures
    ∙ ap₂ (λ (q : ℕ) (x : List ℕ). nonce q x n) ((fields f b a.head.frame.header ok).priority_is ∙ sym (whole_priority f b ex)) (sym (whole_address f b ex)))
    (c.authenticated_data-data.ensures ∙ sym (whole_data f b ex))
    (sym (ap (λ (k : ℕ). drop k w) is ∙ back_whole f b ex))
    (take_all (length o - (h + ccmp_octets)) (drop (h + ccmp_octets) o) (omega (arith, length-drop (h + ccmp_octets) o)))
    (protect_is f h (omega (arith, is, range)) (omega arith) ∙ ap protect front)
    (c.copy.ensures.copied ∙ copied_all c.ccmp_header.result part size ∙ c.ccmp_header.ensures)
    c.put_text.ensures
