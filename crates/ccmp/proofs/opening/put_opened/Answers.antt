use Rattle.std.proofs.Common.{◌≡◌, ℕ, ◌+◌, ◌-◌, ◌≤◌, Bool, true, false, not, List, ◌++◌, length, take, drop, sym, ap, ◌∙◌, ap₂, arith, length-drop, take_all}
use borrow.Author.Tests.{not-true, not-false}
use mathlib.Core.Option.{Option}
use Rattle.octets.specs.Options.{contents, is_none}
use Rattle.rules.specs.Limits.{ccmp_octets}
use Rattle.rules.specs.Header.{address2, authenticated, header_of}
use Rattle.rules.specs.Nonce.{nonce, number}
use Rattle.rules.specs.Mode.{added, opened_body}
use Rattle.rules.specs.Tests.{body_of}
use Rattle.rules.specs.Opening.{Openable}
use Rattle.rules.specs.declared.Header.{Header}
use Rattle.rules.specs.declared.Receiver.{Receiver}
use Rattle.rules.proofs.Fields.{header_range, authenticated_size, data_range}
use Rattle.ccmp.proofs.Headers.{Fields, fields_of}
use Rattle.ccmp.proofs.Writes.{length_replaced}
use Rattle.ccmp.proofs.Frames.{unprotect_is, given_is, not_opened, was_opened_lem}
use Rattle.ccmp.proofs.opening.put_opened.Goals as goal

-- What the mode says and writes is the body, which stands after the header.
module _ (r : Receiver) (f o : List ℕ) (h : Header) (is : h ≡ header_of f) (ok : Openable r f (length o)) where
  fields : Fields f h
  fields = fields_of f h is

  -- the header, the CCMP header and more stand in the frame, and the header in the output
  long : h.length + added ≤ length f
  long = omega (arith, fields.length_is, ok.least, ok.whole)

  fits : h.length ≤ length o
  fits = omega (arith, long, ok.enough)

  module _ (n : ℕ) (num : n ≡ number f) (N d : List ℕ) (eN : N ≡ nonce h.priority (address2 f) n) (ed : take h.«data» d ≡ authenticated f) where
    abbrev A : List ℕ
    A = take h.«data» d

    abbrev T : List ℕ
    T = take (length f - (h.length + ccmp_octets)) (drop (h.length + ccmp_octets) f)

    mode_given : opened_body r.key N A T ≡ body_of r.key f
    mode_given =
        given_is r h.length f o fields.length_is ok N A T
        (eN ∙ ap₂ (λ (p k : ℕ). nonce p (address2 f) k) fields.priority_is num)
        ed
        (take_all (length f - (h.length + ccmp_octets)) (drop (h.length + ccmp_octets) f) (omega (arith, length-drop (h.length + ccmp_octets) f)))

    -- what the mode leaves of the output from octet h on
    module _ (ys : List ℕ) (said : Bool) (es : said ≡ not (is_none (opened_body r.key N A T)))
        (ey : ys ≡ contents (opened_body r.key N A T) ++ drop (length (contents (opened_body r.key N A T))) (take (length o - h.length) (drop h.length o))) where
      said_is : said ≡ not (is_none (body_of r.key f))
      said_is = es ∙ ap (λ (q : Option (List ℕ)). not (is_none q)) mode_given

      left_is : ys ≡ contents (body_of r.key f) ++ drop (length (contents (body_of r.key f))) (drop h.length o)
      left_is =
          let part : take (length o - h.length) (drop h.length o) ≡ drop h.length o
          = take_all (length o - h.length) (drop h.length o) (omega (arith, length-drop h.length o)) in
          ey ∙ ap₂ (λ (q : Option (List ℕ)) (l : List ℕ). contents q ++ drop (length (contents q)) l) mode_given part

pub slice_bounds-data-end : goal.slice_bounds-data-end
slice_bounds-data-end c =
    let a = c.args in
    omega (arith, (fields_of a.frame.octets.now a.frame.header c.args.frame.is).data_is, data_range a.frame.octets.now)

pub slice_bounds-put_body-end : goal.slice_bounds-put_body-end
slice_bounds-put_body-end c =
    let a = c.args in
    let f = a.frame.octets.now in
    omega (arith, ap length c.authenticated_data-data.ensures, authenticated_size f c.requires.1.whole, (fields_of f a.frame.header c.args.frame.is).data_is)

pub slice_bounds-put_body-count : goal.slice_bounds-put_body-count
slice_bounds-put_body-count c = let a = c.args in omega (arith, long a.r a.frame.octets.now a.out.now a.frame.header c.args.frame.is c.requires.1)

pub slice_bounds-put_body-start : goal.slice_bounds-put_body-start
slice_bounds-put_body-start c = let a = c.args in omega (arith, long a.r a.frame.octets.now a.out.now a.frame.header c.args.frame.is c.requires.1)

pub slice_bounds-put_body-count-2 : goal.slice_bounds-put_body-count-2
slice_bounds-put_body-count-2 c = let a = c.args in fits a.r a.frame.octets.now a.out.now a.frame.header c.args.frame.is c.requires.1

pub slice_bounds-put_body-start-2 : goal.slice_bounds-put_body-start-2
slice_bounds-put_body-start-2 c = let a = c.args in fits a.r a.frame.octets.now a.out.now a.frame.header c.args.frame.is c.requires.1

pub put_header-requires : goal.put_header-requires
put_header-requires c =
    let a = c.args in
    let f = a.frame.octets.now in
    let o = a.out.now in
    let h = a.frame.header.length in
    let fit = fits a.r f o a.frame.header a.frame.is c.requires.1 in
    omega (arith, fit, length_replaced o c.put_body.new.out h fit)

pub returns-then-not-put_body : goal.returns-then-not-put_body
returns-then-not-put_body c =
    let a = c.args in
    let f = a.frame.octets.now in
    let o = a.out.now in
    let ok = c.requires.1 in
    let ys = c.put_body.new.out in
    let said = said_is a.r f o a.frame.header c.args.frame.is ok a.n c.requires.0 _ _ c.nonce-nonce.ensures c.authenticated_data-data.ensures ys c.put_body.result c.put_body.ensures.value c.put_body.ensures.out_after in
    let left = left_is a.r f o a.frame.header c.args.frame.is ok a.n c.requires.0 _ _ c.nonce-nonce.ensures c.authenticated_data-data.ensures ys c.put_body.result c.put_body.ensures.value c.put_body.ensures.out_after in
    let is : false ≡ not (is_none (body_of a.r.key f)) = sym c.if-not-put_body.true ∙ said in
    let none : is_none (body_of a.r.key f) ≡ true = not-false _ (sym is) in
    record {
      value = is;
      out_after = not_opened a.r a.frame.header.length f o (fields_of f a.frame.header c.args.frame.is).length_is ok ys (fits a.r f o a.frame.header c.args.frame.is ok) left none;
    }

pub returns : goal.returns
returns c =
    let a = c.args in
    let f = a.frame.octets.now in
    let o = a.out.now in
    let ok = c.requires.1 in
    let ys = c.put_body.new.out in
    let said = said_is a.r f o a.frame.header c.args.frame.is ok a.n c.requires.0 _ _ c.nonce-nonce.ensures c.authenticated_data-data.ensures ys c.put_body.result c.put_body.ensures.value c.put_body.ensures.out_after in
    let left = left_is a.r f o a.frame.header c.args.frame.is ok a.n c.requires.0 _ _ c.nonce-nonce.ensures c.authenticated_data-data.ensures ys c.put_body.result c.put_body.ensures.value c.put_body.ensures.out_after in
    let is : true ≡ not (is_none (body_of a.r.key f)) = sym c.if-not-put_body.false ∙ said in
    let some : is_none (body_of a.r.key f) ≡ false = not-true _ (sym is) in
    let length_is = (fields_of f a.frame.header c.args.frame.is).length_is in
    let head_is = unprotect_is f a.frame.header.length (omega (arith, length_is, header_range f)) (omega arith) in
    record {
      value = is;
      out_after = c.put_header.ensures ∙ was_opened_lem a.r a.frame.header.length f o length_is ok ys (fits a.r f o a.frame.header c.args.frame.is ok) left _ head_is some;
    }
