use Rattle.std.proofs.Common.{◌≡◌, ◌-◌, length, take, drop, sym, ap, ◌∙◌, arith, length-take, length-drop, take-add, rules}
use Rattle.book.specs.Limits.{most_kept}
use Rattle.book.specs.Pieces.{after, cut, held, ended, left}
use Rattle.book.proofs.Parts.{rest_of}
use Rattle.book.proofs.Whole.{before_any, another}
use Rattle.framebook.proofs.feed_all.Goals as goal

pub loop-at-init : goal.loop-at-init
loop-at-init c =
    let a = c.args in
    let line : length a.reader.now.line ≡ most_kept = c.requires.0 in
    let before = before_any a.reader.now.book (held a.reader.now) (omega (arith, length-take a.reader.now.length a.reader.now.line)) in
    record { book = before.0; line = before.1; within = search rules; room = c.requires.1; whole = c.requires.0 }

pub loop-at-preserved : goal.loop-at-preserved
loop-at-preserved c =
    let l = c.loop-at in
    let p = c.args.piece.now in
    let r = c.args.reader.now in
    let f = c.feed-f in
    let n = f.result.taken in
    let t = take n (drop l.at p) in
    let part : take n (take (length p - l.at) (drop l.at p)) ≡ t = ap (take n) (rest_of p l.at) in
    let next = sym (take-add l.at n p) in
    let more = another r.book (held r) (take l.at p) l.reader.book (held l.reader) t l.invariant.book l.invariant.line in
    record {
      book = f.ensures.gave.book_is ∙ ap (λ x. after l.reader.book (ended (held l.reader) x)) part ∙ more.0 ∙ ap (λ x. after r.book (ended (held r) x)) next;
      line = f.ensures.gave.line_is ∙ ap (λ x. cut (left (held l.reader) x)) part ∙ more.1 ∙ ap (λ x. cut (left (held r) x)) next;
      within = omega (arith, ap length (rest_of p l.at), length-drop l.at p, f.ensures.enough.within);
      room = omega (arith, l.invariant.room, f.auto.out);
      whole = search rules;
    }
