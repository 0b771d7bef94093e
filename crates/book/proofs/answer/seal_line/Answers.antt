use Rattle.std.proofs.Common.{◌+◌, ◌≤◌, length, ap, ◌∙◌, arith, rules}
use Rattle.std.specs.Prelude.{◌≡◌, Ok, Err, MatchResult}
use Rattle.rules.specs.Mode.{added}
use Rattle.rules.specs.Records.{sender_next}
use Rattle.rules.specs.Refusals.{answer_of}
use Rattle.book.specs.Line.{seal_word}
use Rattle.book.specs.Limits.{most_result}
use Rattle.book.specs.Handed.{tabbed, octets_written}
use Rattle.book.proofs.Answered.{handed_on, sealed_fits, seals_alike, seal_line_lem}
use Rattle.book.proofs.Puts.{writes_as}
use Rattle.book.proofs.answer.seal_line.Goals as goal

pub put_answer-requires-clause-a_in_bounds : goal.put_answer-requires-clause-a_in_bounds
put_answer-requires-clause-a_in_bounds c =
    let a = c.args in
    let s = c.seal-sealed in
    let m : MatchResult s.result.answer (λ d. c.map.result ≡ Ok d.octets) (λ x. c.map.result ≡ Err x) = search rules in
    let h = (handed_on s.result.answer c.map.result m).0 in
    let f : octets_written (answer_of s.result.answer) ≤ most_result = omega (arith, sealed_fits a.frame.now a.res.now a.s (answer_of s.result.answer) s.ensures.answer_value, c.requires) in
    search rules

pub returns : goal.returns
returns c =
    let a = c.args in
    let s = c.seal-sealed in
    let room : length a.frame.now + added ≤ length a.res.now = omega (arith, c.requires) in
    let m : MatchResult s.result.answer (λ d. c.map.result ≡ Ok d.octets) (λ x. c.map.result ≡ Err x) = search rules in
    let text =
    (handed_on s.result.answer c.map.result m).1 a.n (tabbed seal_word) s.new.out
    ∙ seal_line_lem a.frame.now a.res.now room a.n a.s (answer_of s.result.answer) s.new.out s.ensures.answer_value s.ensures.out_after in
    record {
      sender_value = s.ensures.sender_value ∙ ap (sender_next a.s) (seals_alike a.frame.now a.res.now room a.s);
      page_after = writes_as _ _ _ _ text c.put_answer.ensures;
    }
