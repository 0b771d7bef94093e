-- What is printed of answers, counts and output.
use Rattle.std.specs.Prelude.{Bool, ℕ, List, ◌++◌, ◌&&◌, Result, Ok, Err, codes, cond, ◌==◌, leb, length, drop}
use Rattle.std.specs.Fmt.{decimal}
use Rattle.std.specs.List.{list_all}
use Rattle.rules.specs.Refusals.{refusal_number}
use Rattle.rules.specs.declared.answer.Success.{Success}
use Rattle.rules.specs.declared.answer.Refusal.{Refusal}
use Rattle.rules.specs.declared.Counts.{Counts}

abbrev pub refused_text : Refusal → List ℕ
refused_text refusal = codes "refused " ++ decimal (refusal_number refusal)

abbrev pub answer_text : Result Success Refusal → List ℕ
answer_text (Ok done) = codes "done " ++ decimal done.number ++ codes " " ++ decimal done.priority ++ codes " " ++ decimal done.octets
answer_text (Err refusal) = refused_text refusal

abbrev pub outcome_text : Result Success Refusal → List ℕ
outcome_text (Ok done) = codes "done"
outcome_text (Err refusal) = refused_text refusal

abbrev pub counts_text : Counts → List ℕ
counts_text c =
    codes "counts " ++ decimal c.format_errors ++ codes " " ++ decimal c.replays ++ codes " " ++ decimal c.decrypt_errors ++ codes " " ++ decimal c.opened

-- whether the output, which was aa throughout, is as it was from octet k on
abbrev pub kept : List ℕ → ℕ → Bool
kept out k = leb k (length out) && list_all (λ x. x == 170) (drop k out)

abbrev pub rest_text : List ℕ → ℕ → List ℕ
rest_text out k = cond (kept out k) (codes "rest kept") (codes "rest CHANGED")
