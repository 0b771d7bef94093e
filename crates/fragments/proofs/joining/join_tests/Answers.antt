use mathlib.Core.Path.{◌≡◌, sym, ◌∙◌}
use mathlib.Core.Bool.{true}
use Prim.Native.Nat.{ℕ, ◌≤◌}
use borrow.Author.Tests.{le-leb, lt-leb}
use Rattle.std.proofs.lemmas.Result.{err_from_is_err_and}
use Rattle.rules.specs.Limits.{most_message}
use Rattle.rules.specs.Joining.{narrow, sound_joiner}
use Rattle.rules.specs.declared.Fragment.{Fragment}
use Rattle.rules.specs.declared.Joiner.{Joiner}
use Rattle.fragments.specs.Held.{Has}
use Rattle.fragments.proofs.Joins.{sound_is, unsound, unheaded}
use Rattle.fragments.proofs.joining.join_tests.Goals as goal

-- The tests of the joiner, of the number and of the header refuse, or the later ones decide.
sound : (j : Joiner) (m : ℕ) (x : Fragment) → Has j m x → m ≤ most_message → narrow x ≡ true → sound_joiner j ≡ true
sound j m x has l e = sound_is j m x has ∙ rw (le-leb _ _ l, e)

pub returns-then-standing-gt-MOST_MESSAGE : goal.returns-then-standing-gt-MOST_MESSAGE
returns-then-standing-gt-MOST_MESSAGE c j has =
    let a = c.args in
    unsound j a.frame.now a.number a.room (rw (sound_is j a.standing.length a.standing.last has, lt-leb _ _ c.if-standing-gt-MOST_MESSAGE.true))

pub returns-then-not-narrow : goal.returns-then-not-narrow
returns-then-not-narrow c j has =
    let a = c.args in
    unsound j a.frame.now a.number a.room
    (rw (sound_is j a.standing.length a.standing.last has, le-leb _ _ c.if-standing-gt-MOST_MESSAGE.false, sym c.narrow.ensures ∙ c.if-not-narrow.true))

pub returns-in_err-header : goal.returns-in_err-header
returns-in_err-header c j has =
    let a = c.args in
    let p = err_from_is_err_and c.from_residual.result c.from_residual.ensures.1 in
    rw (p.1, p.2)
    (unheaded j a.frame.now a.number a.room
    (rw (sound j a.standing.length a.standing.last has c.if-standing-gt-MOST_MESSAGE.false (sym c.narrow.ensures ∙ c.if-not-narrow.false), le-leb _ _ c.if-number-gt-MOST_NUMBER.false)) _
    c.in_err-header.ensures)
