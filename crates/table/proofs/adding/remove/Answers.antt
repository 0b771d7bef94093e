-- Test by test, and then the entry is free.
use mathlib.Core.Path.{sym, ap₂}
use Rattle.rules.specs.Table.{put, place_of}
use Rattle.table.proofs.Changes.{remove_refused, remove_done}
use Rattle.table.proofs.Loops.{found_some, found_none}
use Rattle.table.proofs.adding.remove.Goals as goal

pub returns-then-not-sound_table : goal.returns-then-not-sound_table
returns-then-not-sound_table c =
    let r = remove_refused c.args.t c.args.x 1 (rw (sym c.if-not-sound_table.ensures)) in
    record { answer_value = r.0; table_value = r.1 }

pub returns-in-Some : goal.returns-in-Some
returns-in-Some c =
    let t = c.args.t in
    let at = found_some t (place_of t c.args.x) _ c.in-Some.ensures.value in
    let r = remove_done t c.args.x _ (rw (sym c.if-not-sound_table.ensures, at.1)) (ap₂ (put t) at.0 c.free_entry.ensures) in
    record { answer_value = r.0; table_value = r.1 }

pub returns-in_default : goal.returns-in_default
returns-in_default c =
    let t = c.args.t in
    let none = found_none t (place_of t c.args.x) c.in_default.ensures.value in
    let r = remove_refused t c.args.x 15 (rw (sym c.if-not-sound_table.ensures, none)) in
    record { answer_value = r.0; table_value = r.1 }
