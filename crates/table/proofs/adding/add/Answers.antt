-- Test by test, and then the entry is new.
use mathlib.Core.Path.{sym, ap₂}
use mathlib.Core.Bool.{true, false}
use Rattle.rules.specs.Table.{put}
use Rattle.rules.specs.Adding.{key_place, add_place}
use Rattle.table.proofs.Changes.{add_refused, add_done}
use Rattle.table.proofs.Loops.{found_some, found_none, found_any}
use Rattle.table.proofs.adding.add.Goals as goal

pub returns-then-not-sound_table : goal.returns-then-not-sound_table
returns-then-not-sound_table c =
    let r = add_refused c.args.t c.args.x 1 (rw (sym c.if-not-sound_table.ensures)) in
    record { answer_value = r.0; table_value = r.1 }

pub returns-then-not-receiver_fits : goal.returns-then-not-receiver_fits
returns-then-not-receiver_fits c =
    let r = add_refused c.args.t c.args.x 1 (rw (sym c.if-not-sound_table.ensures, sym c.if-not-receiver_fits.ensures)) in
    record { answer_value = r.0; table_value = r.1 }

pub returns-then-is_some : goal.returns-then-is_some
returns-then-is_some c =
    let t = c.args.t in
    let known = found_any t (key_place t c.args.x.key) _ _ true c.key_place.ensures c.is_some.ensures c.if-is_some.true in
    let r = add_refused t c.args.x 17 (rw (sym c.if-not-sound_table.ensures, sym c.if-not-receiver_fits.ensures, known)) in
    record { answer_value = r.0; table_value = r.1 }

pub returns-in-Some : goal.returns-in-Some
returns-in-Some c =
    let t = c.args.t in
    let new = found_any t (key_place t c.args.x.key) _ _ false c.key_place.ensures c.is_some.ensures c.if-is_some.false in
    let at = found_some t (add_place t c.args.x.triple) _ c.in-Some.ensures in
    let r = add_done t c.args.x _ (rw (sym c.if-not-sound_table.ensures, sym c.if-not-receiver_fits.ensures, new, at.1)) (ap₂ (put t) at.0 c.new_entry.ensures) in
    record { answer_value = r.0; table_value = r.1 }

pub returns-in_default : goal.returns-in_default
returns-in_default c =
    let t = c.args.t in
    let new = found_any t (key_place t c.args.x.key) _ _ false c.key_place.ensures c.is_some.ensures c.if-is_some.false in
    let full = found_none t (add_place t c.args.x.triple) c.in_default.ensures in
    let r = add_refused t c.args.x 16 (rw (sym c.if-not-sound_table.ensures, sym c.if-not-receiver_fits.ensures, new, full)) in
    record { answer_value = r.0; table_value = r.1 }
