use Rattle.std.proofs.Common.{leb}
use Rattle.octets.proofs.Booleans.{both}
use Rattle.rules.specs.Limits.{most_key_id}
use Rattle.rules.specs.Windows.{is_size}
use Rattle.rules.specs.Records.{receiver_next, count_of}
use Rattle.rules.proofs.Steps.{sound_parts}
use Rattle.ccmp.proofs.record.after_opening.Goals as goal

-- The window of the priority is written, and an answer that is done moves the count of opened frames.
pub next_window-w-requires : goal.next_window-w-requires
next_window-w-requires c =
    let r = c.args.r in
    let q = rw c.in-Ok.is at c.requires in
    let sound = sound_parts r q.1 in
    rw c.window_of.ensures ((both (leb r.key_id most_key_id) (is_size r.size) sound.0).1, sound.1 c.in-Ok.x.priority q.0, q.2)

pub returns-in-Ok : goal.returns-in-Ok
unfolding receiver_next count_of
returns-in-Ok c = rw (c.in-Ok.is, c.from-at.ensures, c.next_window-w.ensures, c.window_of.ensures, c.counts_after-counts.ensures)

-- A refusal moves its count, and no window.
pub returns-in-Err : goal.returns-in-Err
unfolding receiver_next
returns-in-Err c = rw (c.in-Err.is, c.counts_after-counts-in-Err.ensures, c.count_of.ensures, c.number.ensures)
