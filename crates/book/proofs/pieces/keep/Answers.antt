use Rattle.std.proofs.Common.{◌≡◌, ◌++◌, take, rules}
use Rattle.book.specs.Pieces.{cut}
use Rattle.book.proofs.Held.{kept_cut}
use Rattle.book.proofs.pieces.keep.Goals as goal

-- What is put behind the line is all of the text, or as much of it as fills the room.
pub returns-clause-line_after : goal.returns-clause-line_after
returns-clause-line_after c =
    let a = c.args in
    let t = c.text.ensures in
    let k : take c.text.new.self.end c.text.new.self.room.now ≡ cut (take a.kept a.line.now ++ a.text.now)
    = kept_cut a.line.now a.text.now a.kept c.min-n.result (search rules) c.requires c.min-n.ensures _ _ t.ends t.is in
    let same = t.same_room in
    search rules
