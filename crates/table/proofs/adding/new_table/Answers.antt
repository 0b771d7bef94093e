use Rattle.rules.specs.Table.{fresh_table}
use Rattle.table.proofs.adding.new_table.Goals as goal

-- Each entry is a free one.
pub returns : goal.returns
unfolding fresh_table
returns c = rw c.free_entry.ensures
