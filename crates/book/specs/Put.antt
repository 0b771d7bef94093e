-- A text written into a room.
use Rattle.std.specs.Prelude.{◌≡◌, ℕ, ◌+◌, ◌≤◌, List, ◌++◌, length, take, drop}
use Rattle.book.specs.declared.put.Page.{Page}

-- the text at a place, and the rest of the room kept
abbrev pub put : ℕ → List ℕ → List ℕ → List ℕ
put at text room = take at room ++ (text ++ drop (at + length text) room)

-- room for n octets behind what is written
abbrev pub HasRoom : Page → ℕ → Type 0
HasRoom p n = p.end + n ≤ length p.room.now

-- the text behind what is written, in the same room
pub record Writes (old : Page) (text : List ℕ) (new : Page) : Type 0 where
  pub same_room : new.room.ghost_name ≡ old.room.ghost_name
  pub size : length new.room.now ≡ length old.room.now
  pub ends : new.end ≡ old.end + length text
  pub is : new.room.now ≡ put old.end text old.room.now
