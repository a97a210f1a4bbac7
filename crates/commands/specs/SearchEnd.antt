-- How a search ends.
use Rattle.std.specs.Prelude.{ℕ, ◌==◌, if◌then◌else◌}
use Rattle.commands.specs.declared.search_end.SearchEnd.{SearchEnd}
use Rattle.commands.specs.declared.search_end.SearchEnd.TheVariants.{RoomLeft, HistoryFull}

-- on a board with this room, after so many changes
abbrev pub end_of : ℕ → ℕ → SearchEnd
end_of room changes = if changes == room then HistoryFull else RoomLeft
