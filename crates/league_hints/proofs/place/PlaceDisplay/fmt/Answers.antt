use Rattle.league_hints.proofs.place.PlaceDisplay.fmt.Goals as goal

pub returns-in-Member-clause-writes : goal.returns-in-Member-clause-writes
returns-in-Member-clause-writes g c = λ plain ok. rw (c.in-Member.is, ← c.name-name.ensures) (c.write-in-Member.ensures.writes plain ok)
