use Rattle.board_texts.proofs.history.write_move.Goals as goal

pub returns-in-PartRounds : goal.returns-in-PartRounds
returns-in-PartRounds g c = rw c.in-PartRounds.is c.write_three.ensures

pub returns-in-PartTeams : goal.returns-in-PartTeams
returns-in-PartTeams g c = rw c.in-PartTeams.is c.write_three-in-PartTeams.ensures
