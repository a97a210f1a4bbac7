use Rattle.schedule_texts.proofs.faults.write_times.Goals as goal

pub returns-then-count-eq0 : goal.returns-then-count-eq0
returns-then-count-eq0 g c = rw c.if-count-eq0.true c.write_pieces.ensures
