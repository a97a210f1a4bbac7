use Rattle.rules.proofs.unaltered.NoPart.{looked_past_part, untouched_part}
use Rattle.rules.proofs.laws.nothing_to_alter.Goals as goal

pub returns-clause-past : goal.returns-clause-past
returns-clause-past c = looked_past_part

pub returns-clause-untouched : goal.returns-clause-untouched
returns-clause-untouched c = untouched_part
