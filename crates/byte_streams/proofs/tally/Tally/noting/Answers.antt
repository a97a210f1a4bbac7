use Rattle.std.proofs.Common.{rules}
use Rattle.byte_streams.proofs.tally.Tally.noting.Goals as goal

pub returns-in-Moved-eq0 : goal.returns-in-Moved-eq0
returns-in-Moved-eq0 c = search rules

pub returns-in-Moved : goal.returns-in-Moved
returns-in-Moved c = search rules

pub returns-in-Again : goal.returns-in-Again
returns-in-Again c = search rules

pub returns-in-Failed : goal.returns-in-Failed
returns-in-Failed c = search rules
