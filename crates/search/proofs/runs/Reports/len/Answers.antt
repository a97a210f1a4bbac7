use Rattle.std.proofs.Common.{rules}
use Rattle.search.proofs.runs.Reports.len.Goals as goal

pub returns : goal.returns
returns c = search rules
