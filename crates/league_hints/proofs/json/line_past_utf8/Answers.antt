use Rattle.std.proofs.Common.{rules}
use Rattle.league_hints.proofs.Texts.{line_past, no_line_past}
use Rattle.league_hints.proofs.json.line_past_utf8.Goals as goal

pub returns-in-Ok : goal.returns-in-Ok
returns-in-Ok c = no_line_past _ c.in-Ok.ensures.cases.1

pub returns-in-Err : goal.returns-in-Err
returns-in-Err c = line_past _ c.valid_up_to.result c.line_ends.result c.in-Err.ensures.cases.0 (search rules) (search rules)
