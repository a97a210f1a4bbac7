use Rattle.std.proofs.Common.{◌∙◌, ap}
use Rattle.league_forms.specs.Forms.{quote_of}
use Rattle.script_hints.proofs.Quotes.{is_text, is_no_text}
use Rattle.script_hints.proofs.cause.quote.Goals as goal

pub returns-in-Ok : goal.returns-in-Ok
returns-in-Ok c = rw (is_text _ c.in-Ok.ensures.cases.1) (c.of.ensures ∙ ap quote_of c.in-Ok.ensures.cases.0)

pub returns-in-Err : goal.returns-in-Err
returns-in-Err c = rw (is_no_text _ c.in-Err.ensures.cases.0) c.of-in-Err.ensures
