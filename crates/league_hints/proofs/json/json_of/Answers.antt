use Rattle.league_hints.proofs.Texts.{json_of-valid, json_of-refused}
use Rattle.league_hints.proofs.json.json_of.Goals as goal

pub returns-in-Ok : goal.returns-in-Ok
returns-in-Ok c = json_of-valid _ _ c.in-Ok.ensures.ok.0 c.in-Ok.ensures.ok.1

pub returns-in_default : goal.returns-in_default
returns-in_default c = (
  json_of-refused _ (c.in-Err.ensures.err (λ memory. c.in_default.not-Memory (c.classify.ensures.memory.1 memory))),
  _,
  _,
  c.place.ensures,
)
