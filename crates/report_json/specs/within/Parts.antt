-- What private functions alone need beside specs/Parts.antt.
use Rattle.std.specs.Prelude.{List, map}
use Rattle.serde_json.specs.Data.{Data}
use Rattle.serde_json.specs.View.{view}
use Rattle.serde_json.specs.declared.value.Value.{Value}

-- what values stand for
abbrev pub seen : List Value → List Data
seen values = map view values
