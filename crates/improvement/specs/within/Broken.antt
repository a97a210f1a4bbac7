-- What private functions alone need beside specs/Broken.antt.
use Rattle.std.specs.Prelude.{◌<◌, length}
use Rattle.league.specs.League.{LeagueData}
use Rattle.improvement.specs.declared.broken.Part.{Part}
use Rattle.improvement.specs.declared.broken.Part.TheVariants.{RuleAt}

-- the league has such a part
abbrev pub IsPartOf : LeagueData → Part → Type 0
IsPartOf league (RuleAt i) = i < length league.rules
IsPartOf league _ = Unit {0}
