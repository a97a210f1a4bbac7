-- The names of the classes of rules.
use Rattle.std.specs.Prelude.{ℕ, List, codes}
use Rattle.league.specs.declared.rule.RuleBody.{RuleBody}
use Rattle.league.specs.declared.rule.RuleBody.TheVariants.{Ca1, Ca2, Ca3, Ca4, Ga1, Br1, Br2, Se1, Fa2}

abbrev pub class_name : RuleBody → List ℕ
class_name (Ca1 teams side slots most) = codes "CA1"
class_name (Ca2 teams1 side teams2 slots most) = codes "CA2"
class_name (Ca3 teams1 side teams2 window most) = codes "CA3"
class_name (Ca4 teams1 side teams2 slots each most) = codes "CA4"
class_name (Ga1 games slots least most) = codes "GA1"
class_name (Br1 teams side slots most) = codes "BR1"
class_name (Br2 teams slots most) = codes "BR2"
class_name (Se1 teams least) = codes "SE1"
class_name (Fa2 teams slots most) = codes "FA2"
