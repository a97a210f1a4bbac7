use Rattle.std.proofs.Common.{◌==◌, not, refl, ◌∙◌, ap}
use Rattle.std.proofs.lemmas.Bool.{and_right, or_left, eq-eqb}
use Rattle.sets.specs.Sets.{has}
use Rattle.bounds.proofs.families.all_opponents.Goals as goal

pub returns : goal.returns
returns c =
    let home = c.args.traveller.home in record {
      below = c.difference.ensures.below c.args.traveller.teams c.below.ensures.below;
      away = c.difference.ensures.members home ∙ and_right (has c.below.result home) (not (has c.with-home.result home))
          (ap not (c.with-home.ensures.members home ∙ or_left (home == home) (has c.empty.result home) (eq-eqb home home refl)));
    }
