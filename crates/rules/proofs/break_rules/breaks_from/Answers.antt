use Rattle.std.proofs.Common.{◌&&◌, sym, ◌∙◌, ap}
use Rattle.std.proofs.Math.Bool.{and-true}
use Rattle.league.specs.Sets.{has}
use Rattle.rules.specs.Deviations.{is_on_side}
use Rattle.rules.proofs.counted.CountedRounds.{breaks_of_firsts}
use Rattle.rules.proofs.break_rules.breaks_from.Goals as goal

pub returns-in-Home-clause-value : goal.returns-in-Home-clause-value
returns-in-Home-clause-value c =
    c.len.ensures.among _ (c.intersection.ensures.below _ (c.difference-stays.ensures.below _ c.requires.firsts)) ∙
    breaks_of_firsts c.args.schedule.now c.args.team c.args.firsts _ _ c.requires.season c.home_rounds-home.ensures.members
    c.changes_of.ensures c.args.side _
    (λ r. c.intersection.ensures.members r ∙
    ap (λ s. has c.difference-stays.result r && is_on_side s (has c.home_rounds-home.result r)) (sym c.in-Home.is) ∙
    ap (λ b. b && is_on_side c.args.side (has c.home_rounds-home.result r)) (c.difference-stays.ensures.members r))

pub returns-in-Away-clause-value : goal.returns-in-Away-clause-value
returns-in-Away-clause-value c =
    c.len-in-Away.ensures.among _ (c.difference.ensures.below _ (c.difference-stays.ensures.below _ c.requires.firsts)) ∙
    breaks_of_firsts c.args.schedule.now c.args.team c.args.firsts _ _ c.requires.season c.home_rounds-home.ensures.members
    c.changes_of.ensures c.args.side _
    (λ r. c.difference.ensures.members r ∙
    ap (λ s. has c.difference-stays.result r && is_on_side s (has c.home_rounds-home.result r)) (sym c.in-Away.is) ∙
    ap (λ b. b && is_on_side c.args.side (has c.home_rounds-home.result r)) (c.difference-stays.ensures.members r))

pub returns-in-Any-clause-value : goal.returns-in-Any-clause-value
returns-in-Any-clause-value c =
    c.len-in-Any.ensures.among _ (c.difference-stays.ensures.below _ c.requires.firsts) ∙
    breaks_of_firsts c.args.schedule.now c.args.team c.args.firsts _ _ c.requires.season c.home_rounds-home.ensures.members
    c.changes_of.ensures c.args.side _
    (λ r. sym (and-true (has c.difference-stays.result r)) ∙
    ap (λ s. has c.difference-stays.result r && is_on_side s (has c.home_rounds-home.result r)) (sym c.in-Any.is) ∙
    ap (λ b. b && is_on_side c.args.side (has c.home_rounds-home.result r)) (c.difference-stays.ensures.members r))
