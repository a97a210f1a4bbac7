use Rattle.std.proofs.Common.{◌≡◌, inl, inr, sym, ◌∙◌, ap}
use Rattle.league.specs.Sets.{all_numbers}
use Rattle.league.specs.declared.rule.RuleBody.TheVariants.{Ca1, Ca2}
use Rattle.league.proofs.ForCallers.{has_all_numbers}
use Rattle.rules.specs.Deviations.{deviation}
use Rattle.rules.specs.within.Walked.{counted_of}
use Rattle.rules.proofs.rows.AllTeams.{Ca2-all}
use Rattle.rules.proofs.limits.Limits.{deviation_below}
use Rattle.rules.proofs.deviations.deviation.Goals as goal

pub returns-in-Ca1-clause-value : goal.returns-in-Ca1-clause-value
returns-in-Ca1-clause-value c = elim c.in-Ca1.is [
  | inl is ↦
      let counted : c.of-counted.result ≡ counted_of c.args.schedule.now.teams (Ca1 is.0 is.1 c.in-Ca1.slots c.in-Ca1.max) =
      c.of-counted.ensures.value ∙ ap (counted_of c.args.schedule.now.teams) is.2 in
      rw counted at c.ca2.ensures ∙
      Ca2-all c.args.schedule.now c.of-counted.ensures.round_robin is.1 (all_numbers c.args.schedule.now.teams)
      (has_all_numbers c.args.schedule.now.teams) is.0 c.in-Ca1.slots c.in-Ca1.max ∙
      ap (deviation c.args.schedule.now) (sym is.2)
  | inr is ↦
      let counted : c.of-counted.result ≡ counted_of c.args.schedule.now.teams (Ca2 is.0 is.1 is.2 c.in-Ca1.slots c.in-Ca1.max) =
      c.of-counted.ensures.value ∙ ap (counted_of c.args.schedule.now.teams) is.3 in
      rw counted at c.ca2.ensures ∙ ap (deviation c.args.schedule.now) (sym is.3)
]

pub returns-in-Ca1-clause-below : goal.returns-in-Ca1-clause-below
returns-in-Ca1-clause-below c = rw (returns-in-Ca1-clause-value c) (deviation_below _ _ c.of-counted.ensures.round_robin.most c.requires)
