use Rattle.std.proofs.Common.{◌≡◌, ℕ, length, sym, ap, ◌∙◌, subst}
use Rattle.league.specs.League.{league_of_numbers, teams}
use Rattle.league.specs.Origins.{IsOriginFor}
use Rattle.league.specs.Views.{texts}
use Rattle.league.proofs.Beginnings.{origin_for_given, IsLeague-with}
use Rattle.league.proofs.leagues.League.begin_at.Goals as goal

pub invariant_of-self : goal.invariant_of-self
invariant_of-self c =
    let is = c.self.invariant in
    let n : ℕ = length (texts c.self.inside.names.items) in
    let size : c.args.start.teams ≡ n = c.requires ∙ sym (ap teams c.self.view_is) in
    IsLeague-with (league_of_numbers (texts c.self.inside.names.items) c.self.inside.distances.items c.self.inside.terms.at_most
    c.self.inside.terms.hard_weight c.self.inside.rules.items c.self.inside.origin c.self.inside.terms.phased
    c.self.inside.terms.free_repeats c.self.inside.labels) c.begin_at.new.self is
    (subst (IsOriginFor n) (sym c.begin_at.ensures)
    (origin_for_given n c.args.start c.self.inside.origin.near c.teams.ensures.round_robin size is.origin.near))
