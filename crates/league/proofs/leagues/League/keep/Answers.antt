use Rattle.std.proofs.Common.{length, arith, sym, ◌∙◌, ap, subst}
use Rattle.fixtures.specs.Games.{IsPair}
use Rattle.league.specs.League.{LeagueData, league_of_numbers, teams}
use Rattle.league.specs.within.League.{with_origin}
use Rattle.league.specs.Origins.{IsOriginFor}
use Rattle.league.specs.Starts.{keeping, KeepsMore}
use Rattle.league.specs.Views.{texts}
use Rattle.league.proofs.Beginnings.{origin_keeping, IsLeague-with}
use Rattle.league.proofs.Keeping.{is_pair, keeps_one}
use Rattle.league.proofs.leagues.League.keep.Goals as goal

-- the league as it was
abbrev before : goal.After-keep → LeagueData
before c =
    league_of_numbers (texts c.self.inside.names.items) c.self.inside.distances.items c.self.inside.terms.at_most
    c.self.inside.terms.hard_weight c.self.inside.rules.items c.self.inside.origin c.self.inside.terms.phased
    c.self.inside.terms.free_repeats c.self.inside.labels

pub invariant_of-self : goal.invariant_of-self
invariant_of-self c =
    let is = c.self.invariant in
    let pair = subst (λ n. IsPair n c.args.home c.args.away) (sym (ap teams c.self.view_is)) c.requires in
    IsLeague-with (before c) c.keep.new.self is
    (subst (IsOriginFor (teams (before c))) (sym c.keep.ensures)
    (origin_keeping (teams (before c)) c.self.inside.origin c.args.home c.args.away is.table.most pair is.origin))

pub returns-clause-more : goal.returns-clause-more
returns-clause-more c =
    let value = ap (λ o. with_origin o (before c)) c.keep.ensures ∙ ap (keeping c.args.home c.args.away) c.self.view_is in
    subst (KeepsMore (is_pair c.args.home c.args.away) c.args.self.now) (sym value)
    (keeps_one c.args.self.now c.args.home c.args.away (omega (arith, c.self.invariant.table.most, ap teams c.self.view_is))
    (ap (λ (l : LeagueData). length l.origin.kept) (sym c.self.view_is) ∙ c.self.invariant.origin.rows))
