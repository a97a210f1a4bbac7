use Rattle.std.proofs.Common.{◌==◌, ◌∙◌, sym}
use Rattle.std.proofs.lemmas.Bool.{eq-eqb}
use Rattle.league.specs.Starts.{start_round}
use Rattle.league.proofs.Keeping.{keeps_of_pair}
use Rattle.league.proofs.leagues.League.keep_in_round.Goals as goal

pub returns-then-start_round-round : goal.returns-then-start_round-round
returns-then-start_round-round c =
    keeps_of_pair (λ h a. start_round c.args.self.now h a == c.args.round) c.args.self.now c.keep.new.self c.args.home c.args.away
    c.keep.ensures.more (eq-eqb _ _ (sym c.start_round.ensures.value ∙ c.if-start_round-round.true))
