use Rattle.std.proofs.Common.{◌≡◌, ◌+◌, refl, sym, ◌∙◌, ap, subst, arith}
use Rattle.league.specs.League.{teams}
use Rattle.draws.specs.Draws.{AreRoundsOf}
use Rattle.annealing.specs.declared.boards.Boards.{Boards}
use Rattle.annealing.specs.Legs.{IsFrom}
use Rattle.annealing.proofs.Ends.{IsGoing-more}
use Rattle.annealing.proofs.Rooms.{with_room-league}
use Rattle.annealing.proofs.legs.Going.take_block.Goals as goal

pub take_steps-tally-requires-clause-draws : goal.take_steps-tally-requires-clause-draws
take_steps-tally-requires-clause-draws c =
    let old = c.args.self.now.boards in
    let league : c.make_room.new.self.board.league ≡ old.board.league =
    ap (λ (b : Boards). b.board.league) c.in_ok-make_room.ensures ∙ with_room-league old in
    let same : c.teams.result ≡ teams old.board.league = c.teams.ensures.value ∙ ap teams (c.league.ensures ∙ league) in
    record {
      two = omega (arith, c.teams.ensures.least);
      most = c.teams.ensures.most;
      some_kind = omega (arith, c.kinds.ensures.least);
      few_kinds = omega (arith, c.kinds.ensures.most);
      rounds_are = subst (λ n. AreRoundsOf n c.args.conditions.rounds.now) (sym same) c.requires.rounds;
    }

pub returns-clause-goes_on : goal.returns-clause-goes_on
returns-clause-goes_on c = λ old was.
    IsGoing-more c.args.leg old c.args.number c.args.self.now _ c.make_room.new.self c.take_steps-tally.result c.requires.number c.requires.steps was
    c.in_ok-make_room.ensures refl
    (subst (λ among. IsFrom among c.take_steps-tally.result.accepted c.make_room.new.self.board c.take_steps-tally.new.board) c.kinds.ensures.value
    c.take_steps-tally.ensures.from)
    c.take_steps-tally.ensures.never_worse (ap (λ n. c.args.self.now.steps + n) c.from.ensures) (ap (λ n. c.args.self.now.accepted + n) c.from-2.ensures)
    (c.take_steps-tally.ensures.steps ∙ c.block_steps.ensures.value) c.take_steps-tally.ensures.accepted
