use Rattle.std.proofs.Common.{◌≡◌, ℕ, List, [], ◌∷◌, ◌++◌, length, ◌∙◌, ap, subst, sym, arith}
use Rattle.std.proofs.lemmas.Bool.{eqb-false}
use Rattle.draws.specs.Draws.{AreRoundsOf}
use Rattle.fixtures.specs.Games.{round_count}
use Rattle.league.specs.League.{teams}
use Rattle.improvement.specs.within.Rounds.{free_below}
use Rattle.fixture_board.specs.History.{games_of}
use Rattle.improvement.proofs.FreeRounds.{free_are, free_is, free_more, free_same, none_free}
use Rattle.improvement.proofs.rounds.free_rounds.Goals.{then-not-is_kept_whole, else-not-is_kept_whole}
use Rattle.improvement.proofs.rounds.free_rounds.Goals as goal

pub loop-round-init : goal.loop-round-init
loop-round-init c =
    let b = c.args.board.now in
    record {
      room = omega (arith, c.in_ok-free.ensures.capacity, c.from.ensures);
      free = c.in_ok-free.ensures.items ∙ sym (none_free b.league (games_of b.league b.history));
    }

pub push_reserved-requires : goal.push_reserved-requires
push_reserved-requires c =
    let b = c.args.board.now in
    omega (
      arith,
      (free_is b.league (games_of b.league b.history) c.loop-round.round).1,
      ap length c.loop-round.invariant.free,
      c.loop-round.free.ok.0,
      c.loop-round.invariant.room,
    )

pub loop-round-preserved : goal.loop-round-preserved
loop-round-preserved c =
    let b = c.args.board.now in
    let g = games_of b.league b.history in
    let is = c.schedule-schedule.ensures.games in
    let was = c.loop-round.invariant in
    elim c.if-not-is_kept_whole.branch [
      | then-not-is_kept_whole w ↦ rw w.free-is (record {
        room = omega (arith, w.push_reserved.ensures.capacity, was.room);
        free = w.push_reserved.ensures.items ∙ ap (λ (free : List ℕ). free ++ c.loop-round.round ∷ []) was.free ∙
            sym (free_more b.league g c.loop-round.round
            (sym (rw (c.league.ensures, is) at c.is_kept_whole.ensures) ∙ w.if-not-is_kept_whole.true));
      })
      | else-not-is_kept_whole w ↦ rw w.free-is (record {
        room = was.room;
        free = was.free ∙ sym (free_same b.league g c.loop-round.round
            (sym (rw (c.league.ensures, is) at c.is_kept_whole.ensures) ∙ w.if-not-is_kept_whole.false));
      })
    ]

pub returns-clause-are : goal.returns-clause-are
returns-clause-are c =
    let b = c.args.board.now in
    let g = games_of b.league b.history in
    let season : c.rounds-rounds.result ≡ round_count (teams b.league) =
    c.rounds-rounds.ensures.number ∙ ap round_count c.schedule-schedule.ensures.size in
    let all : c.loop-round.round ≡ c.rounds-rounds.result = omega arith in
    let free : c.loop-round.free.items ≡ free_below b.league g (round_count (teams b.league)) =
    c.loop-round.invariant.free ∙ ap (free_below b.league g) (all ∙ season) in
    let some : length c.loop-round.free.items ≡ 0 → ⊥ =
    λ none. eqb-false _ 0 (sym c.is_empty.ensures ∙ c.if-is_empty.false) (c.loop-round.free.ok.0 ∙ none) in
    subst (AreRoundsOf (teams b.league)) (sym free)
    (free_are b.league g (teams b.league) (rw season at c.rounds-rounds.ensures.most)
    (subst (λ (rounds : List ℕ). length rounds ≡ 0 → ⊥) free some))
