use Rattle.std.proofs.Common.{◌≡◌, ◌++◌, ◌∙◌, ap, arith, rules}
use Rattle.league.specs.League.{teams}
use Rattle.costs.specs.Costs.{total_of}
use Rattle.fixture_board.specs.Record.{Book}
use Rattle.fixture_board.specs.Replies.{greatest}
use Rattle.fixture_board.specs.Trials.{trial_history}
use Rattle.draws.specs.Draws.{stream_of_generator}
use Rattle.annealing.specs.Walks.{moved_on, total_at, unless_none, walk_after, Walk}
use Rattle.annealing.proofs.Walks.{next_drawn-by, walk_at, walk_at-more, walk_at-none}
use Rattle.annealing.proofs.walk.changes_on_walk.Goals as goal

pub loop-step-init : goal.loop-step-init
loop-step-init c = record {
  league = search rules;
  room = search rules;
  total = search rules;
  few = search rules;
  reserved = search rules;
  walk = walk_at-none c.args.league _ c.new-generator.result _ (search rules) c.new-generator.ensures (search rules);
}

pub loop-step-preserved : goal.loop-step-preserved
loop-step-preserved c =
    let was = c.loop-step.invariant in
    let h = c.loop-step.board.history in
    let next_is : c.try_move.new.self.history ≡ moved_on c.args.league h c.draw_among.result =
    ap (λ (b : Book). b.history) c.try_move.ensures.history ∙
    ap (λ l. trial_history l c.loop-step.board.room h 0 (record { mv = c.draw_among.result; weights = c.alike.result; rise = greatest })) was.league ∙
    ap (λ r. trial_history c.args.league r h 0 (record { mv = c.draw_among.result; weights = c.alike.result; rise = greatest })) was.room ∙
    ap (λ w. trial_history c.args.league 1000 h 0 (record { mv = c.draw_among.result; weights = w; rise = greatest })) c.alike.ensures.value in
    let league_is : c.try_move.new.self.league ≡ c.args.league = ap (λ (b : Book). b.league) c.try_move.ensures.history ∙ was.league in
    let total_is : c.loop-step.total ≡ total_at c.args.league h = was.total ∙ ap (λ l. total_at l h) was.league in
    let after_is : c.total-next.result ≡ total_at c.args.league c.try_move.new.self.history =
    c.total-next.ensures ∙ ap total_of c.cost-in-loop-step.ensures.value ∙ ap (λ l. total_at l c.try_move.new.self.history) league_is in
    let drawn =
    c.draw_among.ensures.drawn ∙
    next_drawn-by c.args.league (stream_of_generator c.loop-step.generator) c.teams-teams.result c.kinds.result.now c.each_round.result.now
    (c.teams-teams.ensures.value ∙ ap teams (c.league-2.ensures ∙ ap (λ (b : Book). b.league) c.in-Ok.ensures.ok)) c.kinds.ensures.value
    c.each_round.ensures.value in
    record {
      league = search rules;
      room = search rules;
      total = search rules;
      few = omega (arith, c.push_change.ensures.len, was.few);
      reserved = search rules;
      walk = ap (walk_at c.try_move.new.self.history (stream_of_generator c.draw_among.new.generator))
          (c.push_change.ensures.items ∙ ap (λ n. c.loop-step.changes.items ++ unless_none n) c.abs_diff.ensures) ∙
          walk_at-more c.args.league c.loop-step._step h c.try_move.new.self.history (stream_of_generator c.loop-step.generator)
          (stream_of_generator c.draw_among.new.generator) c.draw_among.result c.loop-step.changes.items c.loop-step.total c.total-next.result was.walk
          drawn next_is total_is after_is;
    }

pub returns : goal.returns
returns c = ap (λ (w : Walk). w.changes) c.loop-step.invariant.walk ∙ ap (λ n. (walk_after c.args.league n).changes) (omega arith)
