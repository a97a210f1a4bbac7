use Rattle.std.proofs.Common.{◌≡◌, ℕ, List, length, sym, ap, ◌∙◌, subst, arith, rules}
use Rattle.std.specs.List.{All, range_with_len}
use Rattle.league.specs.League.{teams}
use Rattle.fixtures.specs.Games.{Games}
use Rattle.std.proofs.lemmas.List.{length-map}
use Rattle.std.proofs.lemmas.List.Elements.{All-weaker}
use Rattle.shared_board.specs.Setting.{Setting}
use Rattle.search.specs.within.RunParts.{InputIn, IsScoringFor, IsOfInput, IsSized, handle_input}
use Rattle.search.specs.declared.runs.threads.WorkerInput.{WorkerInput}
use Rattle.search.specs.declared.workers.Report.{Report}
use Rattle.search.specs.Heard.{AreOf, IsOfWorker}
use Rattle.search.proofs.Credited.{credits_of, of_workers, reported_in}
use Rattle.search.proofs.runs.search.Goals as goal

pub conclude-requires-clause-many : goal.conclude-requires-clause-many
conclude-requires-clause-many g c =
    let inputs = c.in-Ok.inputs in let handles = c.launch-all.result.1 in
    let each = c.launch-all.ensures.each (search rules) in
    omega (
      arith,
      c.gather-reports.ensures.many,
      c.gather-reports.result.ok.0,
      ap length each,
      length-map handles.items handle_input,
      handles.ok.0,
      inputs.ok.0,
      c.in-Ok.ensures.many,
      c.requires.buffers.copies,
    )

pub conclude-requires-clause-credits : goal.conclude-requires-clause-credits
conclude-requires-clause-credits g c =
    credits_of _ _ _ _ _ _ _ _ _ _ c.launch-all.ensures (search rules) c.in-Ok.ensures.rising c.gather-reports.ensures.credits
    c.close-closed.ensures

pub launch-all-requires-after_bounds : goal.launch-all-requires-after_bounds
launch-all-requires-after_bounds g c = λ _ _. record {
  inputs_are = c.in-Ok.ensures.inputs;
  scoring = All-weaker (InputIn c.args.seat.setting) (IsScoringFor c.args.context.scoring.of_boards c.args.context.scoring.league.now)
      (λ j here on. ap (λ (s : Setting). s.league) here ∙ c.requires.scoring on) c.in-Ok.inputs.items c.in-Ok.ensures.in_setting;
  no_handle = c.requires.buffers.no_handle;
  room = omega (arith, c.in-Ok.ensures.many, c.requires.buffers.copies, c.requires.buffers.handles);
}

pub returns-clause-heard : goal.returns-clause-heard
returns-clause-heard g c =
    let heard = g.G.Gate.heard c.args.context.gate.now in
    let reported = g.G.Gate.was_reported c.args.context.gate.now in
    let league = c.args.context.scoring.league.now in
    let plan = c.args.plan in
    let size = teams c.args.seat.setting.league in
    let reports = c.gather-reports.result.items in
    let inputs = c.in-Ok.inputs.items in
    let OfInputs : List WorkerInput → Type 0 = λ js. AreOf (IsOfInput heard reported league plan) js reports in
    let Sized : List Games → Type 0 = λ gs. All (IsSized size) gs in
    let OfWorkers : List ℕ → Type 0 = λ ns. AreOf (IsOfWorker heard reported (size ≡ teams league) plan.steps) ns reports in
    let Reported : List Report → Type 0 = λ rs. AreOf (IsOfWorker heard reported (size ≡ teams league) plan.steps) (range_with_len 0 plan.workers) rs in
    let are = of_workers heard reported league plan size inputs reports
    (subst OfInputs (c.launch-all.ensures.each (search rules)) c.gather-reports.ensures.heard)
    (subst Sized (sym c.in-Ok.ensures.copies) c.requires.buffers.sized) in
    reported_in Reported reports c.conclude.result c.conclude.ensures.reports
    (subst OfWorkers (c.in-Ok.ensures.workers ∙ ap (range_with_len 0) c.requires.buffers.copies) are)
