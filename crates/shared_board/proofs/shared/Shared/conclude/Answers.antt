use Rattle.std.proofs.Common.{List, [], ◌∷◌, Some, ap, sym, ◌∙◌, subst, rules}
use Rattle.fixture_board.specs.declared.change.Entry.{Entry}
use Rattle.fixture_board.specs.History.{IsLegal}
use Rattle.fixture_board.specs.Replies.{entry}
use Rattle.shared_board.specs.Setting.{board_at}
use Rattle.shared_board.specs.Stage.{away}
use Rattle.shared_board.specs.within.Stage.{kept}
use Rattle.shared_board.specs.within.Plays.{saw, on_board}
use Rattle.shared_board.proofs.BoardLaws.{legal_next}
use Rattle.shared_board.proofs.Ends.{done_adds, no_stays}
use Rattle.shared_board.proofs.shared.Shared.conclude.Goals as goal

pub commit-requires-clause-added : goal.commit-requires-clause-added
commit-requires-clause-added c = let v = c.args.token.now.me.0 in record {
  entry = entry c.args._number c.args._ask;
  one_more = ap on_board c.requires.board ∙
      done_adds v.setting (kept v.stage) c.args._number c.args._ask c.args.judged.now c.in-Done.at c.in-Done.cost c.requires.judged
      c.in-Done.is;
  own = c.requires.turn.2;
}

pub commit-requires-clause-legal : goal.commit-requires-clause-legal
commit-requires-clause-legal c =
    let v = c.args.token.now.me.0 in
    let P : List Entry → Type 0 = λ h. IsLegal v.setting.league v.setting.room h in
    subst P (sym (ap on_board c.requires.board))
    (legal_next v.setting.league v.setting.room (kept v.stage) c.args._number c.args._ask c.requires.legal)

pub leave-requires-in-No-clause-board : goal.leave-requires-in-No-clause-board
leave-requires-in-No-clause-board c =
    let v = c.args.token.now.me.0 in
    let same = no_stays v.setting (kept v.stage) c.args._number c.args._ask c.args.judged.now c.in-No.at c.in-No.why c.requires.judged
    c.in-No.is in
    c.requires.board ∙ ap (λ (h : List Entry). (0, Some (board_at v.setting h)) ∷ []) same

pub returns-in-No-clause-done : goal.returns-in-No-clause-done
returns-in-No-clause-done c =
    let v = c.args.token.now.me.0 in
    let same = no_stays v.setting (kept v.stage) c.args._number c.args._ask c.args.judged.now c.in-No.at c.in-No.why c.requires.judged
    c.in-No.is in
    c.leave-in-No.ensures.done ∙ ap (λ (h : List Entry). (saw v h away, [])) (sym same)

pub returns-in-Done-clause-same : goal.returns-in-Done-clause-same
returns-in-Done-clause-same c = search rules

pub returns-in-Done-clause-done : goal.returns-in-Done-clause-done
returns-in-Done-clause-done c = search rules

pub returns-in-No-clause-same : goal.returns-in-No-clause-same
returns-in-No-clause-same c = search rules
