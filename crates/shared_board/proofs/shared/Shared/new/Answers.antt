use Rattle.std.proofs.Common.{◌≡◌, List, [], ◌∷◌, ◌++◌, Option, Some, ap, sym, ◌∙◌, subst, rules}
use Rattle.atomic_table.specs.Table.{opening}
use Rattle.fixture_board.specs.Laws.{least_of, as_number}
use Rattle.fixture_board.specs.Record.{Book}
use Rattle.shared_board.specs.Rule.{Ruled}
use Rattle.shared_board.specs.within.Rule.{first_view}
use Rattle.shared_board.proofs.BoardLaws.{number_of_best}
use Rattle.shared_board.proofs.Turns.{opens}
use Rattle.shared_board.proofs.shared.Shared.new.Goals as goal

pub new-requires : goal.new-requires
new-requires c =
    let b : Book = c.args.board in
    let best : c.number_of-best.result ≡ least_of b.league [] =
    c.number_of-best.ensures ∙ ap as_number c.best.ensures.value ∙ number_of_best b.league b.history ∙
    ap (least_of b.league) c.requires in
    let items : c.push_reserved.new.self.items ≡ Some b ∷ [] = c.push_reserved.ensures.items ∙
    ap (λ (l : List (Option Book)). l ++ Some b ∷ []) c.in_ok-slots.ensures.items in
    let P : Book → List (Option Book) → Type 0 =
    λ k l. Ruled (opening (0 ∷ 0 ∷ 1 ∷ c.number_of-best.result ∷ []) l (first_view k)) in
    let Q : Book → Type 0 = λ k. P k c.push_reserved.new.self.items in
    subst Q (sym c.of-key.ensures) (subst (P b) (sym items) (opens b c.number_of-best.result c.requires c.best.ensures.limits best))

pub returns-in_err-slots : goal.returns-in_err-slots
returns-in_err-slots c = search rules

pub returns-in_default : goal.returns-in_default
returns-in_default c = search rules

pub returns : goal.returns
returns c = search rules
