-- The blocks of a text, and its last line.
use Rattle.std.proofs.Common.{◌≡◌, ℕ, ◌<◌, Bool, true, false, List, [], ◌∷◌, ◌++◌, length, Option, Some, None, codes, decimal}
use Rattle.std.proofs.Common.{refl, sym, ◌∙◌, ap, subst, append_assoc, append-nil, arith}
use Rattle.std.specs.List.{cons_option}
use Rattle.league.specs.League.{LeagueData}
use Rattle.fixture_board.specs.declared.best.Best.{Best}
use Rattle.fixture_board.specs.declared.change.Entry.{Entry}
use Rattle.fixture_board.specs.History.{best_of}
use Rattle.text_lines.specs.Lines.{counted, numbered}
use Rattle.text_lines.specs.Sheet.{sheet_of}
use Rattle.board_texts.specs.PlayText.{best_line, history_text}
use Rattle.board_texts.specs.SearchText.{improved_text, outcome_text, total_line}
use Rattle.annealing.specs.Legs.{total_in}
use Rattle.improvement.specs.Broken.{broken_text}
use Rattle.improvement.specs.Laws.{BeginsWith, EndsWith, last_line, newest_total}
use Rattle.improvement.specs.Legs.{LegRun, lead_of, least_reported}
use Rattle.improvement.specs.LegText.{blocks, ending, improve_text, legs_text, solution_lines}
use Rattle.improvement.specs.within.LegText.{solution_text, text_of}
use Rattle.improvement.specs.Solutions.{Solution, below, best_solution, solutions_of}
use Rattle.improvement.proofs.Leads.{least_leads}
use Rattle.improvement.proofs.Solutions.{IsWhole, lead_whole, newest_is}

-- ---- one leg more

blocks_more : (league : LeagueData) (s : Option Solution) (older : List Solution) →
    blocks league (cons_option s older) ≡ blocks league older ++ text_of league s
unfolding blocks
blocks_more league None older = sym (append-nil (blocks league older))
blocks_more league (Some s) older = refl

pub legs_text_more : (league : LeagueData) (run : LegRun) (before : List LegRun) →
    legs_text league (run ∷ before) ≡ legs_text league before ++ solution_text league (least_reported league before) run.history
unfolding solutions_of
legs_text_more league run before =
    blocks_more league (below (least_reported league before) (best_solution league run.history)) (solutions_of league before)

-- ---- a text up to a block

begins_more : (front text more : List ℕ) → BeginsWith front text → BeginsWith front (text ++ more)
begins_more front text more b =
    record { rest = b.rest ++ more; is = ap (λ (t : List ℕ). t ++ more) b.is ∙ append_assoc front b.rest more }

older_first : (league : LeagueData) (newer older : List Solution) → BeginsWith (blocks league older) (blocks league (newer ++ older))
unfolding blocks
older_first league [] older = record { rest = []; is = sym (append-nil (blocks league older)) }
older_first league (s ∷ newer) older =
    begins_more (blocks league older) (blocks league (newer ++ older)) (solution_lines league s) (older_first league newer older)

up_to_block : (league : LeagueData) (history ended : Bool) (legs : List LegRun) (newer older : List Solution) →
    solutions_of league legs ≡ newer ++ older → BeginsWith (blocks league older) (improve_text league history ended legs)
unfolding improve_text
up_to_block league history ended legs newer older same =
    begins_more (blocks league older) (legs_text league legs) (ending league history ended legs)
    (subst (λ (all : List Solution). BeginsWith (blocks league older) (blocks league all)) (sym same) (older_first league newer older))

block_ends : (league : LeagueData) (s : Solution) (older : List Solution) → EndsWith (codes "\n----------\n") (blocks league (s ∷ older))
unfolding blocks
block_ends league s older = record {
  front = blocks league older ++ (sheet_of s.games league ++ (codes "best " ++ decimal s.total));
  is = simp (append_assoc, append-nil);
}

pub text_up_to_a_block_is_whole : (league : LeagueData) (history ended : Bool) (legs : List LegRun) (newer older : List Solution)
    (s : Solution) → solutions_of league legs ≡ newer ++ s ∷ older →
    BeginsWith (blocks league (s ∷ older)) (improve_text league history ended legs)
    × EndsWith (codes "\n----------\n") (blocks league (s ∷ older))
text_up_to_a_block_is_whole league history ended legs newer older s same =
    (up_to_block league history ended legs newer (s ∷ older) same, block_ends league s older)

-- ---- the last line

ends_behind : (front text end : List ℕ) → EndsWith end text → EndsWith end (front ++ text)
ends_behind front text end e =
    record { front = front ++ e.front; is = ap (λ (t : List ℕ). front ++ t) e.is ∙ sym (append_assoc front e.front end) }

best_line_is : (best : Option Best) (n : ℕ) → ((b : Best) → best ≡ Some b → b.at ≡ n) → best_line best ≡ last_line true (total_in best) n
best_line_is None n whole = refl
best_line_is (Some b) n whole = ap (λ (at : ℕ). counted (codes "best ") b.total ++ numbered (codes " at ") at) (whole b refl)

total_line_is : (best : Option Best) (n : ℕ) → total_line best ≡ last_line false (total_in best) n
total_line_is None n = refl
total_line_is (Some b) n = refl

improved_ends : (league : LeagueData) (history : Bool) (h : List Entry) → IsWhole league h →
    EndsWith (last_line history (total_in (best_of league h)) (length h)) (improved_text history league h)
unfolding improved_text
improved_ends league true h whole = record {
  front = history_text h ++ outcome_text league h;
  is = ap (λ (line : List ℕ). (history_text h ++ outcome_text league h) ++ line) (best_line_is (best_of league h) (length h) whole);
}
improved_ends league false h whole = record {
  front = outcome_text league h;
  is = ap (λ (line : List ℕ). outcome_text league h ++ line) (total_line_is (best_of league h) (length h));
}

text_ends : (league : LeagueData) (history : Bool) (legs : List LegRun) (end : List ℕ) →
    EndsWith end (improved_text history league (lead_of league legs)) → EndsWith end (improve_text league history true legs)
unfolding improve_text
text_ends league history legs end e =
    ends_behind (legs_text league legs) (broken_text league legs ++ improved_text history league (lead_of league legs)) end
    (ends_behind (broken_text league legs) (improved_text history league (lead_of league legs)) end e)

pub last_line_has_the_last_total : (league : LeagueData) (history : Bool) (legs : List LegRun) → 0 < length legs →
    EndsWith (last_line history (newest_total (solutions_of league legs)) (length (lead_of league legs)))
    (improve_text league history true legs)
last_line_has_the_last_total league history [] some = absurd (omega arith)
last_line_has_the_last_total league history (run ∷ before) some =
    let legs = run ∷ before in
    let lead = lead_of league legs in
    text_ends league history legs (last_line history (newest_total (solutions_of league legs)) (length lead))
    (subst (λ (total : Option ℕ). EndsWith (last_line history total (length lead)) (improved_text history league lead))
    (least_leads league run before ∙ sym (newest_is league legs)) (improved_ends league history lead (lead_whole league run before)))
