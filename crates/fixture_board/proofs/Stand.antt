-- The pinned games of a legal history are games of its schedule.
use Rattle.std.proofs.Common.{◌≡◌, ℕ, zero, suc, ◌-◌, Bool, true, false, not, cond, ◌&&◌, ◌==◌, inl, inr, List}
use Rattle.std.proofs.Common.{[], ◌∷◌, ◌++◌, length, take, filter, true≢false, sym, ◌∙◌, ap, subst}
use Rattle.std.proofs.lemmas.Bool.{or_cases, or_parts, and_parts, not-false, eqb-true}
use Rattle.league.specs.League.{LeagueData, IsLeague}
use Rattle.fixtures.specs.declared.game.Game.{Game}
use Rattle.fixtures.specs.Draft.{is_game_in_range}
use Rattle.fixtures.specs.Games.{Games}
use Rattle.moves.specs.declared.moves.Move.{Move}
use Rattle.moves.specs.Moves.{moved}
use Rattle.fixture_board.specs.declared.change.Change.{Change}
use Rattle.fixture_board.specs.declared.change.Change.TheVariants.{Shift, Pin, Unpin, Undo}
use Rattle.fixture_board.specs.declared.change.Entry.{Entry}
use Rattle.league.specs.Starts.{start_of, kept_games}
use Rattle.fixture_board.specs.History.{effect, effective, shifted, games_after, games_of, is_game, has_game, pinned}
use Rattle.fixture_board.specs.History.{pins_after, pins_of, is_there, moves_pin, AllStand, Fits, May}
use Rattle.fixture_board.proofs.OneMore.{effective-more}
use Rattle.fixture_board.proofs.KeptGames.{AllStand-kept}
use Rattle.fixture_board.proofs.Scored.{moved-teams}

-- the game is one of the schedule
abbrev pub Stands : Games → Game → Type 0
Stands g game = (is_game_in_range g.teams game ≡ true) × (is_there g game ≡ true)

-- a move keeps the range of numbers
in_range-moved : (g : Games) (mv : Move) (game : Game) → is_game_in_range g.teams game ≡ is_game_in_range (moved g mv).teams game
in_range-moved g mv game = ap (λ n. is_game_in_range n game) (sym (moved-teams g mv))

-- after each change that fits, the pinned games stand

AllStand-moved : (g : Games) (mv : Move) (pins : List Game) → AllStand g pins → moves_pin (moved g mv) pins ≡ false →
    AllStand (moved g mv) pins
AllStand-moved g mv [] all kept = tt
AllStand-moved g mv (pin ∷ pins) all kept =
    let parts = or_parts (not (is_there (moved g mv) pin)) (moves_pin (moved g mv) pins) kept in (
      (sym (in_range-moved g mv pin) ∙ all.0.0, not-false (is_there (moved g mv) pin) parts.0),
      AllStand-moved g mv pins all.1 parts.1,
    )

AllStand-if : (g : Games) (pin : Game) (pins : List Game) (keeps : Bool) → Stands g pin → AllStand g pins →
    AllStand g (cond keeps (pin ∷ pins) pins)
AllStand-if g pin pins true first rest = (first, rest)
AllStand-if g pin pins false first rest = rest

AllStand-filter : (g : Games) (test : Game → Bool) (pins : List Game) → AllStand g pins → AllStand g (filter test pins)
AllStand-filter g test [] all = tt
AllStand-filter g test (pin ∷ pins) all =
    AllStand-if g pin (filter test pins) (test pin) all.0 (AllStand-filter g test pins all.1)

pub AllStand-change : (g : Games) (pins : List Game) (change : Change) → AllStand g pins → Fits g pins change →
    AllStand (shifted g change) (pinned pins change)
AllStand-change g pins (Shift mv) all fits = AllStand-moved g mv pins all fits.1
AllStand-change g pins (Pin game) all fits = ((fits.0, fits.1), all)
AllStand-change g pins (Unpin game) all fits = AllStand-filter g (λ pin. not (is_game game pin)) pins all
AllStand-change g pins Undo all fits = absurd fits

-- a pinned game stands

same_games : (x y : Game) → is_game x y ≡ true → x ≡ y
same_games x y is =
    let parts = and_parts (x.round == y.round && x.home == y.home) (x.away == y.away) is in
    let first = and_parts (x.round == y.round) (x.home == y.home) parts.0 in
    let round : x.round ≡ y.round = eqb-true x.round y.round first.0 in
    let home : x.home ≡ y.home = eqb-true x.home y.home first.1 in
    let away : x.away ≡ y.away = eqb-true x.away y.away parts.1 in
    ap (λ (n : ℕ). record { round = n; home = x.home; away = x.away }) round ∙
    ap (λ (n : ℕ). record { round = y.round; home = n; away = x.away }) home ∙
    ap (λ (n : ℕ). record { round = y.round; home = y.home; away = n }) away

pub pinned_stands : (g : Games) (pins : List Game) (game : Game) → AllStand g pins → has_game pins game ≡ true → Stands g game
pinned_stands g [] game all has = absurd (true≢false (sym has))
pinned_stands g (pin ∷ pins) game all has = elim (or_cases (is_game game pin) (has_game pins game) has) [
  | inl first ↦ subst (Stands g) (sym (same_games game pin first)) all.0
  | inr later ↦ pinned_stands g pins game all.1 later
]

-- each change fits where it was made
abbrev pub Fit : Games → List Game → List Change → Type 0
Fit g pins [] = Unit {0}
Fit g pins (change ∷ changes) = Fits g pins change × Fit (shifted g change) (pinned pins change) changes

Fit-more : (g : Games) (pins : List Game) (changes : List Change) (change : Change) → Fit g pins changes →
    Fits (games_after g changes) (pins_after pins changes) change → Fit g pins (changes ++ change ∷ [])
unfolding games_after pins_after
Fit-more g pins [] change all fits = (fits, tt)
Fit-more g pins (x ∷ changes) change all fits = (all.0, Fit-more (shifted g x) (pinned pins x) changes change all.1 fits)

Fit-take : (g : Games) (pins : List Game) (k : ℕ) (changes : List Change) → Fit g pins changes → Fit g pins (take k changes)
Fit-take g pins zero changes all = tt
Fit-take g pins (suc k) [] all = tt
Fit-take g pins (suc k) (change ∷ changes) all = (all.0, Fit-take (shifted g change) (pinned pins change) k changes all.1)

pub AllStand-after : (g : Games) (pins : List Game) (changes : List Change) → AllStand g pins → Fit g pins changes →
    AllStand (games_after g changes) (pins_after pins changes)
unfolding games_after pins_after
AllStand-after g pins [] stand all = stand
AllStand-after g pins (change ∷ changes) stand all =
    AllStand-after (shifted g change) (pinned pins change) changes (AllStand-change g pins change stand all.0) all.1

-- the changes in effect after a history fit
abbrev pub FitFrom : LeagueData → List Change → Type 0
FitFrom league changes = Fit (start_of league) (kept_games league) changes

FitFrom-effect : (league : LeagueData) (h : List Entry) (change : Change) → FitFrom league (effective h) → May league h change →
    FitFrom league (effect (effective h) change)
unfolding games_of pins_of
FitFrom-effect league h (Shift mv) all may = Fit-more (start_of league) (kept_games league) (effective h) (Shift mv) all may
FitFrom-effect league h (Pin game) all may = Fit-more (start_of league) (kept_games league) (effective h) (Pin game) all may
FitFrom-effect league h (Unpin game) all may = Fit-more (start_of league) (kept_games league) (effective h) (Unpin game) all may
FitFrom-effect league h Undo all may = Fit-take (start_of league) (kept_games league) (length (effective h) - 1) (effective h) all

pub FitFrom-more : (league : LeagueData) (h : List Entry) (e : Entry) → FitFrom league (effective h) → May league h e.change →
    FitFrom league (effective (h ++ e ∷ []))
FitFrom-more league h e all may = subst (FitFrom league) (sym (effective-more h e)) (FitFrom-effect league h e.change all may)

pub AllStand-fit : (league : LeagueData) (h : List Entry) → IsLeague league → FitFrom league (effective h) →
    AllStand (games_of league h) (pins_of league h)
unfolding games_of pins_of
AllStand-fit league h is all = AllStand-after (start_of league) (kept_games league) (effective h) (AllStand-kept league is) all
