-- Lines have no fault exactly where they give a double round robin.
use Rattle.std.proofs.Common.{◌≡◌, ℕ, zero, suc, ◌+◌, ◌<◌, inl, inr, Bool, true, false, List, [], ◌∷◌, ◌++◌, length, get_or, map, eqb, refl}
use Rattle.std.proofs.Common.{sym, ◌∙◌, ap, arith, Some, None}
use Rattle.std.proofs.Math.Nat.{eq-or-lt_of_le, le_of_suc-le-suc, not-suc-le-zero}
use Rattle.std.proofs.lemmas.Bool.{cases_Bool, cases_eq, eq-eqb, false≢true, ne_eqb, or_from, or_parts, true_from_ne_false}
use Rattle.std.proofs.lemmas.List.Elements.{Contains-get_or}
use Rattle.league.specs.League.{LeagueData, IsLeague, teams}
use Rattle.fixtures.specs.declared.game.Game.{Game}
use Rattle.fixtures.specs.Games.{Games, games, round_count, round_of}
use Rattle.fixtures.specs.GameList.{AreGamesOf}
use Rattle.fixtures.specs.Draft.{is_game_in_range, IsGame}
use Rattle.fixtures.proofs.ForCallers.{game_passed, game_passes, games_ext, round_of_games}
use Rattle.byte_streams.specs.Pieces.{pieces_below}
use Rattle.schedule_texts.specs.declared.schedule_text.ScheduleLine.{ScheduleLine}
use Rattle.schedule_texts.specs.declared.schedule_text.ScheduleLine.TheVariants.{Other, Bad, Round}
use Rattle.schedule_texts.specs.declared.schedule_text.WrittenGame.{WrittenGame}
use Rattle.schedule_texts.specs.Faults.{bad_line, bad_lines, faults, game_faults, games_of_pair, no_game_line, no_game_lines, pair_line}
use Rattle.schedule_texts.specs.Faults.{pair_lines, team_line, team_lines}
use Rattle.schedule_texts.specs.Faultless.{IsFaultlessExactly, IsToldExactly, round_in, schedule_of}
use Rattle.schedule_texts.specs.Given.{given_games, placed, IsGivenBy}
use Rattle.schedule_texts.specs.LastSheet.{last_sheet}
use Rattle.schedule_texts.specs.ScheduleText.{has_bad_line, is_bad, line_of, written_games}
use Rattle.schedule_texts.proofs.Found.{found, IsFaultless}
use Rattle.schedule_texts.proofs.OnceEach.{is_game_of, no_game, pair_once, team_once}

is_nil : List ℕ → Bool
is_nil [] = true
is_nil (x ∷ xs) = false

nil_parts : (xs ys : List ℕ) → xs ++ ys ≡ [] → (xs ≡ []) × (ys ≡ [])
nil_parts [] ys e = (refl, e)
nil_parts (x ∷ xs) ys e = absurd (false≢true (unfold is_nil in ap is_nil e))

-- ---- pieces

pieces_nil : (piece : ℕ → List ℕ) (n : ℕ) → ((k : ℕ) → k < n → piece k ≡ []) → pieces_below piece n ≡ []
pieces_nil piece zero none = refl
pieces_nil piece (suc n) none =
    let before = pieces_nil piece n (λ k below. none k (omega (arith, below))) in
    rw (before, none n (omega arith)) refl

nil_piece : (piece : ℕ → List ℕ) (n k : ℕ) → k < n → pieces_below piece n ≡ [] → piece k ≡ []
nil_piece piece zero k below none = absurd (not-suc-le-zero below)
nil_piece piece (suc n) k below none =
    let parts = nil_parts (pieces_below piece n) (piece n) none in
    elim (eq-or-lt_of_le (le_of_suc-le-suc below)) [ inl e ↦ ap piece e ∙ parts.1 | inr lower ↦ nil_piece piece n k lower parts.0 ]

-- ---- bad lines

good_line : (number : ℕ) (line : ScheduleLine) → is_bad line ≡ false → bad_line number line ≡ []
good_line number Bad sound = absurd (false≢true (sym sound))
good_line number (Round r) sound = refl
good_line number Other sound = refl

line_is_good : (number : ℕ) (line : ScheduleLine) → bad_line number line ≡ [] → is_bad line ≡ false
unfolding is_nil
line_is_good number Bad none = absurd (false≢true (ap is_nil none))
line_is_good number (Round r) none = refl
line_is_good number Other none = refl

good_lines : (number : ℕ) (lines : List (List ℕ)) → has_bad_line lines ≡ false → bad_lines number lines ≡ []
good_lines number [] sound = refl
good_lines number (line ∷ lines) sound =
    let parts = or_parts (is_bad (line_of line)) (has_bad_line lines) sound in
    rw (good_line number (line_of line) parts.0, good_lines (number + 1) lines parts.1) refl

lines_are_good : (number : ℕ) (lines : List (List ℕ)) → bad_lines number lines ≡ [] → has_bad_line lines ≡ false
lines_are_good number [] none = refl
lines_are_good number (line ∷ lines) none =
    let parts = nil_parts (bad_line number (line_of line)) (bad_lines (number + 1) lines) none in
    or_from _ _ (line_is_good number (line_of line) parts.0) (lines_are_good (number + 1) lines parts.1)

-- ---- games that are none

no_game_told : (n : ℕ) (w : WrittenGame) → no_game_line n w ≡ [] → is_game_in_range n (placed w) ≡ true
unfolding is_nil
no_game_told n w none = true_from_ne_false (is_game_in_range n (placed w)) (λ fails. false≢true (ap is_nil (rw fails at none)))

abbrev AreGames : ℕ → List Game → Type 0
AreGames n list = (k : ℕ) → k < length list → IsGame n (get_or list k no_game)

games_told : (n : ℕ) (ws : List WrittenGame) → AreGames n (map placed ws) → no_game_lines n ws ≡ []
games_told n [] all = refl
games_told n (w ∷ ws) all =
    let first = game_passes n (placed w) (all 0 (omega arith)) in
    rw first (games_told n ws (λ k within. all (suc k) (omega (arith, within))))

told_games : (n : ℕ) (ws : List WrittenGame) → no_game_lines n ws ≡ [] → AreGames n (map placed ws)
told_games n [] none k within = absurd (omega (arith, within))
told_games n (w ∷ ws) none zero within =
    game_passed n (placed w) (no_game_told n w (nil_parts (no_game_line n w) (no_game_lines n ws) none).0)
told_games n (w ∷ ws) none (suc k) within =
    told_games n ws (nil_parts (no_game_line n w) (no_game_lines n ws) none).1 k (omega (arith, within))

-- ---- counts

team_told : (team round count : ℕ) → team_line team round count ≡ [] → count ≡ 1
unfolding is_nil
team_told team round count none = elim (cases_eq count 1) [
  | inl one ↦ one
  | inr other ↦ elim (cases_Bool (eqb count 0)) [
    | inl zero_games ↦ absurd (false≢true (ap is_nil (rw (ne_eqb count 1 other, zero_games) at none)))
    | inr several ↦ absurd (false≢true (ap is_nil (rw (ne_eqb count 1 other, several) at none)))
  ]
]

pair_told : (home away count : ℕ) → (home ≡ away → ⊥) → pair_line home away count ≡ [] → count ≡ 1
unfolding is_nil
pair_told home away count apart none = elim (cases_eq count 1) [
  | inl one ↦ one
  | inr other ↦ elim (cases_Bool (eqb count 0)) [
    | inl zero_games ↦ absurd (false≢true (ap is_nil (rw (ne_eqb home away apart, ne_eqb count 1 other, zero_games) at none)))
    | inr several ↦ absurd (false≢true (ap is_nil (rw (ne_eqb home away apart, ne_eqb count 1 other, several) at none)))
  ]
]

teams_faultless : (g : Games) (list : List Game) → AreGamesOf g list → game_faults g.teams list ≡ []
unfolding game_faults
teams_faultless g list are =
    let teams_once : pieces_below (team_lines g.teams list) g.teams ≡ [] =
    pieces_nil _ g.teams (λ team team_in.
    pieces_nil _ (round_count g.teams) (λ round round_in. rw (team_once g list are team round team_in round_in) refl)) in
    let pairs_once : pieces_below (pair_lines g.teams list) g.teams ≡ [] =
    pieces_nil _ g.teams (λ home home_in. pieces_nil _ g.teams (λ away away_in. pair_faultless home away home_in away_in)) in
    rw (teams_once, pairs_once) refl
  where
    pair_faultless : (home away : ℕ) → home < g.teams → away < g.teams → pair_line home away (games_of_pair g.teams list home away) ≡ []
    pair_faultless home away home_in away_in = elim (cases_eq home away) [
      | inl same ↦ rw (eq-eqb home away same) refl
      | inr apart ↦
          let e = pair_once g list are home away (record { home_in = home_in; away_in = away_in; distinct = apart }) in
          rw (ne_eqb home away apart, e) refl
    ]

faultless_games : (n : ℕ) (list : List Game) → AreGames n list → game_faults n list ≡ [] → IsFaultless n list
unfolding game_faults
faultless_games n list all none =
    let parts = nil_parts (pieces_below (team_lines n list) n) (pieces_below (pair_lines n list) n) none in
    record {
      games = all;
      teams = λ team round team_in round_in.
          team_told team round _ (nil_piece _ (round_count n) round round_in (nil_piece (team_lines n list) n team team_in parts.0));
      pairs = λ home away p.
          pair_told home away _ p.distinct (nil_piece _ n away p.away_in (nil_piece (pair_lines n list) n home p.home_in parts.1));
    }

-- lines without faults give the games of each pair in the round of its first game
faultless_gives : (l : LeagueData) (lines : List (List ℕ)) → IsLeague l → faults (teams l) lines ≡ []
    → IsGivenBy (teams l) lines (games (teams l) (round_in (teams l) (given_games lines)))
faultless_gives l lines is_league none =
    let parts = nil_parts (bad_lines 1 (last_sheet lines) ++ no_game_lines (teams l) (written_games (last_sheet lines))) _ none in
    let fronts = nil_parts (bad_lines 1 (last_sheet lines)) _ parts.0 in
    let told = told_games (teams l) (written_games (last_sheet lines)) fronts.1 in
    let all = faultless_games (teams l) (given_games lines) told parts.1 in
    let table = is_league.table in
    record {
      teams = refl;
      sound = lines_are_good 1 (last_sheet lines) fronts.0;
      games = found (teams l) (given_games lines) all table.even table.least table.most;
    }

pub faultless_exactly : (l : LeagueData) (lines : List (List ℕ)) → IsLeague l → IsFaultlessExactly (teams l) lines
faultless_exactly l lines is_league = (λ none. (_, faultless_gives l lines is_league none), λ given. backward given.0 given.1)
  where
    backward : (g : Games) → IsGivenBy (teams l) lines g → faults (teams l) lines ≡ []
    backward g is =
        let listed = Contains-get_or (given_games lines) in
        let said = games_told g.teams (written_games (last_sheet lines))
        (λ k within. is_game_of g (given_games lines) is.games _ (listed k no_game within)) in
        rw (good_lines 1 (last_sheet lines) is.sound, ← is.teams, said, teams_faultless g (given_games lines) is.games) refl

-- ---- one schedule at most

-- two double round robins with the same games are one
one_schedule : (n : ℕ) (list : List Game) (g : Games) (at : ℕ → ℕ → ℕ) → g.teams ≡ n → AreGamesOf g list → AreGamesOf (games n at) list
    → g ≡ games n at
one_schedule n list g at e is are =
    is.round_robin.pairs_alone ∙ ap (λ (k : ℕ). games k (round_of g)) e ∙
    games_ext n (round_of g) at (λ home away p. (is.each_is _ (are.every home away p)).1 ∙ round_of_games n at home away p)

nil_of : (xs : List ℕ) → length xs ≡ 0 → xs ≡ []
nil_of [] e = refl
nil_of (x ∷ xs) e = absurd (omega (arith, e))

pub told_exactly : (l : LeagueData) (lines : List (List ℕ)) → IsLeague l → IsToldExactly (teams l) lines
unfolding schedule_of
told_exactly l lines is_league (Some g) is =
    let none : faults (teams l) lines ≡ [] = (faultless_exactly l lines is_league).1 (g, is) in
    let empty : eqb (length (faults (teams l) lines)) 0 ≡ true = ap (λ (told : List ℕ). eqb (length told) 0) none in
    rw empty (ap Some (one_schedule (teams l) (given_games lines) g _ is.teams is.games (faultless_gives l lines is_league none).games))
told_exactly l lines is_league None gives_none =
    let gives = (faultless_exactly l lines is_league).0 in
    let told : eqb (length (faults (teams l) lines)) 0 ≡ false =
    ne_eqb _ 0 (λ e. let given = gives (nil_of (faults (teams l) lines) e) in gives_none given.0 given.1) in
    rw told refl
