-- In the list of a double round robin each pair and each team in each round is found once.
use Rattle.std.proofs.Common.{◌≡◌, ℕ, ◌<◌, ◌⊎◌, inl, inr, Bool, true, false, List, length, get_or, refl, sym, ◌∙◌, ap, subst}
use Rattle.std.specs.Prelude.{Contains}
use Rattle.std.proofs.lemmas.Bool.{cases_order}
use Rattle.std.proofs.lemmas.List.{get_or_default}
use Rattle.std.proofs.lemmas.List.Elements.{Contains-get_or}
use Rattle.fixtures.specs.declared.game.Cell.{Cell}
use Rattle.fixtures.specs.declared.game.Game.{Game}
use Rattle.fixtures.specs.Games.{Games, round_count, IsCell, IsPair}
use Rattle.fixtures.specs.GameList.{AreGamesOf, SamePair}
use Rattle.fixtures.specs.Draft.{IsGame}
use Rattle.fixtures.specs.within.Draft.{game_of}
use Rattle.fixtures.proofs.ForCallers.{pair_swapped}
use Rattle.schedule_texts.specs.Faults.{games_in, games_of_pair, is_of_pair, is_of_team}
use Rattle.schedule_texts.proofs.Lone.{counted_lone}
use Rattle.schedule_texts.proofs.Tests.{cell_of_game, has_team, pair_passed, pair_passes, team_passed, team_passes}

abbrev pub no_game : Game
no_game = record { round = 0; home = 0; away = 0 }

module _ (g : Games) (list : List Game) (are : AreGamesOf g list) where
  pub is_game_of : (x : Game) → Contains list x → IsGame g.teams x
  is_game_of x listed =
      let is = are.each_is x listed in
      record { pair = is.0; in_range = subst (λ r. r < round_count g.teams) is.1 (are.round_robin.in_range x.home x.away is.0) }

  -- two places with the same pair are one
  one_index : (j k : ℕ) → j < length list → k < length list → SamePair (get_or list j no_game) (get_or list k no_game) → j ≡ k
  one_index j k in_j in_k same = elim (cases_order j k) [
    | inl e ↦ e
    | inr (inl before) ↦ absurd (are.once j k no_game before in_k same)
    | inr (inr after) ↦ absurd (are.once k j no_game after in_j (sym same.0, sym same.1))
  ]

  index_of : (x : Game) → Contains list x → (k : ℕ) × (k < length list) × (get_or list k no_game ≡ x)
  index_of x listed = (listed.0, listed.1, get_or_default list listed.0 no_game x listed.1 ∙ listed.2)

  pub pair_once : (home away : ℕ) → IsPair g.teams home away → games_of_pair g.teams list home away ≡ 1
  unfolding games_of_pair
  pair_once home away p =
      let listed = are.every home away p in
      let index = index_of _ listed in
      counted_lone (is_of_pair g.teams home away) no_game list index.0 (record {
        within = index.1;
        passes = rw index.2 (pair_passes g.teams home away _ (is_game_of _ listed) refl refl);
        alone = λ j within passes.
            let same = pair_passed g.teams home away _ passes in
            one_index j index.0 within index.1 (rw index.2 same);
      })

  of_cell : (team round opponent : ℕ) (home : Bool) → IsCell g team round (record { opponent = opponent; home = home })
      → Contains list (game_of team round (record { opponent = opponent; home = home }))
  of_cell team round opponent true is = rw (← is.in_round) (are.every team opponent is.pair)
  of_cell team round opponent false is = rw (← is.in_round) (are.every opponent team (pair_swapped g.teams team opponent is.pair))

  -- it is the game of the team's cell
  of_its_cell : (x : Game) (team round : ℕ) (c : Cell) → Contains list x
      → (x.round ≡ round) × ((x.home ≡ team) ⊎ (x.away ≡ team)) → IsCell g team round c → x ≡ game_of team round c
  of_its_cell x team round c listed of is =
      let at = are.each_is x listed in
      let own = cell_of_game g x team at.0 at.1 of.1 in
      let e : own.0 ≡ c = are.round_robin.once team round own.0 c (subst (λ r. IsCell g team r own.0) of.0 own.1) is in
      sym own.2 ∙ ap (λ r. game_of team r own.0) of.0 ∙ ap (game_of team round) e

  pub team_once : (team round : ℕ) → team < g.teams → round < round_count g.teams → games_in g.teams list team round ≡ 1
  unfolding games_in
  team_once team round team_in round_in =
      let plays = are.round_robin.plays team round team_in round_in in
      let listed = of_cell team round plays.0.opponent plays.0.home plays.1 in
      let index = index_of _ listed in
      counted_lone (is_of_team g.teams team round) no_game list index.0 (record {
        within = index.1;
        passes =
            rw index.2 (team_passes g.teams team round _ (is_game_of _ listed) refl (has_team team round plays.0.opponent plays.0.home));
        alone = λ j within passes.
            let of = team_passed g.teams team round _ passes in
            let same = of_its_cell _ team round plays.0 (Contains-get_or list j no_game within) of plays.1 ∙ sym index.2 in
            one_index j index.0 within index.1 (ap (λ (x : Game). x.home) same, ap (λ (x : Game). x.away) same);
      })
