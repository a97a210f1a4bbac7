-- A list in which each pair and each team in each round is found once is that of a double round robin.
use Rattle.std.proofs.Common.{◌≡◌, ℕ, ◌%◌, ◌<◌, ◌≤◌, Bool, true, false, List, length, get_or, refl, sym, ◌∙◌, ap, subst, arith}
use Rattle.std.specs.List.{position_or_len}
use Rattle.std.proofs.lemmas.Bool.{false_from_ne_true}
use Rattle.std.proofs.lemmas.List.{get_or_default}
use Rattle.std.proofs.lemmas.List.Sums.{position_or_len_is}
use Rattle.league.specs.Limits.{max_teams}
use Rattle.fixtures.specs.declared.game.Cell.{Cell}
use Rattle.fixtures.specs.declared.game.Game.{Game}
use Rattle.fixtures.specs.Games.{games, round_count, round_of, IsCell, IsPair, IsDoubleRoundRobin}
use Rattle.fixtures.specs.GameList.{AreGamesOf, SamePair}
use Rattle.fixtures.specs.Draft.{IsGame}
use Rattle.fixtures.specs.within.Draft.{game_of}
use Rattle.fixtures.proofs.ForCallers.{games_ext, pair_swapped, round_of_games}
use Rattle.schedule_texts.specs.Faults.{games_in, games_of_pair, is_of_pair, is_of_team}
use Rattle.schedule_texts.proofs.Lone.{IsLone, lone_counted}
use Rattle.schedule_texts.proofs.Tests.{cell_of_game, has_team, pair_passed, pair_passes, team_passed, team_passes}
use Rattle.schedule_texts.proofs.OnceEach.{no_game}

pub record IsFaultless (n : ℕ) (list : List Game) : Type 0 where
  pub games : (k : ℕ) → k < length list → IsGame n (get_or list k no_game)
  pub teams : (team round : ℕ) → team < n → round < round_count n → games_in n list team round ≡ 1
  pub pairs : (home away : ℕ) → IsPair n home away → games_of_pair n list home away ≡ 1

whole : (x : Game) (round home away : ℕ) → round ≡ x.round → x.home ≡ home → x.away ≡ away
    → x ≡ record { round = round; home = home; away = away }
whole x round home away r h a = rw (r, ← h, ← a) refl

same_cell : (n team round o : ℕ) (home : Bool) (u : ℕ) (side : Bool) → IsPair n team o → IsPair n team u
    → game_of team round (record { opponent = o; home = home }) ≡ game_of team round (record { opponent = u; home = side })
    → ◌≡◌ {A = Cell} (record { opponent = o; home = home }) (record { opponent = u; home = side })
same_cell n team round o true u true p q e = ap (λ (x : Game). record { opponent = x.away; home = true }) e
same_cell n team round o true u false p q e = absurd (q.distinct (ap (λ (x : Game). x.home) e))
same_cell n team round o false u true p q e = absurd (p.distinct (sym (ap (λ (x : Game). x.home) e)))
same_cell n team round o false u false p q e = ap (λ (x : Game). record { opponent = x.home; home = false }) e

module _ (n : ℕ) (list : List Game) (all : IsFaultless n list) where
  -- the round of the first game of the pair
  abbrev round_at : ℕ → ℕ → ℕ
  round_at home away = (get_or list (position_or_len (is_of_pair n home away) list) no_game).round

  lone_pair : (home away : ℕ) → IsPair n home away → (k : ℕ) × IsLone (is_of_pair n home away) list no_game k
  unfolding games_of_pair
  lone_pair home away p = lone_counted (is_of_pair n home away) no_game list (all.pairs home away p)

  lone_team : (team round : ℕ) → team < n → round < round_count n → (k : ℕ) × IsLone (is_of_team n team round) list no_game k
  unfolding games_in
  lone_team team round team_in round_in = lone_counted (is_of_team n team round) no_game list (all.teams team round team_in round_in)

  first_index : (home away k : ℕ) → IsLone (is_of_pair n home away) list no_game k → position_or_len (is_of_pair n home away) list ≡ k
  first_index home away k lone =
      position_or_len_is (is_of_pair n home away) list k no_game (omega (arith, lone.within))
      (λ j before. false_from_ne_true _ (λ passes. omega (arith, before, lone.alone j (omega (arith, before, lone.within)) passes)))
      (λ within. lone.passes)

  -- each game of the list has its round
  pub round_kept : (k : ℕ) → k < length list → let x = get_or list k no_game in round_at x.home x.away ≡ x.round
  round_kept k within =
      let x = get_or list k no_game in
      let is = all.games k within in
      let lone = lone_pair x.home x.away is.pair in
      let e : k ≡ lone.0 = lone.1.alone k within (pair_passes n x.home x.away x is refl refl) in
      ap (λ (i : ℕ). (get_or list i no_game).round) (first_index x.home x.away lone.0 lone.1 ∙ sym e)

  -- each pair has a game
  pair_index : (home away : ℕ) → IsPair n home away
      → (k : ℕ) × (k < length list) × (get_or list k no_game ≡ record { round = round_at home away; home = home; away = away })
  pair_index home away p =
      let lone = lone_pair home away p in
      let same = pair_passed n home away _ lone.1.passes in
      let first = ap (λ (k : ℕ). (get_or list k no_game).round) (first_index home away lone.0 lone.1) in
      (lone.0, lone.1.within, whole _ _ home away first same.0 same.1)

  rounds_in : (home away : ℕ) → IsPair n home away → round_at home away < round_count n
  rounds_in home away p =
      let index = pair_index home away p in
      subst (λ (x : Game). x.round < round_count n) index.2 (all.games index.0 index.1).in_range

  -- the game of a cell stands in the list
  cell_index : (team round opponent : ℕ) (home : Bool) → IsCell (games n round_at) team round (record { opponent = opponent; home = home })
      → (k : ℕ) × (k < length list) × (get_or list k no_game ≡ game_of team round (record { opponent = opponent; home = home }))
  cell_index team round opponent true is =
      rw (sym (round_of_games n round_at team opponent is.pair) ∙ is.in_round) at (pair_index team opponent is.pair)
  cell_index team round opponent false is =
      let p = pair_swapped n team opponent is.pair in
      rw (sym (round_of_games n round_at opponent team p) ∙ is.in_round) at (pair_index opponent team p)

  plays : (team round : ℕ) → team < n → round < round_count n → (c : Cell) × IsCell (games n round_at) team round c
  plays team round team_in round_in =
      let lone = lone_team team round team_in round_in in
      let x = get_or list lone.0 no_game in
      let of = team_passed n team round x lone.1.passes in
      let p = (all.games lone.0 lone.1.within).pair in
      let kept = round_of_games n round_at x.home x.away p ∙ round_kept lone.0 lone.1.within in
      let own = cell_of_game (games n round_at) x team p kept of.1 in
      (own.0, subst (λ r. IsCell (games n round_at) team r own.0) of.0 own.1)

  of_team : (team round : ℕ) (c : Cell) (k : ℕ) → IsLone (is_of_team n team round) list no_game k
      → (index : (i : ℕ) × (i < length list) × (get_or list i no_game ≡ game_of team round c)) → index.0 ≡ k
  of_team team round c k lone index =
      lone.alone index.0 index.1
      (team_passes n team round _ (all.games index.0 index.1) (ap (λ (x : Game). x.round) index.2)
      (rw index.2 (has_team team round c.opponent c.home)))

  once : (team round : ℕ) (c d : Cell) → IsCell (games n round_at) team round c → IsCell (games n round_at) team round d
      → c ≡ d
  once team round c d is_c is_d =
      let at_c = cell_index team round c.opponent c.home is_c in
      let at_d = cell_index team round d.opponent d.home is_d in
      let round_in = rw at_c.2 at (all.games at_c.0 at_c.1).in_range in
      let lone = lone_team team round is_c.pair.home_in round_in in
      let same : at_c.0 ≡ at_d.0 = of_team team round c lone.0 lone.1 at_c ∙ sym (of_team team round d lone.0 lone.1 at_d) in
      same_cell n team round c.opponent c.home d.opponent d.home is_c.pair is_d.pair
      (sym at_c.2 ∙ ap (λ (k : ℕ). get_or list k no_game) same ∙ at_d.2)

  pub round_robin : n % 2 ≡ 0 → 4 ≤ n → n ≤ max_teams → IsDoubleRoundRobin (games n round_at)
  round_robin even four most = record {
    even = even;
    four = four;
    most = most;
    pairs_alone = games_ext n round_at _ (λ home away p. sym (round_of_games n round_at home away p));
    in_range = λ home away p. rw (round_of_games n round_at home away p) (rounds_in home away p);
    plays = plays;
    once = once;
  }

  one_index : (i j : ℕ) → i < j → j < length list → ¬ SamePair (get_or list i no_game) (get_or list j no_game)
  one_index i j before within same =
      let x = get_or list i no_game in
      let is = all.games i (omega arith) in
      let lone = lone_pair x.home x.away is.pair in
      let first = lone.1.alone i (omega arith) (pair_passes n x.home x.away x is refl refl) in
      let second = lone.1.alone j within (pair_passes n x.home x.away _ (all.games j within) (sym same.0) (sym same.1)) in
      omega (arith, before, first, second)

  pub found : n % 2 ≡ 0 → 4 ≤ n → n ≤ max_teams → AreGamesOf (games n round_at) list
  found even four most = record {
    round_robin = round_robin even four most;
    each_is = λ x listed.
        let e = get_or_default list listed.0 no_game x listed.1 ∙ listed.2 in
        let p = (all.games listed.0 listed.1).pair in
        subst (λ (x : Game). IsPair n x.home x.away × (round_of (games n round_at) x.home x.away ≡ x.round)) e
        (p, round_of_games n round_at _ _ p ∙ round_kept listed.0 listed.1);
    every = λ home away p.
        let index = pair_index home away p in
        rw (round_of_games n round_at home away p) (index.0, index.1, get_or_default list index.0 _ no_game index.1 ∙ index.2);
    once = λ i j d before within same.
        one_index i j before within (rw (get_or_default list i d no_game (omega arith), get_or_default list j d no_game within) at same);
  }
