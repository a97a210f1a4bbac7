-- A history that is taken back to its best version, and what is kept then.
use Rattle.std.proofs.Common.{◌≡◌, ℕ, zero, suc, ◌+◌, ◌*◌, ◌<◌, ◌≤◌, inl, inr, List, [], ◌∷◌, ◌++◌, length, take, Option, Some, None}
use Rattle.std.proofs.Common.{unwrap_or, get_or, is_some, true≢false, refl, sym, ◌∙◌, ap, subst, take_all, arith}
use Rattle.std.proofs.lemmas.Bool.{cases_lt}
use Rattle.std.proofs.lemmas.List.{length-set, take-take, take_more}
use Rattle.league.specs.Limits.{max_teams}
use Rattle.league.specs.League.{LeagueData, teams, IsLeague}
use Rattle.fixtures.specs.declared.game.Game.{Game}
use Rattle.fixtures.specs.Games.{Games, IsDoubleRoundRobin}
use Rattle.league.specs.Starts.{start_of, kept_games}
use Rattle.costs.specs.Costs.{cost_of, total_of}
use Rattle.fixture_board.specs.declared.best.Best.{Best}
use Rattle.costs.specs.declared.cost.Cost.{Cost}
use Rattle.fixture_board.specs.declared.change.Change.{Change}
use Rattle.fixture_board.specs.declared.change.Change.TheVariants.{Shift, Pin, Unpin, Undo}
use Rattle.fixture_board.specs.declared.change.Entry.{Entry}
use Rattle.fixture_board.specs.History.{effect, effective, effective_after, shifted, games_after, games_of, pinned}
use Rattle.fixture_board.specs.History.{pins_after, pins_of, AllStand}
use Rattle.fixture_board.specs.History.{Fits, legal_after, IsLegal, cost_at, best_prefix, best_at, as_best, best_of}
use Rattle.fixture_board.specs.History.{IsBestPrefix, IsBestOf}
use Rattle.fixture_board.specs.within.Kept.{IsLeader, Kept, FollowsHistory}
use Rattle.fixture_board.specs.within.PinTable.{free, pin_entries, ArePinsAt}
use Rattle.fixture_board.specs.within.Retraced.{HasPlace, written, written_after, IsRetraced}
use Rattle.fixture_board.specs.Rewound.{rewound, IsSameBestRewound}
use Rattle.fixture_board.proofs.Keeps.{effect-length}
use Rattle.fixture_board.proofs.KeptGames.{AllStand-kept}
use Rattle.fixture_board.proofs.Least.{best_prefix-is_best}
use Rattle.fixture_board.proofs.OneMore.{effective-more}
use Rattle.fixture_board.proofs.PinTable.{IsPair-in_range, ArePinsAt-games, ArePinsAt-pin, ArePinsAt-unpin}
use Rattle.costs.proofs.ForCallers.{score_below}
use Rattle.fixture_board.proofs.Scored.{moved-teams, games_of-teams}
use Rattle.league.proofs.ForCallers.{round_robin_start}
use Rattle.fixture_board.proofs.Sound.{FitFrom-legal, IsDoubleRoundRobin-change}
use Rattle.fixture_board.proofs.Stand.{Fit, AllStand-change, pinned_stands}

-- a prefix of a legal history is legal

legal_after-take : (league : LeagueData) (room : ℕ) (before : List Entry) (n : ℕ) (h : List Entry) →
    legal_after league room before h → legal_after league room before (take n h)
legal_after-take league room before zero h legal = tt
legal_after-take league room before (suc n) [] legal = tt
legal_after-take league room before (suc n) (e ∷ h) legal =
    (legal.0, legal_after-take league room (before ++ e ∷ []) n h legal.1)

IsLegal-take : (league : LeagueData) (room n : ℕ) (h : List Entry) → IsLegal league room h → IsLegal league room (take n h)
unfolding IsLegal
IsLegal-take league room n h legal = legal_after-take league room [] n h legal

-- the best prefix is its own best prefix

abbrev total_at : LeagueData → List Entry → ℕ
total_at league p = total_of (cost_at league p)

module _ (league : LeagueData) (h p : List Entry) (best : IsBestPrefix league h p) where
  whole : take (length p) p ≡ p
  whole = take_all (length p) p (omega arith)

  whole_feasible : (cost_at league (take (length p) p)).hard ≡ 0
  whole_feasible = subst (λ x. (cost_at league x).hard ≡ 0) (sym whole) best.feasible

  shorter : (q : List Entry) → IsBestPrefix league p q → length q < length p → ⊥
  shorter q again under =
      let same : take (length q) h ≡ q =
      sym (take-take (length q) (length p) h (omega arith)) ∙ ap (take (length q)) (sym best.prefix) ∙ sym again.prefix in
      let more : total_at league p < total_at league q =
      subst (λ x. (cost_at league x).hard ≡ 0 → total_at league p < total_at league x) same (best.first (length q) under)
      again.feasible in
      let less : total_at league q ≤ total_at league p =
      subst (λ x. total_at league q ≤ total_at league x) whole (again.least (length p) (omega arith) whole_feasible) in
      omega arith

  same_prefix : (q : List Entry) → IsBestPrefix league p q → q ≡ p
  same_prefix q again = elim (cases_lt (length q) (length p)) [
    | inl under ↦ absurd (shorter q again under)
    | inr no_less ↦ again.prefix ∙ take_all (length q) p no_less
  ]

  best_again : (found : Option (List Entry)) → IsBestOf league p found → found ≡ Some p
  best_again None never = absurd (never (length p) (omega arith) whole_feasible)
  best_again (Some q) again = ap Some (same_prefix q again)

best_prefix-again : (league : LeagueData) (h p : List Entry) → best_prefix league h ≡ Some p → best_prefix league p ≡ Some p
best_prefix-again league h p is =
    best_again league h p (subst (IsBestOf league h) is (best_prefix-is_best league h)) (best_prefix league p)
    (best_prefix-is_best league p)

-- what is known of the best version of a history

record Back (league : LeagueData) (h : List Entry) (p : List Entry) : Type 0 where
  is : best_prefix league h ≡ Some p
  prefix : p ≡ take (length p) h
  short : length p ≤ length h

back : (league : LeagueData) (h p : List Entry) → best_prefix league h ≡ Some p → Back league h p
back league h p is =
    let best : IsBestPrefix league h p = subst (IsBestOf league h) is (best_prefix-is_best league h) in
    record { is = is; prefix = best.prefix; short = best.short }

rewound-by : (league : LeagueData) (room : ℕ) (h : List Entry) (found : Option (List Entry)) → best_prefix league h ≡ found →
    (IsLegal league room h → IsLegal league room (unwrap_or found h)) × (best_prefix league (unwrap_or found h) ≡ found)
rewound-by league room h None is = (λ legal. legal, is)
rewound-by league room h (Some p) is = (
  λ legal. subst (IsLegal league room) (sym (back league h p is).prefix) (IsLegal-take league room (length p) h legal),
  best_prefix-again league h p is,
)

pub same_best_rewound : (league : LeagueData) (room : ℕ) (h : List Entry) → IsSameBestRewound league room h
unfolding best_of
same_best_rewound league room h =
    let by = rewound-by league room h (best_prefix league h) refl in
    record { legal = by.0; prefix = by.1; best = ap (as_best league) by.1 }

-- the table of pins, made anew

ArePinsAt-change : (g : Games) (pins : List Game) (table : List ℕ) (change : Change) → IsDoubleRoundRobin g → AllStand g pins →
    Fits g pins change → length table ≡ pin_entries → ArePinsAt g pins table →
    ArePinsAt (shifted g change) (pinned pins change) (written table change)
ArePinsAt-change g pins table (Shift mv) robin stand fits size are =
    ArePinsAt-games g (shifted g (Shift mv)) pins table (moved-teams g mv) stand (AllStand-change g pins (Shift mv) stand fits) are
ArePinsAt-change g pins table (Pin game) robin stand fits size are =
    ArePinsAt-pin g pins table game robin.most size fits.0 fits.1 are
ArePinsAt-change g pins table (Unpin game) robin stand fits size are =
    let stands = pinned_stands g pins game stand fits in
    ArePinsAt-unpin g pins table game robin.most size stands.0 stands.1 stand are
ArePinsAt-change g pins table Undo robin stand fits size are = absurd fits

written-length : (table : List ℕ) (change : Change) → length (written table change) ≡ length table
written-length table (Shift mv) = refl
written-length table (Pin game) = length-set table (game.home * max_teams + game.away) game.round
written-length table (Unpin game) = length-set table (game.home * max_teams + game.away) free
written-length table Undo = refl

record IsPinTable (g : Games) (pins : List Game) (table : List ℕ) : Type 0 where
  size : length table ≡ pin_entries
  are : ArePinsAt g pins table

IsPinTable-after : (g : Games) (pins : List Game) (table : List ℕ) (changes : List Change) → IsDoubleRoundRobin g → AllStand g pins →
    Fit g pins changes → IsPinTable g pins table →
    IsPinTable (games_after g changes) (pins_after pins changes) (written_after table changes)
unfolding games_after pins_after
IsPinTable-after g pins table [] robin stand fit is = is
IsPinTable-after g pins table (change ∷ changes) robin stand fit is =
    IsPinTable-after (shifted g change) (pinned pins change) (written table change) changes
    (IsDoubleRoundRobin-change g pins change robin fit.0) (AllStand-change g pins change stand fit.0) fit.1 (record {
      size = written-length table change ∙ is.size;
      are = ArePinsAt-change g pins table change robin stand fit.0 is.size is.are;
    })

IsPinTable-legal : (league : LeagueData) (room : ℕ) (h : List Entry) (table : List ℕ) → IsLeague league → IsLegal league room h →
    IsRetraced league (effective h) table → IsPinTable (games_of league h) (pins_of league h) table
unfolding games_of pins_of
IsPinTable-legal league room h table is legal retraced =
    subst (IsPinTable (games_of league h) (pins_of league h)) (sym retraced.after)
    (IsPinTable-after (start_of league) (kept_games league) retraced.first (effective h) (round_robin_start league is)
    (AllStand-kept league is) (FitFrom-legal league room h legal) (record {
      size = retraced.first_is.size;
      are = retraced.first_is.are;
    }))

-- the changes that fit have entries in the table

HasPlace-fits : (g : Games) (pins : List Game) (change : Change) → IsDoubleRoundRobin g → AllStand g pins → Fits g pins change →
    HasPlace change
HasPlace-fits g pins (Shift mv) robin stand fits = tt
HasPlace-fits g pins (Pin game) robin stand fits =
    let pair = IsPair-in_range g game fits.0 in
    (omega (arith, pair.home_in, robin.most), omega (arith, pair.away_in, robin.most))
HasPlace-fits g pins (Unpin game) robin stand fits =
    let pair = IsPair-in_range g game (pinned_stands g pins game stand fits).0 in
    (omega (arith, pair.home_in, robin.most), omega (arith, pair.away_in, robin.most))
HasPlace-fits g pins Undo robin stand fits = tt

HavePlaces : (g : Games) (pins : List Game) (changes : List Change) → IsDoubleRoundRobin g → AllStand g pins → Fit g pins changes →
    (i : ℕ) (d : Change) → i < length changes → HasPlace (get_or changes i d)
HavePlaces g pins [] robin stand fit i d under = absurd (omega arith)
HavePlaces g pins (change ∷ changes) robin stand fit zero d under = HasPlace-fits g pins change robin stand fit.0
HavePlaces g pins (change ∷ changes) robin stand fit (suc i) d under =
    HavePlaces (shifted g change) (pinned pins change) changes (IsDoubleRoundRobin-change g pins change robin fit.0)
    (AllStand-change g pins change stand fit.0) fit.1 i d (omega arith)

pub HavePlaces-kept : {league : LeagueData} {k : Kept} (n : ℕ) (changes : List Change) → FollowsHistory league k →
    changes ≡ effective (take n k.history) → (i : ℕ) (d : Change) → i < length changes → HasPlace (get_or changes i d)
HavePlaces-kept {league} {k} n changes kept are =
    let fit = FitFrom-legal league k.room (take n k.history) (IsLegal-take league k.room n k.history kept.legal) in
    HavePlaces (start_of league) (kept_games league) changes (round_robin_start league kept.league_is)
    (AllStand-kept league kept.league_is) (subst (Fit (start_of league) (kept_games league)) (sym are) fit)

-- what one step of a loop over the entries, or over the changes, adds

pub effective-next : (changes : List Change) (h : List Entry) (i : ℕ) (d : Entry) → i < length h → changes ≡ effective (take i h) →
    effect changes (get_or h i d).change ≡ effective (take (i + 1) h)
effective-next changes h i d under are =
    ap (λ cs. effect cs (get_or h i d).change) are ∙ sym (effective-more (take i h) (get_or h i d)) ∙
    ap effective (sym (take_more h i d under))

written_after-more : (table : List ℕ) (changes : List Change) (change : Change) →
    written_after table (changes ++ change ∷ []) ≡ written (written_after table changes) change
written_after-more table [] change = refl
written_after-more table (x ∷ changes) change = written_after-more (written table x) changes change

pub written_after-next : (first table : List ℕ) (changes : List Change) (i : ℕ) (d : Change) → i < length changes →
    table ≡ written_after first (take i changes) → written table (get_or changes i d) ≡ written_after first (take (i + 1) changes)
written_after-next first table changes i d under is =
    ap (λ t. written t (get_or changes i d)) is ∙ sym (written_after-more first (take i changes) (get_or changes i d)) ∙
    ap (written_after first) (sym (take_more changes i d under))

-- what is kept once it is made anew from the best prefix

record Best_is (league : LeagueData) (h : List Entry) (best : Best) (g : Games) : Type 0 where
  p : List Entry
  is : best_prefix league h ≡ Some p
  best_is : best ≡ best_at league p
  games_are : g ≡ games_of league p

best_known : (league : LeagueData) (h : List Entry) (found : Option (List Entry)) (best : Best) (g : Games) →
    best_prefix league h ≡ found → IsLeader league found (Some best) g → Best_is league h best g
best_known league h None best g is leader = absurd (true≢false (ap is_some leader))
best_known league h (Some p) best g is leader = record {
  p = p;
  is = is;
  best_is = ap (λ o. unwrap_or o best) leader.0;
  games_are = leader.1;
}

pub best_size : {league : LeagueData} {k : Kept} (best : Best) → FollowsHistory league k → k.best ≡ Some best →
    k.best_games.teams ≡ teams league
best_size {league} {k} best kept best_is =
    let leader : IsLeader league (best_prefix league k.history) (Some best) k.best_games =
    subst (λ b. IsLeader league (best_prefix league k.history) b k.best_games) best_is kept.leader in
    let known : Best_is league k.history best k.best_games =
    best_known league k.history (best_prefix league k.history) best k.best_games refl leader in
    ap (λ (g : Games). g.teams) known.games_are ∙ games_of-teams league known.p

effective_after-length : (changes : List Change) (h : List Entry) →
    length (effective_after changes h) ≤ length changes + length h
effective_after-length changes [] = omega arith
effective_after-length changes (e ∷ h) =
    omega (arith, effective_after-length (effect changes e.change) h, effect-length changes e.change)

effective-length : (h : List Entry) → length (effective h) ≤ length h
unfolding effective
effective-length h = omega (arith, effective_after-length [] h)

pub FollowsHistory-rewound : {league : LeagueData} {k : Kept} (best : Best) (h : List Entry) (cost : Cost) (pins : List ℕ) →
    FollowsHistory league k → k.best ≡ Some best → h ≡ take best.at k.history → cost ≡ cost_of league k.best_games →
    IsRetraced league (effective h) pins →
    (h ≡ rewound league k.history) × FollowsHistory league (record k {
      history = h;
      changes = effective h;
      games = k.best_games;
      pins = pins;
      cost = cost;
    })
unfolding cost_at
FollowsHistory-rewound {league} {k} best h cost pins kept best_is taken cost_is retraced =
    let leader : IsLeader league (best_prefix league k.history) (Some best) k.best_games =
    subst (λ b. IsLeader league (best_prefix league k.history) b k.best_games) best_is kept.leader in
    let known : Best_is league k.history best k.best_games =
    best_known league k.history (best_prefix league k.history) best k.best_games refl leader in
    let p : List Entry = known.p in
    let prefix : Back league k.history p = back league k.history p known.is in
    let same : h ≡ p = taken ∙ ap (λ (b : Best). take b.at k.history) known.best_is ∙ sym prefix.prefix in
    let legal : IsLegal league k.room h =
    subst (IsLegal league k.room) (sym taken) (IsLegal-take league k.room best.at k.history kept.legal) in
    let games_are : k.best_games ≡ games_of league h = known.games_are ∙ ap (games_of league) (sym same) in
    let size : k.best_games.teams ≡ teams league = ap (λ (g : Games). g.teams) games_are ∙ games_of-teams league h in
    let table : IsPinTable (games_of league h) (pins_of league h) pins =
    IsPinTable-legal league k.room h pins kept.league_is legal retraced in
    let short : length h ≤ length k.history = rw same prefix.short in (
      same ∙ ap (λ o. unwrap_or o k.history) (sym known.is),
      record {
        league_is = kept.league_is;
        room_most = kept.room_most;
        within = omega (arith, kept.within);
        legal = legal;
        effective_is = refl;
        no_more = effective-length h;
        games_are = games_are;
        same_size = size;
        pins_length = table.size;
        pins_are = subst (λ g. ArePinsAt g (pins_of league h) pins) (sym games_are) table.are;
        cost_is = cost_is ∙ ap (cost_of league) games_are;
        small = rw cost_is (score_below league k.best_games kept.league_is size);
        leader = subst (λ found. IsLeader league found k.best k.best_games)
            (sym (ap (best_prefix league) same ∙ best_prefix-again league k.history p known.is))
            (best_is ∙ ap Some known.best_is, known.games_are);
      },
    )
