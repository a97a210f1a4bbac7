-- What a board keeps behind its history, after one entry more.
use Rattle.std.proofs.Common.{◌≡◌, ℕ, ◌+◌, ◌*◌, ◌-◌, ◌<◌, ◌≤◌, Bool, true, false, if◌then◌else◌, ◌&&◌, ◌==◌, nat_lt}
use Rattle.std.proofs.Common.{List, [], ◌∷◌, ◌++◌, length, Option, Some, None, slice_set, is_some}
use Rattle.std.proofs.Common.{true≢false, refl, sym, ◌∙◌, ap, subst, length-append, arith}
use Rattle.std.proofs.lemmas.List.{length-set, length-take}
use Rattle.league.specs.Limits.{max_teams}
use Rattle.league.specs.League.{LeagueData, teams, IsLeague}
use Rattle.fixtures.specs.declared.game.Game.{Game}
use Rattle.fixtures.specs.Games.{Games, IsDoubleRoundRobin}
use Rattle.moves.specs.Moves.{moved}
use Rattle.costs.specs.Costs.{cost_of, total_of}
use Rattle.costs.specs.declared.cost.Cost.{Cost}
use Rattle.fixture_board.specs.declared.best.Best.{Best}
use Rattle.fixture_board.specs.declared.change.Change.{Change}
use Rattle.fixture_board.specs.declared.change.Change.TheVariants.{Shift, Pin, Unpin, Undo}
use Rattle.fixture_board.specs.declared.change.Entry.{Entry}
use Rattle.fixture_board.specs.declared.ask.Ask.{Ask}
use Rattle.fixture_board.specs.declared.ask.Ask.TheVariants as ask
use Rattle.fixture_board.specs.declared.ask.Proposal.{Proposal}
use Rattle.league.specs.Starts.{start_of, kept_games}
use Rattle.fixtures.specs.Draft.{is_game_in_range}
use Rattle.fixture_board.specs.History.{effect, effective, shifted, games_after, games_of, pinned, pins_after, pins_of}
use Rattle.choices.specs.Limits.{max_room}
use Rattle.fixture_board.specs.History.{is_there, AllStand, Fits, May, IsLegal, cost_at, better}
use Rattle.fixture_board.specs.History.{best_prefix, best_at, as_best, best_of}
use Rattle.fixture_board.specs.within.PinTable.{free, pin_entries, taken_back, ArePinsAt, IsFirstTable}
use Rattle.fixture_board.specs.within.Kept.{IsLeader, Kept, FollowsHistory, IsGranted, entered, CanTakeBack, is_improved_by, improved_by}
use Rattle.fixture_board.specs.Laws.{IsSound}
use Rattle.fixture_board.specs.Replies.{change_of, refusal, entry}
use Rattle.fixture_board.proofs.OneMore.{effective-none, effective-more, games_of-none, pins_of-none, games_of-by}
use Rattle.fixture_board.proofs.OneMore.{pins_of-by, games_after-more, pins_after-more, games_of-more, pins_of-more}
use Rattle.fixture_board.proofs.OneMore.{effective-undo, IsLegal-none, IsLegal-more, best_prefix-none, best_prefix-more}
use Rattle.costs.proofs.ForCallers.{score_below}
use Rattle.fixture_board.proofs.Scored.{moved-teams, games_of-teams}
use Rattle.fixture_board.proofs.Stand.{pinned_stands}
use Rattle.fixture_board.proofs.Next.{can_make, IsLegal-within}
use Rattle.fixture_board.proofs.Sound.{IsSound-legal, IsLastMade, IsLastMade-legal}
use Rattle.fixture_board.proofs.PinTable.{IsPair-in_range, ArePinsAt-games, ArePinsAt-pin, ArePinsAt-unpin}
use Rattle.fixture_board.proofs.PinTable.{ArePinsAt-pin_back, ArePinsAt-unpin_back}
use Rattle.moves.proofs.ForCallers.{each_its_own_inverse}

-- the best version

IsLeader-first : (league : LeagueData) (p : List Entry) (g best_g : Games) (at : ℕ) (free : Bool) → at ≡ length p →
    g ≡ games_of league p →
    IsLeader league (if free then Some p else None) (if free then Some (record { at = at; total = total_of (cost_at league p) }) else None)
    (if free then g else best_g)
IsLeader-first league p g best_g at true at_is g_is =
    (ap (λ (n : ℕ). Some (record { at = n; total = total_of (cost_at league p) })) at_is, g_is)
IsLeader-first league p g best_g at false at_is g_is = refl

IsLeader-other : (league : LeagueData) (q p : List Entry) (g best_g : Games) (at : ℕ) (lower : Bool) → at ≡ length p →
    g ≡ games_of league p → best_g ≡ games_of league q →
    IsLeader league (if lower then Some p else Some q)
    (if lower then Some (record { at = at; total = total_of (cost_at league p) }) else Some (best_at league q))
    (if lower then g else best_g)
IsLeader-other league q p g best_g at true at_is g_is best_is =
    (ap (λ (n : ℕ). Some (record { at = n; total = total_of (cost_at league p) })) at_is, g_is)
IsLeader-other league q p g best_g at false at_is g_is best_is = (refl, best_is)

IsLeader-more : (league : LeagueData) (found : Option (List Entry)) (p : List Entry) (best : Option Best) (g best_g : Games)
    (cost : Cost) (at : ℕ) →
    IsLeader league found best best_g → cost ≡ cost_at league p → at ≡ length p → g ≡ games_of league p →
    IsLeader league (better league found p) (improved_by best cost at) (if is_improved_by best cost then g else best_g)
IsLeader-more league None p best g best_g cost at leader cost_is at_is g_is =
    rw (leader, cost_is) (IsLeader-first league p g best_g at ((cost_at league p).hard == 0) at_is g_is)
IsLeader-more league (Some q) p best g best_g cost at leader cost_is at_is g_is =
    rw (leader.0, cost_is)
    (IsLeader-other league q p g best_g at
    ((cost_at league p).hard == 0 && nat_lt (total_of (cost_at league p)) (total_of (cost_at league q))) at_is g_is leader.1)

-- the changes in effect are no more than the entries

pub effect-length : (changes : List Change) (change : Change) → length (effect changes change) ≤ length changes + 1
effect-length changes (Shift mv) = omega (arith, length-append changes (Shift mv ∷ []))
effect-length changes (Pin game) = omega (arith, length-append changes (Pin game ∷ []))
effect-length changes (Unpin game) = omega (arith, length-append changes (Unpin game ∷ []))
effect-length changes Undo = omega (arith, length-take (length changes - 1) changes)

-- one entry more

length-more : (h : List Entry) (e : Entry) → length (h ++ e ∷ []) ≡ length h + 1
length-more h e = omega (arith, length-append h (e ∷ []))

FollowsHistory-more : {league : LeagueData} {k : Kept} (e : Entry) (changes : List Change) (g : Games) (pins : List ℕ) (cost : Cost) →
    FollowsHistory league k → length k.history < k.room → May league k.history e.change → changes ≡ effect k.changes e.change →
    g ≡ games_of league (k.history ++ e ∷ []) → length pins ≡ pin_entries → ArePinsAt g (pins_of league (k.history ++ e ∷ [])) pins →
    cost ≡ cost_of league g →
    FollowsHistory league (entered (record k { changes = changes; games = g; pins = pins; cost = cost }) e)
unfolding cost_at
FollowsHistory-more {league} {k} e changes g pins cost kept under may changes_are games_are size pins_are cost_is =
    let h : List Entry = k.history ++ e ∷ [] in
    let legal : IsLegal league k.room h = IsLegal-more league k.room k.history e kept.legal under may in
    let same : g.teams ≡ teams league = ap (λ (x : Games). x.teams) games_are ∙ games_of-teams league h in
    let cost_here : cost ≡ cost_of league (games_of league h) = cost_is ∙ ap (cost_of league) games_are in
    record {
      league_is = kept.league_is;
      room_most = kept.room_most;
      within = IsLegal-within league k.room h legal;
      legal = legal;
      effective_is = changes_are ∙ ap (λ c. effect c e.change) kept.effective_is ∙ sym (effective-more k.history e);
      no_more = rw (changes_are, length-more k.history e) (omega (arith, effect-length k.changes e.change, kept.no_more));
      games_are = games_are;
      same_size = same;
      pins_length = size;
      pins_are = pins_are;
      cost_is = cost_here;
      small = rw cost_is (score_below league g kept.league_is same);
      leader = subst (λ found. IsLeader league found (improved_by k.best cost (length k.history + 1))
          (if is_improved_by k.best cost then g else k.best_games))
          (sym (best_prefix-more league k.history e))
          (IsLeader-more league (best_prefix league k.history) h k.best g k.best_games cost (length k.history + 1) kept.leader cost_here
          (sym (length-more k.history e)) games_are);
    }

-- what is known of a board's schedule and its pins

pub IsSound-kept : {league : LeagueData} {k : Kept} → FollowsHistory league k → IsDoubleRoundRobin k.games × AllStand k.games
    (pins_of league k.history)
IsSound-kept {league} {k} kept =
    let sound : IsSound league k.history = IsSound-legal league k.room k.history kept.league_is kept.legal in
    let is = sym kept.games_are in
    (subst IsDoubleRoundRobin is sound.robin, subst (λ x. AllStand x (pins_of league k.history)) is sound.stand)

pub known_cost : {league : LeagueData} {k : Kept} → FollowsHistory league k → k.cost ≡ cost_of league k.games
unfolding cost_at
known_cost {league} kept = kept.cost_is ∙ ap (cost_of league) (sym kept.games_are)

-- a granted change

IsGranted-by : {league : LeagueData} {k : Kept} (asked : Ask) (changes : List Change) (g : Games) (pins : List ℕ) (cost : Cost) →
    FollowsHistory league k → refusal league k.room k.history asked ≡ None → changes ≡ effect k.changes (change_of asked) →
    ((caller : ℕ) → g ≡ games_of league (k.history ++ entry caller asked ∷ [])) → length pins ≡ pin_entries →
    ((caller : ℕ) → ArePinsAt g (pins_of league (k.history ++ entry caller asked ∷ [])) pins) → cost ≡ cost_of league g →
    IsGranted league k (record k { changes = changes; games = g; pins = pins; cost = cost }) asked
IsGranted-by {league} {k} asked changes g pins cost kept granted changes_are games_are size pins_are cost_is =
    let can = can_make league k.room k.history asked kept.within granted in
    record {
      no_reason = granted;
      same_room = refl;
      same_history = refl;
      under = can.under;
      kept = λ caller.
          FollowsHistory-more (entry caller asked) changes g pins cost kept can.under can.may changes_are (games_are caller) size
          (pins_are caller) cost_is;
    }

-- a change of the pins alone
IsGranted-pins : {league : LeagueData} {k : Kept} (asked : Ask) (table : List ℕ) → FollowsHistory league k →
    refusal league k.room k.history asked ≡ None →
    ((changes : List Change) → effect changes (change_of asked) ≡ changes ++ change_of asked ∷ []) →
    ((g : Games) → shifted g (change_of asked) ≡ g) → length table ≡ length k.pins →
    ArePinsAt k.games (pinned (pins_of league k.history) (change_of asked)) table →
    IsGranted league k (record k { changes = k.changes ++ change_of asked ∷ []; pins = table }) asked
IsGranted-pins {league} {k} asked table kept granted appended stays size are =
    IsGranted-by asked (k.changes ++ change_of asked ∷ []) k.games table k.cost kept granted (sym (appended k.changes))
    (λ caller.
    kept.games_are ∙
    sym (games_of-more league k.history (entry caller asked) (appended (effective k.history)) ∙ stays (games_of league k.history)))
    (size ∙ kept.pins_length)
    (λ caller.
    subst (λ p. ArePinsAt k.games p table) (sym (pins_of-more league k.history (entry caller asked) (appended (effective k.history)))) are)
    (known_cost kept)

pub IsGranted-pin : {league : LeagueData} {k : Kept} (version : ℕ) (game : Game) → FollowsHistory league k →
    refusal league k.room k.history (ask.Pin version game) ≡ None →
    IsGranted league k (record k { changes = k.changes ++ Pin game ∷ []; pins = slice_set k.pins (game.home * max_teams + game.away) game.round })
    (ask.Pin version game)
IsGranted-pin {league} {k} version game kept granted =
    let fits : Fits (games_of league k.history) (pins_of league k.history) (Pin game) =
    (can_make league k.room k.history (ask.Pin version game) kept.within granted).may in
    let range : is_game_in_range k.games.teams game ≡ true = subst (λ (x : Games). is_game_in_range x.teams game ≡ true) (sym kept.games_are) fits.0 in
    let there : is_there k.games game ≡ true = subst (λ x. is_there x game ≡ true) (sym kept.games_are) fits.1 in
    IsGranted-pins (ask.Pin version game) (slice_set k.pins (game.home * max_teams + game.away) game.round) kept granted (λ changes. refl)
    (λ g. refl)
    (length-set k.pins (game.home * max_teams + game.away) game.round)
    (ArePinsAt-pin k.games (pins_of league k.history) k.pins game (IsSound-kept kept).0.most kept.pins_length range there kept.pins_are)

pub IsGranted-unpin : {league : LeagueData} {k : Kept} (version : ℕ) (game : Game) → FollowsHistory league k →
    refusal league k.room k.history (ask.Unpin version game) ≡ None →
    IsGranted league k (record k { changes = k.changes ++ Unpin game ∷ []; pins = slice_set k.pins (game.home * max_teams + game.away) free })
    (ask.Unpin version game)
IsGranted-unpin {league} {k} version game kept granted =
    let fits : Fits (games_of league k.history) (pins_of league k.history) (Unpin game) =
    (can_make league k.room k.history (ask.Unpin version game) kept.within granted).may in
    let sound = IsSound-kept kept in
    let stands = pinned_stands k.games (pins_of league k.history) game sound.1 fits in
    IsGranted-pins (ask.Unpin version game) (slice_set k.pins (game.home * max_teams + game.away) free) kept granted (λ changes. refl) (λ g. refl)
    (length-set k.pins (game.home * max_teams + game.away) free)
    (ArePinsAt-unpin k.games (pins_of league k.history) k.pins game sound.0.most kept.pins_length stands.0 stands.1 sound.1 kept.pins_are)

pub IsGranted-shift : {league : LeagueData} {k : Kept} (p : Proposal) (g : Games) (cost : Cost) → FollowsHistory league k →
    refusal league k.room k.history (ask.Shift p) ≡ None → g ≡ moved k.games p.mv → cost ≡ cost_of league g →
    IsGranted league k (record k { changes = k.changes ++ Shift p.mv ∷ []; games = g; cost = cost }) (ask.Shift p)
IsGranted-shift {league} {k} p g cost kept granted moved_is cost_is =
    let can = can_make league k.room k.history (ask.Shift p) kept.within granted in
    let games_are : (caller : ℕ) → g ≡ games_of league (k.history ++ entry caller (ask.Shift p) ∷ []) =
    λ caller.
    moved_is ∙
    ap (λ x. moved x p.mv) kept.games_are ∙
    sym (games_of-more league k.history (entry caller (ask.Shift p)) refl) in
    let pins_are : (caller : ℕ) → pins_of league (k.history ++ entry caller (ask.Shift p) ∷ []) ≡ pins_of league k.history =
    λ caller. pins_of-more league k.history (entry caller (ask.Shift p)) refl in
    let after : IsSound league (k.history ++ entry 0 (ask.Shift p) ∷ []) =
    IsSound-legal league k.room (k.history ++ entry 0 (ask.Shift p) ∷ []) kept.league_is
    (IsLegal-more league k.room k.history (entry 0 (ask.Shift p)) kept.legal can.under can.may) in
    let stand : AllStand g (pins_of league k.history) =
    subst (λ x. AllStand x (pins_of league k.history)) (sym (games_are 0))
    (subst (AllStand (games_of league (k.history ++ entry 0 (ask.Shift p) ∷ []))) (pins_are 0) after.stand) in
    IsGranted-by (ask.Shift p) (k.changes ++ Shift p.mv ∷ []) g k.pins cost kept granted refl games_are kept.pins_length
    (λ caller.
    subst (λ q. ArePinsAt g q k.pins) (sym (pins_are caller))
    (ArePinsAt-games k.games g (pins_of league k.history) k.pins (ap (λ (x : Games). x.teams) moved_is ∙ moved-teams k.games p.mv)
    (IsSound-kept kept).1 stand kept.pins_are))
    cost_is

-- the change that was the last in effect, taken back

record LastKept (league : LeagueData) (h : List Entry) (g : Games) (prefix : List Change) (change : Change) : Type 0 where
  last : IsLastMade league prefix change
  games_are : g ≡ shifted (games_after (start_of league) prefix) change
  pins_are : pins_of league h ≡ pinned (pins_after (kept_games league) prefix) change

last_kept : {league : LeagueData} {k : Kept}
    (prefix : List Change) (change : Change) → FollowsHistory league k →
    k.changes ≡ prefix ++ change ∷ [] → LastKept league k.history k.games prefix change
last_kept {league} {k} prefix change kept are =
    let last : effective k.history ≡ prefix ++ change ∷ [] = sym kept.effective_is ∙ are in
    record {
      last = IsLastMade-legal league k.room k.history prefix change kept.league_is kept.legal last;
      games_are = kept.games_are ∙
          games_of-by league k.history (prefix ++ change ∷ []) last ∙
          games_after-more (start_of league) prefix change;
      pins_are = pins_of-by league k.history (prefix ++ change ∷ []) last ∙ pins_after-more (kept_games league) prefix change;
    }

can_take_back : (g : Games) (pins : List Game) (change : Change) → IsDoubleRoundRobin g → AllStand g pins → Fits g pins change →
    CanTakeBack (shifted g change) change
can_take_back g pins (Shift mv) robin stand fits = (each_its_own_inverse g mv robin fits.0).can_be_made
can_take_back g pins (Pin game) robin stand fits =
    let pair = IsPair-in_range g game fits.0 in
    (omega (arith, pair.home_in, robin.most), omega (arith, pair.away_in, robin.most))
can_take_back g pins (Unpin game) robin stand fits =
    let pair = IsPair-in_range g game (pinned_stands g pins game stand fits).0 in
    (omega (arith, pair.home_in, robin.most), omega (arith, pair.away_in, robin.most))
can_take_back g pins Undo robin stand fits = tt

pub CanTakeBack-last : {league : LeagueData} {k : Kept}
    (prefix : List Change) (change : Change) → FollowsHistory league k →
    k.changes ≡ prefix ++ change ∷ [] → CanTakeBack k.games change
CanTakeBack-last prefix change kept are =
    let known = last_kept prefix change kept are in
    subst (λ x. CanTakeBack x change) (sym known.games_are)
    (can_take_back _ _ change known.last.robin known.last.stand known.last.fits)

-- a change made twice leaves the games as they were
unshifted : (g : Games) (pins : List Game) (change : Change) → IsDoubleRoundRobin g → Fits g pins change →
    shifted (shifted g change) change ≡ g
unshifted g pins (Shift mv) robin fits = (each_its_own_inverse g mv robin fits.0).back
unshifted g pins (Pin game) robin fits = refl
unshifted g pins (Unpin game) robin fits = refl
unshifted g pins Undo robin fits = refl

taken_back-length : (table : List ℕ) (change : Change) → length (taken_back table change) ≡ length table
taken_back-length table (Shift mv) = refl
taken_back-length table (Pin game) = length-set table (game.home * max_teams + game.away) free
taken_back-length table (Unpin game) = length-set table (game.home * max_teams + game.away) game.round
taken_back-length table Undo = refl

ArePinsAt-taken_back : (g : Games) (pins : List Game) (table : List ℕ) (change : Change) → IsDoubleRoundRobin g → AllStand g pins →
    Fits g pins change → AllStand (shifted g change) (pinned pins change) → length table ≡ pin_entries →
    ArePinsAt (shifted g change) (pinned pins change) table → ArePinsAt g pins (taken_back table change)
ArePinsAt-taken_back g pins table (Shift mv) robin stand fits after size are =
    ArePinsAt-games (moved g mv) g pins table (sym (moved-teams g mv)) after stand are
ArePinsAt-taken_back g pins table (Pin game) robin stand fits after size are =
    ArePinsAt-pin_back g pins table game robin.most size fits.0 fits.1 stand fits.2 are
ArePinsAt-taken_back g pins table (Unpin game) robin stand fits after size are =
    let stands = pinned_stands g pins game stand fits in
    ArePinsAt-unpin_back g pins table game robin.most size stands.0 stands.1 stand fits are
ArePinsAt-taken_back g pins table Undo robin stand fits after size are = are

pub IsGranted-undo : {league : LeagueData} {k : Kept} (version : ℕ) (prefix : List Change) (change : Change) → FollowsHistory league k →
    refusal league k.room k.history (ask.Undo version) ≡ None → k.changes ≡ prefix ++ change ∷ [] →
    IsGranted league k (record k {
      changes = prefix;
      games = shifted k.games change;
      pins = taken_back k.pins change;
      cost = cost_of league (shifted k.games change);
    }) (ask.Undo version)
IsGranted-undo {league} {k} version prefix change kept granted are =
    let known = last_kept prefix change kept are in
    let before : Games = games_after (start_of league) prefix in
    let held : List Game = pins_after (kept_games league) prefix in
    let back : shifted k.games change ≡ before =
    ap (λ x. shifted x change) known.games_are ∙ unshifted before held change known.last.robin known.last.fits in
    let stand : AllStand (shifted before change) (pinned held change) =
    subst (λ x. AllStand x (pinned held change)) known.games_are
    (subst (AllStand k.games) known.pins_are (IsSound-kept kept).1) in
    let table : ArePinsAt (shifted before change) (pinned held change) k.pins =
    subst (λ x. ArePinsAt x (pinned held change) k.pins) known.games_are
    (subst (λ q. ArePinsAt k.games q k.pins) known.pins_are kept.pins_are) in
    let written : ArePinsAt before held (taken_back k.pins change) =
    ArePinsAt-taken_back before held k.pins change known.last.robin known.last.stand known.last.fits stand kept.pins_length table in
    let effective_is : (caller : ℕ) → effective (k.history ++ entry caller (ask.Undo version) ∷ []) ≡ prefix =
    λ caller. effective-undo k.history caller prefix change (sym kept.effective_is ∙ are) in
    IsGranted-by (ask.Undo version) prefix (shifted k.games change) (taken_back k.pins change) (cost_of league (shifted k.games change))
    kept granted
    (sym (effective_is 0) ∙ effective-more k.history (entry 0 (ask.Undo version)) ∙ ap (λ c. effect c Undo) (sym kept.effective_is))
    (λ caller. back ∙ sym (games_of-by league (k.history ++ entry caller (ask.Undo version) ∷ []) prefix (effective_is caller)))
    (taken_back-length k.pins change ∙ kept.pins_length)
    (λ caller.
    subst (λ q. ArePinsAt (shifted k.games change) q (taken_back k.pins change))
    (sym (pins_of-by league (k.history ++ entry caller (ask.Undo version) ∷ []) prefix (effective_is caller)))
    (subst (λ x. ArePinsAt x held (taken_back k.pins change)) (sym back) written))
    refl

-- a new board

pub FollowsHistory-start : (league : LeagueData) (room : ℕ) (cost : Cost) (pins : List ℕ) (best_g : Games) → IsLeague league →
    room ≤ max_room → cost ≡ cost_of league (start_of league) → IsFirstTable league pins →
    FollowsHistory league (record {
      room = room;
      history = [];
      changes = [];
      games = start_of league;
      pins = pins;
      cost = cost;
      best = improved_by None cost 0;
      best_games = if is_improved_by None cost then start_of league else best_g;
    })
unfolding cost_at
FollowsHistory-start league room cost pins best_g is most cost_is first =
    let start : start_of league ≡ games_of league [] = sym (games_of-none league) in
    let cost_here : cost ≡ cost_of league (games_of league []) = cost_is ∙ ap (cost_of league) start in
    record {
      league_is = is;
      room_most = most;
      within = omega arith;
      legal = IsLegal-none league room;
      effective_is = sym effective-none;
      no_more = omega arith;
      games_are = start;
      same_size = refl;
      pins_length = first.size;
      pins_are = subst (λ q. ArePinsAt (start_of league) q pins) (sym (pins_of-none league)) first.are;
      cost_is = cost_here;
      small = rw cost_is (score_below league (start_of league) is refl);
      leader = subst (λ found. IsLeader league found (improved_by None cost 0) (if is_improved_by None cost then start_of league else best_g))
          (sym (best_prefix-none league))
          (IsLeader-more league None [] None (start_of league) best_g cost 0 refl cost_here refl start);
    }

-- what a board shows of its best version

best_is-found : (league : LeagueData) (found : Option (List Entry)) (best : Option Best) (best_g : Games) →
    IsLeader league found best best_g → best ≡ as_best league found
best_is-found league None best best_g leader = leader
best_is-found league (Some p) best best_g leader = leader.0

pub best_is : (league : LeagueData) (h : List Entry) (best : Option Best) (best_g : Games) →
    IsLeader league (best_prefix league h) best best_g → best ≡ best_of league h
unfolding best_of
best_is league h = best_is-found league (best_prefix league h)

pub prefix_of-best : (league : LeagueData) (found : Option (List Entry)) (best : Best) (best_g : Games) →
    IsLeader league found (Some best) best_g → (p : List Entry) × (found ≡ Some p) × (best_g ≡ games_of league p)
prefix_of-best league None best best_g leader = absurd (true≢false (ap is_some leader))
prefix_of-best league (Some p) best best_g leader = (p, refl, leader.1)
