-- What a step of one seat leaves of the rule.
use Rattle.std.proofs.Common.{◌≡◌, ◌≢◌, ℕ, ◌+◌, ◌<◌, ◌≤◌, Option, Some, List, [], ◌∷◌, ◌++◌, length, set, refl, ap, sym}
use Rattle.std.proofs.Common.{◌∙◌, subst, ◌⊎◌, inl, inr, ⊎_elim, arith, true}
use mathlib.Core.Option.{none, some}
use mathlib.Core.Option as maybe
use native.Mathlib.Decide.{dec_le}
use lib.ListN.{get_elem?}
use Rattle.atomic_table.proofs.Lists.{at_snoc, at_longer}
use Rattle.fixture_board.specs.declared.change.Entry.{Entry}
use Rattle.fixture_board.specs.History.{IsLegal}
use Rattle.fixture_board.specs.Laws.{least_of}
use Rattle.fixture_board.specs.Record.{Book}
use Rattle.league.specs.League.{IsLeague}
use Rattle.shared_board.specs.declared.view.View.{View}
use Rattle.shared_board.specs.Setting.{Setting, board_at}
use Rattle.shared_board.specs.Stage.{away}
use Rattle.shared_board.specs.Held.{times, once_below, total, HoldsEach, callers_below}
use Rattle.shared_board.specs.Rule.{Fits, upto, IsHolder, IsFree, IsHeld, IsDrawn, Ruled}
use Rattle.shared_board.specs.Between.{Table}
use Rattle.shared_board.proofs.Counts.{total_append, total_set, total_at}
use Rattle.shared_board.proofs.Views.{Owned, OthersAway, fits_at, fits_from, each_set, away_set, away_else, there_set}
use Rattle.shared_board.proofs.Views.{read_set, once_set, turns_aside}

-- what the rule is made of, but for the words and who holds the turn
pub record Made (setting : Setting) (posted history : List Entry) (numbers : ℕ) (views : List View) : Type 0 where
  pub legal : IsLegal setting.league setting.room history
  pub callers : callers_below numbers history
  pub few : numbers ≤ 64
  pub once : (x : ℕ) → total (λ (v : View). times x v.held) views ≤ once_below x numbers
  pub drawn : (n : ℕ) → 0 < n → n < numbers → IsDrawn n views
  pub seats : (j : ℕ) (v : View) → get_elem? views j ≡ some v → v.live ≡ true →
      Fits setting (upto v.stage posted history) (length history) numbers v

-- the rule of these parts
ruled_of : (setting : Setting) (posted history : List Entry) (turn numbers : ℕ) (home : maybe.Option (Option Book)) (s : Table) →
    IsLeague setting.league → Made setting posted history numbers s.views
    → s.words ≡ turn ∷ length history ∷ numbers ∷ least_of setting.league posted ∷ [] → s.homes ≡ home ∷ []
    → IsFree setting posted history turn home s.views ⊎ IsHeld posted history numbers turn home s.views → Ruled s
ruled_of setting posted history turn numbers home s limits made words homes turns = record {
  setting = setting;
  posted = posted;
  history = history;
  turn = turn;
  numbers = numbers;
  home = home;
  words = words;
  homes = homes;
  limits = limits;
  legal = made.legal;
  callers = made.callers;
  few = made.few;
  once = made.once;
  drawn = made.drawn;
  seats = made.seats;
  turns = turns;
}

-- other views of one table, by the same history
pub with_views : (s : Table) (r : Ruled s) (words : List ℕ) (views : List View) → words ≡ s.words
    → ((x : ℕ) → total (λ (v : View). times x v.held) views ≤ once_below x r.numbers)
    → ((n : ℕ) → 0 < n → n < r.numbers → IsDrawn n views)
    → ((j : ℕ) (v : View) → get_elem? views j ≡ some v → v.live ≡ true →
    Fits r.setting (upto v.stage r.posted r.history) (length r.history) r.numbers v)
    → IsFree r.setting r.posted r.history r.turn r.home views ⊎ IsHeld r.posted r.history r.numbers r.turn r.home views
    → Ruled (record { words = words; homes = s.homes; views = views })
with_views s r words views same once drawn seats turns =
    ruled_of r.setting r.posted r.history r.turn r.numbers r.home (record { words = words; homes = s.homes; views = views }) r.limits
    (record { legal = r.legal; callers = r.callers; few = r.few; once = once; drawn = drawn; seats = seats }) (same ∙ r.words) r.homes turns

-- what was drawn stays so, where a seat holds no more numbers, and has read no less
pub drawn_still : (s : Table) (r : Ruled s) (id : ℕ) (v w : View) → get_elem? s.views id ≡ some v →
    ((x : ℕ) → times x w.held ≤ times x v.held) → v.given ≤ w.given
    → (n : ℕ) → 0 < n → n < r.numbers → IsDrawn n (set s.views id w)
drawn_still s r id v w at fewer later n some_below less =
    let d = r.drawn n some_below less in
    record { by = d.by; lower = d.lower; read = read_set d.by n s.views id v w at (λ own. omega (arith, fewer d.by)) later d.read }

-- a seat that is away stays away, and may know more
pub aside : (s : Table) (r : Ruled s) (id : ℕ) (v w : View) (words : List ℕ) → get_elem? s.views id ≡ some v → v.live ≡ true →
    v.stage ≡ away → w.stage ≡ away
    → ((x : ℕ) → times x w.held ≤ times x v.held) → v.given ≤ w.given
    → (Fits r.setting r.posted (length r.history) r.numbers v → Fits r.setting r.posted (length r.history) r.numbers w)
    → words ≡ s.words → Ruled (record { words = words; homes = s.homes; views = set s.views id w })
aside s r id v w words at live e d fewer later learns same =
    let G : View → Type 0 = λ u. Fits r.setting (upto u.stage r.posted r.history) (length r.history) r.numbers u in
    let f : G v = r.seats id v at live in
    let g : G w = fits_from r.setting r.posted r.history r.posted (length r.history) r.numbers w away d refl
    (learns (fits_at r.setting r.posted r.history r.posted (length r.history) r.numbers v away e refl f)) in
    with_views s r words (set s.views id w) same
    (once_set s.views id v w r.numbers r.numbers at r.once (λ x. let a = fewer x in omega arith))
    (drawn_still s r id v w at fewer later)
    (each_set G G s.views id w r.seats (λ j u ne at' h. h) (λ _. g))
    (turns_aside r.setting r.posted r.history r.turn r.numbers r.home s.views id v w at e d r.turns)

-- who holds the turn stays, where a seat comes that is away
turns_longer : (s : Setting) (posted history : List Entry) (turn numbers : ℕ) (home : maybe.Option (Option Book)) (views : List View)
    (w : View) → w.stage ≡ away
    → IsFree s posted history turn home views ⊎ IsHeld posted history numbers turn home views
    → IsFree s posted history turn home (views ++ w ∷ []) ⊎ IsHeld posted history numbers turn home (views ++ w ∷ [])
turns_longer s posted history turn numbers home views w d (inl free) = inl (record {
  turn_is = free.turn_is;
  home_is = free.home_is;
  all_posted = free.all_posted;
  all_away = λ j u at. ⊎_elim (λ at'. free.all_away j u at') (λ e. ap (λ (k : View). k.stage) (sym e) ∙ d) (at_snoc views w u j at);
})
turns_longer s posted history turn numbers home views w d (inr held) = inr (record {
  turn_is = held.turn_is;
  home_is = held.home_is;
  seat = held.seat;
  view = held.view;
  there = at_longer views (w ∷ []) held.seat held.view held.there;
  live = held.live;
  holder = held.holder;
  others_away = λ j u other at. ⊎_elim (λ at'. held.others_away j u other at') (λ e. ap (λ (k : View). k.stage) (sym e) ∙ d)
      (at_snoc views w u j at);
})

-- a seat that is away gives some of its numbers to a new one
pub splits_off : (s : Table) (r : Ruled s) (id : ℕ) (v left right : View) → get_elem? s.views id ≡ some v → v.live ≡ true →
    v.stage ≡ away → left.stage ≡ away → right.stage ≡ away
    → ((x : ℕ) → times x left.held + times x right.held ≡ times x v.held) → v.given ≤ left.given → v.given ≤ right.given
    → (Fits r.setting r.posted (length r.history) r.numbers v → Fits r.setting r.posted (length r.history) r.numbers left ×
    Fits r.setting r.posted (length r.history) r.numbers right)
    → Ruled (record { words = s.words; homes = s.homes; views = set s.views id left ++ right ∷ [] })
splits_off s r id v left right at live e d d' both later later' learns =
    let views = set s.views id left in
    let G : View → Type 0 = λ u. Fits r.setting (upto u.stage r.posted r.history) (length r.history) r.numbers u in
    let f = learns (fits_at r.setting r.posted r.history r.posted (length r.history) r.numbers v away e refl (r.seats id v at live)) in
    let mine : G left = fits_from r.setting r.posted r.history r.posted (length r.history) r.numbers left away d refl f.0 in
    let new : G right = fits_from r.setting r.posted r.history r.posted (length r.history) r.numbers right away d' refl f.1 in
    with_views s r s.words (views ++ right ∷ []) refl
    (λ x.
    let a = r.once x in let b = total_set (λ (u : View). times x u.held) s.views id v left at in let c = both x in
    omega (arith, total_append (λ (u : View). times x u.held) views (right ∷ [])))
    (λ n some_below less.
    let w = r.drawn n some_below less in
    record {
      by = w.by;
      lower = w.lower;
      read = λ j u at' own. ⊎_elim
          (λ at''. read_set w.by n s.views id v left at (λ h. omega (arith, both w.by)) later w.read j u at'' own)
          (λ q.
          let H : View → Type 0 = λ k. 0 < times w.by k.held in let L : View → Type 0 = λ k. n < k.given in
          let theirs : 0 < times w.by right.held = subst H (sym q) own in
          subst L q (omega (arith, w.read id v at (omega (arith, both w.by)))))
          (at_snoc views right u j at');
    })
    (λ j u at' live'. ⊎_elim
    (λ at''. each_set G G s.views id left r.seats (λ j u ne at' h. h) (λ _. mine) j u at'' live')
    (λ q. subst G q new) (at_snoc views right u j at'))
    (turns_longer r.setting r.posted r.history r.turn r.numbers r.home views right d'
    (turns_aside r.setting r.posted r.history r.turn r.numbers r.home s.views id v left at e d r.turns))

-- the holder of the turn made it so: the others stand to what is posted as they did
pub record Does (s : Table) (r : Ruled s) (id : ℕ) (v w : View) (posted history : List Entry) (numbers : ℕ) : Type 0 where
  pub legal : IsLegal r.setting.league r.setting.room history
  pub callers : callers_below numbers history
  pub few : numbers ≤ 64
  pub grown : (x : ℕ) → times x w.held + once_below x r.numbers ≤ times x v.held + once_below x numbers
  pub drawn : (n : ℕ) → 0 < n → n < numbers → IsDrawn n (set s.views id w)
  pub others : (j : ℕ) (u : View) → j ≢ id → get_elem? s.views j ≡ some u → Fits r.setting r.posted (length r.history) r.numbers u →
      Fits r.setting posted (length history) numbers u
  pub mine : Fits r.setting (upto w.stage posted history) (length history) numbers w

pub makes : (s : Table) (r : Ruled s) (id : ℕ) (v w : View) (posted history : List Entry) (numbers : ℕ) → get_elem? s.views id ≡ some v →
    OthersAway s.views id
    → Does s r id v w posted history numbers → Made r.setting posted history numbers (set s.views id w)
makes s r id v w posted history numbers at others does =
    let F : View → Type 0 = λ u. Fits r.setting (upto u.stage r.posted r.history) (length r.history) r.numbers u in
    let G : View → Type 0 = λ u. Fits r.setting (upto u.stage posted history) (length history) numbers u in
    record {
      legal = does.legal;
      callers = does.callers;
      few = does.few;
      once = once_set s.views id v w r.numbers numbers at r.once does.grown;
      drawn = does.drawn;
      seats = each_set F G s.views id w r.seats
          (λ j u ne at' f.
          let e = others j u ne at' in
          fits_from r.setting posted history posted (length history) numbers u away e refl
          (does.others j u ne at' (fits_at r.setting r.posted r.history r.posted (length r.history) r.numbers u away e refl f)))
          (λ _. does.mine);
    }

-- where the history and the numbers stay
does_same : (s : Table) (r : Ruled s) (id : ℕ) (v w : View) → get_elem? s.views id ≡ some v →
    ((x : ℕ) → times x w.held ≤ times x v.held) → v.given ≤ w.given
    → Fits r.setting (upto w.stage r.posted r.history) (length r.history) r.numbers w → Does s r id v w r.posted r.history r.numbers
does_same s r id v w at fewer later f = record {
  legal = r.legal;
  callers = r.callers;
  few = r.few;
  grown = λ x. let a = fewer x in omega arith;
  drawn = drawn_still s r id v w at fewer later;
  others = λ j u ne at' g. g;
  mine = f;
}

-- the seat holds the turn with its new view
held_by : (posted history : List Entry) (numbers turn : ℕ) (home : maybe.Option (Option Book)) (views : List View) (id : ℕ) (v w : View) →
    get_elem? views id ≡ some v → OthersAway views id
    → turn ≡ 1 → home ≡ none → w.live ≡ true → IsHolder posted history numbers w.held w.given w.stage →
    IsHeld posted history numbers turn home (set views id w)
held_by posted history numbers turn home views id v w at others turn_is home_is live holder = record {
  turn_is = turn_is;
  home_is = home_is;
  seat = id;
  view = w;
  there = there_set views id v w at;
  live = live;
  holder = holder;
  others_away = away_else views id w others;
}

-- the holder changes what it knows and keeps the turn
pub holds_on : (s : Table) (r : Ruled s) (id : ℕ) (v w : View) (posted history : List Entry) (numbers : ℕ) (words : List ℕ) →
    get_elem? s.views id ≡ some v → w.live ≡ true
    → Owned r.posted r.history r.numbers r.turn r.home s.views id v
    → Does s r id v w posted history numbers
    → words ≡ r.turn ∷ length history ∷ numbers ∷ least_of r.setting.league posted ∷ []
    → IsHolder posted history numbers w.held w.given w.stage
    → Ruled (record { words = words; homes = s.homes; views = set s.views id w })
holds_on s r id v w posted history numbers words at live o does same holder =
    ruled_of r.setting posted history r.turn numbers r.home (record { words = words; homes = s.homes; views = set s.views id w }) r.limits
    (makes s r id v w posted history numbers at o.others_away does) same r.homes
    (inr (held_by posted history numbers r.turn r.home s.views id v w at o.others_away o.turn_is o.home_is live holder))

-- the holder gives the turn and the board back
pub gives_back : (s : Table) (r : Ruled s) (id : ℕ) (v w : View) (words : List ℕ) (homes : List (maybe.Option (Option Book))) →
    get_elem? s.views id ≡ some v
    → Owned r.posted r.history r.numbers r.turn r.home s.views id v
    → r.posted ≡ r.history
    → ((x : ℕ) → times x w.held ≤ times x v.held) → v.given ≤ w.given
    → w.stage ≡ away → Fits r.setting r.posted (length r.history) r.numbers w
    → words ≡ 0 ∷ length r.history ∷ r.numbers ∷ least_of r.setting.league r.posted ∷ []
    → homes ≡ some (Some (board_at r.setting r.history)) ∷ []
    → Ruled (record { words = words; homes = homes; views = set s.views id w })
gives_back s r id v w words homes at o all_posted fewer later d f same back =
    let does = does_same s r id v w at fewer later
    (fits_from r.setting r.posted r.history r.posted (length r.history) r.numbers w away d refl f) in
    ruled_of r.setting r.posted r.history 0 r.numbers (some (Some (board_at r.setting r.history)))
    (record { words = words; homes = homes; views = set s.views id w }) r.limits
    (makes s r id v w r.posted r.history r.numbers at o.others_away does) same back
    (inl (record {
      turn_is = refl;
      home_is = refl;
      all_posted = all_posted;
      all_away = away_set s.views id w o.others_away d;
    }))

-- the turn is taken, and the board with it
pub takes_hold : (s : Table) (r : Ruled s) (id : ℕ) (v w : View) (words : List ℕ) (homes : List (maybe.Option (Option Book))) →
    get_elem? s.views id ≡ some v → w.live ≡ true
    → IsFree r.setting r.posted r.history r.turn r.home s.views
    → ((x : ℕ) → times x w.held ≤ times x v.held) → v.given ≤ w.given
    → Fits r.setting (upto w.stage r.posted r.history) (length r.history) r.numbers w
    → IsHolder r.posted r.history r.numbers w.held w.given w.stage
    → words ≡ 1 ∷ length r.history ∷ r.numbers ∷ least_of r.setting.league r.posted ∷ []
    → homes ≡ none ∷ []
    → Ruled (record { words = words; homes = homes; views = set s.views id w })
takes_hold s r id v w words homes at live free fewer later f holder same out =
    let others : OthersAway s.views id = λ j u ne. free.all_away j u in
    ruled_of r.setting r.posted r.history 1 r.numbers none (record { words = words; homes = homes; views = set s.views id w }) r.limits
    (makes s r id v w r.posted r.history r.numbers at others (does_same s r id v w at fewer later f)) same out
    (inr (held_by r.posted r.history r.numbers 1 none s.views id v w at others refl refl live holder))

-- no number is held twice, and none that isn't given out
pub held_once : (s : Table) (r : Ruled s) (j : ℕ) (v : View) (x : ℕ) → get_elem? s.views j ≡ some v →
    times x v.held ≤ once_below x r.numbers
held_once s r j v x at = let a = total_at (λ (u : View). times x u.held) s.views j v at in let b = r.once x in omega arith

-- who holds each number that it knows of knows of all
pub knows_all_numbers : (s : Table) (r : Ruled s) (j : ℕ) (v : View) → get_elem? s.views j ≡ some v → v.given ≤ r.numbers → 0 < v.given →
    HoldsEach v.given v.held → v.given ≡ r.numbers
knows_all_numbers s r j v at most some_given each = elim (dec_le r.numbers v.given) [
  | yes le ↦ omega arith
  | no more ↦ let d = r.drawn v.given some_given (omega arith) in let later = d.read j v at (each d.by d.lower) in absurd (omega arith)
]
