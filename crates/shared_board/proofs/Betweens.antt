-- What the rule says of a table, between any two steps.
use Rattle.std.proofs.Common.{◌≡◌, ◌≢◌, ℕ, Option, List, [], ◌∷◌, length, slice_index, refl, ap, sym, ◌∙◌, subst, ◌⊎◌, inl, inr, arith}
use mathlib.Core.Option.{some-injective}
use mathlib.Core.Option as maybe
use mathlib.Core.Logic.{dite}
use native.Mathlib.Decide.{ℕ_discrete}
use lib.ListN.{get_elem?}
use Rattle.league.specs.League.{LeagueData, IsLeague}
use Rattle.fixture_board.specs.declared.change.Entry.{Entry}
use Rattle.fixture_board.specs.History.{IsLegal, IsBestOf, best_prefix}
use Rattle.fixture_board.specs.Laws.{least_of, IsSound}
use Rattle.fixture_board.specs.Record.{Book}
use Rattle.shared_board.specs.declared.view.View.{View}
use Rattle.shared_board.specs.Setting.{Setting}
use Rattle.shared_board.specs.Stage.{Stage, away, holds, counts, owes}
use Rattle.shared_board.specs.Held.{times, callers_below}
use Rattle.shared_board.specs.Rule.{Lowest, Fits, upto, Added, IsHolder, Ruled}
use Rattle.shared_board.specs.Between.{Table, IsThere, IsHome, IsExact, IsBehind, IsInTurn, OneHolds, Between, turn_word, numbers_word}
use Rattle.shared_board.specs.Fixtures.{HasFixtures}
use Rattle.shared_board.proofs.BoardLaws.{games_are, cost_is, best_of_is}
use Rattle.shared_board.proofs.Counts.{once_most, held_below}
use Rattle.shared_board.proofs.Views.{fits_at, fits_more}
use Rattle.shared_board.proofs.Steps.{held_once, knows_all_numbers}
use Rattle.shared_board.proofs.Turns.{held_alone}

holder_upto : (posted history : List Entry) (numbers : ℕ) (held : List ℕ) (given : ℕ) (t : Stage) →
    IsHolder posted history numbers held given t → upto t posted history ≡ history
holder_upto posted history numbers held given away holder = absurd holder
holder_upto posted history numbers held given (holds h) holder = holder.1
holder_upto posted history numbers held given (counts h) holder = holder.1
holder_upto posted history numbers held given (owes before h) holder = refl

-- all is posted, or all but one entry of the holder's
holder_posted : (posted history : List Entry) (numbers : ℕ) (held : List ℕ) (given : ℕ) (t : Stage) →
    IsHolder posted history numbers held given t → (posted ≡ history) ⊎ Added held posted history
holder_posted posted history numbers held given away holder = absurd holder
holder_posted posted history numbers held given (holds h) holder = inl holder.1
holder_posted posted history numbers held given (counts h) holder = inl holder.1
holder_posted posted history numbers held given (owes before h) holder = inr holder.2

holder_in_turn : (s : Table) (setting : Setting) (posted history : List Entry) (numbers seat : ℕ) (held : List ℕ) (given : ℕ) (t : Stage)
    → IsExact s setting posted → ((j : ℕ) (v : View) → j ≢ seat → IsThere s j v → Lowest setting v.seen posted v.lowest)
    → IsHolder posted history numbers held given t → IsInTurn s setting history seat held t
holder_in_turn s setting posted history numbers seat held given away word others holder = absurd holder
holder_in_turn s setting posted history numbers seat held given (holds h) word others holder =
    (holder.0, word ∙ ap (least_of setting.league) holder.1)
holder_in_turn s setting posted history numbers seat held given (counts h) word others holder =
    (holder.0, word ∙ ap (least_of setting.league) holder.1)
holder_in_turn s setting posted history numbers seat held given (owes before h) word others holder =
    let P : List Entry → Type 0 = λ l. IsBehind s setting seat held l history in
    (holder.0, subst P (sym holder.1) (record { added = holder.2; word = word; others = others }))

-- each seat stands to the whole history
fits_history : (s : Table) (r : Ruled s) (j : ℕ) (v : View) → IsThere s j v → Fits r.setting r.history (length r.history) r.numbers v
fits_history s r j v there =
    let f = r.seats j v there.0 there.1 in
    let F : List Entry → Type 0 = λ l. Fits r.setting l (length r.history) r.numbers v in
    elim r.turns [
      | inl free ↦ subst F free.all_posted
          (fits_at r.setting r.posted r.history r.posted (length r.history) r.numbers v away (free.all_away j v there.0) refl f)
      | inr held ↦ dite (ℕ_discrete j held.seat)
          (λ e.
          let same : held.view ≡ v = some-injective held.view v (sym held.there ∙ (ap (get_elem? s.views) (sym e) ∙ there.0)) in
          let H : View → Type 0 = λ u. IsHolder r.posted r.history r.numbers u.held u.given u.stage in
          subst F (holder_upto r.posted r.history r.numbers v.held v.given v.stage (subst H same held.holder)) f)
          (λ ne.
          let g = fits_at r.setting r.posted r.history r.posted (length r.history) r.numbers v away
          (held.others_away j v ne there.0) refl f in
          elim (holder_posted r.posted r.history r.numbers held.view.held held.view.given held.view.stage held.holder) [
            | inl same ↦ subst F same g
            | inr added ↦ subst F (sym added.one_more)
                (fits_more r.setting r.posted (length r.history) r.numbers v added.entry
                (held_alone s r held.seat j held.view v added.entry.caller ne held.there there.0 added.own) g)
          ])
    ]

home_free : (s : Table) (r : Ruled s) → turn_word s ≡ 0 → IsHome s r.setting r.history × IsExact s r.setting r.history
home_free s r e =
    let found : turn_word s ≡ r.turn = ap (λ (l : List ℕ). slice_index l 0) r.words in
    elim r.turns [
      | inl free ↦ (
        ap (λ (l : List (maybe.Option (Option Book))). get_elem? l 0)
            (r.homes ∙ ap (λ (h : maybe.Option (Option Book)). h ∷ []) free.home_is),
        ap (λ (l : List ℕ). slice_index l 3) r.words ∙
            ap (least_of r.setting.league) free.all_posted,
      )
      | inr held ↦ let one = held.turn_is in absurd (omega arith)
    ]

one_holds : (s : Table) (r : Ruled s) → turn_word s ≡ 1 → OneHolds s r.setting r.history
one_holds s r e =
    let found : turn_word s ≡ r.turn = ap (λ (l : List ℕ). slice_index l 0) r.words in
    elim r.turns [
      | inl free ↦ let none_held = free.turn_is in absurd (omega arith)
      | inr held ↦ record {
        seat = held.seat;
        view = held.view;
        there = (held.there, held.live);
        in_turn = holder_in_turn s r.setting r.posted r.history r.numbers held.seat held.view.held held.view.given held.view.stage
            (ap (λ (l : List ℕ). slice_index l 3) r.words)
            (λ j v ne there. (fits_at r.setting r.posted r.history r.posted (length r.history) r.numbers v away
            (held.others_away j v ne there.0) refl (r.seats j v there.0 there.1)).lowest)
            held.holder;
        no_other = λ j v ne there. held.others_away j v ne there.0;
      }
    ]

turn_is : (s : Table) (r : Ruled s) → (turn_word s ≡ 0) ⊎ (turn_word s ≡ 1)
turn_is s r =
    let found : turn_word s ≡ r.turn = ap (λ (l : List ℕ). slice_index l 0) r.words in
    elim r.turns [ inl free ↦ inl (found ∙ free.turn_is) | inr held ↦ inr (found ∙ held.turn_is) ]

pub between : (s : Table) → Ruled s → Between s
between s r =
    let count_is : numbers_word s ≡ r.numbers = ap (λ (l : List ℕ). slice_index l 2) r.words in
    let few = r.few in
    let C : ℕ → Type 0 = λ n. callers_below n r.history in
    record {
      history = r.history;
      setting = r.setting;
      legal = r.legal;
      front = ap (λ (l : List ℕ). slice_index l 1) r.words;
      few = omega arith;
      callers = subst C (sym count_is) r.callers;
      settings = λ j v there. (fits_history s r j v there).setting_is;
      seen = λ j v there. (fits_history s r j v there).knows;
      glanced = λ j v there. (fits_history s r j v there).glanced;
      lowest = λ j v there. (fits_history s r j v there).lowest;
      given = λ j v there. (let g = (fits_history s r j v there).given in omega arith);
      held_once = λ j v x there. (let a = held_once s r j v x there.0 in let b = once_most x r.numbers in omega arith);
      held_below = λ j v x there own. (let less = held_below x r.numbers (times x v.held) own (held_once s r j v x there.0) in omega arith);
      held_apart = λ i j u v x ne at there own. held_alone s r i j u v x (λ e. ne (sym e)) at.0 there.0 own;
      all_given = λ j v there some_given each. knows_all_numbers s r j v there.0 (fits_history s r j v there).given some_given each ∙
          sym count_is;
      turn = turn_is s r;
      free = home_free s r;
      taken = one_holds s r;
    }

-- by the laws of one thread's board
pub fixtures : ((league : LeagueData) (room : ℕ) (h : List Entry) → IsLeague league → IsLegal league room h → IsSound league h)
    → ((league : LeagueData) (h : List Entry) → IsBestOf league h (best_prefix league h))
    → (s : Table) → Ruled s → turn_word s ≡ 0 → HasFixtures s
fixtures sound best_is s r e =
    let l = r.setting.league in
    let is_sound : IsSound l r.history = sound l r.setting.room r.history r.limits r.legal in
    let home = home_free s r e in
    record {
      setting = r.setting;
      history = r.history;
      home = home.0;
      front = ap (λ (w : List ℕ). slice_index w 1) r.words;
      legal = r.legal;
      games = games_are l r.history;
      robin = is_sound.robin;
      pinned_stand = is_sound.stand;
      cost = cost_is l r.history;
      best = best_of_is l r.history;
      best_is = best_is l r.history;
      posted = home.1;
    }
