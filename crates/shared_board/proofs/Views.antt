-- The parts of the rule: what a view has to do with the history, and who holds the turn.
use Rattle.std.proofs.Common.{◌≡◌, ◌≢◌, ℕ, zero, suc, ◌+◌, ◌<◌, ◌≤◌, max, Option, List, [], ◌∷◌, ◌++◌, length, set}
use Rattle.std.proofs.Common.{refl, ap, sym, ◌∙◌, subst, ◌⊎◌, inl, inr, ⊎_elim, append_assoc, arith, true}
use Rattle.std.proofs.lemmas.List.{append-nil}
use mathlib.Core.Option.{none, some, some-injective}
use mathlib.Core.Option as maybe
use mathlib.Core.Logic.{dite}
use native.Mathlib.Decide.{ℕ_discrete}
use lib.ListN.{get_elem?}
use Rattle.atomic_table.proofs.Lists.{at_set, set_else}
use Rattle.fixture_board.specs.declared.change.Entry.{Entry}
use Rattle.fixture_board.specs.Record.{Book}
use Rattle.fixture_board.specs.Laws.{least_of}
use Rattle.shared_board.specs.declared.view.View.{View}
use Rattle.shared_board.specs.Setting.{Setting}
use Rattle.shared_board.specs.Stage.{Stage, Former, away, holds, counts, owes}
use Rattle.shared_board.specs.within.Stage.{kept, IsSettled}
use Rattle.shared_board.specs.Held.{times, once_below, total}
use Rattle.shared_board.specs.Rule.{Knows, Lowest, EachFormer, Fits, upto, IsHolder, IsFree, IsHeld, AllRead}
use Rattle.shared_board.specs.within.Plays.{at_stage, saw}
use Rattle.shared_board.proofs.Counts.{under_append, under_fewer, total_set}

-- the whole history is known
pub knows_all : (held : List ℕ) (h : List Entry) → Knows held h h
knows_all held h = record { after = []; begins = sym (append-nil h); none_after = refl }

-- one entry more, under no number that is held
knows_more : (held : List ℕ) (seen h : List Entry) (e : Entry) → times e.caller held ≡ 0 → Knows held seen h →
    Knows held seen (h ++ e ∷ [])
knows_more held seen h e apart k = record {
  after = k.after ++ e ∷ [];
  begins = ap (λ l. l ++ e ∷ []) k.begins ∙ append_assoc seen k.after (e ∷ []);
  none_after = (let a = under_append held k.after (e ∷ []) in let b = k.none_after in omega arith);
}

pub lowest_all : (s : Setting) (h : List Entry) → Lowest s h h (least_of s.league h)
lowest_all s h = let same : h ++ [] ≡ h = append-nil h in record {
  more = [];
  rest = [];
  point = sym (append-nil (h ++ []) ∙ same);
  least = ap (λ l. least_of s.league l) (sym same);
}

lowest_more : (s : Setting) (seen h : List Entry) (low : ℕ) (e : Entry) → Lowest s seen h low → Lowest s seen (h ++ e ∷ []) low
lowest_more s seen h low e l = record {
  more = l.more;
  rest = l.rest ++ e ∷ [];
  point = ap (λ k. k ++ e ∷ []) l.point ∙ append_assoc (seen ++ l.more) l.rest (e ∷ []);
  least = l.least;
}

formers_more : (held : List ℕ) (h : List Entry) (e : Entry) (formers : List Former) → times e.caller held ≡ 0 →
    EachFormer held h formers → EachFormer held (h ++ e ∷ []) formers
formers_more held h e [] apart each = tt
formers_more held h e (p ∷ ps) apart each =
    let less = each.0 e.caller in
    (each.0, knows_more p.held p.seen h e (omega arith) each.1, formers_more held h e ps apart each.2)

-- more numbers are held
pub formers_held : (held more : List ℕ) (h : List Entry) (formers : List Former) → ((x : ℕ) → times x held ≤ times x more) →
    EachFormer held h formers → EachFormer more h formers
formers_held held more h [] le each = tt
formers_held held more h (p ∷ ps) le each =
    ((λ x. let a = each.0 x in let b = le x in omega arith), each.1, formers_held held more h ps le each.2)

pub fits_stage : (s : Setting) (h : List Entry) (long numbers : ℕ) (v : View) (t : Stage) → Fits s h long numbers v →
    Fits s h long numbers (at_stage v t)
fits_stage s h long numbers v t f =
    record { setting_is = f.setting_is; knows = f.knows; glanced = f.glanced; lowest = f.lowest; given = f.given; formers = f.formers }

-- the counts that all may read have grown
pub fits_longer : (s : Setting) (h : List Entry) (long more numbers given : ℕ) (v : View) → long ≤ more → numbers ≤ given →
    Fits s h long numbers v → Fits s h more given v
fits_longer s h long more numbers given v le le' f = record {
  setting_is = f.setting_is;
  knows = f.knows;
  glanced = (let g = f.glanced in omega arith);
  lowest = f.lowest;
  given = (let g = f.given in omega arith);
  formers = f.formers;
}

-- one entry more, under no number that the seat holds
pub fits_more : (s : Setting) (h : List Entry) (long numbers : ℕ) (v : View) (e : Entry) → times e.caller v.held ≡ 0 →
    Fits s h long numbers v → Fits s (h ++ e ∷ []) long numbers v
fits_more s h long numbers v e apart f = record {
  setting_is = f.setting_is;
  knows = knows_more v.held v.seen h e apart f.knows;
  glanced = f.glanced;
  lowest = lowest_more s v.seen h v.lowest e f.lowest;
  given = f.given;
  formers = formers_more v.held h e v.formers apart f.formers;
}

-- the history was seen
pub fits_saw : (s : Setting) (h : List Entry) (numbers : ℕ) (v : View) (t : Stage) → v.setting ≡ s → v.given ≤ numbers →
    Fits s h (length h) numbers (saw v h t)
fits_saw s h numbers v t e given = record {
  setting_is = e;
  knows = knows_all v.held h;
  glanced = omega arith;
  lowest = (let P : Setting → Type 0 = λ r. Lowest s h h (least_of r.league h) in subst P (sym e) (lowest_all s h));
  given = given;
  formers = tt;
}

pub settled_not_away : (t : Stage) → IsSettled t → t ≢ away
settled_not_away away settled = absurd settled
settled_not_away (holds h) settled = λ e. cc
settled_not_away (counts h) settled = λ e. cc
settled_not_away (owes before h) settled = absurd settled

-- the holder who owes nothing knows the history, all of which is posted
pub settled_knows : (posted history : List Entry) (numbers : ℕ) (held : List ℕ) (given : ℕ) (t : Stage) → IsSettled t →
    IsHolder posted history numbers held given t
    → (kept t ≡ history) × (posted ≡ history)
settled_knows posted history numbers held given away settled holder = absurd settled
settled_knows posted history numbers held given (holds h) settled holder = (holder.0, holder.1)
settled_knows posted history numbers held given (counts h) settled holder = (holder.0, holder.1)
settled_knows posted history numbers held given (owes before h) settled holder = absurd settled

pub settled_upto : (posted history : List Entry) (t : Stage) → IsSettled t → upto t posted history ≡ posted
settled_upto posted history away settled = absurd settled
settled_upto posted history (holds h) settled = refl
settled_upto posted history (counts h) settled = refl
settled_upto posted history (owes before h) settled = absurd settled

-- the view of a seat whose stage is known
pub fits_at : (s : Setting) (posted history h : List Entry) (long numbers : ℕ) (v : View) (t : Stage) → v.stage ≡ t →
    upto t posted history ≡ h
    → Fits s (upto v.stage posted history) long numbers v → Fits s h long numbers v
fits_at s posted history h long numbers v t e d f =
    let P : List Entry → Type 0 = λ l. Fits s l long numbers v in subst P (ap (λ u. upto u posted history) e ∙ d) f

pub fits_from : (s : Setting) (posted history h : List Entry) (long numbers : ℕ) (v : View) (t : Stage) → v.stage ≡ t →
    upto t posted history ≡ h
    → Fits s h long numbers v → Fits s (upto v.stage posted history) long numbers v
fits_from s posted history h long numbers v t e d f =
    let P : List Entry → Type 0 = λ l. Fits s l long numbers v in subst P (sym (ap (λ u. upto u posted history) e ∙ d)) f

-- what holds of each view that is live, after one has changed
pub each_set : (F G : View → Type 0) (views : List View) (id : ℕ) (w : View)
    → ((j : ℕ) (v : View) → get_elem? views j ≡ some v → v.live ≡ true → F v)
    → ((j : ℕ) (v : View) → j ≢ id → get_elem? views j ≡ some v → F v → G v)
    → (w.live ≡ true → G w)
    → (j : ℕ) (v : View) → get_elem? (set views id w) j ≡ some v → v.live ≡ true → G v
each_set F G views id w each others mine j v at live =
    ⊎_elim (λ t. subst G t.1 (mine (ap (λ (u : View). u.live) t.1 ∙ live))) (λ t. others j v t.0 t.1 (each j v t.1 live))
    (at_set views id j w v at)

-- all are away but one
abbrev pub OthersAway : List View → ℕ → Type 0
OthersAway views id = (j : ℕ) (v : View) → j ≢ id → get_elem? views j ≡ some v → v.stage ≡ away

pub away_set : (views : List View) (id : ℕ) (w : View) → OthersAway views id → w.stage ≡ away → (j : ℕ) (v : View) →
    get_elem? (set views id w) j ≡ some v → v.stage ≡ away
away_set views id w others mine j v at =
    ⊎_elim (λ t. ap (λ (u : View). u.stage) (sym t.1) ∙ mine) (λ t. others j v t.0 t.1) (at_set views id j w v at)

pub away_else : (views : List View) (id : ℕ) (w : View) → OthersAway views id → OthersAway (set views id w) id
away_else views id w others j v ne at = others j v ne (sym (set_else views id j w ne) ∙ at)

pub there_set : (views : List View) (id : ℕ) (v w : View) → get_elem? views id ≡ some v → get_elem? (set views id w) id ≡ some w
there_set [] id v w at = absurd (cc)
there_set (x ∷ views) zero v w at = refl
there_set (x ∷ views) (suc id) v w at = there_set views id v w at

-- what was read stays so, where a seat's view changes that gets no such number, and has read no less
pub read_set : (by n : ℕ) (views : List View) (id : ℕ) (v w : View) → get_elem? views id ≡ some v →
    (0 < times by w.held → 0 < times by v.held) → v.given ≤ w.given
    → AllRead by n views → AllRead by n (set views id w)
read_set by n views id v w at fewer later read j u at' own =
    let H : View → Type 0 = λ k. 0 < times by k.held in
    let G : View → Type 0 = λ k. n < k.given in
    ⊎_elim (λ t. subst G t.1 (omega (arith, read id v at (fewer (subst H (sym t.1) own))))) (λ t. read j u t.1 own)
    (at_set views id j w u at')

-- one of two has the number, and has read that the other is given out
pub either_read : (a b g k n : ℕ) → 0 < a + b → (0 < a → n < g) → (0 < b → n < k) → n < max g k
either_read a b g k n some_held f h = dite (ℕ_discrete a 0) (λ e. omega (arith, h (omega arith))) (λ ne. omega (arith, f (omega arith)))

-- fewer numbers are held
pub fits_fewer : (s : Setting) (h : List Entry) (long numbers : ℕ) (v : View) (held : List ℕ) →
    ((x : ℕ) → times x held ≤ times x v.held) → Fits s h long numbers v
    → Fits s h long numbers (record v { held = held; formers = [] })
fits_fewer s h long numbers v held fewer f = record {
  setting_is = f.setting_is;
  knows = record {
    after = f.knows.after;
    begins = f.knows.begins;
    none_after =
        (let a = f.knows.none_after in omega (arith, under_fewer held v.held f.knows.after fewer));
  };
  glanced = f.glanced;
  lowest = f.lowest;
  given = f.given;
  formers = tt;
}

pub once_set : (views : List View) (id : ℕ) (v w : View) (numbers more : ℕ) → get_elem? views id ≡ some v
    → ((x : ℕ) → total (λ (u : View). times x u.held) views ≤ once_below x numbers)
    → ((x : ℕ) → times x w.held + once_below x numbers ≤ times x v.held + once_below x more)
    → (x : ℕ) → total (λ (u : View). times x u.held) (set views id w) ≤ once_below x more
once_set views id v w numbers more at once grown x =
    let a = total_set (λ (u : View). times x u.held) views id v w at in let b = once x in let c = grown x in omega arith

-- what the rule says where the seat holds the turn
pub record Owned (posted history : List Entry) (numbers turn : ℕ) (home : maybe.Option (Option Book)) (views : List View) (id : ℕ)
    (v : View) : Type 0 where
  pub turn_is : turn ≡ 1
  pub home_is : home ≡ none
  pub holder : IsHolder posted history numbers v.held v.given v.stage
  pub others_away : OthersAway views id

pub owned : (s : Setting) (posted history : List Entry) (turn numbers : ℕ) (home : maybe.Option (Option Book)) (views : List View)
    (id : ℕ) (v : View)
    → IsFree s posted history turn home views ⊎ IsHeld posted history numbers turn home views → get_elem? views id ≡ some v → v.stage ≢ away
    → Owned posted history numbers turn home views id v
owned s posted history turn numbers home views id v (inl free) at ne = absurd (ne (free.all_away id v at))
owned s posted history turn numbers home views id v (inr held) at ne = dite (ℕ_discrete id held.seat)
    (λ e.
    let same : v ≡ held.view = some-injective v held.view (sym at ∙ (ap (get_elem? views) e ∙ held.there)) in
    let P : View → Type 0 = λ u. IsHolder posted history numbers u.held u.given u.stage in
    record {
      turn_is = held.turn_is;
      home_is = held.home_is;
      holder = subst P (sym same) held.holder;
      others_away =
          λ j u other at'. held.others_away j u (λ q. other (q ∙ sym e)) at';
    })
    (λ other. absurd (ne (held.others_away id v other at)))

-- a seat that is away isn't the holder
not_holder : (posted history : List Entry) (numbers turn : ℕ) (home : maybe.Option (Option Book)) (views : List View) (id : ℕ)
    (v : View)
    (held : IsHeld posted history numbers turn home views) → get_elem? views id ≡ some v → v.stage ≡ away → held.seat ≢ id
not_holder posted history numbers turn home views id v held at e same =
    let view_is : held.view ≡ v = some-injective held.view v (sym held.there ∙ (ap (get_elem? views) same ∙ at)) in
    let P : Stage → Type 0 = λ t. IsHolder posted history numbers held.view.held held.view.given t in
    subst P (ap (λ (u : View). u.stage) view_is ∙ e) held.holder

-- who holds the turn stays, where a seat that is away changes and stays away
pub turns_aside : (s : Setting) (posted history : List Entry) (turn numbers : ℕ) (home : maybe.Option (Option Book)) (views : List View)
    (id : ℕ) (v w : View)
    → get_elem? views id ≡ some v → v.stage ≡ away → w.stage ≡ away
    → IsFree s posted history turn home views ⊎ IsHeld posted history numbers turn home views
    → IsFree s posted history turn home (set views id w) ⊎ IsHeld posted history numbers turn home (set views id w)
turns_aside s posted history turn numbers home views id v w at e d (inl free) =
    inl (record {
      turn_is = free.turn_is;
      home_is = free.home_is;
      all_posted = free.all_posted;
      all_away =
          away_set views id w (λ j u ne. free.all_away j u) d;
    })
turns_aside s posted history turn numbers home views id v w at e d (inr held) =
    let ne = not_holder posted history numbers turn home views id v held at e in
    inr (record {
      turn_is = held.turn_is;
      home_is = held.home_is;
      seat = held.seat;
      view = held.view;
      there = set_else views id held.seat w ne ∙ held.there;
      live = held.live;
      holder = held.holder;
      others_away = λ j u other at'. ⊎_elim (λ t. ap (λ (x : View). x.stage) (sym t.1) ∙ d) (λ t. held.others_away j u other t.1)
          (at_set views id j w u at');
    })
