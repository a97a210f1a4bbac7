-- Where the words of a command are no fault, each of its options has a value that clap takes.
use Rattle.std.proofs.Common.{◌≡◌, ◌&&◌, not, cond, ℕ, zero, suc, Bool, true, false, List, [], ◌∷◌, Option, Some, None}
use Rattle.std.proofs.Common.{is_some, refl, sym, subst, drop, length, map, ◌++◌, inl, inr}
use Rattle.std.specs.Prelude.{encode_utf8, find, fold, slice_get}
use Rattle.std.specs.Option.{option_map_or}
use Rattle.std.specs.Str.{bytes_eq, chars}
use Rattle.clap.specs.Lexer.{long_of, short_of}
use Rattle.clap.specs.ValueTests.{accepts}
use Rattle.clap.specs.Kinds.{or_else, range_kinds, value_kinds}
use Rattle.clap.specs.Faults.{bundle_fault, bundle_step_fault, flag_word_fault, flags_fault, level_fault, long_fault}
use Rattle.clap.specs.Faults.{option_fault, other_fault, positional_fault, react_fault, repeat_fault, settle_fault}
use Rattle.clap.specs.Faults.{short_fault, step_fault, stray_fault, turn_fault, use_fault, values_fault, walk_fault}
use Rattle.clap.specs.Faults.{word_fault}
use Rattle.clap.specs.Simple.{Shape}
use Rattle.clap.specs.Walk.{Held, Outcome, Row, Rule, Step, Text, Waiting, Walk, after_flag, after_step, arg_by_id}
use Rattle.clap.specs.Walk.{arg_by_index, arg_by_long, attached_value, bundle, bundle_met, bundle_step, has_long}
use Rattle.clap.specs.Walk.{has_short, long_met, long_or_other, nothing_held, option_met, option_word, plain_word}
use Rattle.clap.specs.Walk.{reading_by, rows_after, settled, settled_rows, short_met, short_or_plain, subcommand_met}
use Rattle.clap.specs.Walk.{subcommand_or_other, used, used_by_id, walk, walk_from, walked, walked_from, with_values}
use Rattle.clap.specs.Walk.{flag_met, is_pending, reacted, takes_several, takes_values, to_positional, word_met}
use Rattle.clap.specs.Walk.{done, waits, plain, refused, idle, option, positional, next, trailing, subcommand, value}
use Rattle.clap.specs.declared.error.kind.ErrorKind.TheVariants.{InvalidSubcommand, TooManyValues, UnknownArgument}
use Rattle.clap.specs.declared.parser.matches.ValueSource.TheVariants.{CommandLine}
use Rattle.options.specs.CommandLine.{OptionForm}
use Rattle.options.specs.within.CommandLine.{HasValues}
use Rattle.options.proofs.Options.{AreSound, AreSoundRules, IsFine as IsFineFor, IsSound, IsSoundRule, all_given, both_pass, free_fine}
use Rattle.options.proofs.Options.{help, no_kind, none_yet, option_rule, row_added, without-none}

value_passes : (o : OptionForm) (t : Text) → value_kinds false o.parser t ≡ [] → accepts false o.parser t ≡ true
value_passes o t e = go (accepts false o.parser t) refl
  where
    go : (b : Bool) → accepts false o.parser t ≡ b → b ≡ true
    go true is = refl
    go false is = absurd (no_kind _ _ (rw is at e))

use_help : (values : List Text) (rows : List Row) → use_fault false help values rows ≡ [] → ⊥
use_help values rows e = no_kind _ _ (both_pass _ _ e).1

none_met : (waiting : Waiting) (word : Text) → subcommand_met [] waiting word ≡ None
none_met idle word = refl
none_met positional word = refl
none_met (option id) word = refl

stray : (is_leaf : Bool) → cond is_leaf (UnknownArgument ∷ []) (UnknownArgument ∷ InvalidSubcommand ∷ []) ≡ [] → ⊥
stray true e = no_kind _ _ e
stray false e = no_kind _ _ e

-- a command with these options, words before them, and others behind them
module _ (options : List OptionForm) (front back : List Rule) (sound : AreSound options options)
    (sound_rules : AreSoundRules options (front ++ (map option_rule options ++ back))) (base : Shape) where
  abbrev rules : List Rule
  rules = front ++ (map option_rule options ++ back)

  abbrev leaf : Shape
  leaf = record base { rules = rules; args_override_self = false }

  abbrev IsFine : List Row → Type 0
  IsFine = IsFineFor options

  among : (args : List Rule) → AreSoundRules options args → (K : Option Rule → Type 0) (p : Rule → Bool) → K None →
      ((a : Rule) → IsSoundRule options a → K (Some a)) → K (find p args)
  among [] s K p none at_rule = none
  among (a ∷ args) s K p none at_rule = go (p a) (among args s.1 K p none at_rule)
    where
      go : (b : Bool) → K (find p args) → K (cond b (Some a) (find p args))
      go true rest = at_rule a s.0
      go false rest = rest

  is_a_rule : (K : Option Rule → Type 0) (p : Rule → Bool) → K None → ((a : Rule) → IsSoundRule options a → K (Some a)) → K (find p rules)
  is_a_rule = among rules sound_rules

  -- ---- one use of an argument

  use_option : (o : OptionForm) (values : List Text) (rows : List Row) → IsSound options o →
      use_fault false (option_rule o) values rows ≡ [] → IsFine rows → IsFine (used (option_rule o) values rows)
  use_option o [] rows s e fine = absurd (no_kind _ _ e)
  use_option o (v ∷ vs) rows s e fine =
      let uses = both_pass (range_kinds 1 1 (length (v ∷ vs))) _ e in
      let set = both_pass (repeat_fault false o.name rows) (values_fault (option_rule o) (v ∷ vs)) uses.1 in
      let first = both_pass (value_kinds false o.parser v) (values_fault (option_rule o) vs) set.1 in
      let none = none_yet o.name rows set.0 in
      subst (λ rs. IsFine (with_values o.name (reading_by (option_rule o)) CommandLine (v ∷ vs) rs)) (sym (without-none o.name rows none))
      (row_added options o CommandLine v vs rows s none (value_passes o v first.0) fine)

  use_rule : (a : Rule) (values : List Text) (rows : List Row) → IsSoundRule options a →
      use_fault false a values rows ≡ [] → IsFine rows → IsFine (used a values rows)
  use_rule a values rows (inl given) e fine =
      subst (λ r. use_fault false r values rows ≡ [] → IsFine (used r values rows)) (sym given.1)
      (λ e. use_option given.0 values rows given.2 e fine) e
  use_rule a values rows (inr (inl free)) e fine = free_fine options a values rows free fine
  use_rule a values rows (inr (inr is)) e fine =
      absurd (use_help values rows (subst (λ r. use_fault false r values rows ≡ []) is e))

  settled_fine : (h : Held) → settle_fault rules false h ≡ [] → IsFine h.rows → IsFine (settled rules h).rows
  settled_fine h e fine = go h.pending e
    where
      go : (p : Option (Text × List Text)) →
          option_map_or (λ p. option_map_or (λ a. use_fault false a p.1 h.rows) (arg_by_id rules p.0) []) p [] ≡ []
          → IsFine (settled_rows rules p h.rows)
      go None e = fine
      go (Some p) e = is_a_rule (λ o. option_map_or (λ a. use_fault false a p.1 h.rows) o [] ≡ [] → IsFine (used_by_id o p.1 h.rows))
          (λ a. bytes_eq a.id p.0)
          (λ e. fine) (λ a s e. use_rule a p.1 h.rows s e fine) e

  reacted_fine : (a : Rule) → IsSoundRule options a → (values : List Text) (h : Held) → react_fault rules false a values h ≡ [] →
      IsFine h.rows → IsFine (reacted rules a values h).rows
  reacted_fine a s values h e fine =
      let parts = both_pass _ _ e in
      use_rule a values (settled rules h).rows s parts.1 (settled_fine h parts.0 fine)

  option_fine : (a : Rule) → IsSoundRule options a → (v : Option Text) (h : Held) → option_fault rules false a v h ≡ [] →
      IsFine h.rows → IsFine (option_met rules a v h).0.rows
  option_fine a s None h e fine = settled_fine h e fine
  option_fine a s (Some v) h e fine = reacted_fine a s (v ∷ []) h e fine

  -- ---- a word

  long_rule_fine : (a : Rule) → IsSoundRule options a → (v : Option Text) (h : Held) → long_fault rules false (Some a) v h ≡ [] →
      IsFine h.rows → IsFine (long_met rules (Some a) v h).0.rows
  long_rule_fine a s v h e fine = go (takes_values a) v e
    where
      go : (b : Bool) (v : Option Text)
          → cond b (option_fault rules false a v h) (cond (is_some v) (TooManyValues ∷ []) (react_fault rules false a [] h)) ≡ []
          → IsFine (cond b (option_met rules a v h) (flag_met rules a v h)).0.rows
      go true v e = option_fine a s v h e fine
      go false None e = reacted_fine a s [] h e fine
      go false (Some v) e = absurd (no_kind _ _ e)

  long_fine : (name : Text) (v : Option Text) (h : Held) → long_fault rules false (arg_by_long rules name) v h ≡ [] → IsFine h.rows
      → IsFine (long_met rules (arg_by_long rules name) v h).0.rows
  long_fine name v h e fine = is_a_rule (λ o. long_fault rules false o v h ≡ [] → IsFine (long_met rules o v h).0.rows)
      (λ a. not (is_some a.index) && has_long a name)
      (λ e. absurd (no_kind _ _ e)) (λ a s e. long_rule_fine a s v h e fine) e

  -- k characters leave fine rows
  abbrev Goes : ℕ → Type 0
  Goes k = (rest : Text) (skip : ℕ) (so_far : Outcome) (h : Held) → flags_fault rules false k rest skip h ≡ [] → IsFine h.rows
      → IsFine (bundle_met rules k rest skip so_far h).0.rows

  bundle_fine : (k : ℕ) (flags : Text) (skip : ℕ) (so_far : Outcome) (h : Held) → flags_fault rules false k flags skip h ≡ [] →
      IsFine h.rows
      → IsFine (bundle_met rules k flags skip so_far h).0.rows
  unfolding flags_fault bundle_met
  bundle_fine zero flags skip so_far h e fine = fine
  bundle_fine (suc k) flags skip so_far h e fine = step (slice_get (chars flags) 0) skip
      (λ rest skip so_far h e fine. bundle_fine k rest skip so_far h e fine) e
    where
      short_rule : Goes k → (a : Rule) → IsSoundRule options a → (rest : Text) (b : Bool)
          → cond b (option_fault rules false a (attached_value rest) h)
          (or_else (react_fault rules false a [] h) (flags_fault rules false k rest 0 (reacted rules a [] h))) ≡ []
          → IsFine (cond b (option_met rules a (attached_value rest) h) (bundle_met rules k rest 0 done (reacted rules a [] h))).0.rows
      short_rule past a s rest true e = option_fine a s (attached_value rest) h e fine
      short_rule past a s rest false e =
          let parts = both_pass (react_fault rules false a [] h) _ e in
          past rest 0 done (reacted rules a [] h) parts.1 (reacted_fine a s [] h parts.0 fine)

      step : (first : Option ℕ) (skip : ℕ) → Goes k → bundle_step_fault rules false first flags skip h (flags_fault rules false k) ≡ []
          → IsFine (bundle_step rules first flags skip so_far h (bundle_met rules k)).0.rows
      step None skip past e = fine
      step (Some x) (suc skip) past e = past (drop (length (encode_utf8 x)) flags) skip so_far h e fine
      step (Some x) zero past e =
          let rest = drop (length (encode_utf8 x)) flags in
          is_a_rule (λ o. short_fault rules false o rest h (flags_fault rules false k rest 0) ≡ [] →
          IsFine (short_met rules o rest h (bundle_met rules k rest 0 done)).0.rows) (λ a. not (is_some a.index) && has_short a x)
          (λ e. absurd (no_kind _ _ e)) (λ a s e. short_rule past a s rest (takes_values a) e) e

  -- the step leaves fine rows, and names no subcommand
  abbrev IsFineStep : Held → Step → Type 0
  IsFineStep h (next waiting) = IsFine h.rows
  IsFineStep h (trailing position) = IsFine h.rows
  IsFineStep h (subcommand name) = ⊥
  IsFineStep h value = IsFine h.rows

  plain_fine : (waiting : Waiting) (word : Text) (h : Held) → IsFine h.rows →
      IsFineStep (plain_word rules waiting word h).0 (plain_word rules waiting word h).1
  plain_fine idle word h fine = fine
  plain_fine positional word h fine = fine
  plain_fine (option id) word h fine = go (arg_by_id rules id)
    where
      go : (o : Option Rule) → IsFine (option_word o id word h).0.rows
      go None = fine
      go (Some a) = fine

  after_fine : (waiting : Waiting) (word : Text) (h : Held) (outcome : Outcome) → IsFine h.rows
      → IsFineStep (after_flag rules waiting word h outcome).0 (after_flag rules waiting word h outcome).1
  after_fine waiting word h done fine = fine
  after_fine waiting word h (waits id) fine = fine
  after_fine waiting word h plain fine = plain_fine waiting word h fine
  after_fine waiting word h refused fine = plain_fine waiting word h fine

  flag_fine : (waiting : Waiting) (word : Text) (o : Option (Text × Option Text)) (h : Held) →
      flag_word_fault rules false o word h ≡ [] → IsFine h.rows
      → IsFineStep (long_or_other rules waiting word o h).0 (long_or_other rules waiting word o h).1
  flag_fine waiting word (Some p) h e fine =
      after_fine waiting word (long_met rules (arg_by_long rules p.0) p.1 h).0 _ (long_fine p.0 p.1 h e fine)
  flag_fine waiting word None h e fine = go (short_of word) e
    where
      go : (o : Option Text) → option_map_or (λ flags. bundle_fault rules false flags h) o [] ≡ []
          → IsFineStep (short_or_plain rules waiting word o h).0 (short_or_plain rules waiting word o h).1
      go None e = plain_fine waiting word h fine
      go (Some flags) e = after_fine waiting word (bundle rules flags h).0 _
          (bundle_fine (length flags) flags h.skip plain (record h { skip = 0 }) e fine)

  word_fine : (is_trailing : Bool) (waiting : Waiting) (position : ℕ) (word : Text) (h : Held) →
      word_fault leaf [] is_trailing waiting word h ≡ [] → IsFine h.rows
      → IsFineStep (word_met rules [] is_trailing waiting position word h).0 (word_met rules [] is_trailing waiting position word h).1
  word_fine true waiting position word h e fine = fine
  word_fine false waiting position word h e fine =
      let none = none_met waiting word in
      subst (λ o. IsFineStep (subcommand_or_other rules o waiting position word h).0
      (subcommand_or_other rules o waiting position word h).1) (sym none)
      (go (bytes_eq word (45 ∷ 45 ∷ [])) (subst (λ o. other_fault leaf o word h ≡ []) none e))
    where
      go : (b : Bool) → cond b [] (flag_word_fault rules false (long_of word) word h) ≡ []
          → IsFineStep (cond b (h, trailing position) (long_or_other rules waiting word (long_of word) h)).0
          (cond b (h, trailing position) (long_or_other rules waiting word (long_of word) h)).1
      go true e = fine
      go false e = flag_fine waiting word (long_of word) h e fine

  -- ---- the words

  -- no subcommand was met, and the rows are fine
  abbrev IsOnItsWay : Walk → Type 0
  IsOnItsWay w = (w.stopped ≡ None) × IsFine w.held.rows

  step_fine : (w : Walk) (word : Text) (h : Held) (step : Step) → w.stopped ≡ None → IsFineStep h step →
      step_fault leaf w.position h step ≡ []
      → IsOnItsWay (after_step rules word w h step)
  step_fine w word h (next waiting) none fine e = (none, fine)
  step_fine w word h (trailing position) none fine e = (none, fine)
  step_fine w word h (subcommand name) none fine e = absurd fine
  step_fine w word h value none fine e = go (arg_by_index rules w.position) e
    where
      settled_or : (a : Rule) (b : Bool) → cond b [] (settle_fault rules false h) ≡ [] → IsFine (cond b h (settled rules h)).rows
      settled_or a true e = fine
      settled_or a false e = settled_fine h e fine

      go : (o : Option Rule) → option_map_or (λ a. positional_fault rules false a h) o (stray_fault leaf) ≡ [] →
          IsOnItsWay (to_positional rules o word w h)
      go None e = absurd (stray base.is_leaf e)
      go (Some a) e = (refl, settled_or a (is_pending a h.pending && takes_several a) e)

  walked_fine : (w : Walk) (word : Text) → turn_fault leaf [] w word ≡ [] → IsOnItsWay w → IsOnItsWay (walked rules [] w word)
  unfolding walked
  walked_fine w word e way =
      let met = word_met rules [] w.is_trailing w.waiting w.position word w.held in
      let turn = both_pass (word_fault leaf [] w.is_trailing w.waiting word w.held) (step_fault leaf w.position met.0 met.1)
      (subst (λ o. cond (is_some o) []
      (or_else (word_fault leaf [] w.is_trailing w.waiting word w.held) (step_fault leaf w.position met.0 met.1)) ≡ []) way.0 e) in
      subst (λ o. IsOnItsWay (walked_from rules [] o w word)) (sym way.0)
      (step_fine w word met.0 met.1 way.0 (word_fine w.is_trailing w.waiting w.position word w.held turn.0 way.1) turn.1)

  walk_fine : (w : Walk) (words : List Text) → walk_fault leaf [] w words ≡ [] → IsOnItsWay w → IsOnItsWay (fold (walked rules []) w words)
  unfolding walk_fault
  walk_fine w [] e way = way
  walk_fine w (x ∷ xs) e way =
      let parts = both_pass _ _ e in
      walk_fine (walked rules [] w x) xs parts.1 (walked_fine w x parts.0 way)

  pub has_values : (words : List Text) → level_fault leaf [] nothing_held words false [] ≡ [] →
      HasValues (rows_after rules [] words) options
  has_values words e =
      let end = (walk rules [] nothing_held words).held in
      let parts = both_pass (walk_fault leaf [] (walk_from nothing_held) words) _ e in
      let after = both_pass (settle_fault rules false end) _ parts.1 in
      all_given options front back (settled rules end).rows sound sound_rules
      (settled_fine end after.0 (walk_fine (walk_from nothing_held) words parts.0 (refl, tt)).1)
