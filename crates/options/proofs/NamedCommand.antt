-- Where the words are no fault, they name a command, and each of its options has a value.
use Rattle.std.proofs.Common.{◌≡◌, ◌∙◌, ◌⊎◌, ap, ◌&&◌, ◌||◌, cond, ℕ, Bool, true, false, List, [], ◌∷◌, Option, Some, None}
use Rattle.std.proofs.Common.{is_some, refl, sym, subst, codes, inl, inr, option_map, true≢false, map, ◌++◌}
use Rattle.std.specs.Prelude.{Box, find, fold}
use Rattle.std.specs.Box.{box_value}
use Rattle.std.specs.Option.{option_map_or}
use Rattle.std.specs.Str.{bytes_eq}
use Rattle.std.proofs.lemmas.Slice.Eq.{bytes_eq-Decides}
use Rattle.clap.specs.Lexer.{long_of, short_of}
use Rattle.clap.specs.Kinds.{or_else}
use Rattle.clap.specs.Faults.{check_fault, defaults_fault, entered_fault, fault_of, level_fault, other_fault}
use Rattle.clap.specs.Faults.{settle_fault, step_fault, turn_fault, walk_fault, word_fault}
use Rattle.clap.specs.Simple.{Shape, argument_words, built, built_leaf, entered, filled, help_shape, inherited, label_of}
use Rattle.clap.specs.Simple.{names_of, rows_at, subcommand_of, subcommand_rows, with_index}
use Rattle.clap.specs.declared.parser.matches.ArgMatches.TheViews.{out-SubCommand}
use Rattle.clap.specs.declared.parser.matches.SubCommand.{SubCommand}
use Rattle.clap.specs.Walk.{Held, Names, Outcome, Row, Rule, Step, Text, Waiting, Walk, after_flag, after_step}
use Rattle.clap.specs.Walk.{answers_to, arg_by_index, finished, long_or_other, nothing_held, plain_word, settled}
use Rattle.clap.specs.Walk.{short_or_plain, subcommand_met, subcommand_or_other, to_positional, walk, walk_from, walked}
use Rattle.clap.specs.Walk.{walked_from, word_met}
use Rattle.clap.specs.Walk.{done, waits, plain, refused, idle, option, positional, next, trailing, subcommand, value}
use Rattle.clap.specs.declared.error.kind.ErrorKind.TheVariants.{DisplayHelp, InvalidSubcommand}
use Rattle.clap.proofs.OnLiterals.{clap_on_literals}
use Rattle.options.specs.CommandLine.{CommandForm, OptionForm}
use Rattle.options.specs.within.CommandLine.{HasValues, NamesACommand, NamesOneOf}
use Rattle.options.specs.CommandLine.{app_of_command, bound_command, commands, improve_command, league_word, play_command, program}
use Rattle.options.specs.CommandLine.{league_command, report_command, search_command, second_word, start_command, start_rules}
use Rattle.options.proofs.Options.{AreSound, AreSoundRules, IsFree, both_pass, both_sound, help, no_kind, option_rule, options_sound}
use Rattle.options.proofs.OptionWords.{has_values}

-- the program as clap builds it
abbrev top : Shape
top = (built program).top

abbrev names : Names
names = names_of (built program)

abbrev built_command : CommandForm → Shape
built_command c = built_leaf (inherited program.top (app_of_command c).top)

abbrev built_help : Shape
built_help = built_leaf help_shape

-- ---- a walk that is no fault meets no `help`

abbrev IsNotHelp : Option (Text × List Text) → Type 0
IsNotHelp None = Unit {0}
IsNotHelp (Some p) = bytes_eq p.0 (codes "help") ≡ false

abbrev IsNoHelpStep : Step → Type 0
IsNoHelpStep (subcommand name) = bytes_eq name (codes "help") ≡ false
IsNoHelpStep (next waiting) = Unit {0}
IsNoHelpStep (trailing position) = Unit {0}
IsNoHelpStep value = Unit {0}

module _ (word : Text) where
  plain_step : (waiting : Waiting) (h : Held) → IsNoHelpStep (plain_word top.rules waiting word h).1
  plain_step idle h = tt
  plain_step positional h = tt
  plain_step (option id) h = tt

  flag_step : (waiting : Waiting) (h : Held) (outcome : Outcome) → IsNoHelpStep (after_flag top.rules waiting word h outcome).1
  flag_step waiting h done = tt
  flag_step waiting h (waits id) = tt
  flag_step waiting h plain = plain_step waiting h
  flag_step waiting h refused = plain_step waiting h

  short_step : (waiting : Waiting) (o : Option Text) (h : Held) → IsNoHelpStep (short_or_plain top.rules waiting word o h).1
  short_step waiting None h = plain_step waiting h
  short_step waiting (Some flags) h = flag_step waiting _ _

  other_step : (waiting : Waiting) (o : Option (Text × Option Text)) (h : Held) → IsNoHelpStep (long_or_other top.rules waiting word o h).1
  other_step waiting None h = short_step waiting (short_of word) h
  other_step waiting (Some p) h = flag_step waiting _ _

  named_step : (waiting : Waiting) (position : ℕ) (o : Option Text) (h : Held) → other_fault top o word h ≡ []
      → IsNoHelpStep (subcommand_or_other top.rules o waiting position word h).1
  named_step waiting position (Some name) h e = go (bytes_eq name (codes "help")) e
    where
      go : (b : Bool) → cond (b && true) (DisplayHelp ∷ InvalidSubcommand ∷ []) [] ≡ [] → b ≡ false
      go true e = absurd (no_kind _ _ e)
      go false e = refl
  named_step waiting position None h e = go (bytes_eq word (45 ∷ 45 ∷ []))
    where
      go : (b : Bool) → IsNoHelpStep (cond b (h, trailing position) (long_or_other top.rules waiting word (long_of word) h)).1
      go true = tt
      go false = other_step waiting (long_of word) h

  word_step : (is_trailing : Bool) (waiting : Waiting) (position : ℕ) (h : Held) → word_fault top names is_trailing waiting word h ≡ []
      → IsNoHelpStep (word_met top.rules names is_trailing waiting position word h).1
  word_step true waiting position h e = tt
  word_step false waiting position h e = named_step waiting position (subcommand_met names waiting word) h e

  after_word : (w : Walk) (h : Held) (step : Step) → w.stopped ≡ None → IsNoHelpStep step →
      IsNotHelp (after_step top.rules word w h step).stopped
  after_word w h (subcommand name) none ok = ok
  after_word w h (next waiting) none ok = subst IsNotHelp (sym none) tt
  after_word w h (trailing position) none ok = subst IsNotHelp (sym none) tt
  after_word w h value none ok = go (arg_by_index top.rules w.position)
    where
      go : (o : Option Rule) → IsNotHelp (to_positional top.rules o word w h).stopped
      go None = subst IsNotHelp (sym none) tt
      go (Some a) = tt

  walked_on : (w : Walk) → turn_fault top names w word ≡ [] → IsNotHelp w.stopped → IsNotHelp (walked top.rules names w word).stopped
  unfolding walked
  walked_on w e ok = go w.stopped refl e ok
    where
      go : (o : Option (Text × List Text)) → w.stopped ≡ o
          → (let met = word_met top.rules names w.is_trailing w.waiting w.position word w.held in
          cond (is_some o) [] (or_else (word_fault top names w.is_trailing w.waiting word w.held) (step_fault top w.position met.0 met.1))
          ≡ [])
          → IsNotHelp o → IsNotHelp (walked_from top.rules names o w word).stopped
      go (Some p) is e ok = ok
      go None is e ok =
          let parts = both_pass (word_fault top names w.is_trailing w.waiting word w.held) _ e in
          after_word w _ _ is (word_step w.is_trailing w.waiting w.position w.held parts.0)

walk_on : (w : Walk) (words : List Text) → walk_fault top names w words ≡ [] → IsNotHelp w.stopped →
    IsNotHelp (fold (walked top.rules names) w words).stopped
unfolding walk_fault
walk_on w [] e ok = ok
walk_on w (x ∷ xs) e ok =
    let parts = both_pass (turn_fault top names w x) _ e in
    walk_on (walked top.rules names w x) xs parts.1 (walked_on x w parts.0 ok)

-- ---- the subcommand

-- a command keeps its name, and where its words are no fault each option has a value
record IsRead (c : CommandForm) : Type 0 where
  named : (built_command c).name ≡ c.name
  has : (words : List Text) → level_fault (built_command c) [] nothing_held words false [] ≡ [] →
      HasValues (rows_at (built_command c) words).1 c.options

abbrev AreRead : List CommandForm → Type 0
AreRead [] = Unit {0}
AreRead (c ∷ cs) = IsRead c × AreRead cs

-- words and options that may be left out, as clap builds them
abbrev first_word : List Rule
first_word = with_index 1 (filled league_word) ∷ []

abbrev both_words : List Rule
both_words = with_index 1 (filled league_word) ∷ with_index 2 (filled second_word) ∷ []

abbrev with_help : List Rule → List Rule
with_help free = map (λ r. with_index 1 (filled r)) free ++ help ∷ []

-- none of these options is one of those that may be left out
abbrev AreOthers : List OptionForm → List Rule → Type 0
AreOthers options [] = Unit {0}
AreOthers options (a ∷ args) = IsFree options a × AreOthers options args

others_sound : (options : List OptionForm) (args : List Rule) → AreOthers options args → AreSoundRules options args
others_sound options [] others = tt
others_sound options (a ∷ args) others = (inr (inl others.0), others_sound options args others.1)

-- the arguments of a command are sound
all_sound : (options : List OptionForm) (front free : List Rule) → AreSound options options → AreOthers options front →
    AreOthers options (map (λ r. with_index 1 (filled r)) free)
    → AreSoundRules options (front ++ (map option_rule options ++ with_help free))
all_sound options front free sound before behind =
    both_sound options front _ (others_sound options front before)
    (both_sound options (map option_rule options) _ (options_sound options options sound)
    (both_sound options (map (λ r. with_index 1 (filled r)) free) _ (others_sound options _ behind) (inr (inr refl), tt)))

start_sound : AreSound [] []
start_sound = tt

play_sound : AreSound play_command.options play_command.options
unfolding clap_on_literals
play_sound = (record { first = refl; as_written = refl; default_fits = refl }, tt)

improve_sound : AreSound improve_command.options improve_command.options
unfolding clap_on_literals
improve_sound = (
  record { first = refl; as_written = refl; default_fits = refl },
  (
    record { first = refl; as_written = refl; default_fits = refl },
    (
      record { first = refl; as_written = refl; default_fits = refl },
      (record { first = refl; as_written = refl; default_fits = refl }, tt),
    ),
  ),
)

search_sound : AreSound search_command.options search_command.options
unfolding clap_on_literals
search_sound = (
  record { first = refl; as_written = refl; default_fits = refl },
  (
    record { first = refl; as_written = refl; default_fits = refl },
    (
      record { first = refl; as_written = refl; default_fits = refl },
      (
        record { first = refl; as_written = refl; default_fits = refl },
        (record { first = refl; as_written = refl; default_fits = refl }, tt),
      ),
    ),
  ),
)

report_sound : AreSound report_command.options report_command.options
unfolding clap_on_literals
report_sound = (record { first = refl; as_written = refl; default_fits = refl }, tt)

league_sound : AreSound league_command.options league_command.options
unfolding clap_on_literals
league_sound = (
  record { first = refl; as_written = refl; default_fits = refl },
  (record { first = refl; as_written = refl; default_fits = refl }, tt),
)

commands_are_read : AreRead commands
unfolding clap_on_literals
commands_are_read = (
  record {
    named = refl;
    has = has_values [] first_word (with_help start_command.free) start_sound (all_sound [] first_word start_command.free start_sound (record { other = refl; adds = inl refl }, tt) (record { other = refl; adds = inl refl }, tt)) (built_command start_command);
  },
  (
    record {
      named = refl;
      has = has_values play_command.options both_words (with_help start_rules) play_sound (all_sound play_command.options both_words start_rules play_sound (record { other = refl; adds = inl refl }, (record { other = refl; adds = inl refl }, tt)) (record { other = refl; adds = inl refl }, (record { other = refl; adds = inl refl }, (record { other = refl; adds = inr (inl refl) }, (record { other = refl; adds = inl refl }, tt))))) (built_command play_command);
    },
    (
      record {
        named = refl;
        has = has_values improve_command.options first_word (with_help improve_command.free) improve_sound (all_sound improve_command.options first_word improve_command.free improve_sound (record { other = refl; adds = inl refl }, tt) (record { other = refl; adds = inr (inr refl) }, (record { other = refl; adds = inl refl }, (record { other = refl; adds = inl refl }, (record { other = refl; adds = inl refl }, (record { other = refl; adds = inl refl }, (record { other = refl; adds = inr (inl refl) }, (record { other = refl; adds = inl refl }, tt)))))))) (built_command improve_command);
      },
      (
        record {
          named = refl;
          has = has_values search_command.options first_word (with_help start_rules) search_sound (all_sound search_command.options first_word start_rules search_sound (record { other = refl; adds = inl refl }, tt) (record { other = refl; adds = inl refl }, (record { other = refl; adds = inl refl }, (record { other = refl; adds = inr (inl refl) }, (record { other = refl; adds = inl refl }, tt))))) (built_command search_command);
        },
        (
          record {
            named = refl;
            has = has_values report_command.options both_words (with_help report_command.free) report_sound (all_sound report_command.options both_words report_command.free report_sound (record { other = refl; adds = inl refl }, (record { other = refl; adds = inl refl }, tt)) (record { other = refl; adds = inl refl }, (record { other = refl; adds = inl refl }, (record { other = refl; adds = inl refl }, (record { other = refl; adds = inr (inr refl) }, tt))))) (built_command report_command);
          },
          (
            record {
              named = refl;
              has = has_values league_command.options first_word (with_help league_command.free) league_sound (all_sound league_command.options first_word league_command.free league_sound (record { other = refl; adds = inl refl }, tt) (record { other = refl; adds = inl refl }, (record { other = refl; adds = inl refl }, tt))) (built_command league_command);
            },
            (
              record {
                named = refl;
                has = has_values [] first_word (with_help []) start_sound (all_sound [] first_word [] start_sound (record { other = refl; adds = inl refl }, tt) tt) (built_command bound_command);
              },
              tt,
            ),
          ),
        ),
      ),
    ),
  ),
)

named_help : (name : Text) → answers_to name (label_of built_help) ≡ true → bytes_eq name (codes "help") ≡ false → ⊥
named_help name answers ok = go (bytes_eq (codes "help") name) refl answers
  where
    go : (b : Bool) → bytes_eq (codes "help") name ≡ b → (b || false) ≡ true → ⊥
    go false is e = true≢false (sym e)
    go true is e =
        let same = (bytes_eq-Decides (codes "help") name).0 is in
        true≢false (subst (λ t. bytes_eq t (codes "help") ≡ false) (sym same) ok)

abbrev NamesIn : List CommandForm → Option (Text × List Row) → Type 0
NamesIn cs None = ⊥
NamesIn cs (Some found) = NamesOneOf cs found

NamesIn-more : (c : CommandForm) (cs : List CommandForm) (o : Option (Text × List Row)) → NamesIn cs o → NamesIn (c ∷ cs) o
NamesIn-more c cs None named = named
NamesIn-more c cs (Some found) named = inr named

module _ (name : Text) (words : List Text) (rows : List Row) (ok : bytes_eq name (codes "help") ≡ false) where
  abbrev is_named : Shape → Bool
  is_named s = answers_to name (label_of s)

  abbrev sub : List CommandForm → Option Shape
  sub cs = find is_named (map built_command cs ++ built_help ∷ [])

  -- where the subcommand's words are no fault, and one is needed, it is one of the commands
  abbrev IsEntered : List CommandForm → Option Shape → Type 0
  IsEntered cs s = option_map_or (λ s. level_fault s [] nothing_held words false []) s [] ≡ []
      → check_fault top rows (is_some (option_map (λ s. rows_at s words) s)) ≡ [] → NamesIn cs (option_map (λ s. rows_at s words) s)

  entered_in : (cs : List CommandForm) → AreRead cs → IsEntered cs (sub cs)
  entered_in [] read = go (is_named built_help) refl
    where
      go : (b : Bool) → is_named built_help ≡ b → IsEntered [] (cond b (Some built_help) None)
      go true is below e = named_help name is ok
      go false is below e = absurd (no_kind _ _ e)
  entered_in (c ∷ cs) read = go (is_named (built_command c)) (entered_in cs read.1)
    where
      go : (b : Bool) → IsEntered cs (sub cs) → IsEntered (c ∷ cs) (cond b (Some (built_command c)) (sub cs))
      go true rest below e = inl (read.0.named, read.0.has words below)
      go false rest below e = NamesIn-more c cs _ (rest below e)

as_named : (o : Option (Text × List Row)) → NamesIn commands o → NamesACommand o
as_named None named = named
as_named (Some found) named = named

entered_is : (stop : Option (Text × List Text)) (rows : List Row) → IsNotHelp stop → entered_fault (built program) stop ≡ []
    → check_fault top rows (is_some (entered (built program) stop)) ≡ [] → NamesACommand (entered (built program) stop)
entered_is None rows ok below e = absurd (no_kind _ _ e)
entered_is (Some p) rows ok below e =
    as_named (entered (built program) (Some p)) (entered_in p.0 p.1 rows ok commands commands_are_read below e)

pub names_a_command : (words : List Text) → fault_of program words ≡ [] → NamesACommand (subcommand_of program words)
names_a_command words e =
    let end = walk top.rules names nothing_held (argument_words program words) in
    let met = both_pass (walk_fault top names (walk_from nothing_held) (argument_words program words)) _ e in
    let below = both_pass (entered_fault (built program) end.stopped) _ met.1 in
    let rest = both_pass (settle_fault top.rules false end.held) _ below.1 in
    let last = both_pass (defaults_fault (settled top.rules end.held).rows top.rules) _ rest.1 in
    entered_is end.stopped (finished top.rules end.held)
    (walk_on (walk_from nothing_held) (argument_words program words) met.0 tt) below.0 last.1

-- each command has another name, or has these options
abbrev AreOptionsOf : Text → List OptionForm → List CommandForm → Type 0
AreOptionsOf word options [] = Unit {0}
AreOptionsOf word options (c ∷ cs) = ((bytes_eq c.name word ≡ false) ⊎ (c.options ≡ options)) × AreOptionsOf word options cs

-- so what names a command by this name has values of these options
values_of : (word : Text) (options : List OptionForm) (cs : List CommandForm) → AreOptionsOf word options cs → (found : Text × List Row)
    → NamesOneOf cs found → found.0 ≡ word → HasValues found.1 options
values_of word options [] are found named is = absurd named
values_of word options (c ∷ cs) are found (inr later) is = values_of word options cs are.1 found later is
values_of word options (c ∷ cs) are found (inl here) is = go are.0
  where
    go : (bytes_eq c.name word ≡ false) ⊎ (c.options ≡ options) → HasValues found.1 options
    go (inr same) = subst (HasValues found.1) same here.1
    go (inl other) = absurd (true≢false (sym ((bytes_eq-Decides c.name word).1 (sym here.0 ∙ is)) ∙ other))

module _ (found : Text × List Row) (named : NamesOneOf commands found) where
  pub play_values : found.0 ≡ codes "play" → HasValues found.1 play_command.options
  play_values = values_of (codes "play") play_command.options commands
      (inl refl, (inr refl, (inl refl, (inl refl, (inl refl, (inl refl, (inl refl, tt))))))) found named

  pub improve_values : found.0 ≡ codes "improve" → HasValues found.1 improve_command.options
  improve_values = values_of (codes "improve") improve_command.options commands
      (inl refl, (inl refl, (inr refl, (inl refl, (inl refl, (inl refl, (inl refl, tt))))))) found named

  pub search_values : found.0 ≡ codes "search" → HasValues found.1 search_command.options
  search_values = values_of (codes "search") search_command.options commands
      (inl refl, (inl refl, (inl refl, (inr refl, (inl refl, (inl refl, (inl refl, tt))))))) found named

  pub league_values : found.0 ≡ codes "league" → HasValues found.1 league_command.options
  league_values = values_of (codes "league") league_command.options commands
      (inl refl, (inl refl, (inl refl, (inl refl, (inl refl, (inr refl, (inl refl, tt))))))) found named

-- the subcommand that a parse met is its name and its rows
pub met_is : {Z : Type 0} (met : Option (Box SubCommand Z)) (name : Text) (rows : List Row) →
    Some name ≡ option_map (λ b. (out-SubCommand (box_value b)).name.now) met →
    Some rows ≡ option_map (λ found. found.1) (subcommand_rows met) → subcommand_rows met ≡ Some (name, rows)
met_is None name rows is_name are_rows = cc
met_is (Some b) name rows is_name are_rows =
    let same_name = ap (λ o. option_map_or (λ x. x) o name) is_name in
    let same_rows = ap (λ o. option_map_or (λ x. x) o rows) are_rows in
    rw (same_name, same_rows) refl
