-- What is said of a bad line.
use Rattle.std.specs.Prelude.{ℕ, List, ◌++◌, codes, if◌then◌else◌}
use Rattle.std.specs.Str.{is_utf8}
use Rattle.league_forms.specs.declared.form.Quote.{Quote}
use Rattle.league_forms.specs.Forms.{quote_of, quote_words}
use Rattle.board_texts.specs.declared.script_line.Keyword.{Keyword}
use Rattle.board_texts.specs.declared.script_line.Keyword.TheVariants as key
use Rattle.script_hints.specs.declared.cause.Cause.{Cause}
use Rattle.script_hints.specs.declared.cause.Cause.TheVariants as cause

-- the beginning of the bytes, or a question mark if they are no UTF-8
abbrev pub quote_of_bytes : List ℕ → Quote
quote_of_bytes bytes = quote_of (if is_utf8 bytes then bytes else codes "?")

-- what is wanted behind the keyword
abbrev pub arguments_words : Keyword → List ℕ
arguments_words key.Homes = codes "two teams are"
arguments_words key.Rounds = codes "two rounds are"
arguments_words key.Teams = codes "two teams are"
arguments_words key.PartRounds = codes "a team and two rounds are"
arguments_words key.PartTeams = codes "two teams and a round are"
arguments_words key.Pin = codes "a round and two teams are"
arguments_words key.Unpin = codes "a round and two teams are"
arguments_words key.Undo = codes "nothing more is"
arguments_words key.Slack = codes "one number is"

abbrev pub cause_words : Cause → List ℕ
cause_words (cause.NoLine word) =
    quote_words word ++ codes " is none of homes, rounds, teams, part-rounds, part-teams, pin, unpin, undo, slack and try"
cause_words cause.NoMove = codes "a move is wanted behind try"
cause_words (cause.NoNumber word) = quote_words word ++ codes " is no whole number of 64 bits"
cause_words (cause.Arguments keyword) = arguments_words keyword ++ codes " wanted"
cause_words cause.NoRound = codes "a number and a colon are wanted behind round"
cause_words (cause.NoColon word) = quote_words word ++ codes " has no colon behind it"
cause_words (cause.NoGame word) = quote_words word ++ codes " is no game H-A"
