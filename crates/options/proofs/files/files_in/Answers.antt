use Rattle.std.proofs.Common.{◌∙◌, codes, refl}
use Rattle.clap.specs.Words.{found_of}
use Rattle.clap.proofs.WalkLemmas.{first_value-rows}
use Rattle.options.proofs.files.files_in.Goals as goal

pub returns : goal.returns
returns c =
    let found = found_of c.args.values.now in
    let league = c.in_ok-league.ensures ∙ c.get_str.ensures ∙ first_value-rows found (codes "league") in
    let second = c.in_ok-second.ensures ∙ c.get_str-2.ensures ∙ first_value-rows found (codes "second") in
    let from = c.in_ok-from.ensures ∙ c.get_str-3.ensures ∙ first_value-rows found (codes "from") in
    let output = c.in_ok-output.ensures ∙ c.get_str-4.ensures ∙ first_value-rows found (codes "output") in
    let log = c.in_ok-log.ensures ∙ c.get_str-5.ensures ∙ first_value-rows found (codes "log") in
    rw (league, second, from, output, log) refl
