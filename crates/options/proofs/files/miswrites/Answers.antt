use Rattle.std.proofs.Common.{◌∙◌, codes, refl}
use Rattle.clap.specs.Words.{found_of}
use Rattle.clap.proofs.WalkLemmas.{first_value-rows}
use Rattle.options.proofs.files.miswrites.Goals as goal

pub returns : goal.returns
returns c =
    let found = found_of c.args.values.now in
    let league = c.get_str-league.ensures ∙ first_value-rows found (codes "league") in
    let from = c.get_str-from.ensures ∙ first_value-rows found (codes "from") in
    let output = c.get_str-output.ensures ∙ first_value-rows found (codes "output") in
    let log = c.get_str-log.ensures ∙ first_value-rows found (codes "log") in
    c.are_miswritten.ensures ∙ rw (league, from, output, log) refl
