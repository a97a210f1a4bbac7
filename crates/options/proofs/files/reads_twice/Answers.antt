use Rattle.std.proofs.Common.{◌∙◌, codes, refl}
use Rattle.clap.specs.Words.{found_of}
use Rattle.clap.proofs.WalkLemmas.{first_value-rows}
use Rattle.options.proofs.files.reads_twice.Goals as goal

pub returns : goal.returns
returns c =
    let found = found_of c.args.values.now in
    let league = c.get_str-league.ensures ∙ first_value-rows found (codes "league") in
    let second = c.get_str-second.ensures ∙ first_value-rows found (codes "second") in
    let from = c.get_str-from.ensures ∙ first_value-rows found (codes "from") in
    c.are_read_twice.ensures ∙ rw (league, second, from) refl
