use Rattle.std.proofs.Common.{◌≡◌, Some, subst}
use Rattle.clap.specs.Words.{found_of, rows_of, subcommand_rows_of}
use Rattle.clap.specs.declared.parser.matches.ArgMatches.TheViews.{out-ArgMatches}
use Rattle.options.specs.within.CommandLine.{NamesACommand}
use Rattle.options.proofs.NamedCommand.{met_is}
use Rattle.options.proofs.request.request_of.Goals as goal

pub job_of-requires : goal.job_of-requires
job_of-requires c =
    let met : subcommand_rows_of c.args.matches.now ≡ Some (c.in-Some.name.now, rows_of (found_of c.in-Some.values.now)) =
    met_is (out-ArgMatches c.args.matches.now).subcommand _ _ c.in-Some.ensures.name c.in-Some.ensures.rows in
    subst NamesACommand met c.requires
