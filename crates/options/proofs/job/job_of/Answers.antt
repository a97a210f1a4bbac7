use Rattle.std.proofs.Common.{◌≡◌, codes, rules}
use Rattle.clap.specs.Words.{found_of, rows_of}
use Rattle.options.proofs.NamedCommand.{improve_values, league_values, play_values, search_values}
use Rattle.options.proofs.job.job_of.Goals as goal

pub play_of-requires : goal.play_of-requires
play_of-requires c =
    let is : c.args.name.now ≡ codes "play" = search rules in
    play_values (c.args.name.now, rows_of (found_of c.args.values.now)) c.requires is

pub improve_of-requires : goal.improve_of-requires
improve_of-requires c =
    let is : c.args.name.now ≡ codes "improve" = search rules in
    improve_values (c.args.name.now, rows_of (found_of c.args.values.now)) c.requires is

pub find_of-requires : goal.find_of-requires
find_of-requires c =
    let is : c.args.name.now ≡ codes "search" = search rules in
    search_values (c.args.name.now, rows_of (found_of c.args.values.now)) c.requires is

pub league_of-requires : goal.league_of-requires
league_of-requires c =
    let is : c.args.name.now ≡ codes "league" = search rules in
    league_values (c.args.name.now, rows_of (found_of c.args.values.now)) c.requires is
