use Rattle.std.proofs.Common.{sym}
use Rattle.cli.proofs.leg_log.write_line.Goals as goal

pub returns : goal.returns
returns g c =
    rw (sym c.new_line.ensures, sym c.words_of.ensures, sym c.number_or_null.ensures, sym c.number_or_null-2.ensures) c.write_pieces.ensures
