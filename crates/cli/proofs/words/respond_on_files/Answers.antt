use Rattle.std.proofs.Common.{inr}
use Rattle.cli.proofs.words.respond_on_files.Goals as goal

pub returns : goal.returns
returns g c = inr (_, _, _, _, c.respond_on-status.ensures, c.followed.ensures)
