use Rattle.std.proofs.Common.{◌<◌, length, arith}
use Rattle.std.proofs.lemmas.Bool.Decides.{nat_tests}
use Rattle.std.proofs.lemmas.List.{drop_all}
use Rattle.text_lines.proofs.Splitting.{takes_ended_line, takes_last_line}
use Rattle.text_lines.proofs.input.next_line.Goals as goal

pub returns-then-length-whole-clause-some : goal.returns-then-length-whole-clause-some
returns-then-length-whole-clause-some c =
    let text = c.args.text.now.now in
    let some : 0 < length text = grind (arith, nat_tests, c.is_empty.ensures) in
    rw (c.rest_from.ensures, drop_all c.byte_index-length.result text (omega arith)) (takes_last_line text (omega arith) some)

pub returns-clause-some : goal.returns-clause-some
returns-clause-some c =
    let text = c.args.text.now.now in
    let within : c.byte_index-length.result < length text = omega (arith, c.byte_index-length.ensures.within) in
    rw (c.rest_from-2.ensures, c.without_carriage_return.ensures)
    (takes_ended_line text c.byte_index-length.result c.byte_index-length.ensures.index within)
