use Rattle.std.proofs.Common.{◌≡◌, ◌*◌, ◌≤◌, length, sym, arith}
use Rattle.std.proofs.lemmas.List.{length-take-le}
use Rattle.league.specs.Views.{texts}
use Rattle.league.proofs.Rows.{joined-table_of, length-texts, numbers_within}
use Rattle.league.proofs.leagues.League.numbers.Goals as goal

pub slice_bounds-result-end : goal.slice_bounds-result-end
slice_bounds-result-end c =
    let names = c.self.inside.names.items in
    let size : length (texts names) ≡ c.len-teams.result = omega (arith, length-texts names) in
    let numbers = c.self.inside.distances.items in
    let within : length (texts names) * length (texts names) ≤ length numbers = numbers_within _ numbers c.self.invariant.table.columns in
    let room : c.len-teams.result * c.len-teams.result ≤ length c.deref.result.now = rw (c.deref.ensures.value, ← size) within in
    sym (length-take-le (c.len-teams.result * c.len-teams.result) c.deref.result.now room)

pub returns : goal.returns
returns c =
    let names = c.self.inside.names.items in
    let size : length (texts names) ≡ c.len-teams.result = omega (arith, length-texts names) in
    let numbers = c.self.inside.distances.items in
    rw (c.deref.ensures.value, ← size, ← c.self.view_is) (sym (joined-table_of _ numbers c.self.invariant.table.columns))
