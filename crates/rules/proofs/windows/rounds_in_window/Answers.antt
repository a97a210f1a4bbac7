use Rattle.std.proofs.Common.{◌≡◌, ◌+◌, refl, ◌∙◌, arith}
use Rattle.league.specs.Sets.{has}
use Rattle.league.specs.Sums.{count_where}
use Rattle.league.proofs.ForCallers.{count_where_le}
use Rattle.rules.proofs.walks.Sets.{count_in_window}
use Rattle.rules.proofs.windows.rounds_in_window.Goals as goal

pub returns : goal.returns
returns c =
    let value : c.len.result ≡ count_where c.args.window (λ k. has c.args.rounds (c.args.first + k)) =
    c.len.ensures.among _ (c.intersection.ensures.below _ (c.difference.ensures.below _ c.below-until_end.ensures.below)) ∙
    count_in_window c.args.rounds _ c.args.first c.args.window
    (λ k. c.intersection.ensures.members k ∙
    rw (c.difference.ensures.members k, c.below-until_end.ensures.members k, c.below-past.ensures.members k) refl) in
    record {
      value = value;
      most = omega (arith, value, count_where_le c.args.window (λ k. has c.args.rounds (c.args.first + k)));
    }
