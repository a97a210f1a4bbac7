use Rattle.std.proofs.Common.{◌+◌, ◌-◌, ◌≤◌, ◌^◌, sym, ◌∙◌, arith}
use Rattle.std.proofs.Math.Pow.{pow_mono}
use Rattle.league.specs.Limits.{max_rounds}
use Rattle.league.specs.Sets.{has}
use Rattle.rules.proofs.rows.FullWindows.{over_in_shorter, over_by_full, over_by_both}
use Rattle.rules.proofs.windows.over_in_windows_of.Goals as goal

pub full_windows-requires-clause-starts : goal.full_windows-requires-clause-starts
full_windows-requires-clause-starts c =
    let grows : 2 ^ (c.args.rounds + 1 - c.args.window) ≤ 2 ^ (max_rounds + 1 - c.args.window) = pow_mono (omega (arith, c.requires.season)) in
    omega (arith, grows, c.requires.starts)

pub full_windows-windows-requires-clause-starts : goal.full_windows-windows-requires-clause-starts
full_windows-windows-requires-clause-starts c =
    let grows : 2 ^ (c.args.rounds + 1 - c.args.window) ≤ 2 ^ (max_rounds + 1 - c.args.window) = pow_mono (omega (arith, c.requires.season)) in
    omega (arith, grows, c.requires.starts)

pub returns-in-0-clause-value : goal.returns-in-0-clause-value
returns-in-0-clause-value c =
    sym (over_in_shorter (λ s k. has c.args.set (s + k)) c.args.starts _ c.args.window c.args.most
    (omega (arith, c.from.ensures, c.saturating_sub.ensures, c.in-0.is)))

pub returns-in-1-clause-value : goal.returns-in-1-clause-value
returns-in-1-clause-value c =
    c.into.ensures ∙ c.len.ensures.among _ (c.full_windows.ensures.full_below _ c.requires.starts) ∙
    over_by_full (λ s k. has c.args.set (s + k)) c.args.starts _ c.args.window c.args.most _
    (omega (arith, c.from.ensures, c.saturating_sub.ensures, c.in-1.is))
    c.full_windows.ensures.full

pub returns-in-2-clause-value : goal.returns-in-2-clause-value
returns-in-2-clause-value c =
    omega (
      arith,
      c.from-in-2.ensures ∙ c.len-in-2.ensures.among _ (c.full_windows-windows.ensures.full_below _ c.requires.starts),
      c.from-in-2-2.ensures ∙ c.len-in-2-2.ensures.among _ (c.full_windows-windows.ensures.nearly_below _ c.requires.starts),
      over_by_both (λ s k. has c.args.set (s + k)) c.args.starts (c.args.rounds + 1 - c.args.window) c.args.window c.args.most _ _
          (omega (arith, c.from.ensures, c.saturating_sub.ensures, c.in-2.is)) c.full_windows-windows.ensures.full
          c.full_windows-windows.ensures.nearly,
    )
