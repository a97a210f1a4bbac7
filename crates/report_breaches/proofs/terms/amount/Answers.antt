use Rattle.std.proofs.Common.{◌≤◌, ◌∙◌, ap, arith}
use Rattle.rules.specs.Deviations.{over}
use Rattle.report_breaches.proofs.Amounts.{each_or_all, in_window, of_all_breaks, of_team, of_team_against_all}
use Rattle.report_breaches.proofs.terms.amount.Goals as goal

pub returns-in-Ca1 : goal.returns-in-Ca1
returns-in-Ca1 c =
    let i = c.in-Ca1 in
    rw i.is ((rw i.is at c.counted.ensures) ∙
    ap (λ n. over n i.max) (of_team_against_all c.args.schedule.now i.side i.slots i.max i.teams c.args.row))

pub returns-in-Ca2 : goal.returns-in-Ca2
returns-in-Ca2 c =
    let i = c.in-Ca2 in
    rw i.is ((rw i.is at c.counted-in-Ca2.ensures) ∙
    ap (λ n. over n i.max) (of_team c.args.schedule.now i.side i.slots i.max i.teams1 i.teams2 c.args.row))

pub returns-in-Ca3 : goal.returns-in-Ca3
returns-in-Ca3 c =
    let i = c.in-Ca3 in
    let some : 1 ≤ i.window = omega (arith, rw i.is at c.requires.body) in
    rw i.is ((rw i.is at c.counted-in-Ca3.ensures) ∙
    ap (λ n. over n i.max) (in_window c.args.schedule.now i.side 0 i.max i.teams1 i.teams2 i.window c.args.row c.args.column some))

pub returns-in-Ca4 : goal.returns-in-Ca4
returns-in-Ca4 c =
    let i = c.in-Ca4 in
    rw i.is ((rw i.is at c.counted-in-Ca4.ensures) ∙
    each_or_all c.args.schedule.now i.side i.slots i.max i.teams1 i.teams2 c.args.row c.args.column i.each
    (rw i.is at c.requires.rule))

pub returns-in-Br2 : goal.returns-in-Br2
returns-in-Br2 c =
    let i = c.in-Br2 in
    rw i.is ((rw i.is at c.counted-in-Br2.ensures) ∙
    ap (λ n. over n i.most) (of_all_breaks c.args.schedule.now i.teams i.slots i.most))
