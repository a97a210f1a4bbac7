use Rattle.std.proofs.Common.{◌≡◌, ◌∷◌, ◌++◌, ◌∙◌, ap, sym, string_bytes, append_assoc}
use Rattle.serde_json.specs.View.{members_view}
use Rattle.league_hints.specs.Remarks.{member_remarks, remark}
use Rattle.league_hints.proofs.remarks.push_members.Goals as goal

pub loop-name-preserved : goal.loop-name-preserved
loop-name-preserved c =
    let so_far = c.loop-name.remarks.items in
    let name = string_bytes c.in-Some.name.now in
    let left = c.next.new.self in
    let here : c.loop-name.name-iterator ≡ (c.in-Some.name.now, c.in-Some.field-0-1.now) ∷ left = c.in-Some.ensures.steps in
    let added : c.push_remark.new.remarks.items
    ≡ so_far ++ remark c.args.owner name = c.in_ok-push_remark.ensures
    ∙ ap (λ n. so_far ++ remark c.args.owner n) c.as_str.ensures.value in
    c.loop-name.invariant ∙ ap (λ es. so_far ++ member_remarks c.args.owner (members_view es)) here
    ∙ sym (append_assoc so_far (remark c.args.owner name) (member_remarks c.args.owner (members_view left)))
    ∙ ap (λ t. t ++ member_remarks c.args.owner (members_view left)) (sym added)
