use Rattle.report_page.specs.Page.{top_text}
use Rattle.report_page.proofs.page.push_top.Goals as goal

pub returns : goal.returns
unfolding top_text
returns c = rw c.cost_of-cost.ensures.value at c.push_costs.ensures
