use Rattle.std.proofs.Common.{sym, ◌∙◌}
use Rattle.std.specs.Cmp.Lexicographic.{bytes_decides}
use Rattle.sets.proofs.pairs.PairSet.is_same.Goals as goal

pub returns : goal.returns
returns c =
    let decides = bytes_decides c.self.inside.seconds c.other.inside.seconds in (
      λ yes. sym c.self.view_is ∙ decides.0 (sym c.eq.ensures ∙ yes) ∙ c.other.view_is,
      λ same. c.eq.ensures ∙ decides.1 (c.self.view_is ∙ same ∙ sym c.other.view_is),
    )
