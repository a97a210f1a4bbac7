use Rattle.std.proofs.Common.{◌≡◌, take}
use Rattle.league.specs.Views.{texts}
use Rattle.league.proofs.text_lists.duplicate_texts.Given as goal

abbrev pub invariant-loop-text : goal.invariant-loop-text
invariant-loop-text l = texts l.copy.items ≡ texts (take l.text-index l.list)
