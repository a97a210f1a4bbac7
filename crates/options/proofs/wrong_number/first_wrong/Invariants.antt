use Rattle.std.proofs.Common.{◌≡◌, None, drop, map, option_map, string_bytes}
use Rattle.options.specs.within.WrongNumbers.{wanting_of, wrong_from}
use Rattle.options.proofs.wrong_number.first_wrong.Given as goal

-- the words that are left go on from the option that waits
abbrev pub invariant-loop-word : goal.invariant-loop-word
invariant-loop-word l = wrong_from l.command None (map string_bytes l.words)
    ≡ wrong_from l.command (option_map wanting_of l.waiting) (drop l.word-index (map string_bytes l.words))
