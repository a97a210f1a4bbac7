use Rattle.std.proofs.Common.{◌≡◌, ℕ, ◌+◌, ◌==◌, true, false, List, [], ◌∷◌, None, Some, arith, refl, sym, ◌∙◌}
use Rattle.std.specs.List.{ends_with}
use Rattle.std.specs.Str.Lines.{lines}
use Rattle.text_lines.specs.Input.{first_ending}
use Rattle.text_lines.proofs.input.line_ending_with.Goals as goal

ends_here : (ending : List ℕ) (n : ℕ) (line : List ℕ) (all more : List (List ℕ)) → all ≡ line ∷ more →
    true ≡ ends_with (λ a b. a == b) line ending → first_ending ending n all ≡ Some n
unfolding first_ending
ends_here ending n line all more e is = rw (e, ← is) refl

goes_on : (ending : List ℕ) (n : ℕ) (line : List ℕ) (all more : List (List ℕ)) → all ≡ line ∷ more →
    false ≡ ends_with (λ a b. a == b) line ending → first_ending ending n all ≡ first_ending ending (n + 1) more
unfolding first_ending
goes_on ending n line all more e is = rw (e, ← is) refl

none_left : (ending : List ℕ) (n : ℕ) (text : List ℕ) → text ≡ [] → first_ending ending n (lines text) ≡ None
unfolding first_ending
none_left ending n text e = rw e refl

pub returns-then-ends_with : goal.returns-then-ends_with
returns-then-ends_with c =
    sym (c.loop-line.invariant.1 ∙ ends_here _ _ _ _ _ (c.in-Some.ensures).some.lines_are (c.if-ends_with.ensures).value)

pub loop-line-preserved : goal.loop-line-preserved
loop-line-preserved c = (
  omega (arith, c.loop-line.invariant.0, (c.in-Some.ensures).some.shorter),
  c.loop-line.invariant.1 ∙ goes_on _ _ _ _ _ (c.in-Some.ensures).some.lines_are (c.if-ends_with.ensures).value,
)

pub returns : goal.returns
returns c = sym (c.loop-line.invariant.1 ∙ none_left _ _ _ (c.in_default.ensures).none)
