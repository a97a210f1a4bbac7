use Rattle.std.proofs.Common.{◌≡◌, arith}
use Rattle.std.proofs.lemmas.Grind.{common_steps}
use Rattle.league.specs.contracts.rule.RuleBodyClone.TheImpl.{by_variants}
use Rattle.league.specs.declared.rule.RuleBody.{RuleBody}
use Rattle.league.specs.declared.rule.RuleBody.TheVariants.{Ca1, Ca2, Ca3, Ca4, Ga1, Br1, Br2, Se1, Fa2}
use Rattle.league.proofs.leagues.duplicate_rules.Goals as goal

same_body : (body copy : RuleBody) → by_variants body copy → copy ≡ body
same_body (Ca1 _ _ _ _) (Ca1 _ _ _ _) h = cc
same_body (Ca2 _ _ _ _ _) (Ca2 _ _ _ _ _) h = cc
same_body (Ca3 _ _ _ _ _) (Ca3 _ _ _ _ _) h = cc
same_body (Ca4 _ _ _ _ _ _) (Ca4 _ _ _ _ _ _) h = cc
same_body (Ga1 _ _ _ _) (Ga1 _ _ _ _) h = cc
same_body (Br1 _ _ _ _) (Br1 _ _ _ _) h = cc
same_body (Br2 _ _ _) (Br2 _ _ _) h = cc
same_body (Se1 _ _) (Se1 _ _) h = cc
same_body (Fa2 _ _ _) (Fa2 _ _ _) h = cc
same_body body copy h = absurd h

pub loop-rule-preserved : goal.loop-rule-preserved
loop-rule-preserved c = let same = same_body _ _ c.in_ok-clone.ensures.cases.1 in grind (arith, common_steps)
