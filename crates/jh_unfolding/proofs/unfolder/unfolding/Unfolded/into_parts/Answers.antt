use Rattle.std.proofs.Common.{sym, ◌∙◌}
use Rattle.jh_unfolding.proofs.unfolder.unfolding.Unfolded.into_parts.Goals as goal

-- src/unfolding.rt
pub returns-clause-inside : goal.returns-clause-inside
returns-clause-inside c = λ n k e. c.self.invariant.inside n k (sym (c.in_ok-formulas.ensures n) ∙ e)
