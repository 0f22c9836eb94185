use Rattle.std.proofs.Common.{subst}
use Rattle.std.specs.Prelude.{Option}
use Rattle.jh_form.specs.Tree.{FormulaTree}
use Rattle.jh_arena.specs.table.Nodes.{nodes}
use Rattle.jh_derivation_rules.specs.Rules.{negated}
use Rattle.jh_derivation_steps.specs.premises.Nodes.{Makes}
use Rattle.jh_derivation_steps.proofs.premises.opening.negated.Goals as goal

pub negation_of-requires : goal.negation_of-requires
negation_of-requires c = record { made = c.in_ok-made.ensures.made.1 }

pub returns-clause-made : goal.returns-clause-made
returns-clause-made c = subst (λ (o : Option FormulaTree). Makes (nodes c.negation_of.new.table) (negated o) c.negation_of.result) c.in_ok-made.ensures.made.0 c.negation_of.ensures.made
