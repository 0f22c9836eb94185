use Rattle.std.proofs.Common.{ap, sym, ◌∙◌}
use Rattle.jh_ast.specs.Bare.{program_tree}
use Rattle.jh_run.specs.outcome.Outcomes.{is_method_in}
use Rattle.jh_run.proofs.outcome.finding.has_method.Goals as goal

-- src/finding.rt
pub returns-in-None : goal.returns-in-None
returns-in-None c = ap (is_method_in (program_tree c.args.program.now) c.args.name.now) (sym c.in-None.is ∙ c.class_named.ensures ∙ (λ i. (c.in_ok-lookups.ensures i).class_named c.args.class.now))

-- src/finding.rt
pub returns : goal.returns
returns c = c.has_in_class.ensures ∙ ap (is_method_in (program_tree c.args.program.now) c.args.name.now) (sym c.in-Some.is ∙ c.class_named.ensures ∙ (λ i. (c.in_ok-lookups.ensures i).class_named c.args.class.now))
