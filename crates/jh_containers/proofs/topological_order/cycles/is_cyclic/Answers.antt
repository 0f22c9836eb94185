use Rattle.std.proofs.Common.{sym, ◌∙◌}
use Rattle.jh_containers.proofs.topological_order.Orderings.{any-in}
use Rattle.jh_containers.proofs.topological_order.cycles.is_cyclic.Goals as goal

-- src/cycles.rt
pub returns-then-has-clause-no : goal.returns-then-has-clause-no
returns-then-has-clause-no c = λ h. c.requires.sound c.args.thing (any-in c.args.thing c.args.order.now (sym c.has.ensures ∙ c.if-has.true))
