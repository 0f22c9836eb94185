use Rattle.jh_form.specs.Bare.{formula_tree}
use Rattle.jh_form.specs.Tree as t
use Rattle.jh_boxed_operations.specs.comparison.Unmarked.{unmarked_formula}
use Rattle.jh_arena.specs.table.Nodes.{nodes}
use Rattle.jh_open_branches.specs.Placed.{noted}
use Rattle.jh_deriv.proofs.Following.{gains-one, on-ok-two}
use Rattle.jh_deriv.proofs.replaying.add_goal.Goals as goal

pub returns-clause-gains : goal.returns-clause-gains
returns-clause-gains c =
    on-ok-two c.push.result (λ added placed. gains-one (nodes c.args.table.now) (nodes c.negated_goal.new.table) c.negated_goal.ensures.grows.nodes c.args.facts.now.facts.items c.push.new.self.facts.items (noted c.push.new.self.places) c.in_ok-node.node (t.negation (unmarked_formula (formula_tree c.args.goal.now))) c.requires.formulas c.in_ok-node.ensures.node added placed)
    c.push.ensures.added c.push.ensures.placed
