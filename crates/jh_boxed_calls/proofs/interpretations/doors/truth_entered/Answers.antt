use Rattle.std.proofs.Common.{reverse, slice_get}
use Rattle.jh_form.specs.Bare.{formula_tree}
use Rattle.jh_arena.specs.table.Nodes.{nodes}
use Rattle.jh_boxed_calls.specs.interpretations.Interps.{interp_of}
use Rattle.jh_boxed_calls.proofs.interpretations.Entered.{truth-answer, truth-wide}
use Rattle.jh_boxed_calls.proofs.interpretations.doors.truth_entered.Goals as goal

pub returns-clause-value : goal.returns-clause-value
returns-clause-value c = truth-answer (slice_get (nodes c.enter_formula.new.table) c.in_ok-node.node) (formula_tree c.args.formula.now) (interp_of c.args.interp.now) (reverse c.args.bound.now) c.truth_listed.result c.in_ok-node.ensures.node c.truth_listed.ensures.value

pub returns-clause-wide : goal.returns-clause-wide
returns-clause-wide c = truth-wide (slice_get (nodes c.enter_formula.new.table) c.in_ok-node.node) (formula_tree c.args.formula.now) (interp_of c.args.interp.now) c.truth_listed.result c.in_ok-node.ensures.node c.truth_listed.ensures.wide
