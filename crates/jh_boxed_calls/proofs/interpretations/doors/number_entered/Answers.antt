use Rattle.std.proofs.Common.{reverse, slice_get}
use Rattle.jh_form.specs.Bare.{int_tree}
use Rattle.jh_arena.specs.table.Nodes.{nodes}
use Rattle.jh_boxed_calls.specs.interpretations.Interps.{interp_of}
use Rattle.jh_boxed_calls.proofs.interpretations.Entered.{number-answer, number-wide}
use Rattle.jh_boxed_calls.proofs.interpretations.doors.number_entered.Goals as goal

pub returns-clause-value : goal.returns-clause-value
returns-clause-value c = number-answer (slice_get (nodes c.enter_int.new.table) c.in_ok-node.node) (int_tree c.args.term.now) (interp_of c.args.interp.now) (reverse c.args.bound.now) c.number_listed.result c.in_ok-node.ensures.node c.number_listed.ensures.value

pub returns-clause-wide : goal.returns-clause-wide
returns-clause-wide c = number-wide (slice_get (nodes c.enter_int.new.table) c.in_ok-node.node) (int_tree c.args.term.now) (interp_of c.args.interp.now) c.number_listed.result c.in_ok-node.ensures.node c.number_listed.ensures.wide
