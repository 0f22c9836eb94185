use Rattle.std.proofs.Common.{reverse, slice_get}
use Rattle.jh_form.specs.Bare.{term_tree}
use Rattle.jh_arena.specs.table.Nodes.{nodes}
use Rattle.jh_boxed_calls.specs.interpretations.Interps.{interp_of}
use Rattle.jh_boxed_calls.proofs.interpretations.Entered.{object-answer, object-wide}
use Rattle.jh_boxed_calls.proofs.interpretations.doors.object_entered.Goals as goal

pub returns-clause-value : goal.returns-clause-value
returns-clause-value c = object-answer (slice_get (nodes c.enter_term.new.table) c.in_ok-node.node) (term_tree c.args.term.now) (interp_of c.args.interp.now) (reverse c.args.bound.now) c.object_listed.result c.in_ok-node.ensures.node c.object_listed.ensures.value

pub returns-clause-wide : goal.returns-clause-wide
returns-clause-wide c = object-wide (slice_get (nodes c.enter_term.new.table) c.in_ok-node.node) (term_tree c.args.term.now) (interp_of c.args.interp.now) c.object_listed.result c.in_ok-node.ensures.node c.object_listed.ensures.wide
