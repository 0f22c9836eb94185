use Rattle.std.proofs.Common.{reverse, slice_get}
use Rattle.jh_form.specs.Bare.{set_tree}
use Rattle.jh_arena.specs.table.Nodes.{nodes}
use Rattle.jh_boxed_calls.specs.interpretations.Interps.{interp_of}
use Rattle.jh_boxed_calls.proofs.interpretations.Entered.{member-answer, member-wide}
use Rattle.jh_boxed_calls.proofs.interpretations.doors.member_entered.Goals as goal

pub returns-clause-value : goal.returns-clause-value
returns-clause-value c = member-answer (slice_get (nodes c.enter_set.new.table) c.in_ok-node.node) (set_tree c.args.set.now) (interp_of c.args.interp.now) (reverse c.args.bound.now) c.args.object c.member_listed.result c.in_ok-node.ensures.node c.member_listed.ensures.value

pub returns-clause-wide : goal.returns-clause-wide
returns-clause-wide c = member-wide (slice_get (nodes c.enter_set.new.table) c.in_ok-node.node) (set_tree c.args.set.now) (interp_of c.args.interp.now) c.member_listed.result c.in_ok-node.ensures.node c.member_listed.ensures.wide
