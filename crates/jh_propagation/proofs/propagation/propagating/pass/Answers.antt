use Rattle.jh_propagation.proofs.propagation.Longer.{more-on, passed-on}
use Rattle.jh_propagation.proofs.propagation.Resting.{none-so, rest-told}
use Rattle.jh_propagation.proofs.propagation.propagating.pass.Goals as goal

pub returns-then-branch : goal.returns-then-branch
returns-then-branch c = (passed-on c.args.problem.now c.args.branch.now c.settle.new.branch c.tell.new.branch c.is_fixed.new.branch c.in_ok-place.ensures.classes c.in_ok-place.ensures.decisions c.in_ok-place.ensures.longer c.in_ok-place.ensures.count c.tell.ensures.table c.tell.ensures.decisions c.tell.ensures.trail c.tell.ensures.reasons c.in_ok-is_fixed.ensures.goes, c.in_ok-is_fixed.ensures.fixed c.if-branch.true)

pub returns-else-branch : goal.returns-else-branch
returns-else-branch c = (passed-on c.args.problem.now c.args.branch.now c.settle.new.branch c.tell.new.branch c.is_fixed.new.branch c.in_ok-place.ensures.classes c.in_ok-place.ensures.decisions c.in_ok-place.ensures.longer c.in_ok-place.ensures.count c.tell.ensures.table c.tell.ensures.decisions c.tell.ensures.trail c.tell.ensures.reasons c.in_ok-is_fixed.ensures.goes, more-on c.args.problem.now c.args.branch.now c.settle.new.branch c.tell.new.branch c.is_fixed.new.branch c.in_ok-place.ensures.classes c.in_ok-place.ensures.decisions c.in_ok-place.ensures.longer c.in_ok-place.ensures.count c.tell.ensures.table c.tell.ensures.decisions c.tell.ensures.trail c.tell.ensures.reasons c.in_ok-is_fixed.ensures.goes (c.in_ok-is_fixed.ensures.more c.if-branch.false))

pub is_fixed-requires-clause-quiet : goal.is_fixed-requires-clause-quiet
is_fixed-requires-clause-quiet c is =
    rest-told c.args.problem.now c.args.branch.now c.settle.new.branch c.tell.new.branch c.len-known.result c.in_ok-place.ensures.classes c.in_ok-place.ensures.longer c.tell.ensures.table c.tell.ensures.trail c.len-known.ensures
    (none-so c.in_ok-places.field-0 c.in_default-2.is c.in_ok-places.ensures.grows)
    (c.is_quiet-quiet.ensures.enough is) (c.requires.rested (c.is_quiet-quiet.ensures.rested is))
