use Rattle.std.proofs.Common.{rules, ◌≡◌}
use Rattle.jh_semantics.specs.Values.{value, object_of}
use Rattle.jh_store.specs.memory.Held.{state_of}
use Rattle.jh_operands.specs.Exprs.{object_in}
use Rattle.jh_operands.specs.Faults.{TwoObjectFault}
use Rattle.jh_operands.proofs.TruthSteps.{pair_left, pair_right}
use Rattle.jh_operands.proofs.truths.two_objects.Goals as goal

-- src/truths.rt
pub returns-in_err-left-clause-fault : goal.returns-in_err-left-clause-fault
returns-in_err-left-clause-fault c first second =
    let names = c.args.memory.now.names in
    let s = state_of c.args.memory.now in
    let a = object_in names c.args.left.now in
    let b = object_in names c.args.right.now in
    let d = c.in_err-left.field-0.0 in
    let whole : TwoObjectFault a b s d = pair_left a b s d (c.in_err-left.ensures.fault first) in
    search rules

-- src/truths.rt
pub returns-in_err-right-clause-fault : goal.returns-in_err-right-clause-fault
returns-in_err-right-clause-fault c first second =
    let names = c.args.memory.now.names in
    let s = state_of c.args.memory.now in
    let a = object_in names c.args.left.now in
    let b = object_in names c.args.right.now in
    let d = c.in_err-right.field-0.0 in
    let y = c.in_ok-left.left in
    let whole : TwoObjectFault a b s d = pair_right a b s y d (c.in_ok-left.ensures.value first) (c.in_err-right.ensures.fault second) in
    search rules

-- src/truths.rt
pub returns-clause-value : goal.returns-clause-value
returns-clause-value c first second =
    let names = c.args.memory.now.names in
    let s = state_of c.args.memory.now in
    let a = object_in names c.args.left.now in
    let b = object_in names c.args.right.now in
    let one : object_of a s ≡ value c.in_ok-left.left = c.in_ok-left.ensures.value first in
    let other : object_of b s ≡ value c.in_ok-right.right = c.in_ok-right.ensures.value second in
    (search rules, search rules)
