use Rattle.std.proofs.Common.{rules, ◌≡◌}
use Rattle.jh_semantics.specs.Values.{value, value_of}
use Rattle.jh_store.specs.memory.Held.{state_of}
use Rattle.jh_operands.specs.Exprs.{any_in}
use Rattle.jh_operands.specs.Faults.{AnyFault}
use Rattle.jh_operands.specs.declared.values.Scalar.TheVariants as v
use Rattle.jh_operands.specs.Scalars.{datum_of, IsInside}
use Rattle.jh_operands.proofs.ValueSteps.{any_object_value, any_object_fault, any_number_value, any_number_fault, any_truth_value, any_truth_fault}
use Rattle.jh_operands.proofs.values.any_value.Goals as goal

-- src/values.rt
pub returns-in_err-object-in-Object-clause-fault : goal.returns-in_err-object-in-Object-clause-fault
returns-in_err-object-in-Object-clause-fault c fits =
    let names = c.args.memory.now.names in
    let s = state_of c.args.memory.now in
    let e = c.args.code.now in
    let d = c.in_err-object-in-Object.field-0.0 in
    let whole : AnyFault (any_in names e) s d = any_object_fault names s e c.in-Object.code d c.in-Object.is fits c.in_err-object-in-Object.ensures.fault in
    search rules

-- src/values.rt
pub returns-in_ok-object-in-Object-clause-value : goal.returns-in_ok-object-in-Object-clause-value
returns-in_ok-object-in-Object-clause-value c fits =
    let names = c.args.memory.now.names in
    let s = state_of c.args.memory.now in
    let e = c.args.code.now in
    let whole : value_of (any_in names e) s ≡ value (datum_of (v.Object c.in_ok-object-in-Object.object)) = any_object_value names s e c.in-Object.code c.in_ok-object-in-Object.object c.in-Object.is fits c.in_ok-object-in-Object.ensures.value in
    search rules

-- src/values.rt
pub returns-in_err-number-in-Number-clause-fault : goal.returns-in_err-number-in-Number-clause-fault
returns-in_err-number-in-Number-clause-fault c fits =
    let names = c.args.memory.now.names in
    let s = state_of c.args.memory.now in
    let e = c.args.code.now in
    let d = c.in_err-number-in-Number.field-0.0 in
    let whole : AnyFault (any_in names e) s d = any_number_fault names s e c.in-Number.code d c.in-Number.is fits c.in_err-number-in-Number.ensures.fault in
    search rules

-- src/values.rt
pub returns-in_ok-number-in-Number-clause-value : goal.returns-in_ok-number-in-Number-clause-value
returns-in_ok-number-in-Number-clause-value c fits =
    let names = c.args.memory.now.names in
    let s = state_of c.args.memory.now in
    let e = c.args.code.now in
    let whole : value_of (any_in names e) s ≡ value (datum_of (v.Number c.in_ok-number-in-Number.number)) = any_number_value names s e c.in-Number.code c.in_ok-number-in-Number.number c.in-Number.is fits c.in_ok-number-in-Number.ensures.value in
    search rules

-- src/values.rt
pub returns-in_err-truth-in-Truth-clause-fault : goal.returns-in_err-truth-in-Truth-clause-fault
returns-in_err-truth-in-Truth-clause-fault c fits =
    let names = c.args.memory.now.names in
    let s = state_of c.args.memory.now in
    let e = c.args.code.now in
    let d = c.in_err-truth-in-Truth.field-0.0 in
    let whole : AnyFault (any_in names e) s d = any_truth_fault names s e c.in-Truth.code d c.in-Truth.is fits c.in_err-truth-in-Truth.ensures.fault in
    search rules

-- src/values.rt
pub returns-in_ok-truth-in-Truth-clause-value : goal.returns-in_ok-truth-in-Truth-clause-value
returns-in_ok-truth-in-Truth-clause-value c fits =
    let names = c.args.memory.now.names in
    let s = state_of c.args.memory.now in
    let e = c.args.code.now in
    let whole : value_of (any_in names e) s ≡ value (datum_of (v.Truth c.in_ok-truth-in-Truth.truth)) = any_truth_value names s e c.in-Truth.code c.in_ok-truth-in-Truth.truth c.in-Truth.is fits c.in_ok-truth-in-Truth.ensures.value in
    search rules

-- src/values.rt
pub returns-in_ok-object-in-Object-clause-inside : goal.returns-in_ok-object-in-Object-clause-inside
unfolding IsInside
returns-in_ok-object-in-Object-clause-inside c = c.in_ok-object-in-Object.ensures.inside

-- src/values.rt
pub returns-in_ok-number-in-Number-clause-inside : goal.returns-in_ok-number-in-Number-clause-inside
unfolding IsInside
returns-in_ok-number-in-Number-clause-inside c = tt

-- src/values.rt
pub returns-in_ok-truth-in-Truth-clause-inside : goal.returns-in_ok-truth-in-Truth-clause-inside
unfolding IsInside
returns-in_ok-truth-in-Truth-clause-inside c = tt
