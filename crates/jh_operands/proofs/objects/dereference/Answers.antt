use Rattle.std.proofs.Common.{◌≡◌, ◌∙◌}
use Rattle.std.proofs.lemmas.Result.{IfOk-weaker, IfErr-weaker}
use Rattle.jh_semantics.specs.Values.{value, dereferenced}
use Rattle.jh_operands.specs.Exprs.{object_in}
use Rattle.jh_operands.specs.Faults.{IsFault, Never, unless_null}
use Rattle.jh_operands.proofs.ObjectSteps.{null_is, named_is, read_is, this_is, same_fault}
use Rattle.jh_operands.proofs.objects.dereference.Goals as goal

-- src/objects.rt
pub returns-in-Null-clause-value : goal.returns-in-Null-clause-value
returns-in-Null-clause-value c names =
    let e = c.args.receiver.now in
    let is = null_is names e c.args.place c.args.object c.in-Null.is in
    IfOk-weaker c.not_null.result (λ a. unless_null c.args.place c.args.object ≡ value a) (λ a. dereferenced (object_in names e) c.args.place c.args.object ≡ value a) (λ a h. is ∙ h) c.not_null.ensures.value

-- src/objects.rt
pub returns-in-Null-clause-fault : goal.returns-in-Null-clause-fault
returns-in-Null-clause-fault c names =
    let e = c.args.receiver.now in
    let is = null_is names e c.args.place c.args.object c.in-Null.is in
    IfErr-weaker c.not_null.result (IsFault (unless_null c.args.place c.args.object) Never) (IsFault (dereferenced (object_in names e) c.args.place c.args.object) Never) (λ d h. same_fault (unless_null c.args.place c.args.object) (dereferenced (object_in names e) c.args.place c.args.object) d is h) c.not_null.ensures.fault

-- src/objects.rt
pub returns-in-Name-clause-value : goal.returns-in-Name-clause-value
returns-in-Name-clause-value c names =
    let e = c.args.receiver.now in
    let is = named_is names e c.in-Name.field-0 c.args.place c.args.object c.in-Name.is in
    IfOk-weaker c.not_null-in-Name.result (λ a. unless_null c.args.place c.args.object ≡ value a) (λ a. dereferenced (object_in names e) c.args.place c.args.object ≡ value a) (λ a h. is ∙ h) c.not_null-in-Name.ensures.value

-- src/objects.rt
pub returns-in-Name-clause-fault : goal.returns-in-Name-clause-fault
returns-in-Name-clause-fault c names =
    let e = c.args.receiver.now in
    let is = named_is names e c.in-Name.field-0 c.args.place c.args.object c.in-Name.is in
    IfErr-weaker c.not_null-in-Name.result (IsFault (unless_null c.args.place c.args.object) Never) (IsFault (dereferenced (object_in names e) c.args.place c.args.object) Never) (λ d h. same_fault (unless_null c.args.place c.args.object) (dereferenced (object_in names e) c.args.place c.args.object) d is h) c.not_null-in-Name.ensures.fault

-- src/objects.rt
pub returns-in-Read-clause-value : goal.returns-in-Read-clause-value
returns-in-Read-clause-value c names =
    let e = c.args.receiver.now in
    let is = read_is names e c.in-Read.field-0 c.in-Read.field-1 c.in-Read.field-2 c.args.place c.args.object c.in-Read.is in
    IfOk-weaker c.not_null-in-Read.result (λ a. unless_null c.args.place c.args.object ≡ value a) (λ a. dereferenced (object_in names e) c.args.place c.args.object ≡ value a) (λ a h. is ∙ h) c.not_null-in-Read.ensures.value

-- src/objects.rt
pub returns-in-Read-clause-fault : goal.returns-in-Read-clause-fault
returns-in-Read-clause-fault c names =
    let e = c.args.receiver.now in
    let is = read_is names e c.in-Read.field-0 c.in-Read.field-1 c.in-Read.field-2 c.args.place c.args.object c.in-Read.is in
    IfErr-weaker c.not_null-in-Read.result (IsFault (unless_null c.args.place c.args.object) Never) (IsFault (dereferenced (object_in names e) c.args.place c.args.object) Never) (λ d h. same_fault (unless_null c.args.place c.args.object) (dereferenced (object_in names e) c.args.place c.args.object) d is h) c.not_null-in-Read.ensures.fault

-- src/objects.rt
pub returns-in-This-clause-value : goal.returns-in-This-clause-value
returns-in-This-clause-value c names = this_is names c.args.receiver.now c.in-This.field-0 c.args.place c.args.object c.in-This.is
