use Rattle.std.proofs.Common.{rules, ◌≡◌, subst}
use Rattle.jh_semantics.specs.Values.{value, dereferenced, object_of}
use Rattle.jh_store.specs.memory.Held.{state_of}
use Rattle.jh_operands.specs.declared.exprs.ObjectExpr.{ObjectExpr}
use Rattle.jh_operands.specs.Exprs.{object_in, ObjectFits}
use Rattle.jh_operands.specs.Faults.{IsFault, Never, ObjectFault}
use Rattle.jh_operands.proofs.ObjectSteps.{null_value, this_value, name_value, receiver_fits, read_value, read_object_faults, read_null_faults}
use Rattle.jh_operands.proofs.objects.+object_value.Goals as goal

-- src/objects.rt
pub returns-in-Null-clause-value : goal.returns-in-Null-clause-value
returns-in-Null-clause-value t c fits =
    let names = c.args.memory.now.names in
    let s = state_of c.args.memory.now in
    let e = c.args.code.now in
    null_value names s e c.in-Null.is

-- src/objects.rt
pub returns-in-This-clause-value : goal.returns-in-This-clause-value
returns-in-This-clause-value t c fits =
    let names = c.args.memory.now.names in
    let s = state_of c.args.memory.now in
    let e = c.args.code.now in
    this_value names s e c.in-This.name c.object.result c.in-This.is fits c.object.ensures.value

-- src/objects.rt
pub returns-in-Name-clause-value : goal.returns-in-Name-clause-value
returns-in-Name-clause-value t c fits =
    let names = c.args.memory.now.names in
    let s = state_of c.args.memory.now in
    let e = c.args.code.now in
    name_value names s e c.in-Name.name c.object-in-Name.result c.in-Name.is fits c.object-in-Name.ensures.value

-- src/objects.rt
pub returns-in_err-object-in-Read-clause-fault : goal.returns-in_err-object-in-Read-clause-fault
returns-in_err-object-in-Read-clause-fault t c fits =
    let names = c.args.memory.now.names in
    let s = state_of c.args.memory.now in
    let e = c.args.code.now in
    let r = c.in-Read.receiver in
    let own : ObjectFits names r.value = receiver_fits names e c.in-Read.field r c.in-Read.place c.in-Read.is fits in
    let at : c.deref.result.now ≡ r.value = search rules in
    let d = c.in_err-object-in-Read.field-0.0 in
    let inner : ObjectFits names r.value → ObjectFault (object_in names r.value) s d = subst (λ (u : ObjectExpr). ObjectFits names u → ObjectFault (object_in names u) s d) at c.in_err-object-in-Read.ensures.fault in
    let whole : ObjectFault (object_in names e) s d = read_object_faults names s e c.in-Read.field r c.in-Read.place d c.in-Read.is (inner own) in
    search rules

-- src/objects.rt
pub returns-in_err-at-in-Read-clause-fault : goal.returns-in_err-at-in-Read-clause-fault
returns-in_err-at-in-Read-clause-fault t c fits =
    let names = c.args.memory.now.names in
    let s = state_of c.args.memory.now in
    let e = c.args.code.now in
    let r = c.in-Read.receiver in
    let own : ObjectFits names r.value = receiver_fits names e c.in-Read.field r c.in-Read.place c.in-Read.is fits in
    let at : c.deref.result.now ≡ r.value = search rules in
    let at-2 : c.deref-in-Read.result.now ≡ r.value = search rules in
    let a = c.in_ok-object-in-Read.object in
    let inner : ObjectFits names r.value → object_of (object_in names r.value) s ≡ value a = subst (λ (u : ObjectExpr). ObjectFits names u → object_of (object_in names u) s ≡ value a) at c.in_ok-object-in-Read.ensures.value in
    let d = c.in_err-at-in-Read.field-0.0 in
    let safe : IsFault (dereferenced (object_in names r.value) c.in-Read.place a) Never d = subst (λ (u : ObjectExpr). IsFault (dereferenced (object_in names u) c.in-Read.place a) Never d) at-2 (c.in_err-at-in-Read.ensures.fault names) in
    let whole : ObjectFault (object_in names e) s d = read_null_faults names s e c.in-Read.field r c.in-Read.place a d c.in-Read.is (inner own) safe in
    search rules

-- src/objects.rt
pub returns-in_ok-at-in-Read-clause-value : goal.returns-in_ok-at-in-Read-clause-value
returns-in_ok-at-in-Read-clause-value t c fits =
    let names = c.args.memory.now.names in
    let s = state_of c.args.memory.now in
    let e = c.args.code.now in
    let r = c.in-Read.receiver in
    let own : ObjectFits names r.value = receiver_fits names e c.in-Read.field r c.in-Read.place c.in-Read.is fits in
    let at : c.deref.result.now ≡ r.value = search rules in
    let at-2 : c.deref-in-Read.result.now ≡ r.value = search rules in
    let a = c.in_ok-object-in-Read.object in
    let inner : ObjectFits names r.value → object_of (object_in names r.value) s ≡ value a = subst (λ (u : ObjectExpr). ObjectFits names u → object_of (object_in names u) s ≡ value a) at c.in_ok-object-in-Read.ensures.value in
    let b = c.in_ok-at-in-Read.at in
    let safe : dereferenced (object_in names r.value) c.in-Read.place a ≡ value b = subst (λ (u : ObjectExpr). dereferenced (object_in names u) c.in-Read.place a ≡ value b) at-2 (c.in_ok-at-in-Read.ensures.value names) in
    read_value names s e c.in-Read.field r c.in-Read.place a b c.object_at.result c.in-Read.is fits (inner own) safe c.object_at.ensures.value
