use Rattle.std.proofs.Common.{rules, ◌≡◌, sym, ap, subst, ◌∙◌, true, false, not, ◌==◌, int_lt, int_le, IfOk, IfErr}
use Rattle.std.proofs.lemmas.Result.{IfOk-weaker, IfErr-weaker}
use Rattle.std.specs.Ordering.{int_eq}
use Rattle.jh_semantics.specs.Values.{value, truth_of}
use Rattle.jh_store.specs.memory.Held.{state_of}
use Rattle.jh_operands.specs.declared.exprs.TruthExpr.{TruthExpr}
use Rattle.jh_operands.specs.Exprs.{truth_in, TruthFits}
use Rattle.jh_operands.specs.Faults.{TruthFault}
use Rattle.jh_operands.proofs.TruthSteps.{literal_value, truth_name_value, truth_read_value, truth_read_fault, not_value, not_inner, and_decided, and_value, and_left, and_right, and_right_fits, or_decided, or_value, or_left, or_right, or_right_fits, same_value, same_left, same_right, same_object_value, same_object_fault, same_number_value, same_number_fault, less_value, less_fault, less_equal_value, less_equal_fault, greater_value, greater_fault, greater_equal_value, greater_equal_fault}
use Rattle.jh_operands.proofs.truths.+truth_value.Goals as goal

-- src/truths.rt
pub returns-in-Literal-clause-value : goal.returns-in-Literal-clause-value
returns-in-Literal-clause-value t c fits =
    let names = c.args.memory.now.names in
    let s = state_of c.args.memory.now in
    let e = c.args.code.now in
    literal_value names s e c.in-Literal.is_true c.in-Literal.is

-- src/truths.rt
pub returns-in-Name-clause-value : goal.returns-in-Name-clause-value
returns-in-Name-clause-value t c fits =
    let names = c.args.memory.now.names in
    let s = state_of c.args.memory.now in
    let e = c.args.code.now in
    truth_name_value names s e c.in-Name.name c.truth.result c.in-Name.is fits c.truth.ensures

-- src/truths.rt
pub returns-in_err-at-in-Read-clause-fault : goal.returns-in_err-at-in-Read-clause-fault
returns-in_err-at-in-Read-clause-fault t c fits =
    let names = c.args.memory.now.names in
    let s = state_of c.args.memory.now in
    let e = c.args.code.now in
    let d = c.in_err-at-in-Read.field-0.0 in
    let whole : TruthFault (truth_in names e) s d = truth_read_fault names s e c.in-Read.field c.in-Read.receiver c.in-Read.place d c.in-Read.is fits c.in_err-at-in-Read.ensures.fault in
    search rules

-- src/truths.rt
pub returns-in_ok-at-in-Read-clause-value : goal.returns-in_ok-at-in-Read-clause-value
returns-in_ok-at-in-Read-clause-value t c fits =
    let names = c.args.memory.now.names in
    let s = state_of c.args.memory.now in
    let e = c.args.code.now in
    truth_read_value names s e c.in-Read.field c.in-Read.receiver c.in-Read.place c.in_ok-at-in-Read.at c.truth_at.result c.in-Read.is fits c.in_ok-at-in-Read.ensures.value c.truth_at.ensures

-- src/truths.rt
pub returns-in_err-inner-in-Not-clause-fault : goal.returns-in_err-inner-in-Not-clause-fault
returns-in_err-inner-in-Not-clause-fault t c fits =
    let names = c.args.memory.now.names in
    let s = state_of c.args.memory.now in
    let e = c.args.code.now in
    let d = c.in_err-inner-in-Not.field-0.0 in
    let at-inner : c.deref.result.now ≡ c.in-Not.inner.value = search rules in
    let inner : TruthFits names c.in-Not.inner.value → TruthFault (truth_in names c.in-Not.inner.value) s d = subst (λ (u : TruthExpr). TruthFits names u → TruthFault (truth_in names u) s d) at-inner c.in_err-inner-in-Not.ensures.fault in
    let whole : TruthFault (truth_in names e) s d = not_inner names s e c.in-Not.inner d c.in-Not.is fits inner in
    search rules

-- src/truths.rt
pub returns-in_ok-inner-in-Not-clause-value : goal.returns-in_ok-inner-in-Not-clause-value
returns-in_ok-inner-in-Not-clause-value t c fits =
    let names = c.args.memory.now.names in
    let s = state_of c.args.memory.now in
    let e = c.args.code.now in
    let y = c.in_ok-inner-in-Not.inner in
    let at-inner : c.deref.result.now ≡ c.in-Not.inner.value = search rules in
    let inner : TruthFits names c.in-Not.inner.value → truth_of (truth_in names c.in-Not.inner.value) s ≡ value y = subst (λ (u : TruthExpr). TruthFits names u → truth_of (truth_in names u) s ≡ value y) at-inner c.in_ok-inner-in-Not.ensures.value in
    let whole : truth_of (truth_in names e) s ≡ value (not y) = not_value names s e c.in-Not.inner y c.in-Not.is fits inner in
    search rules

-- src/truths.rt
pub returns-in_err-left-in-And-clause-fault : goal.returns-in_err-left-in-And-clause-fault
returns-in_err-left-in-And-clause-fault t c fits =
    let names = c.args.memory.now.names in
    let s = state_of c.args.memory.now in
    let e = c.args.code.now in
    let d = c.in_err-left-in-And.field-0.0 in
    let at-left : c.deref-in-And.result.now ≡ c.in-And.left.value = search rules in
    let left : TruthFits names c.in-And.left.value → TruthFault (truth_in names c.in-And.left.value) s d = subst (λ (u : TruthExpr). TruthFits names u → TruthFault (truth_in names u) s d) at-left c.in_err-left-in-And.ensures.fault in
    let whole : TruthFault (truth_in names e) s d = and_left names s e c.in-And.left c.in-And.right d c.in-And.is fits left in
    search rules

-- src/truths.rt
pub returns-else-left-clause-value : goal.returns-else-left-clause-value
returns-else-left-clause-value t c fits =
    let names = c.args.memory.now.names in
    let s = state_of c.args.memory.now in
    let e = c.args.code.now in
    let y = c.in_ok-left-in-And.left in
    let at-left : c.deref-in-And.result.now ≡ c.in-And.left.value = search rules in
    let left : TruthFits names c.in-And.left.value → truth_of (truth_in names c.in-And.left.value) s ≡ value y = subst (λ (u : TruthExpr). TruthFits names u → truth_of (truth_in names u) s ≡ value y) at-left c.in_ok-left-in-And.ensures.value in
    let no : y ≡ false = search rules in
    and_decided names s e c.in-And.left c.in-And.right y c.in-And.is fits left no

-- src/truths.rt
pub returns-then-left-clause-value : goal.returns-then-left-clause-value
returns-then-left-clause-value t c fits =
    let names = c.args.memory.now.names in
    let s = state_of c.args.memory.now in
    let e = c.args.code.now in
    let y = c.in_ok-left-in-And.left in
    let at-left : c.deref-in-And.result.now ≡ c.in-And.left.value = search rules in
    let left : TruthFits names c.in-And.left.value → truth_of (truth_in names c.in-And.left.value) s ≡ value y = subst (λ (u : TruthExpr). TruthFits names u → truth_of (truth_in names u) s ≡ value y) at-left c.in_ok-left-in-And.ensures.value in
    let yes : y ≡ true = search rules in
    let at-right : c.deref-then-left.result.now ≡ c.in-And.right.value = search rules in
    let right : TruthFits names c.in-And.right.value → IfOk c.truth_value-then-left.result (λ z. truth_of (truth_in names c.in-And.right.value) s ≡ value z) = subst (λ (u : TruthExpr). TruthFits names u → IfOk c.truth_value-then-left.result (λ z. truth_of (truth_in names u) s ≡ value z)) at-right c.truth_value-then-left.ensures.value in
    IfOk-weaker c.truth_value-then-left.result (λ z. truth_of (truth_in names c.in-And.right.value) s ≡ value z) (λ z. truth_of (truth_in names e) s ≡ value z) (λ z h. and_value names s e c.in-And.left c.in-And.right y z c.in-And.is fits left yes (λ own. h)) (right (and_right_fits names s e c.in-And.left c.in-And.right c.in-And.is fits))

-- src/truths.rt
pub returns-then-left-clause-fault : goal.returns-then-left-clause-fault
returns-then-left-clause-fault t c fits =
    let names = c.args.memory.now.names in
    let s = state_of c.args.memory.now in
    let e = c.args.code.now in
    let y = c.in_ok-left-in-And.left in
    let at-left : c.deref-in-And.result.now ≡ c.in-And.left.value = search rules in
    let left : TruthFits names c.in-And.left.value → truth_of (truth_in names c.in-And.left.value) s ≡ value y = subst (λ (u : TruthExpr). TruthFits names u → truth_of (truth_in names u) s ≡ value y) at-left c.in_ok-left-in-And.ensures.value in
    let yes : y ≡ true = search rules in
    let at-right : c.deref-then-left.result.now ≡ c.in-And.right.value = search rules in
    let right : TruthFits names c.in-And.right.value → IfErr c.truth_value-then-left.result (TruthFault (truth_in names c.in-And.right.value) s) = subst (λ (u : TruthExpr). TruthFits names u → IfErr c.truth_value-then-left.result (TruthFault (truth_in names u) s)) at-right c.truth_value-then-left.ensures.fault in
    IfErr-weaker c.truth_value-then-left.result (TruthFault (truth_in names c.in-And.right.value) s) (TruthFault (truth_in names e) s) (λ d h. and_right names s e c.in-And.left c.in-And.right y d c.in-And.is fits left yes (λ own. h)) (right (and_right_fits names s e c.in-And.left c.in-And.right c.in-And.is fits))

-- src/truths.rt
pub returns-in_err-left-in-Or-clause-fault : goal.returns-in_err-left-in-Or-clause-fault
returns-in_err-left-in-Or-clause-fault t c fits =
    let names = c.args.memory.now.names in
    let s = state_of c.args.memory.now in
    let e = c.args.code.now in
    let d = c.in_err-left-in-Or.field-0.0 in
    let at-left : c.deref-in-Or.result.now ≡ c.in-Or.left.value = search rules in
    let left : TruthFits names c.in-Or.left.value → TruthFault (truth_in names c.in-Or.left.value) s d = subst (λ (u : TruthExpr). TruthFits names u → TruthFault (truth_in names u) s d) at-left c.in_err-left-in-Or.ensures.fault in
    let whole : TruthFault (truth_in names e) s d = or_left names s e c.in-Or.left c.in-Or.right d c.in-Or.is fits left in
    search rules

-- src/truths.rt
pub returns-then-left-2-clause-value : goal.returns-then-left-2-clause-value
returns-then-left-2-clause-value t c fits =
    let names = c.args.memory.now.names in
    let s = state_of c.args.memory.now in
    let e = c.args.code.now in
    let y = c.in_ok-left-in-Or.left in
    let at-left : c.deref-in-Or.result.now ≡ c.in-Or.left.value = search rules in
    let left : TruthFits names c.in-Or.left.value → truth_of (truth_in names c.in-Or.left.value) s ≡ value y = subst (λ (u : TruthExpr). TruthFits names u → truth_of (truth_in names u) s ≡ value y) at-left c.in_ok-left-in-Or.ensures.value in
    let no : y ≡ true = search rules in
    or_decided names s e c.in-Or.left c.in-Or.right y c.in-Or.is fits left no

-- src/truths.rt
pub returns-else-left-2-clause-value : goal.returns-else-left-2-clause-value
returns-else-left-2-clause-value t c fits =
    let names = c.args.memory.now.names in
    let s = state_of c.args.memory.now in
    let e = c.args.code.now in
    let y = c.in_ok-left-in-Or.left in
    let at-left : c.deref-in-Or.result.now ≡ c.in-Or.left.value = search rules in
    let left : TruthFits names c.in-Or.left.value → truth_of (truth_in names c.in-Or.left.value) s ≡ value y = subst (λ (u : TruthExpr). TruthFits names u → truth_of (truth_in names u) s ≡ value y) at-left c.in_ok-left-in-Or.ensures.value in
    let yes : y ≡ false = search rules in
    let at-right : c.deref-else-left-2.result.now ≡ c.in-Or.right.value = search rules in
    let right : TruthFits names c.in-Or.right.value → IfOk c.truth_value-else-left-2.result (λ z. truth_of (truth_in names c.in-Or.right.value) s ≡ value z) = subst (λ (u : TruthExpr). TruthFits names u → IfOk c.truth_value-else-left-2.result (λ z. truth_of (truth_in names u) s ≡ value z)) at-right c.truth_value-else-left-2.ensures.value in
    IfOk-weaker c.truth_value-else-left-2.result (λ z. truth_of (truth_in names c.in-Or.right.value) s ≡ value z) (λ z. truth_of (truth_in names e) s ≡ value z) (λ z h. or_value names s e c.in-Or.left c.in-Or.right y z c.in-Or.is fits left yes (λ own. h)) (right (or_right_fits names s e c.in-Or.left c.in-Or.right c.in-Or.is fits))

-- src/truths.rt
pub returns-else-left-2-clause-fault : goal.returns-else-left-2-clause-fault
returns-else-left-2-clause-fault t c fits =
    let names = c.args.memory.now.names in
    let s = state_of c.args.memory.now in
    let e = c.args.code.now in
    let y = c.in_ok-left-in-Or.left in
    let at-left : c.deref-in-Or.result.now ≡ c.in-Or.left.value = search rules in
    let left : TruthFits names c.in-Or.left.value → truth_of (truth_in names c.in-Or.left.value) s ≡ value y = subst (λ (u : TruthExpr). TruthFits names u → truth_of (truth_in names u) s ≡ value y) at-left c.in_ok-left-in-Or.ensures.value in
    let yes : y ≡ false = search rules in
    let at-right : c.deref-else-left-2.result.now ≡ c.in-Or.right.value = search rules in
    let right : TruthFits names c.in-Or.right.value → IfErr c.truth_value-else-left-2.result (TruthFault (truth_in names c.in-Or.right.value) s) = subst (λ (u : TruthExpr). TruthFits names u → IfErr c.truth_value-else-left-2.result (TruthFault (truth_in names u) s)) at-right c.truth_value-else-left-2.ensures.fault in
    IfErr-weaker c.truth_value-else-left-2.result (TruthFault (truth_in names c.in-Or.right.value) s) (TruthFault (truth_in names e) s) (λ d h. or_right names s e c.in-Or.left c.in-Or.right y d c.in-Or.is fits left yes (λ own. h)) (right (or_right_fits names s e c.in-Or.left c.in-Or.right c.in-Or.is fits))

-- src/truths.rt
pub returns-in_err-left-in-SameTruth-clause-fault : goal.returns-in_err-left-in-SameTruth-clause-fault
returns-in_err-left-in-SameTruth-clause-fault t c fits =
    let names = c.args.memory.now.names in
    let s = state_of c.args.memory.now in
    let e = c.args.code.now in
    let d = c.in_err-left-in-SameTruth.field-0.0 in
    let at-left : c.deref-in-SameTruth.result.now ≡ c.in-SameTruth.left.value = search rules in
    let left : TruthFits names c.in-SameTruth.left.value → TruthFault (truth_in names c.in-SameTruth.left.value) s d = subst (λ (u : TruthExpr). TruthFits names u → TruthFault (truth_in names u) s d) at-left c.in_err-left-in-SameTruth.ensures.fault in
    let whole : TruthFault (truth_in names e) s d = same_left names s e c.in-SameTruth.left c.in-SameTruth.right d c.in-SameTruth.is fits left in
    search rules

-- src/truths.rt
pub returns-in_err-right-in-SameTruth-clause-fault : goal.returns-in_err-right-in-SameTruth-clause-fault
returns-in_err-right-in-SameTruth-clause-fault t c fits =
    let names = c.args.memory.now.names in
    let s = state_of c.args.memory.now in
    let e = c.args.code.now in
    let d = c.in_err-right-in-SameTruth.field-0.0 in
    let y = c.in_ok-left-in-SameTruth.left in
    let at-left : c.deref-in-SameTruth.result.now ≡ c.in-SameTruth.left.value = search rules in
    let left : TruthFits names c.in-SameTruth.left.value → truth_of (truth_in names c.in-SameTruth.left.value) s ≡ value y = subst (λ (u : TruthExpr). TruthFits names u → truth_of (truth_in names u) s ≡ value y) at-left c.in_ok-left-in-SameTruth.ensures.value in
    let at-right : c.deref-in-SameTruth-2.result.now ≡ c.in-SameTruth.right.value = search rules in
    let right : TruthFits names c.in-SameTruth.right.value → TruthFault (truth_in names c.in-SameTruth.right.value) s d = subst (λ (u : TruthExpr). TruthFits names u → TruthFault (truth_in names u) s d) at-right c.in_err-right-in-SameTruth.ensures.fault in
    let whole : TruthFault (truth_in names e) s d = same_right names s e c.in-SameTruth.left c.in-SameTruth.right y d c.in-SameTruth.is fits left right in
    search rules

-- src/truths.rt
pub returns-in_ok-right-in-SameTruth-clause-value : goal.returns-in_ok-right-in-SameTruth-clause-value
returns-in_ok-right-in-SameTruth-clause-value t c fits =
    let names = c.args.memory.now.names in
    let s = state_of c.args.memory.now in
    let e = c.args.code.now in
    let y = c.in_ok-left-in-SameTruth.left in
    let z = c.in_ok-right-in-SameTruth.right in
    let at-left : c.deref-in-SameTruth.result.now ≡ c.in-SameTruth.left.value = search rules in
    let left : TruthFits names c.in-SameTruth.left.value → truth_of (truth_in names c.in-SameTruth.left.value) s ≡ value y = subst (λ (u : TruthExpr). TruthFits names u → truth_of (truth_in names u) s ≡ value y) at-left c.in_ok-left-in-SameTruth.ensures.value in
    let at-right : c.deref-in-SameTruth-2.result.now ≡ c.in-SameTruth.right.value = search rules in
    let right : TruthFits names c.in-SameTruth.right.value → truth_of (truth_in names c.in-SameTruth.right.value) s ≡ value z = subst (λ (u : TruthExpr). TruthFits names u → truth_of (truth_in names u) s ≡ value z) at-right c.in_ok-right-in-SameTruth.ensures.value in
    same_value names s e c.in-SameTruth.left c.in-SameTruth.right y z c.in-SameTruth.is fits left right ∙ ap value (sym c.agree.ensures)

-- src/truths.rt
pub returns-in_err-left-in-SameObject-clause-fault : goal.returns-in_err-left-in-SameObject-clause-fault
returns-in_err-left-in-SameObject-clause-fault t c fits =
    let names = c.args.memory.now.names in
    let s = state_of c.args.memory.now in
    let e = c.args.code.now in
    let d = c.in_err-left-in-SameObject.field-0.0 in
    let whole : TruthFault (truth_in names e) s d = same_object_fault names s e c.in-SameObject.left c.in-SameObject.right d c.in-SameObject.is fits c.in_err-left-in-SameObject.ensures.fault in
    search rules

-- src/truths.rt
pub returns-in_ok-left-in-SameObject-clause-value : goal.returns-in_ok-left-in-SameObject-clause-value
returns-in_ok-left-in-SameObject-clause-value t c fits =
    let names = c.args.memory.now.names in
    let s = state_of c.args.memory.now in
    let e = c.args.code.now in
    let y = c.in_ok-left-in-SameObject.left in
    let z = c.in_ok-left-in-SameObject.right in
    let whole : truth_of (truth_in names e) s ≡ value (y == z) = same_object_value names s e c.in-SameObject.left c.in-SameObject.right y z c.in-SameObject.is fits c.in_ok-left-in-SameObject.ensures.value in
    search rules

-- src/truths.rt
pub returns-in_err-left-in-SameNumber-clause-fault : goal.returns-in_err-left-in-SameNumber-clause-fault
returns-in_err-left-in-SameNumber-clause-fault t c fits =
    let names = c.args.memory.now.names in
    let s = state_of c.args.memory.now in
    let e = c.args.code.now in
    let d = c.in_err-left-in-SameNumber.field-0.0 in
    let whole : TruthFault (truth_in names e) s d = same_number_fault names s e c.in-SameNumber.left c.in-SameNumber.right d c.in-SameNumber.is fits c.in_err-left-in-SameNumber.ensures.fault in
    search rules

-- src/truths.rt
pub returns-in_ok-left-in-SameNumber-clause-value : goal.returns-in_ok-left-in-SameNumber-clause-value
returns-in_ok-left-in-SameNumber-clause-value t c fits =
    let names = c.args.memory.now.names in
    let s = state_of c.args.memory.now in
    let e = c.args.code.now in
    let y = c.in_ok-left-in-SameNumber.left in
    let z = c.in_ok-left-in-SameNumber.right in
    let whole : truth_of (truth_in names e) s ≡ value (int_eq y z) = same_number_value names s e c.in-SameNumber.left c.in-SameNumber.right y z c.in-SameNumber.is fits c.in_ok-left-in-SameNumber.ensures.value in
    search rules

-- src/truths.rt
pub returns-in_err-left-in-Less-clause-fault : goal.returns-in_err-left-in-Less-clause-fault
returns-in_err-left-in-Less-clause-fault t c fits =
    let names = c.args.memory.now.names in
    let s = state_of c.args.memory.now in
    let e = c.args.code.now in
    let d = c.in_err-left-in-Less.field-0.0 in
    let whole : TruthFault (truth_in names e) s d = less_fault names s e c.in-Less.left c.in-Less.right d c.in-Less.is fits c.in_err-left-in-Less.ensures.fault in
    search rules

-- src/truths.rt
pub returns-in_ok-left-in-Less-clause-value : goal.returns-in_ok-left-in-Less-clause-value
returns-in_ok-left-in-Less-clause-value t c fits =
    let names = c.args.memory.now.names in
    let s = state_of c.args.memory.now in
    let e = c.args.code.now in
    let y = c.in_ok-left-in-Less.left in
    let z = c.in_ok-left-in-Less.right in
    let whole : truth_of (truth_in names e) s ≡ value (int_lt y z) = less_value names s e c.in-Less.left c.in-Less.right y z c.in-Less.is fits c.in_ok-left-in-Less.ensures.value in
    search rules

-- src/truths.rt
pub returns-in_err-left-in-LessEq-clause-fault : goal.returns-in_err-left-in-LessEq-clause-fault
returns-in_err-left-in-LessEq-clause-fault t c fits =
    let names = c.args.memory.now.names in
    let s = state_of c.args.memory.now in
    let e = c.args.code.now in
    let d = c.in_err-left-in-LessEq.field-0.0 in
    let whole : TruthFault (truth_in names e) s d = less_equal_fault names s e c.in-LessEq.left c.in-LessEq.right d c.in-LessEq.is fits c.in_err-left-in-LessEq.ensures.fault in
    search rules

-- src/truths.rt
pub returns-in_ok-left-in-LessEq-clause-value : goal.returns-in_ok-left-in-LessEq-clause-value
returns-in_ok-left-in-LessEq-clause-value t c fits =
    let names = c.args.memory.now.names in
    let s = state_of c.args.memory.now in
    let e = c.args.code.now in
    let y = c.in_ok-left-in-LessEq.left in
    let z = c.in_ok-left-in-LessEq.right in
    let whole : truth_of (truth_in names e) s ≡ value (int_le y z) = less_equal_value names s e c.in-LessEq.left c.in-LessEq.right y z c.in-LessEq.is fits c.in_ok-left-in-LessEq.ensures.value in
    search rules

-- src/truths.rt
pub returns-in_err-left-in-Greater-clause-fault : goal.returns-in_err-left-in-Greater-clause-fault
returns-in_err-left-in-Greater-clause-fault t c fits =
    let names = c.args.memory.now.names in
    let s = state_of c.args.memory.now in
    let e = c.args.code.now in
    let d = c.in_err-left-in-Greater.field-0.0 in
    let whole : TruthFault (truth_in names e) s d = greater_fault names s e c.in-Greater.left c.in-Greater.right d c.in-Greater.is fits c.in_err-left-in-Greater.ensures.fault in
    search rules

-- src/truths.rt
pub returns-in_ok-left-in-Greater-clause-value : goal.returns-in_ok-left-in-Greater-clause-value
returns-in_ok-left-in-Greater-clause-value t c fits =
    let names = c.args.memory.now.names in
    let s = state_of c.args.memory.now in
    let e = c.args.code.now in
    let y = c.in_ok-left-in-Greater.left in
    let z = c.in_ok-left-in-Greater.right in
    let whole : truth_of (truth_in names e) s ≡ value (int_lt z y) = greater_value names s e c.in-Greater.left c.in-Greater.right y z c.in-Greater.is fits c.in_ok-left-in-Greater.ensures.value in
    search rules

-- src/truths.rt
pub returns-in_err-left-in-GreaterEq-clause-fault : goal.returns-in_err-left-in-GreaterEq-clause-fault
returns-in_err-left-in-GreaterEq-clause-fault t c fits =
    let names = c.args.memory.now.names in
    let s = state_of c.args.memory.now in
    let e = c.args.code.now in
    let d = c.in_err-left-in-GreaterEq.field-0.0 in
    let whole : TruthFault (truth_in names e) s d = greater_equal_fault names s e c.in-GreaterEq.left c.in-GreaterEq.right d c.in-GreaterEq.is fits c.in_err-left-in-GreaterEq.ensures.fault in
    search rules

-- src/truths.rt
pub returns-in_ok-left-in-GreaterEq-clause-value : goal.returns-in_ok-left-in-GreaterEq-clause-value
returns-in_ok-left-in-GreaterEq-clause-value t c fits =
    let names = c.args.memory.now.names in
    let s = state_of c.args.memory.now in
    let e = c.args.code.now in
    let y = c.in_ok-left-in-GreaterEq.left in
    let z = c.in_ok-left-in-GreaterEq.right in
    let whole : truth_of (truth_in names e) s ≡ value (int_le z y) = greater_equal_value names s e c.in-GreaterEq.left c.in-GreaterEq.right y z c.in-GreaterEq.is fits c.in_ok-left-in-GreaterEq.ensures.value in
    search rules
