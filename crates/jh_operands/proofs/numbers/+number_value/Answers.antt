use Rattle.std.proofs.Common.{rules, ◌≡◌, sym, ap, subst, ◌∙◌, ◌+ℤ◌, ◌-ℤ◌, ◌*ℤ◌, neg_ℤ, IfOk, IfErr, FitsSigned}
use Rattle.std.proofs.lemmas.Result.{IfOk-weaker, IfErr-weaker}
use Rattle.std.specs.Int.{w64}
use Rattle.jh_name.specs.declared.naming.Name.{Name}
use Rattle.jh_semantics.specs.Values.{value, number_of}
use Rattle.jh_store.specs.memory.Held.{state_of}
use Rattle.jh_operands.specs.declared.fault.Fault.TheVariants as f
use Rattle.jh_operands.specs.declared.exprs.NumberExpr.{NumberExpr}
use Rattle.jh_operands.specs.Exprs.{number_in, NumberFits}
use Rattle.jh_operands.specs.Faults.{NumberFault}
use Rattle.std.proofs.Common.{Some, slice_get}
use Rattle.jh_operands.proofs.NumberSteps.{const_value, number_name_value, number_read_value, number_read_fault, add_value, add_left, add_right, add_beyond, sub_value, sub_left, sub_right, sub_beyond, minus_value, minus_inner, minus_beyond, times_value, times_inner, times_beyond}
use Rattle.jh_operands.proofs.numbers.+number_value.Goals as goal

-- src/numbers.rt
pub returns-in-Const-clause-value : goal.returns-in-Const-clause-value
returns-in-Const-clause-value t c fits =
    let names = c.args.memory.now.names in
    let s = state_of c.args.memory.now in
    let e = c.args.code.now in
    let whole : number_of (number_in names e) s ≡ value c.in-Const.number = const_value names s e c.in-Const.number c.in-Const.is in
    search rules

-- src/numbers.rt
pub returns-in-Name-clause-value : goal.returns-in-Name-clause-value
returns-in-Name-clause-value t c fits =
    let names = c.args.memory.now.names in
    let s = state_of c.args.memory.now in
    let e = c.args.code.now in
    let reads : (y : Name) → slice_get names c.in-Name.name ≡ Some y → c.number.result ≡ s.number y = λ y at. let h = c.number.ensures y at in search rules in
    let whole : number_of (number_in names e) s ≡ value c.number.result = number_name_value names s e c.in-Name.name c.number.result c.in-Name.is fits reads in
    search rules

-- src/numbers.rt
pub returns-in_err-at-in-Read-clause-fault : goal.returns-in_err-at-in-Read-clause-fault
returns-in_err-at-in-Read-clause-fault t c fits =
    let names = c.args.memory.now.names in
    let s = state_of c.args.memory.now in
    let e = c.args.code.now in
    let d = c.in_err-at-in-Read.field-0.0 in
    let whole : NumberFault (number_in names e) s d = number_read_fault names s e c.in-Read.field c.in-Read.receiver c.in-Read.place d c.in-Read.is fits c.in_err-at-in-Read.ensures.fault in
    search rules

-- src/numbers.rt
pub returns-in_ok-at-in-Read-clause-value : goal.returns-in_ok-at-in-Read-clause-value
returns-in_ok-at-in-Read-clause-value t c fits =
    let names = c.args.memory.now.names in
    let s = state_of c.args.memory.now in
    let e = c.args.code.now in
    let a = c.in_ok-at-in-Read.at in
    let reads : (y : Name) → slice_get names c.in-Read.field ≡ Some y → c.number_at.result ≡ (s.field y).numbers a = λ y at. let h = c.number_at.ensures y at in search rules in
    let whole : number_of (number_in names e) s ≡ value c.number_at.result = number_read_value names s e c.in-Read.field c.in-Read.receiver c.in-Read.place a c.number_at.result c.in-Read.is fits c.in_ok-at-in-Read.ensures.value reads in
    search rules

-- src/numbers.rt
pub returns-in_err-left-in-Add-clause-fault : goal.returns-in_err-left-in-Add-clause-fault
returns-in_err-left-in-Add-clause-fault t c fits =
    let names = c.args.memory.now.names in
    let s = state_of c.args.memory.now in
    let e = c.args.code.now in
    let d = c.in_err-left-in-Add.field-0.0 in
    let at-left : c.deref.result.now ≡ c.in-Add.left.value = search rules in
    let left : NumberFits names c.in-Add.left.value → NumberFault (number_in names c.in-Add.left.value) s d = subst (λ (u : NumberExpr). NumberFits names u → NumberFault (number_in names u) s d) at-left c.in_err-left-in-Add.ensures.fault in
    let whole : NumberFault (number_in names e) s d = add_left names s e c.in-Add.place c.in-Add.left c.in-Add.right d c.in-Add.is fits left in
    search rules

-- src/numbers.rt
pub returns-in_err-right-in-Add-clause-fault : goal.returns-in_err-right-in-Add-clause-fault
returns-in_err-right-in-Add-clause-fault t c fits =
    let names = c.args.memory.now.names in
    let s = state_of c.args.memory.now in
    let e = c.args.code.now in
    let d = c.in_err-right-in-Add.field-0.0 in
    let y = c.in_ok-left-in-Add.left in
    let at-left : c.deref.result.now ≡ c.in-Add.left.value = search rules in
    let left : NumberFits names c.in-Add.left.value → number_of (number_in names c.in-Add.left.value) s ≡ value y = subst (λ (u : NumberExpr). NumberFits names u → number_of (number_in names u) s ≡ value y) at-left c.in_ok-left-in-Add.ensures.value in
    let at-right : c.deref-in-Add.result.now ≡ c.in-Add.right.value = search rules in
    let right : NumberFits names c.in-Add.right.value → NumberFault (number_in names c.in-Add.right.value) s d = subst (λ (u : NumberExpr). NumberFits names u → NumberFault (number_in names u) s d) at-right c.in_err-right-in-Add.ensures.fault in
    let whole : NumberFault (number_in names e) s d = add_right names s e c.in-Add.place c.in-Add.left c.in-Add.right y d c.in-Add.is fits left right in
    search rules

-- src/numbers.rt
pub returns-in_ok-right-in-Add-clause-value : goal.returns-in_ok-right-in-Add-clause-value
returns-in_ok-right-in-Add-clause-value t c fits =
    let names = c.args.memory.now.names in
    let s = state_of c.args.memory.now in
    let e = c.args.code.now in
    let y = c.in_ok-left-in-Add.left in
    let z = c.in_ok-right-in-Add.right in
    let at-left : c.deref.result.now ≡ c.in-Add.left.value = search rules in
    let left : NumberFits names c.in-Add.left.value → number_of (number_in names c.in-Add.left.value) s ≡ value y = subst (λ (u : NumberExpr). NumberFits names u → number_of (number_in names u) s ≡ value y) at-left c.in_ok-left-in-Add.ensures.value in
    let at-right : c.deref-in-Add.result.now ≡ c.in-Add.right.value = search rules in
    let right : NumberFits names c.in-Add.right.value → number_of (number_in names c.in-Add.right.value) s ≡ value z = subst (λ (u : NumberExpr). NumberFits names u → number_of (number_in names u) s ≡ value z) at-right c.in_ok-right-in-Add.ensures.value in
    let sum : IfOk c.added.result (λ x. x ≡ y +ℤ z) = search rules in
    IfOk-weaker c.added.result (λ x. x ≡ y +ℤ z) (λ x. number_of (number_in names e) s ≡ value x) (λ x h. add_value names s e c.in-Add.place c.in-Add.left c.in-Add.right y z c.in-Add.is fits left right ∙ ap value (sym h)) sum

-- src/numbers.rt
pub returns-in_ok-right-in-Add-clause-fault : goal.returns-in_ok-right-in-Add-clause-fault
returns-in_ok-right-in-Add-clause-fault t c fits =
    let names = c.args.memory.now.names in
    let s = state_of c.args.memory.now in
    let e = c.args.code.now in
    let y = c.in_ok-left-in-Add.left in
    let z = c.in_ok-right-in-Add.right in
    let at-left : c.deref.result.now ≡ c.in-Add.left.value = search rules in
    let left : NumberFits names c.in-Add.left.value → number_of (number_in names c.in-Add.left.value) s ≡ value y = subst (λ (u : NumberExpr). NumberFits names u → number_of (number_in names u) s ≡ value y) at-left c.in_ok-left-in-Add.ensures.value in
    let at-right : c.deref-in-Add.result.now ≡ c.in-Add.right.value = search rules in
    let right : NumberFits names c.in-Add.right.value → number_of (number_in names c.in-Add.right.value) s ≡ value z = subst (λ (u : NumberExpr). NumberFits names u → number_of (number_in names u) s ≡ value z) at-right c.in_ok-right-in-Add.ensures.value in
    let beyond : IfErr c.added.result (λ d. (d ≡ f.Overflow c.in-Add.place) × (FitsSigned w64 (y +ℤ z) → ⊥)) = search rules in
    IfErr-weaker c.added.result (λ d. (d ≡ f.Overflow c.in-Add.place) × (FitsSigned w64 (y +ℤ z) → ⊥)) (NumberFault (number_in names e) s) (λ d h. add_beyond names s e c.in-Add.place c.in-Add.left c.in-Add.right y z d c.in-Add.is fits left right h.0 h.1) beyond

-- src/numbers.rt
pub returns-in_err-left-in-Sub-clause-fault : goal.returns-in_err-left-in-Sub-clause-fault
returns-in_err-left-in-Sub-clause-fault t c fits =
    let names = c.args.memory.now.names in
    let s = state_of c.args.memory.now in
    let e = c.args.code.now in
    let d = c.in_err-left-in-Sub.field-0.0 in
    let at-left : c.deref-in-Sub.result.now ≡ c.in-Sub.left.value = search rules in
    let left : NumberFits names c.in-Sub.left.value → NumberFault (number_in names c.in-Sub.left.value) s d = subst (λ (u : NumberExpr). NumberFits names u → NumberFault (number_in names u) s d) at-left c.in_err-left-in-Sub.ensures.fault in
    let whole : NumberFault (number_in names e) s d = sub_left names s e c.in-Sub.place c.in-Sub.left c.in-Sub.right d c.in-Sub.is fits left in
    search rules

-- src/numbers.rt
pub returns-in_err-right-in-Sub-clause-fault : goal.returns-in_err-right-in-Sub-clause-fault
returns-in_err-right-in-Sub-clause-fault t c fits =
    let names = c.args.memory.now.names in
    let s = state_of c.args.memory.now in
    let e = c.args.code.now in
    let d = c.in_err-right-in-Sub.field-0.0 in
    let y = c.in_ok-left-in-Sub.left in
    let at-left : c.deref-in-Sub.result.now ≡ c.in-Sub.left.value = search rules in
    let left : NumberFits names c.in-Sub.left.value → number_of (number_in names c.in-Sub.left.value) s ≡ value y = subst (λ (u : NumberExpr). NumberFits names u → number_of (number_in names u) s ≡ value y) at-left c.in_ok-left-in-Sub.ensures.value in
    let at-right : c.deref-in-Sub-2.result.now ≡ c.in-Sub.right.value = search rules in
    let right : NumberFits names c.in-Sub.right.value → NumberFault (number_in names c.in-Sub.right.value) s d = subst (λ (u : NumberExpr). NumberFits names u → NumberFault (number_in names u) s d) at-right c.in_err-right-in-Sub.ensures.fault in
    let whole : NumberFault (number_in names e) s d = sub_right names s e c.in-Sub.place c.in-Sub.left c.in-Sub.right y d c.in-Sub.is fits left right in
    search rules

-- src/numbers.rt
pub returns-in_ok-right-in-Sub-clause-value : goal.returns-in_ok-right-in-Sub-clause-value
returns-in_ok-right-in-Sub-clause-value t c fits =
    let names = c.args.memory.now.names in
    let s = state_of c.args.memory.now in
    let e = c.args.code.now in
    let y = c.in_ok-left-in-Sub.left in
    let z = c.in_ok-right-in-Sub.right in
    let at-left : c.deref-in-Sub.result.now ≡ c.in-Sub.left.value = search rules in
    let left : NumberFits names c.in-Sub.left.value → number_of (number_in names c.in-Sub.left.value) s ≡ value y = subst (λ (u : NumberExpr). NumberFits names u → number_of (number_in names u) s ≡ value y) at-left c.in_ok-left-in-Sub.ensures.value in
    let at-right : c.deref-in-Sub-2.result.now ≡ c.in-Sub.right.value = search rules in
    let right : NumberFits names c.in-Sub.right.value → number_of (number_in names c.in-Sub.right.value) s ≡ value z = subst (λ (u : NumberExpr). NumberFits names u → number_of (number_in names u) s ≡ value z) at-right c.in_ok-right-in-Sub.ensures.value in
    let sum : IfOk c.subtracted.result (λ x. x ≡ y -ℤ z) = search rules in
    IfOk-weaker c.subtracted.result (λ x. x ≡ y -ℤ z) (λ x. number_of (number_in names e) s ≡ value x) (λ x h. sub_value names s e c.in-Sub.place c.in-Sub.left c.in-Sub.right y z c.in-Sub.is fits left right ∙ ap value (sym h)) sum

-- src/numbers.rt
pub returns-in_ok-right-in-Sub-clause-fault : goal.returns-in_ok-right-in-Sub-clause-fault
returns-in_ok-right-in-Sub-clause-fault t c fits =
    let names = c.args.memory.now.names in
    let s = state_of c.args.memory.now in
    let e = c.args.code.now in
    let y = c.in_ok-left-in-Sub.left in
    let z = c.in_ok-right-in-Sub.right in
    let at-left : c.deref-in-Sub.result.now ≡ c.in-Sub.left.value = search rules in
    let left : NumberFits names c.in-Sub.left.value → number_of (number_in names c.in-Sub.left.value) s ≡ value y = subst (λ (u : NumberExpr). NumberFits names u → number_of (number_in names u) s ≡ value y) at-left c.in_ok-left-in-Sub.ensures.value in
    let at-right : c.deref-in-Sub-2.result.now ≡ c.in-Sub.right.value = search rules in
    let right : NumberFits names c.in-Sub.right.value → number_of (number_in names c.in-Sub.right.value) s ≡ value z = subst (λ (u : NumberExpr). NumberFits names u → number_of (number_in names u) s ≡ value z) at-right c.in_ok-right-in-Sub.ensures.value in
    let beyond : IfErr c.subtracted.result (λ d. (d ≡ f.Overflow c.in-Sub.place) × (FitsSigned w64 (y -ℤ z) → ⊥)) = search rules in
    IfErr-weaker c.subtracted.result (λ d. (d ≡ f.Overflow c.in-Sub.place) × (FitsSigned w64 (y -ℤ z) → ⊥)) (NumberFault (number_in names e) s) (λ d h. sub_beyond names s e c.in-Sub.place c.in-Sub.left c.in-Sub.right y z d c.in-Sub.is fits left right h.0 h.1) beyond

-- src/numbers.rt
pub returns-in_err-inner-in-Minus-clause-fault : goal.returns-in_err-inner-in-Minus-clause-fault
returns-in_err-inner-in-Minus-clause-fault t c fits =
    let names = c.args.memory.now.names in
    let s = state_of c.args.memory.now in
    let e = c.args.code.now in
    let d = c.in_err-inner-in-Minus.field-0.0 in
    let at-inner : c.deref-in-Minus.result.now ≡ c.in-Minus.inner.value = search rules in
    let inner : NumberFits names c.in-Minus.inner.value → NumberFault (number_in names c.in-Minus.inner.value) s d = subst (λ (u : NumberExpr). NumberFits names u → NumberFault (number_in names u) s d) at-inner c.in_err-inner-in-Minus.ensures.fault in
    let whole : NumberFault (number_in names e) s d = minus_inner names s e c.in-Minus.place c.in-Minus.inner d c.in-Minus.is fits inner in
    search rules

-- src/numbers.rt
pub returns-in_ok-inner-in-Minus-clause-value : goal.returns-in_ok-inner-in-Minus-clause-value
returns-in_ok-inner-in-Minus-clause-value t c fits =
    let names = c.args.memory.now.names in
    let s = state_of c.args.memory.now in
    let e = c.args.code.now in
    let y = c.in_ok-inner-in-Minus.inner in
    let at-inner : c.deref-in-Minus.result.now ≡ c.in-Minus.inner.value = search rules in
    let inner : NumberFits names c.in-Minus.inner.value → number_of (number_in names c.in-Minus.inner.value) s ≡ value y = subst (λ (u : NumberExpr). NumberFits names u → number_of (number_in names u) s ≡ value y) at-inner c.in_ok-inner-in-Minus.ensures.value in
    let made : IfOk c.negated.result (λ x. x ≡ neg_ℤ y) = search rules in
    IfOk-weaker c.negated.result (λ x. x ≡ neg_ℤ y) (λ x. number_of (number_in names e) s ≡ value x) (λ x h. minus_value names s e c.in-Minus.place c.in-Minus.inner y c.in-Minus.is fits inner ∙ ap value (sym h)) made

-- src/numbers.rt
pub returns-in_ok-inner-in-Minus-clause-fault : goal.returns-in_ok-inner-in-Minus-clause-fault
returns-in_ok-inner-in-Minus-clause-fault t c fits =
    let names = c.args.memory.now.names in
    let s = state_of c.args.memory.now in
    let e = c.args.code.now in
    let y = c.in_ok-inner-in-Minus.inner in
    let at-inner : c.deref-in-Minus.result.now ≡ c.in-Minus.inner.value = search rules in
    let inner : NumberFits names c.in-Minus.inner.value → number_of (number_in names c.in-Minus.inner.value) s ≡ value y = subst (λ (u : NumberExpr). NumberFits names u → number_of (number_in names u) s ≡ value y) at-inner c.in_ok-inner-in-Minus.ensures.value in
    let beyond : IfErr c.negated.result (λ d. (d ≡ f.Overflow c.in-Minus.place) × (FitsSigned w64 (neg_ℤ y) → ⊥)) = search rules in
    IfErr-weaker c.negated.result (λ d. (d ≡ f.Overflow c.in-Minus.place) × (FitsSigned w64 (neg_ℤ y) → ⊥)) (NumberFault (number_in names e) s) (λ d h. minus_beyond names s e c.in-Minus.place c.in-Minus.inner y d c.in-Minus.is fits inner h.0 h.1) beyond

-- src/numbers.rt
pub returns-in_err-inner-in-Times-clause-fault : goal.returns-in_err-inner-in-Times-clause-fault
returns-in_err-inner-in-Times-clause-fault t c fits =
    let names = c.args.memory.now.names in
    let s = state_of c.args.memory.now in
    let e = c.args.code.now in
    let d = c.in_err-inner-in-Times.field-0.0 in
    let at-inner : c.deref-in-Times.result.now ≡ c.in-Times.inner.value = search rules in
    let inner : NumberFits names c.in-Times.inner.value → NumberFault (number_in names c.in-Times.inner.value) s d = subst (λ (u : NumberExpr). NumberFits names u → NumberFault (number_in names u) s d) at-inner c.in_err-inner-in-Times.ensures.fault in
    let whole : NumberFault (number_in names e) s d = times_inner names s e c.in-Times.place c.in-Times.factor c.in-Times.inner d c.in-Times.is fits inner in
    search rules

-- src/numbers.rt
pub returns-in_ok-inner-in-Times-clause-value : goal.returns-in_ok-inner-in-Times-clause-value
returns-in_ok-inner-in-Times-clause-value t c fits =
    let names = c.args.memory.now.names in
    let s = state_of c.args.memory.now in
    let e = c.args.code.now in
    let y = c.in_ok-inner-in-Times.inner in
    let at-inner : c.deref-in-Times.result.now ≡ c.in-Times.inner.value = search rules in
    let inner : NumberFits names c.in-Times.inner.value → number_of (number_in names c.in-Times.inner.value) s ≡ value y = subst (λ (u : NumberExpr). NumberFits names u → number_of (number_in names u) s ≡ value y) at-inner c.in_ok-inner-in-Times.ensures.value in
    let made : IfOk c.scaled.result (λ x. x ≡ c.in-Times.factor *ℤ y) = search rules in
    IfOk-weaker c.scaled.result (λ x. x ≡ c.in-Times.factor *ℤ y) (λ x. number_of (number_in names e) s ≡ value x) (λ x h. times_value names s e c.in-Times.place c.in-Times.factor c.in-Times.inner y c.in-Times.is fits inner ∙ ap value (sym h)) made

-- src/numbers.rt
pub returns-in_ok-inner-in-Times-clause-fault : goal.returns-in_ok-inner-in-Times-clause-fault
returns-in_ok-inner-in-Times-clause-fault t c fits =
    let names = c.args.memory.now.names in
    let s = state_of c.args.memory.now in
    let e = c.args.code.now in
    let y = c.in_ok-inner-in-Times.inner in
    let at-inner : c.deref-in-Times.result.now ≡ c.in-Times.inner.value = search rules in
    let inner : NumberFits names c.in-Times.inner.value → number_of (number_in names c.in-Times.inner.value) s ≡ value y = subst (λ (u : NumberExpr). NumberFits names u → number_of (number_in names u) s ≡ value y) at-inner c.in_ok-inner-in-Times.ensures.value in
    let beyond : IfErr c.scaled.result (λ d. (d ≡ f.Overflow c.in-Times.place) × (FitsSigned w64 (c.in-Times.factor *ℤ y) → ⊥)) = search rules in
    IfErr-weaker c.scaled.result (λ d. (d ≡ f.Overflow c.in-Times.place) × (FitsSigned w64 (c.in-Times.factor *ℤ y) → ⊥)) (NumberFault (number_in names e) s) (λ d h. times_beyond names s e c.in-Times.place c.in-Times.factor c.in-Times.inner y d c.in-Times.is fits inner h.0 h.1) beyond
