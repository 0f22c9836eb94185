use Rattle.std.proofs.Common.{ap, ◌∙◌, Some}
use Rattle.jh_rules.specs.Scopes.{with_sort}
use Rattle.jh_symbols.specs.scopes.Lookings.{declared_by, scope_by}
use Rattle.jh_symbols.specs.scopes.Changing.{with_local, with_sorts}
use Rattle.jh_symbols.proofs.scopes.Undoing.{declared}
use Rattle.jh_symbols.proofs.scopes.scope.ScopeTable.declare.Goals as goal

-- src/scope.rt
pub returns-clause-changed : goal.returns-clause-changed
returns-clause-changed c =
    c.in_ok-put_sorts.ensures.changed
    ∙ (λ i. with_sorts ((c.in_ok-put_local.ensures.changed ∙ ap (λ s. with_local s c.text-text.result.now (Some (record { ty = c.type_of.result; is_param = c.args.is_param }))) c.keep.ensures.same) i) c.text-text.result.now c.with_sort-sorts.result)
    ∙ (λ i. with_sorts (with_local (scope_by c.args.self.now) (c.text-text.ensures i) (Some (record { ty = c.type_of.result; is_param = c.args.is_param }))) (c.text-text.ensures i) c.with_sort-sorts.result)
    ∙ declared (declared_by c.args.lookups.now) (scope_by c.args.self.now) c.args.param.now c.args.is_param c.type_of.result c.with_sort-sorts.result c.type_of.ensures
    (c.with_sort-sorts.ensures ∙ (λ i. with_sort (c.kind_of_word.ensures i) ((c.earlier.ensures ∙ ap (scope_by c.args.self.now).earlier c.text-text.ensures) i)))
