use Rattle.jh_ast.specs.Bare.{form_tree, form_trees}
use Rattle.jh_rules.specs.Kinds.{is_obj}
use Rattle.jh_rules.specs.Formulas.{form_kind, form_kinds}
use Rattle.jh_symbols.specs.scopes.Lookings.{declared_by, scope_by}
use Rattle.jh_type.specs.formula_kinds.Standing.{where_by}
use Rattle.jh_type.proofs.formula_kinds.Gathering.{Gathers}
use Rattle.jh_type.proofs.formula_kinds.Steps.{kinds-none, kinds-more}
use Rattle.jh_type.proofs.formula_kinds.formulas.+form_kind.Given as goal

-- what is found and the rest give what all give
abbrev pub invariant-objects-loop-form : goal.invariant-objects-loop-form
invariant-objects-loop-form l = Gathers is_obj (λ a. form_kind (declared_by l.lookups) (form_tree a) (where_by l.spot (scope_by l.at) l.bound)) (λ fs. form_kinds (declared_by l.lookups) (form_trees fs) (where_by l.spot (scope_by l.at) l.bound)) (kinds-none (declared_by l.lookups) (where_by l.spot (scope_by l.at) l.bound)) (kinds-more (declared_by l.lookups) (where_by l.spot (scope_by l.at) l.bound)) l.items l.form-index l.found
