use Rattle.std.proofs.Common.{sym, ap, ◌∙◌, option_map}
use Rattle.jh_ast.specs.Bare.{rhs_tree}
use Rattle.jh_rules.specs.Found.{least, lesser}
use Rattle.jh_rules.specs.Names.{type_of}
use Rattle.jh_rules.specs.Statements.{of_some, rhs_faults, declared_faults}
use Rattle.jh_rules.proofs.Judgements.{least-append}
use Rattle.jh_symbols.specs.scopes.Lookings.{declared_by, scope_by}
use Rattle.jh_type.proofs.method_bodies.statements.local_faults.Goals as goal

pub returns-clause-found : goal.returns-clause-found
returns-clause-found c = c.lesser.ensures
    ∙ (λ i. lesser ((c.some_rhs_faults-value.ensures ∙ ap (λ t. least (of_some (rhs_faults (declared_by c.args.lookups.now) (scope_by c.args.at.now) t) (option_map rhs_tree c.args.rhs.now))) c.type_of.ensures) i) (c.declared_faults-declared.ensures i))
    ∙ sym (least-append (of_some (rhs_faults (declared_by c.args.lookups.now) (scope_by c.args.at.now) (type_of (declared_by c.args.lookups.now).class_named c.args.param.now.jtype)) (option_map rhs_tree c.args.rhs.now)) (declared_faults (declared_by c.args.lookups.now) (scope_by c.args.at.now) c.args.param.now))
