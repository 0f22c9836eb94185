use Rattle.std.proofs.Common.{sym, ap, ◌∙◌, Some, None}
use Rattle.jh_symbols.specs.scopes.Lookings.{declared_by}
use Rattle.jh_lowering.specs.Lowering.{source_of}
use Rattle.jh_lowering.proofs.Resolving.{field-is}
use Rattle.jh_rules.specs.Names.{own_name}
use Rattle.jh_outline.proofs.declarations.Owned.{type-is}
use Rattle.jh_outline.proofs.declarations.state.member_type.Goals as goal

pub returns-in-None : goal.returns-in-None
returns-in-None c =
    type-is (source_of c.args.context.now) c.args.state.now c.args.class None c.if-state.false
    (field-is c.args.context.now c.requires c.args.class (own_name c.args.state.now.name.text) None (sym c.in-None.is ∙ c.field_of.ensures ∙ ap (λ x. (declared_by c.args.context.now.lookups.now).field_of c.args.class x) (c.own_name.ensures ∙ ap own_name c.text.ensures)))

pub returns-in-Some : goal.returns-in-Some
returns-in-Some c =
    type-is (source_of c.args.context.now) c.args.state.now c.args.class (Some c.in-Some.entry) c.if-state.false
    (field-is c.args.context.now c.requires c.args.class (own_name c.args.state.now.name.text) (Some c.in-Some.entry) (sym c.in-Some.is ∙ c.field_of.ensures ∙ ap (λ x. (declared_by c.args.context.now.lookups.now).field_of c.args.class x) (c.own_name.ensures ∙ ap own_name c.text.ensures)))
