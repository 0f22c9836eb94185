use Rattle.std.proofs.Common.{sym, ◌∙◌, Some, None}
use Rattle.jh_lowering.specs.Lowering.{source_of}
use Rattle.jh_lowering.proofs.Resolving.{field-is, kind-of-member}
use Rattle.jh_lowering.proofs.context.Context.member_kind.Goals as goal

pub returns-in-None : goal.returns-in-None
returns-in-None c = kind-of-member (source_of c.args.self.now) c.args.class c.args.own.now None (field-is c.args.self.now c.requires c.args.class c.args.own.now None (sym c.in-None.is ∙ c.field_of.ensures))

pub returns-in-Some : goal.returns-in-Some
returns-in-Some c = c.field_kind.ensures ∙ kind-of-member (source_of c.args.self.now) c.args.class c.args.own.now (Some c.in-Some.entry) (field-is c.args.self.now c.requires c.args.class c.args.own.now (Some c.in-Some.entry) (sym c.in-Some.is ∙ c.field_of.ensures))
