use Rattle.std.proofs.Common.{sym, ap, ◌∙◌, option_copied, Some, None}
use Rattle.jh_lowering.specs.Lowering.{source_of}
use Rattle.jh_lowering.proofs.Resolving.{method-is, static-is}
use Rattle.jh_lowering.proofs.calls.calls_static.Goals as goal

pub returns-in-None : goal.returns-in-None
returns-in-None c = static-is (source_of c.args.context.now) (record { class = c.args.class; name = c.args.name.now }) None (method-is c.args.context.now c.requires c.args.class c.args.name.now None (sym (ap option_copied c.in-None.is) ∙ c.method_of.ensures))

pub returns-in-Some : goal.returns-in-Some
returns-in-Some c =
    static-is (source_of c.args.context.now) (record { class = c.args.class; name = c.args.name.now }) (Some c.in-Some.method.now)
    (method-is c.args.context.now c.requires c.args.class c.args.name.now (Some c.in-Some.method.now) (sym (ap option_copied c.in-Some.is) ∙ c.method_of.ensures))
