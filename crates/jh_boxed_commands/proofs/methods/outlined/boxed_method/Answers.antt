use Rattle.std.proofs.lemmas.Result.{IfOk-weaker}
use Rattle.jh_boxed_commands.proofs.methods.Outlining.{callable-there, none-there}
use Rattle.jh_boxed_commands.proofs.methods.outlined.boxed_method.Goals as goal

pub unreachable-requires : goal.unreachable-requires
unreachable-requires c = c.requires.there (none-there c.args.outline.now (record { class = c.args.class; name = c.args.name.now }) (c.callable.ensures.none c.in-None.is))

pub returns-clause-command : goal.returns-clause-command
returns-clause-command c =
    IfOk-weaker c.boxed.result _ _
    (λ made h. callable-there c.args.outline.now c.in-Some.method (record { class = c.args.class; name = c.args.name.now }) made c.in-Some.ensures.some.0 c.in-Some.ensures.some.1 h)
    c.boxed.ensures.command
