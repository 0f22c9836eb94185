use Rattle.std.proofs.Common.{sym, ap, ◌∙◌, ◌++◌, append-nil}
use Rattle.jh_method_commands.proofs.environment.ItemSteps.{none-standing, some-standing}
use Rattle.jh_method_commands.proofs.environment.choosing.push_at.Goals as goal

pub returns-in-None : goal.returns-in-None
returns-in-None c = sym (ap (λ xs. c.args.made.now.items ++ xs) (none-standing c.args.names.now c.args.place c.in-None.ensures.lookup.3) ∙ append-nil c.args.made.now.items)

pub returns-in_ok-push-in-Some : goal.returns-in_ok-push-in-Some
returns-in_ok-push-in-Some c =
    c.in_ok-push-in-Some.ensures.items
    ∙ sym (ap (λ xs. c.args.made.now.items ++ xs) (some-standing c.args.names.now c.args.place c.in-Some.name.now c.in-Some.ensures.lookup.3.0 c.in-Some.ensures.lookup.1))
