use Rattle.std.proofs.Common.{sym, ap, ◌∙◌, false}
use Rattle.jh_command_terms.specs.command.Code.{truth_at, command_in}
use Rattle.jh_seq.specs.counting.Goals.{capped, goals, ones}
use Rattle.jh_weakest.proofs.sequent_count.counting.count.Goals as goal

pub returns-clause-count : goal.returns-clause-count
returns-clause-count c = λ method k.
    let u = c.args.table.now in
    let after = truth_at u c.args.normal in
    let at_return = truth_at u c.args.returned in
    c.total.ensures c.counted.new.table
    ∙ (c.in_ok-tally.ensures.goals (λ w. goals after w false) (λ w. goals at_return w false) c.in_ok-after.ensures c.in_ok-at_return.ensures).is ones
    ∙ ap capped (sym (c.counted_is_exact.ensures (command_in u c.args.command.now) after at_return method k))
