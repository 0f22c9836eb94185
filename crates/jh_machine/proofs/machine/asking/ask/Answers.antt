use Rattle.std.proofs.Common.{sym, ◌∙◌, rules}
use Rattle.jh_form.specs.Tree.{of_truth}
use Rattle.jh_sem.specs.Wide.{IsWide}
use Rattle.jh_store.specs.state_pairs.Seen.{seen}
use Rattle.jh_semantics.specs.Execution.{asked}
use Rattle.jh_machine.specs.continuation.Stops.{StopsAs}
use Rattle.jh_machine.specs.continuation.Overflows.{ClaimOverflows}
use Rattle.jh_machine.specs.machine.Machines.{stands}
use Rattle.jh_machine.proofs.machine.Moments.{overflow_stops, there_too, wide_same, truth_same, asked_true, asked_false}
use Rattle.jh_machine.proofs.machine.asking.ask.Goals as goal

pub returns-in_err-is_true-clause-stop : goal.returns-in_err-is_true-clause-stop
returns-in_err-is_true-clause-stop c = λ claim s there at known.
    let m = c.args.machine.now in
    let t = c.args.prepared.now.table.now in
    let w = c.moment.result in
    let x = asked claim (stands m s) in
    let whole : StopsAs x (λ q. ClaimOverflows q claim (stands m s)) c.in_err-is_true.field-0.0 =
    overflow_stops (asked claim (stands m s)) c.args.place (IsWide (seen w) (of_truth claim.formula)) (λ q. ClaimOverflows q claim (stands m s)) c.in_err-is_true.field-0.0
    (c.in_err-is_true.ensures.stop claim.formula (there_too t w.table.now c.args.node (of_truth claim.formula) c.moment.ensures.table there.there))
    (λ g. (at, wide_same w m.now m.entry s c.moment.ensures.current (c.moment.ensures.entry s known) t c.args.node (of_truth claim.formula) there g)) in
    search rules

pub returns-then-is_true-clause-on : goal.returns-then-is_true-clause-on
returns-then-is_true-clause-on c = λ claim s there known.
    let m = c.args.machine.now in
    let t = c.args.prepared.now.table.now in
    let w = c.moment.result in
    asked_true claim m s
    (sym c.if-is_true.true ∙ c.in_ok-is_true.ensures.value claim.formula (there_too t w.table.now c.args.node (of_truth claim.formula) c.moment.ensures.table there.there)
    ∙ truth_same w m.now m.entry s c.moment.ensures.current (c.moment.ensures.entry s known) t c.args.node claim.formula there)

pub returns-else-is_true-clause-stop : goal.returns-else-is_true-clause-stop
unfolding StopsAs
returns-else-is_true-clause-stop c = λ claim s there at known.
    let m = c.args.machine.now in
    let t = c.args.prepared.now.table.now in
    let w = c.moment.result in
    asked_false claim m s c.args.place at
    (sym c.if-is_true.false ∙ c.in_ok-is_true.ensures.value claim.formula (there_too t w.table.now c.args.node (of_truth claim.formula) c.moment.ensures.table there.there)
    ∙ truth_same w m.now m.entry s c.moment.ensures.current (c.moment.ensures.entry s known) t c.args.node claim.formula there)
