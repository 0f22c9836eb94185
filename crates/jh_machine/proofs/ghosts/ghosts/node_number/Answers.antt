use Rattle.std.proofs.Common.{refl, sym, ap, inl, inr, rules, slice_get, FitsSigned, w64}
use Rattle.jh_form.specs.Tree.{of_number}
use Rattle.jh_form.specs.Meaning.{a_number}
use Rattle.jh_arena.specs.table.Entries.{the_number}
use Rattle.jh_arena.specs.table.Nodes.{nodes}
use Rattle.jh_store.specs.state_pairs.Seen.{seen}
use Rattle.jh_machine.specs.continuation.Formulas.{OverflowsOnly, ValueOverflows}
use Rattle.jh_machine.proofs.ghosts.NodeSteps.{stop_as}
use Rattle.jh_machine.proofs.ghosts.ghosts.node_number.Goals as goal

pub returns-in-Err-try_from-clause-stop : goal.returns-in-Err-try_from-clause-stop
unfolding OverflowsOnly
returns-in-Err-try_from-clause-stop c =
    let no : FitsSigned w64 c.in-Ok.number → ⊥ = search rules in
    (refl, inr (c.in-Ok.number, ap a_number (sym c.in-Ok.ensures.value), no))

pub returns-in-Err-clause-stop : goal.returns-in-Err-clause-stop
returns-in-Err-clause-stop c =
    stop_as c.args.place c.in-Err.error c.stop_at.result (ValueOverflows (seen c.args.moment.now) (of_number (the_number (slice_get (nodes c.args.moment.now.table.now) c.args.node)))) c.stop_at.ensures (λ e. inl (c.in-Err.ensures.wide e))
