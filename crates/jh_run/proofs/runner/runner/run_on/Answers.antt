use Rattle.std.proofs.Common.{rules, ◌≡◌, refl, sym, ap, subst, ◌∙◌, map, slice_get}
use Rattle.jh_semantics.specs.State.{alloc_name}
use Rattle.jh_semantics.specs.Objects.{free}
use Rattle.jh_semantics.specs.Execution as execution
use Rattle.jh_semantics.specs.Heaps.{answered, cell_value, listed}
use Rattle.jh_semantics.specs.Heaps as heaps
use Rattle.jh_store.specs.heaps.Cells.{args_in, cell_in, heap_in}
use Rattle.jh_store.specs.memory.Held.{state_of, IsNamed}
use Rattle.jh_operands.specs.Scalars.{datum_of}
use Rattle.jh_machine.specs.continuation.Todos.{EndsAs}
use Rattle.jh_heap_layout.specs.loading.Places.{AllPlaces}
use Rattle.jh_outline.specs.jh_method_commands.environment.Outlines.{program_in}
use Rattle.jh_run.specs.preparation.Ready.{numbered_by}
use Rattle.jh_run.specs.runner.Runs.{outcome_on, OverflowsOn}
use Rattle.jh_run.proofs.runner.Preparing.{prepared-of}
use Rattle.jh_run.proofs.runner.Ending.{ends-along}
use Rattle.jh_run.proofs.runner.runner.run_on.Goals as goal

pub run_prepared-requires-clause-prepared : goal.run_prepared-requires-clause-prepared
run_prepared-requires-clause-prepared c =
    let o = c.requires.ready.0 in
    (program_in o, numbered_by o, c.requires.ready.1, prepared-of o c.args.table.now c.args.ready.now _ _ c.requires.ready.2 refl c.as_slice.ensures.value c.as_slice-2.ensures.value c.as_slice-3.ensures.value refl refl refl c.in_ok-memory.ensures.names, c.requires.ready.3)

pub returns-in_err-ended-clause-stop : goal.returns-in_err-ended-clause-stop
returns-in_err-ended-clause-stop c = λ o m ready number.
    let p = program_in o in
    let heap = heap_in c.args.heap.now in
    let args = args_in c.args.args.now in
    let memory = c.in_ok-memory.memory in
    let first = c.in_ok-memory.ensures.state p ready.places in
    let named : IsNamed memory c.args.ready.now.places.all alloc_name = ap (λ ns. slice_get ns c.args.ready.now.places.all) c.in_ok-memory.ensures.names ∙ ready.places.all in
    let values = ap (map datum_of) c.as_slice-4.ensures.value ∙ c.in_ok-values.ensures.values ∙ ap (λ cells. map cell_value (map cell_in cells)) c.items.ensures in
    let picks = c.in_ok-picks.ensures named ∙ ap free first in
    let prepared = prepared-of o c.args.table.now c.args.ready.now _ _ ready refl c.as_slice.ensures.value c.as_slice-2.ensures.value c.as_slice-3.ensures.value refl refl refl c.in_ok-memory.ensures.names in
    let whole : EndsAs (outcome_on p m heap args c.args.steps) (OverflowsOn p m heap args c.args.steps) c.in_err-ended.field-0.0 =
    ends-along p m c.args.steps c.in_err-ended.field-0.0 (state_of memory) (heaps.state_of p heap) c.this_of.result (heaps.this_object args) (map datum_of c.as_slice-4.result.now) (map cell_value args.values) c.in_ok-picks.picks.items (free (heaps.state_of p heap)) first c.this_of.ensures.object values picks
    (c.in_err-ended.ensures.stop p (numbered_by o) m prepared number) in
    search rules

pub returns-clause-on : goal.returns-clause-on
returns-clause-on c = λ o m ready number.
    let p = program_in o in
    let heap = heap_in c.args.heap.now in
    let args = args_in c.args.args.now in
    let memory = c.in_ok-memory.memory in
    let first = c.in_ok-memory.ensures.state p ready.places in
    let named : IsNamed memory c.args.ready.now.places.all alloc_name = ap (λ ns. slice_get ns c.args.ready.now.places.all) c.in_ok-memory.ensures.names ∙ ready.places.all in
    let values = ap (map datum_of) c.as_slice-4.ensures.value ∙ c.in_ok-values.ensures.values ∙ ap (λ cells. map cell_value (map cell_in cells)) c.items.ensures in
    let picks = c.in_ok-picks.ensures named ∙ ap free first in
    let prepared = prepared-of o c.args.table.now c.args.ready.now _ _ ready refl c.as_slice.ensures.value c.as_slice-2.ensures.value c.as_slice-3.ensures.value refl refl refl c.in_ok-memory.ensures.names in
    let same : execution.run p m (state_of memory) c.this_of.result (map datum_of c.as_slice-4.result.now) c.in_ok-picks.picks.items c.args.steps ≡ outcome_on p m heap args c.args.steps = λ i. execution.run p m (first i) (c.this_of.ensures.object i) (values i) (picks i) c.args.steps in
    let ends = c.in_ok-ended.ensures.on p (numbered_by o) m prepared number in
    let unloaded = c.in_ok-heap.ensures p (subst (λ ns. AllPlaces ns p c.args.ready.now.places) (sym c.in_ok-ended.ensures.names) ready.places) in
    ap (listed p) (sym same ∙ ends) ∙ (λ i. answered (sym unloaded i) (sym c.result_of.ensures i))
