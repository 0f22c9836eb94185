use Rattle.std.proofs.Common.{rules, option_map}
use Rattle.jh_store.specs.heaps.Cells.{args_in, cell_in, heap_in}
use Rattle.jh_heap_layout.specs.jh_heap.text.Held.{outline_in}
use Rattle.jh_outline.specs.jh_method_commands.environment.Outlines.{callee_of, program_in}
use Rattle.jh_run.specs.outcome.Outcomes.{IsWhy}
use Rattle.jh_run.specs.declared.outcome.unreturned.Unreturned.TheVariants as why
use Rattle.jh_run.proofs.outcome.Telling.{ends-why, no-heap, reads-by, returns-with, starts-with}
use Rattle.jh_run.proofs.outcome.running.run_callable.Goals as goal

-- src/running.rt
pub returns-in_err-heap-clause-why : goal.returns-in_err-heap-clause-why
returns-in_err-heap-clause-why c =
    let o = c.args.outline.now in
    let x = c.args.method.now in
    let t = outline_in c.in_ok-text.text in
    let told = reads-by o x c.requires.method t c.in_ok-text.ensures in
    let whole : IsWhy (program_in o) (callee_of x) c.args.heap.now c.args.steps (why.NoHeap c.in_err-heap.field-0.0) =
    no-heap o x c.requires.method t told c.args.heap.now c.in_err-heap.field-0.0 c.in_err-heap.ensures.error in
    search rules

-- src/running.rt
pub returns-in_err-answered-clause-why : goal.returns-in_err-answered-clause-why
returns-in_err-answered-clause-why c =
    let o = c.args.outline.now in
    let x = c.args.method.now in
    let t = outline_in c.in_ok-text.text in
    let told = reads-by o x c.requires.method t c.in_ok-text.ensures in
    let heap = heap_in c.in_ok-heap.heap in
    let args = args_in c.in_ok-heap.args in
    let starts = starts-with o x c.requires.method t told c.args.heap.now heap args c.in_ok-heap.ensures.read in
    let whole : IsWhy (program_in o) (callee_of x) c.args.heap.now c.args.steps c.in_err-answered.field-0.0 =
    ends-why (program_in o) (callee_of x) c.args.heap.now heap args c.args.steps starts c.in_err-answered.field-0.0 c.in_err-answered.ensures.why in
    search rules

-- src/running.rt
pub returns-clause-returned : goal.returns-clause-returned
returns-clause-returned c =
    let o = c.args.outline.now in
    let x = c.args.method.now in
    let t = outline_in c.in_ok-text.text in
    let told = reads-by o x c.requires.method t c.in_ok-text.ensures in
    returns-with o x c.requires.method t told c.args.heap.now (heap_in c.in_ok-heap.heap) (args_in c.in_ok-heap.args) c.args.steps (heap_in c.in_ok-answered.answered.heap) (option_map cell_in c.in_ok-answered.answered.result) _
    c.in_ok-heap.ensures.read c.in_ok-answered.ensures.on c.in_ok-made.ensures
