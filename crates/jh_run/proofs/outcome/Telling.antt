-- What a method of an outline reads and answers is what the program of the outline does.
use Rattle.std.proofs.Common.{◌≡◌, refl, sym, ap, subst, ◌∙◌, ℕ, List, Option, Some, option_map}
use Rattle.jh_ast.specs.Programs.{ProgramTree}
use Rattle.jh_vars.specs.Written.{Callee}
use Rattle.jh_semantics.specs.Program.{Program, Method}
use Rattle.jh_semantics.specs.Heaps.{Heap, Args, Cell, answered, run_of_heap}
use Rattle.jh_semantics.specs.typed_code.Statements.{method_in}
use Rattle.jh_heap_layout.specs.jh_state_facts.well_formedness.States.{members_in}
use Rattle.jh_outline.specs.jh_method_commands.declared.environment.outline.Callable.{Callable}
use Rattle.jh_outline.specs.jh_method_commands.declared.environment.outline.Outline.{Outline}
use Rattle.jh_outline.specs.jh_method_commands.environment.Outlines.{IsCallable, callee_of, program_in, source_of}
use Rattle.jh_heap_layout.specs.jh_heap.text.Errors.{IsError}
use Rattle.jh_heap_layout.specs.jh_heap.text.Outlines.{outline_of}
use Rattle.jh_heap_layout.specs.jh_heap.text.Outlines as heap
use Rattle.jh_heap_layout.specs.jh_heap.text.Reading.{reading, read}
use Rattle.jh_heap_layout.specs.jh_heap.declared.text.reading.HeapError.{HeapError}
use Rattle.jh_run.specs.outcome.Texts.{answered_text}
use Rattle.jh_run.specs.outcome.Outcomes.{EndsWith, IsNoHeap, IsWhy, Returned, Starts}
use Rattle.jh_run.specs.declared.outcome.unreturned.Unreturned.{Unreturned}
use Rattle.jh_run.specs.declared.outcome.unreturned.Unreturned.TheVariants as why

-- a run from a heap that the text spells ends for this reason
pub ends-why : (p : Program) (m : Callee) (bytes : List ℕ) (h : Heap) (args : Args) (steps : ℕ) → Starts p m bytes h args → (e : Unreturned) → EndsWith p m h args steps e → IsWhy p m bytes steps e
ends-why p m bytes h args steps starts (why.Stopped stop) stops = record { heap = h; args = args; starts = starts; stops = stops }
ends-why p m bytes h args steps starts why.Memory stops = tt
ends-why p m bytes h args steps starts why.NoMethod stops = absurd stops
ends-why p m bytes h args steps starts (why.NoHeap error) stops = absurd stops

module _ (o : Outline) (x : Callable) (is : IsCallable o x) where
  abbrev pub code_of : Method
  code_of = method_in (source_of o) x.code.now

  there : (program_in o).method (callee_of x) ≡ Some code_of
  unfolding program_in
  there = ap (option_map (method_in (source_of o))) is.code

  -- what heap texts of the method are read by
  pub reads-by : (t : heap.Outline) → ((tree : ProgramTree) (p : Program) → p.classes ≡ o.classes.now → p.members ≡ members_in o.classes.now o.members.now → t ≡ outline_of p (method_in tree x.code.now)) → t ≡ outline_of (program_in o) code_of
  unfolding program_in
  reads-by t told = told (source_of o) (program_in o) refl refl

  module _ (t : heap.Outline) (told : t ≡ outline_of (program_in o) code_of) (bytes : List ℕ) where
    pub starts-with : (h : Heap) (args : Args) → reading t bytes ≡ read h args → Starts (program_in o) (callee_of x) bytes h args
    starts-with h args spelled = record { code = code_of; there = there; spelled = sym (ap (λ u. reading u bytes) told) ∙ spelled }

    pub no-heap : (e : HeapError) → IsError e (reading t bytes) → IsNoHeap (program_in o) (callee_of x) bytes e
    no-heap e error = record { code = code_of; there = there; error_is = subst (λ u. IsError e (reading u bytes)) told error }

    pub returns-with : (h : Heap) (args : Args) (steps : ℕ) (last : Heap) (value : Option Cell) (text : List ℕ) → reading t bytes ≡ read h args → run_of_heap (program_in o) (callee_of x) h args steps ≡ answered last value → text ≡ answered_text t last value → Returned (program_in o) (callee_of x) bytes steps text
    returns-with h args steps last value text spelled run is_text = record {
      heap = h;
      args = args;
      starts = starts-with h args spelled;
      last = last;
      value = value;
      run = run;
      text_is = is_text ∙ ap (λ u. answered_text u last value) told;
    }
