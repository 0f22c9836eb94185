-- What a run of a method from the heap that a text spells comes to.
use Rattle.std.specs.Prelude.{◌≡◌, ℕ, Bool, false, is_some, List, Option, Some, None}
use Rattle.jh_ast.specs.Programs.{ProgramTree}
use Rattle.jh_rules.specs.Names.{declared_in}
use Rattle.jh_vars.specs.Written.{Callee}
use Rattle.jh_semantics.specs.Code.{Text}
use Rattle.jh_semantics.specs.Program.{Program, Method}
use Rattle.jh_semantics.specs.Heaps.{Heap, Args, Cell, answered, run_of_heap}
use Rattle.jh_semantics.specs.LoweredProgram.{program_of}
use Rattle.jh_machine.specs.declared.continuation.stop.Stop.{Stop}
use Rattle.jh_machine.specs.continuation.Todos.{EndsAs}
use Rattle.jh_run.specs.runner.Runs.{outcome_on, OverflowsOn}
use Rattle.jh_heap_layout.specs.jh_heap.declared.text.reading.HeapError.{HeapError}
use Rattle.jh_heap_layout.specs.jh_heap.text.Errors.{IsError}
use Rattle.jh_heap_layout.specs.jh_heap.text.Outlines.{outline_of}
use Rattle.jh_heap_layout.specs.jh_heap.text.Reading.{reading, read}
use Rattle.jh_run.specs.outcome.Texts.{answered_text}
use Rattle.jh_run.specs.declared.outcome.unreturned.Unreturned.{Unreturned}
use Rattle.jh_run.specs.declared.outcome.unreturned.Unreturned.TheVariants as why

-- whether the class of a number, where there is one, has a method of this name
abbrev pub is_method_in : ProgramTree → Text → Option ℕ → Bool
is_method_in p name None = false
is_method_in p name (Some n) = is_some ((program_of p).method (record { class = n; name = name }))

-- whether a program has a method of this name in a class of that name
abbrev pub has_method : ProgramTree → Text → Text → Bool
has_method p class name = is_method_in p name ((declared_in p).class_named class)

-- The method is there, and the text spells a heap with arguments for it.
pub record Starts (p : Program) (m : Callee) (bytes : List ℕ) (heap : Heap) (args : Args) : Type 0 where
  pub code : Method
  pub there : p.method m ≡ Some code
  pub spelled : reading (outline_of p code) bytes ≡ read heap args

-- The run returns, and this is what is printed of it.
pub record Returned (p : Program) (m : Callee) (bytes : List ℕ) (steps : ℕ) (text : List ℕ) : Type 0 where
  pub heap : Heap
  pub args : Args
  pub starts : Starts p m bytes heap args
  pub last : Heap
  pub value : Option Cell
  pub run : run_of_heap p m heap args steps ≡ answered last value
  pub text_is : text ≡ answered_text (outline_of p starts.code) last value

-- The method is there, and the text spells no heap with arguments for it, for this reason.
pub record IsNoHeap (p : Program) (m : Callee) (bytes : List ℕ) (error : HeapError) : Type 0 where
  pub code : Method
  pub there : p.method m ≡ Some code
  pub error_is : IsError error (reading (outline_of p code) bytes)

-- a run from a heap ends as the definition has it, or something overflows in it
abbrev pub StopsOn : Program → Callee → Heap → Args → ℕ → Stop → Type 0
StopsOn p m heap args steps stop = EndsAs (outcome_on p m heap args steps) (OverflowsOn p m heap args steps) stop

-- a run from a heap doesn't return: it stops, or memory ran out
abbrev pub EndsWith : Program → Callee → Heap → Args → ℕ → Unreturned → Type 0
EndsWith p m heap args steps (why.Stopped stop) = StopsOn p m heap args steps stop
EndsWith p m heap args steps why.Memory = Unit {0}
EndsWith p m heap args steps _ = ⊥

-- The run stops before its end.
pub record Stopped (p : Program) (m : Callee) (bytes : List ℕ) (steps : ℕ) (stop : Stop) : Type 0 where
  pub heap : Heap
  pub args : Args
  pub starts : Starts p m bytes heap args
  pub stops : StopsOn p m heap args steps stop

-- why a run doesn't return; want of memory says nothing
abbrev pub IsWhy : Program → Callee → List ℕ → ℕ → Unreturned → Type 0
IsWhy p m bytes steps why.NoMethod = p.method m ≡ None
IsWhy p m bytes steps (why.NoHeap error) = IsNoHeap p m bytes error
IsWhy p m bytes steps (why.Stopped stop) = Stopped p m bytes steps stop
IsWhy p m bytes steps why.Memory = Unit {0}

-- where there is no class of that name there is no method
abbrev pub IsAbsent : Unreturned → Type 0
IsAbsent why.NoMethod = Unit {0}
IsAbsent why.Memory = Unit {0}
IsAbsent _ = ⊥

module _ (p : ProgramTree) (class name : Text) (bytes : List ℕ) (steps : ℕ) where
  -- the method of a class and a name, where the class has a number
  abbrev pub method_named : ℕ → Callee
  method_named n = record { class = n; name = name }

  -- A run of the method of this name in the class of this name returns, and this is what is printed of it.
  pub record Returns (text : List ℕ) : Type 0 where
    pub number : ℕ
    pub class_is : (declared_in p).class_named class ≡ Some number
    pub returned : Returned (program_of p) (method_named number) bytes steps text

  abbrev pub IsReasonIn : Unreturned → Option ℕ → Type 0
  IsReasonIn e None = IsAbsent e
  IsReasonIn e (Some n) = IsWhy (program_of p) (method_named n) bytes steps e

  -- it doesn't return, for this reason
  abbrev pub IsReason : Unreturned → Type 0
  IsReason e = IsReasonIn e ((declared_in p).class_named class)
