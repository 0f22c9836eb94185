-- What makes a program ready for runs.
use Rattle.std.specs.Prelude.{◌≡◌, ℕ, List, Option, Some, slice_get}
use Rattle.jh_name.specs.declared.naming.Name.{Name}
use Rattle.jh_arena.specs.table.Entries.{Listing}
use Rattle.jh_arena.specs.table.Growth.{Grows}
use Rattle.jh_vars.specs.Written.{Callee}
use Rattle.jh_semantics.specs.State.{this_name}
use Rattle.jh_exec.specs.jh_machine_code.declared.code.body.Body.{Body}
use Rattle.jh_exec.specs.jh_machine_code.code.Steps.{AreBodies}
use Rattle.jh_store.specs.state_pairs.Homes.{AreHomes}
use Rattle.jh_machine.specs.locals.Locals.{AreLocals}
use Rattle.jh_heap_layout.specs.declared.loading.places.Places.{Places}
use Rattle.jh_heap_layout.specs.loading.Places.{AllPlaces}
use Rattle.jh_outline.specs.jh_method_commands.declared.environment.outline.Outline.{Outline}
use Rattle.jh_outline.specs.jh_method_commands.environment.Outlines.{program_in}
use Rattle.jh_machine_compiler.specs.Sources.{numbered_in}
use Rattle.jh_run.specs.declared.preparation.ready.Ready.{Ready}

-- the number of each method of an outline, where there is such a method
abbrev pub numbered_by : Outline → Callee → Option ℕ
numbered_by o = numbered_in (record { formulas = o.formulas; numbers = o.numbers; methods = o.methods })

-- Bodies, places and the number of `this`, among some names and all that grow from them.
pub record HasSteps (o : Outline) (names : List Name) (t : Listing) (methods : List Body) (places : Places) (this : ℕ) : Type 0 where
  pub are_bodies : (later : List Name) → Grows names later → AreBodies later t (numbered_by o) methods (program_in o)
  pub are_places : (later : List Name) → Grows names later → AllPlaces later (program_in o) places
  pub is_this : (later : List Name) → Grows names later → slice_get later this ≡ Some this_name

-- All that a run needs of a program, over its names and the table of its formulas.
pub record IsReady (o : Outline) (t : Listing) (x : Ready) : Type 0 where
  pub bodies : AreBodies x.names t (numbered_by o) x.methods.items (program_in o)
  pub homes : AreHomes t.pools.names x.names x.homes.items
  pub locals : AreLocals x.names x.locals.items
  pub places : AllPlaces x.names (program_in o) x.places
  pub this : slice_get x.names x.this ≡ Some this_name
