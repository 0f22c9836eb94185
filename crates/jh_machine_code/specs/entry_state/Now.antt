-- Steps that read no state at a method's entry.
use Rattle.std.specs.Prelude.{◌≡◌, ◌&&◌, ◌==◌, ℕ, Bool, true, false, List, Option, None, Some, slice_get}
use Rattle.std.specs.List.{list_all}
use Rattle.jh_name.specs.declared.naming.Name.{Name}
use Rattle.jh_name.specs.declared.place.Sort.{Sort}
use Rattle.jh_form.specs.Tree.{ValueTree}
use Rattle.jh_form.specs.Passing.{value_passes}
use Rattle.jh_arena.specs.table.Entries.{Listing}
use Rattle.jh_arena.specs.table.Nodes.{nodes}
use Rattle.jh_arena.specs.table.Growth.{Extends}
use Rattle.jh_semantics.specs.jh_vars.Written.{Callee}
use Rattle.jh_semantics.specs.Code as c
use Rattle.jh_machine_code.specs.declared.code.step.Step.{Step, Row_of-Step, end_of-Step, more_of-Step}
use Rattle.jh_machine_code.specs.declared.code.step.Step.TheVariants as x
use Rattle.jh_machine_code.specs.code.Steps.{AreSteps}

-- a name that stands for the state now: those under `old` have turn 1
abbrev pub is_now : Name → Sort → Bool
is_now name sort = name.turn == 0

-- a value that stands there and has no name under `old`
abbrev pub says_now : Option ValueTree → Bool
says_now None = false
says_now (Some v) = value_passes v is_now

-- a node whose value hangs on the state now alone
abbrev pub reads_now : Listing → ℕ → Bool
reads_now t node = says_now (slice_get (nodes t) node)

module _ (t : Listing) where
  unfoldable mutual
    -- a step all of whose formulas hang on the state now alone
    pub step_now : Step → Bool
    step_now (x.Block' shape xs) = row_now xs
    step_now (x.Branch' e i a shape xs) = step_now a && row_now xs
    step_now (x.Loop' e i a) = step_now a
    step_now (x.Ask q n) = reads_now t n
    step_now (x.Ghost k q n) = reads_now t n
    step_now (x.GhostAt g) = reads_now t g.object && reads_now t g.value
    step_now step = true

    pub row_now : {n : _} → Row_of-Step n → Bool
    row_now end_of-Step = true
    row_now (more_of-Step a xs) = step_now a && row_now xs

  abbrev pub steps_now : List Step → Bool
  steps_now xs = list_all step_now xs

-- Steps that read nothing at entry are the same statements where that state isn't kept.
abbrev pub NothingRecalled : Type 0
NothingRecalled =
    (names : List Name) (t u : Listing) (numbered : Callee → Option ℕ) (xs : List Step) (ss : c.Stmts) →
    Extends t u → steps_now t xs ≡ true → AreSteps names u numbered true xs ss → AreSteps names u numbered false xs ss
