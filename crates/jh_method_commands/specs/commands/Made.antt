-- The commands of statements in a method of a program, with locals in scope as the code holds them.
use Rattle.std.specs.Prelude.{ℕ, List, [], ◌∷◌, map, Option, codes, if◌then◌else◌}
use Rattle.jh_name.specs.declared.place.Place.{Place}
use Rattle.jh_form.specs.declared.mark.MarkKind.TheVariants as kind
use Rattle.jh_form.specs.Tree.{FormulaTree}
use Rattle.jh_form.specs.Tree as t
use Rattle.jh_rules.specs.declared.types.Ty.{Ty}
use Rattle.jh_rules.specs.Kinds.{is_void}
use Rattle.jh_wp.specs.Command.{CommandTree}
use Rattle.jh_wp.specs.Command as w
use Rattle.jh_semantics.specs.Code.{Claim, Stmt, Stmts, TruthCode}
use Rattle.jh_semantics.specs.Program.{Method}
use Rattle.jh_semantics.specs.WellFormed.{well_formed}
use Rattle.jh_guard.specs.Items.{Item, Sorted}
use Rattle.jh_guard.specs.Loops.{written_by, changed_by, loop_head}
use Rattle.jh_guard.specs.Methods.{assume_requires}
use Rattle.jh_guard.specs.Steps.{assume_named, mark_of, mark_without_name}
use Rattle.jh_guard.specs.Statements.{wf_at, stmt_commands, stmts_commands, next_turn, next_turns}
use Rattle.jh_state_facts.specs.declared.well_formedness.state.Known.{Known}
use Rattle.jh_state_facts.specs.well_formedness.States.{local_of}
use Rattle.jh_method_commands.specs.declared.environment.outline.Outline.{Outline}
use Rattle.jh_arena.specs.table.Entries.{Listing}
use Rattle.jh_method_commands.specs.environment.Outlines.{IsOutline, program_in, writes_in}

-- an outline is right in a table, as one fact
unfoldable pub Outlined : Listing → Outline → Type 0
Outlined t o = IsOutline t o

-- the state that the body of a loop may write, and all that it changes
abbrev pub written_in : Outline → Stmt → List Item
written_in o body = written_by (program_in o) (writes_in o) body

abbrev pub changed_in : Outline → List Known → Stmt → List Sorted
changed_in o scope body = changed_by (program_in o) (writes_in o) (map local_of scope) body

module _ (o : Outline) (this : Option ℕ) (scope : List Known) where
  -- that the state is well formed
  abbrev pub formed_in : FormulaTree
  formed_in = wf_at (program_in o) (writes_in o) this (map local_of scope)

  -- what comes before the condition of a loop, and its checks
  abbrev pub head_commands : Place → List Claim → TruthCode → Stmt → ℕ → List CommandTree
  head_commands q invariants e body k = loop_head (program_in o) (writes_in o) formed_in q (map local_of scope) invariants e body k

  -- the commands of a statement, where the turns from one on are free
  abbrev pub commands_of : Stmt → ℕ → List CommandTree
  commands_of s k = stmt_commands (program_in o) (writes_in o) this (map local_of scope) s k

  -- of statements one after another
  abbrev pub all_commands : Stmts → ℕ → List CommandTree
  all_commands ss k = stmts_commands (program_in o) (writes_in o) this (map local_of scope) ss k

  -- the first turn that is free behind them
  abbrev pub turn_behind : Stmt → ℕ → ℕ
  turn_behind s k = next_turn (program_in o) (writes_in o) this (map local_of scope) s k

  abbrev pub turn_behind_all : Stmts → ℕ → ℕ
  turn_behind_all ss k = next_turns (program_in o) (writes_in o) this (map local_of scope) ss k

-- what is known at the entry of a method, but for invariants
abbrev pub known_at : Outline → Method → List CommandTree
known_at o x = assume_named (codes "wf") x.place (well_formed (program_in o) x.params x.this) ∷ assume_requires x.requires

-- the end of a method with a result of a type
abbrev pub end_of : Ty → List CommandTree
end_of result = if is_void result then w.leave ∷ [] else []

-- an invariant and a frame fact, as they have to be true where a method returns
abbrev pub invariant_formula : Claim → FormulaTree
invariant_formula claim = t.mark (mark_of kind.Inv claim) claim.formula

abbrev pub frame_formula : Place → FormulaTree → FormulaTree
frame_formula place f = t.mark (mark_without_name kind.Frame place) f
