-- The command of a method, and what has to be true where it returns.
use Rattle.std.specs.Prelude.{if◌then◌else◌, List, [], ◌∷◌, ◌++◌, map, Option, None, Some, codes}
use Rattle.jh_name.specs.declared.place.Place.{Place}
use Rattle.jh_form.specs.declared.mark.MarkKind.TheVariants as kind
use Rattle.jh_form.specs.Tree.{FormulaTree}
use Rattle.jh_form.specs.Tree as t
use Rattle.jh_semantics.specs.jh_arena.makers.Joined.{joined}
use Rattle.jh_rules.specs.Kinds.{is_void}
use Rattle.jh_semantics.specs.jh_vars.Written.{Callee}
use Rattle.jh_wp.specs.Command.{CommandTree}
use Rattle.jh_wp.specs.Command as w
use Rattle.jh_semantics.specs.Code.{Claim}
use Rattle.jh_semantics.specs.Program.{Program, Method}
use Rattle.jh_semantics.specs.WellFormed.{well_formed}
use Rattle.jh_semantics.specs.Entry.{owed}
use Rattle.jh_guard.specs.Items.{items, sorted_item}
use Rattle.jh_guard.specs.Writes.{Writes}
use Rattle.jh_guard.specs.Steps.{fresh, sequence, mark_without_name, mark_of, assume_named, assume_claims, copies}
use Rattle.jh_guard.specs.Frames.{frame_facts}
use Rattle.jh_guard.specs.Statements.{stmts_commands}

-- a command, and the formula that has to be true after it and where it is left
pub record MethodCommand : Type 0 where
  pub body : CommandTree
  pub returned : FormulaTree

abbrev pub assume_requires : Option Claim → List CommandTree
assume_requires None = []
assume_requires (Some claim) = assume_named (codes "pre") claim.place claim.formula ∷ []

-- `ensures`, or True at the name of the method
abbrev pub post_formula : Place → Option Claim → FormulaTree
post_formula place None = t.mark (mark_without_name kind.Post place) t.true_formula
post_formula place (Some claim) = t.mark (mark_without_name kind.Post claim.place) claim.formula

module _ (p : Program) (ws : Writes) (m : Callee) (x : Method) where
  -- At entry the state is well formed, `requires` and, of a public method, the invariants are true, and all state is copied at turn 1.
  abbrev pub entry_commands : List CommandTree
  entry_commands =
      (assume_named (codes "wf") x.place (well_formed p x.params x.this) ∷ assume_requires x.requires)
      ++ assume_claims (owed p x)
      ++ copies (map sorted_item (items p)) 1

  -- the end of the body of a void method returns
  abbrev pub end_commands : List CommandTree
  end_commands = if is_void x.result then w.leave ∷ [] else []

  -- `ensures`, of a public method the invariants, and for each member that is written and that `modifies` doesn't name its frame fact
  abbrev pub returned_formulas : List FormulaTree
  returned_formulas =
      (post_formula x.place x.ensures ∷ map (λ claim. t.mark (mark_of kind.Inv claim) claim.formula) (owed p x))
      ++ map (λ f. t.mark (mark_without_name kind.Frame x.place) f) (frame_facts p ws m (t.free_set (fresh (codes "alloc") 1)) 1)

  abbrev pub method_command : MethodCommand
  method_command = record {
    body = sequence (entry_commands ++ stmts_commands p ws x.this x.params x.body 2 ++ end_commands);
    returned = joined returned_formulas;
  }
