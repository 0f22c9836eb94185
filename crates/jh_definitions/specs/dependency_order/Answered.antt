-- What an order of the definitions of a program is, and what there is in its place.
use Rattle.std.specs.Prelude.{◌≡◌, ◌≤◌, ℕ, List, Some, length, slice_get}
use Rattle.jh_ast.specs.Programs.{ProgramTree, DefPart}
use Rattle.jh_rules.specs.Names.{def_of}
use Rattle.jh_rules.specs.Words.{text_of}
use Rattle.jh_vars.specs.States.{Variable}
use Rattle.jh_vars.specs.Reading.{IsAcyclic, IsFirstCyclic}
use Rattle.jh_vars.specs.Opened.{all_definitions}
use Rattle.jh_definitions.specs.expansion.Opening.{AreDefinitions, AreInOrder, defined_by}
use Rattle.jh_definitions.specs.declared.expansion.opening.Definition.{Definition}
use Rattle.jh_definitions.specs.dependency_order.Defining.{named}
use Rattle.jh_definitions.specs.declared.dependency_order.ordering.Opening.{Opening}
use Rattle.jh_definitions.specs.declared.dependency_order.ordering.Opening.TheVariants as o

-- All definitions of a program, each once, in an order in which each reads only those before it; no variable is
-- cyclic.
pub record AreOrdered (p : ProgramTree) (ds : List Definition) : Type 0 where
  pub definitions : AreDefinitions p ds
  pub ordered : AreInOrder p ds
  pub few : length ds ≤ all_definitions p
  pub all : (v : Variable) (d : DefPart) → def_of p v.class v.name ≡ Some d → (k : ℕ) × (e : Definition) × (slice_get ds k ≡ Some e) × (defined_by e ≡ v)
  pub none : IsAcyclic p

abbrev pub IsOpening : ProgramTree → Opening → Type 0
IsOpening p (o.Ordered ds) = AreOrdered p ds.items
IsOpening p (o.Cyclic w) = (c : ℕ) × IsFirstCyclic p (named c w.now)
