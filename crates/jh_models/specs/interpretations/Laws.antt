-- What interpretations say of instances.
use Rattle.std.specs.Prelude.{◌≡◌, true, List}
use Rattle.std.specs.List.{list_all}
use Rattle.jh_form.specs.Meaning.{Interp}
use Rattle.jh_form.specs.Tree.{FormulaTree}
use Rattle.jh_closure.specs.structures.Literals.{LiteralTree}
use Rattle.jh_derivation_rules.specs.Closes.{AllHold, AreUnsatisfiable}
use Rattle.jh_models.specs.ground_models.GroundModel.{IsGroundModel}
use Rattle.jh_models.specs.interpretations.Instances.{is_local_instance}

-- Instances that are true together in an interpretation have a ground model: what it says of the atoms.
abbrev pub TruthGivesModel : Type 0
TruthGivesModel =
    (is : List FormulaTree) → list_all is_local_instance is ≡ true → (m : Interp) → AllHold m is →
    (ls : List LiteralTree) × IsGroundModel is ls

-- Where instances have no ground model, they are never true together.
abbrev pub NoModelGivesClash : Type 0
NoModelGivesClash =
    (is : List FormulaTree) → list_all is_local_instance is ≡ true →
    ((ls : List LiteralTree) → IsGroundModel is ls → ⊥) → AreUnsatisfiable is
