-- What the classes of equality are told of a literal.
use Rattle.std.specs.Prelude.{◌≡◌, ◌↔◌, ℕ, true, List, [], ◌∷◌, Option, Some, None}
use Rattle.jh_form.specs.Tree.{ValueTree}
use Rattle.jh_arena.specs.declared.table.shapes.Shape.{Shape}
use Rattle.jh_arena.specs.declared.table.shapes.Shape.TheVariants as shape
use Rattle.jh_closure.specs.structures.Literals.{MeetsOne, Meets}
use Rattle.jh_models.specs.ground_models.Atoms.{is_equality}
use Rattle.jh_models.specs.ground_models.Clashes.{Follows}
use Rattle.jh_cong.specs.flattening.TreeValues.{NumberStructure}
use Rattle.jh_cong.specs.classes.Saying.{CanBeSaid, literal_of, literals}
use Rattle.jh_cong.specs.declared.classes.literal.Said.{Said}
use Rattle.jh_propagation.specs.declared.trail.decided.Decided.{Decided}
use Rattle.jh_propagation.specs.trail.Saying.{truth_at, literal_tree_at, literals_at}

-- What is told is over nodes of one table, the literal over those of another: a structure meets the one exactly where it meets the
-- other.
pub record Speaks (us ts : List ValueTree) (e : Said) (d : Decided) : Type 0 where
  pub can : CanBeSaid us e.left e.right
  pub same : (s : NumberStructure) → MeetsOne s (literal_of us e).holds (literal_of us e).atom ↔ MeetsOne s d.holds (truth_at ts d.atom)

-- one for each literal, in their order
abbrev pub AreSpoken : List ValueTree → List ValueTree → List Decided → List Said → Type 0
AreSpoken us ts [] [] = Unit {0}
AreSpoken us ts [] (e ∷ es) = ⊥
AreSpoken us ts (d ∷ ds) [] = ⊥
AreSpoken us ts (d ∷ ds) (e ∷ es) = Speaks us ts e d × AreSpoken us ts ds es

-- An equation follows where it holds alone; any other literal may follow.
abbrev pub MayFollow : List ValueTree → Decided → Type 0
MayFollow ts d = is_equality (truth_at ts d.atom) ≡ true → d.holds ≡ true

-- A literal follows from what the classes were told.
abbrev pub IsTold : List ValueTree → List ValueTree → List Said → Decided → Type 0
IsTold us ts said d = (s : NumberStructure) → Meets s (literals us said) → MeetsOne s d.holds (truth_at ts d.atom)

-- A literal follows from literals.
abbrev pub IsImplied : List ValueTree → List Decided → Decided → Type 0
IsImplied ts had d = Follows (literals_at ts had) (literal_tree_at ts d)

-- the sides of an equation
unfoldable pub sides_of : Shape → Option (ℕ × ℕ)
sides_of (shape.EqObject a b) = Some (a, b)
sides_of (shape.EqNumber a b) = Some (a, b)
sides_of (shape.EqSet a b) = Some (a, b)
sides_of (shape.Iff a b) = Some (a, b)
sides_of _ = None
