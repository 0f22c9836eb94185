-- What the classes answer where they are told one more literal.
use Rattle.std.specs.Prelude.{◌≡◌, ℕ, Bool, true, false, List, [], ◌∷◌, ◌++◌}
use Rattle.jh_form.specs.Tree.{ValueTree}
use Rattle.jh_arena.specs.table.Nodes.{nodes}
use Rattle.jh_closure.specs.congruence_closure.Nodes.{Has}
use Rattle.jh_cong.specs.classes.Saying.{Asserted, IsUnmet}
use Rattle.jh_cong.specs.declared.classes.literal.Said.{Said}
use Rattle.jh_propagation.specs.declared.trail.decided.Decided.{Decided}
use Rattle.jh_propagation.specs.declared.propagation.problem.Problem.{Problem}
use Rattle.jh_propagation.specs.propagation.Closings.{IsFalseAt}
use Rattle.jh_propagation.specs.propagation.Speaking.{Speaks}

-- They were told it, and some structure meets all; or none does, and they are as they were.
pub record IsSaidToo (ts : List ValueTree) (old new : Asserted) (d : Decided) : Type 0 where
  pub said : Said
  pub speaks : Speaks (nodes old.table) ts said d
  pub classes : new ≡ record { table = old.table; said = old.said ++ said ∷ [] }
  pub met : IsUnmet (nodes old.table) (old.said ++ said ∷ []) → ⊥

pub record IsRefused (ts : List ValueTree) (old new : Asserted) (d : Decided) : Type 0 where
  pub said : Said
  pub speaks : Speaks (nodes old.table) ts said d
  pub classes : new ≡ old
  pub unmet : IsUnmet (nodes old.table) (old.said ++ said ∷ [])

abbrev pub IsAsked : List ValueTree → Asserted → Asserted → Decided → Bool → Type 0
IsAsked ts old new d true = IsSaidToo ts old new d
IsAsked ts old new d false = IsRefused ts old new d

-- One of the instances at these places is false.
pub record IsFalseAmong (ts : List ValueTree) (p : Problem) (had : List Decided) (places : List ℕ) : Type 0 where
  pub place : ℕ
  pub there : Has places place
  pub is_false : IsFalseAt ts p had place
