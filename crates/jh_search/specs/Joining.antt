-- A list without a literal, and with another list.
use Rattle.std.specs.Prelude.{◌≡◌, ◌⊎◌, List}
use Rattle.jh_closure.specs.congruence_closure.Nodes.{Has}
use Rattle.jh_propagation.specs.declared.trail.decided.Decided.{Decided}

pub record AreJoined (needs : List Decided) (l : Decided) (more joined : List Decided) : Type 0 where
  pub only : (k : Decided) → Has joined k → (Has needs k × (l ≡ k → ⊥)) ⊎ Has more k
  pub first : (k : Decided) → Has needs k → (l ≡ k) ⊎ Has joined k
  pub second : (k : Decided) → Has more k → Has joined k
