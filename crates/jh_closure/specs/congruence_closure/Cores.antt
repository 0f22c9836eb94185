-- How the classes of nodes are kept.
use Rattle.std.specs.Prelude.{◌≡◌, ◌++◌, List, length}
use Rattle.jh_closure.specs.declared.congruence_closure.classes.Core.{Core}
use Rattle.jh_closure.specs.declared.congruence_closure.node.Node.{Node}
use Rattle.jh_closure.specs.congruence_closure.Uses.{AreUses}

-- a list begins with another one
abbrev pub Begins : {X : Type 0} → List X → List X → Type 0
Begins xs ys = (rest : _) × (ys ≡ xs ++ rest)

-- there are as many numbers as nodes, and for each class the nodes with a part in it
pub record IsCore (ns : List Node) (core : Core) : Type 0 where
  pub count : core.forest.count ≡ length ns
  pub uses : AreUses ns core.forest.merges core.uses.items

-- nothing was taken back
pub record IsGrown (ns : List Node) (old new : Core) : Type 0 where
  pub core : IsCore ns new
  pub merges : Begins old.forest.merges new.forest.merges
  pub entries : Begins old.table.nodes.entries new.table.nodes.entries
