-- What is kept of each number of equations, so that the later ones can be taken back.
use Rattle.std.specs.Prelude.{◌≡◌, ◌<◌, ◌≤◌, ◌+◌, ℕ, List, [], length, take, Some, slice_get}
use Rattle.jh_closure.specs.declared.union_find.merge.Merge.{Merge}
use Rattle.jh_closure.specs.union_find.Merges.{class_of}
use Rattle.jh_closure.specs.declared.congruence_closure.equation.Equation.{Equation}
use Rattle.jh_closure.specs.declared.congruence_closure.levels.Mark.{Mark}
use Rattle.jh_closure.specs.declared.congruence_closure.levels.State.{State}
use Rattle.jh_closure.specs.declared.congruence_closure.node.Node.{Node}
use Rattle.jh_closure.specs.congruence_closure.Nodes.{Has}
use Rattle.jh_closure.specs.congruence_closure.Closing.{PartsInside, IsTable, IsTrail}
use Rattle.jh_closure.specs.congruence_closure.Cores.{IsCore}
use Rattle.jh_closure.specs.congruence_closure.Tables.{found}

-- the nodes, and the equations asserted so far
pub record Asserted : Type 0 where
  pub nodes : List Node
  pub said : List Equation

-- the classes are those of the equations, which speak of nodes: nothing waits, each merge is right, and both sides of each
-- equation are one
pub record IsSettled (ns : List Node) (said : List Equation) (ms : List Merge) (entries : List (Node × ℕ)) : Type 0 where
  pub table : IsTable ns (class_of ms) (found entries) [] []
  pub trail : IsTrail ns said ms
  pub meets : (e : Equation) → Has said e → class_of ms e.left ≡ class_of ms e.right
  pub left : (e : Equation) → Has said e → e.left < length ns
  pub right : (e : Equation) → Has said e → e.right < length ns

-- so many merges and signatures there were with the first i equations
pub record IsLevel (ns : List Node) (said : List Equation) (ms : List Merge) (entries : List (Node × ℕ)) (i : ℕ) (k : Mark) : Type 0 where
  pub said_inside : i ≤ length said
  pub merges_inside : k.merges ≤ length ms
  pub entries_inside : k.entries ≤ length entries
  pub settled : IsSettled ns (take i said) (take k.merges ms) (take k.entries entries)

pub record AreLevels (ns : List Node) (said : List Equation) (ms : List Merge) (entries : List (Node × ℕ)) (marks : List Mark) : Type 0 where
  pub each : (i : ℕ) (k : Mark) → slice_get marks i ≡ Some k → IsLevel ns said ms entries i k
  pub merges_grow : (i j : ℕ) (k l : Mark) → i ≤ j → slice_get marks i ≡ Some k → slice_get marks j ≡ Some l → k.merges ≤ l.merges
  pub entries_grow : (i j : ℕ) (k l : Mark) → i ≤ j → slice_get marks i ≡ Some k → slice_get marks j ≡ Some l → k.entries ≤ l.entries

-- what can be taken back to any of its levels
pub record IsOpen (st : State) : Type 0 where
  pub parts : PartsInside (length st.nodes.items) st.nodes.items
  pub core : IsCore st.nodes.items st.core
  pub levels : AreLevels st.nodes.items st.said.items st.core.forest.merges st.core.table.nodes.entries st.marks.items

-- there is a level for each number of equations, and the last one has all merges and signatures
pub record IsState (st : State) : Type 0 where
  pub opened : IsOpen st
  pub count : length st.marks.items ≡ length st.said.items + 1
  pub merges : (k : Mark) → slice_get st.marks.items (length st.said.items) ≡ Some k → k.merges ≡ length st.core.forest.merges
  pub entries : (k : Mark) → slice_get st.marks.items (length st.said.items) ≡ Some k → k.entries ≡ length st.core.table.nodes.entries
