-- How asserted literals are kept.
use Rattle.std.specs.Prelude.{◌≡◌, ◌<◌, ◌≤◌, ℕ, Bool, true, false, List, Some, length, map, slice_get, take}
use Rattle.jh_closure.specs.congruence_closure.Cores.{Begins}
use Rattle.jh_closure.specs.congruence_closure.Nodes.{Follows, Has}
use Rattle.jh_closure.specs.declared.congruence_closure.equation.Equation.{Equation}
use Rattle.jh_closure.specs.declared.congruence_closure.node.Node.{Node}
use Rattle.jh_arena.specs.table.Nodes.{nodes}
use Rattle.jh_cong.specs.flattening.Flattening.{Flattens}
use Rattle.jh_cong.specs.classes.Constants.{ArePairs}
use Rattle.jh_cong.specs.classes.Saying.{AreSayable, pair_of}
use Rattle.jh_cong.specs.declared.classes.literal.Said.{Said}
use Rattle.jh_cong.specs.declared.classes.state.State.{State}

abbrev pub other_side : Bool → ℕ → ℕ → ℕ
other_side true a b = b
other_side false a b = a

-- What the closure is told: the equation; and where one is denied, that a node is equal to itself, so that equations and
-- literals have the same numbers.
abbrev pub told : Said → Equation
told e = pair_of e.left (other_side e.holds e.left e.right)

-- no pair is equal by the equations
abbrev pub AreSeparate : List Node → List Equation → List Equation → Type 0
AreSeparate ns said pairs = (e : Equation) → Has pairs e → Follows ns said e.left e.right → ⊥

-- each literal that says that two nodes differ has its number in the list
abbrev pub AreListed : List Said → List ℕ → Type 0
AreListed said ks = (k : ℕ) (e : Said) → slice_get said k ≡ Some e → e.holds ≡ false → Has ks k

-- what follows from all equations follows from the first so many
abbrev pub AreEnough : List Node → List Equation → ℕ → Type 0
AreEnough ns said n = (a b : ℕ) → Follows ns said a b → Follows ns (take n said) a b

-- plain nodes stand for the table's, and what the closure was told is what was said
pub record IsTold (st : State) : Type 0 where
  pub flattens : Flattens (nodes st.table) st.closure.nodes
  pub told_all : st.closure.said ≡ map told st.said.items
  pub pairs : ArePairs (nodes st.table) st.apart.items
  pub sayable : AreSayable (nodes st.table) st.said.items
  pub denied : AreListed st.said.items st.denied.items
  pub inside : st.enough ≤ length st.said.items
  pub enough : AreEnough st.closure.nodes st.closure.said st.enough

-- no pair is equal that is said to differ
abbrev pub AreDenied : List Node → List Equation → List Said → Type 0
AreDenied ns said es = (e : Said) → Has es e → e.holds ≡ false → Follows ns said e.left e.right → ⊥

-- no pair is equal that is apart from the start, or that one of the first so many literals says to differ
pub record IsLooked (st : State) (n : ℕ) : Type 0 where
  pub count : n ≤ length st.said.items
  pub separate : AreSeparate st.closure.nodes st.closure.said st.apart.items
  pub differ : (k : ℕ) (e : Said) → k < n → slice_get st.said.items k ≡ Some e → e.holds ≡ false → Follows st.closure.nodes st.closure.said e.left e.right → ⊥

-- and some structure meets it
pub record IsState (st : State) : Type 0 where
  pub told : IsTold st
  pub separate : AreSeparate st.closure.nodes st.closure.said st.apart.items
  pub differ : AreDenied st.closure.nodes st.closure.said st.said.items

-- more was said, and told
pub record Continues (old new : State) : Type 0 where
  pub table : new.table ≡ old.table
  pub nodes : new.closure.nodes ≡ old.closure.nodes
  pub apart : new.apart.items ≡ old.apart.items
  pub said : Begins old.said.items new.said.items
  pub told : Begins old.closure.said new.closure.said
  pub denied : Begins old.denied.items new.denied.items
