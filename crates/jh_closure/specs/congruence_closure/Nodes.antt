-- Nodes, and what structures give them.
use Rattle.std.specs.Prelude.{◌≡◌, ◌⊎◌, ℕ, List, [], ◌∷◌, Some, slice_get}
use Rattle.jh_closure.specs.declared.congruence_closure.equation.Equation.{Equation}
use Rattle.jh_closure.specs.declared.congruence_closure.node.Node.{Node}
use Rattle.jh_closure.specs.declared.congruence_closure.node.Node.TheVariants as n

-- each part exchanged
abbrev pub sig : (ℕ → ℕ) → Node → Node
sig f (n.Leaf o) = n.Leaf o
sig f (n.Apply o a b) = n.Apply o (f a) (f b)

-- each part has a property
abbrev pub EachPart : (ℕ → Type 0) → Node → Type 0
EachPart P (n.Leaf o) = Unit {0}
EachPart P (n.Apply o a b) = P a × P b

-- A structure: a value for each operation without parts, and for each other one a function of the values of its two
-- parts. It keeps no law.
pub record Structure (V : Type 0) : Type 0 where
  pub leaf : ℕ → V
  pub apply : ℕ → V → V → V

abbrev pub node_value : {V : Type 0} → Structure V → (ℕ → V) → Node → V
node_value s at (n.Leaf o) = s.leaf o
node_value s at (n.Apply o a b) = s.apply o (at a) (at b)

-- these are the values of the nodes: each node has the value of its operation at the values of its parts
pub record Gives {V : Type 0} (s : Structure V) (ns : List Node) (at : ℕ → V) : Type 0 where
  pub each : (k : ℕ) (x : Node) → slice_get ns k ≡ Some x → at k ≡ node_value s at x

-- x stands in the list
abbrev pub Has : {X : Type 0} → List X → X → Type 0
Has [] x = ⊥
Has (y ∷ ys) x = (y ≡ x) ⊎ Has ys x

-- both sides of each equation have one value
abbrev pub Meets : {V : Type 0} → (ℕ → V) → List Equation → Type 0
Meets at said = (e : Equation) → Has said e → at e.left ≡ at e.right

-- in every structure whose values are numbers, where the equations hold, both nodes have one value
abbrev pub Follows : List Node → List Equation → ℕ → ℕ → Type 0
Follows ns said a b = (s : Structure ℕ) (at : ℕ → ℕ) → Gives s ns at → Meets at said → at a ≡ at b

-- both sides of each equation whose number is listed have one value
abbrev pub MeetsListed : {V : Type 0} → (ℕ → V) → List Equation → List ℕ → Type 0
MeetsListed at said listed = (i : ℕ) (e : Equation) → Has listed i → slice_get said i ≡ Some e → at e.left ≡ at e.right

-- it follows from the equations whose numbers are listed alone
abbrev pub FollowsFrom : List Node → List Equation → List ℕ → ℕ → ℕ → Type 0
FollowsFrom ns said listed a b = (s : Structure ℕ) (at : ℕ → ℕ) → Gives s ns at → MeetsListed at said listed → at a ≡ at b
