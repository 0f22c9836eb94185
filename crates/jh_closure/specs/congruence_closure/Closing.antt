-- What holds between merges of classes. f gives each node the representative of its class.
use Rattle.std.specs.Prelude.{◌≡◌, ◌<◌, ◌⊎◌, ℕ, List, length, Option, Some, None, slice_get}
use Rattle.jh_closure.specs.declared.union_find.merge.Cause.{Cause}
use Rattle.jh_closure.specs.declared.union_find.merge.Merge.{Merge}
use Rattle.jh_closure.specs.declared.union_find.merge.Why.{Why}
use Rattle.jh_closure.specs.declared.union_find.merge.Why.TheVariants as why
use Rattle.jh_closure.specs.union_find.Merges.{root, class_of}
use Rattle.jh_closure.specs.declared.congruence_closure.equation.Equation.{Equation}
use Rattle.jh_closure.specs.declared.congruence_closure.node.Node.{Node}
use Rattle.jh_closure.specs.congruence_closure.Nodes.{sig, EachPart, Has}

-- each part of a node is one of n nodes
pub record PartsInside (n : ℕ) (ns : List Node) : Type 0 where
  pub inside : (k : ℕ) (x : Node) → slice_get ns k ≡ Some x → EachPart (λ p. p < n) x

-- representatives are nodes, and represent themselves
pub record Reps (n : ℕ) (f : ℕ → ℕ) : Type 0 where
  pub inside : (k : ℕ) → k < n → f k < n
  pub root : (k : ℕ) → k < n → f (f k) ≡ f k

-- a node of n that represents itself
abbrev pub IsRoot : ℕ → (ℕ → ℕ) → ℕ → Type 0
IsRoot n f p = (p < n) × (f p ≡ p)

-- a signature of representatives leads to a node that has it
pub record Entries (ns : List Node) (f : ℕ → ℕ) (find : Node → Option ℕ) : Type 0 where
  pub entry : (x : Node) (q : ℕ) → find x ≡ Some q → EachPart (IsRoot (length ns) f) x → (y : Node) × (slice_get ns q ≡ Some y) × (sig f y ≡ x)

-- two nodes that are to be one since they have one signature
abbrev pub alike : ℕ → ℕ → Cause
alike a b = record { left = a; right = b; why = why.Alike }

-- the node is found by its signature, or what is found waits to be one with it
abbrev pub IsFound : List Node → (ℕ → ℕ) → (Node → Option ℕ) → List Cause → ℕ → Type 0
IsFound ns f find pending k = (x : Node) → slice_get ns k ≡ Some x → (q : ℕ) × (find (sig f x) ≡ Some q) × ((f q ≡ f k) ⊎ Has pending (alike q k))

-- each node but the dirty ones is found
pub record Covers (ns : List Node) (f : ℕ → ℕ) (find : Node → Option ℕ) (pending : List Cause) (dirty : List ℕ) : Type 0 where
  pub each : (k : ℕ) → k < length ns → Has dirty k ⊎ IsFound ns f find pending k

-- those that wait to be one are nodes
pub record Waiting (n : ℕ) (pending : List Cause) : Type 0 where
  pub left : (p : Cause) → Has pending p → p.left < n
  pub right : (p : Cause) → Has pending p → p.right < n

-- the classes, the table of signatures, what waits to be one, and the nodes that are still to be looked up
pub record IsTable (ns : List Node) (f : ℕ → ℕ) (find : Node → Option ℕ) (pending : List Cause) (rest : List ℕ) : Type 0 where
  pub parts : PartsInside (length ns) ns
  pub reps : Reps (length ns) f
  pub entries : Entries ns f find
  pub covers : Covers ns f find pending rest
  pub waiting : Waiting (length ns) pending
  pub dirty : (k : ℕ) → Has rest k → k < length ns

-- both are nodes of one signature
abbrev pub AreAlike : List Node → (ℕ → ℕ) → ℕ → ℕ → Type 0
AreAlike ns f a b = (x y : Node) × (slice_get ns a ≡ Some x) × (slice_get ns b ≡ Some y) × (sig f x ≡ sig f y)

abbrev pub equation : ℕ → ℕ → Equation
equation a b = record { left = a; right = b }

-- an equation of that number says that both are one, or they have one signature
abbrev pub Justified : List Node → List Equation → (ℕ → ℕ) → Why → ℕ → ℕ → Type 0
Justified ns said f (why.Given i) a b = (slice_get said i ≡ Some (equation a b)) ⊎ (slice_get said i ≡ Some (equation b a))
Justified ns said f why.Alike a b = AreAlike ns f a b

-- what waits to be one is one by an equation, or since signatures are the same
abbrev pub AreCauses : List Node → List Equation → (ℕ → ℕ) → List Cause → Type 0
AreCauses ns said f pending = (p : Cause) → Has pending p → Justified ns said f p.why p.left p.right

-- each merge joins the classes of two nodes that are one by an equation, or since their signatures were the same by the
-- merges before it
pub record IsTrail (ns : List Node) (said : List Equation) (ms : List Merge) : Type 0 where
  pub left : (t : ℕ) (m : Merge) → slice_get ms t ≡ Some m → root ms t m.left ≡ m.small
  pub right : (t : ℕ) (m : Merge) → slice_get ms t ≡ Some m → root ms t m.right ≡ m.large
  pub left_inside : (t : ℕ) (m : Merge) → slice_get ms t ≡ Some m → m.left < length ns
  pub right_inside : (t : ℕ) (m : Merge) → slice_get ms t ≡ Some m → m.right < length ns
  pub why : (t : ℕ) (m : Merge) → slice_get ms t ≡ Some m → Justified ns said (root ms t) m.why m.left m.right

-- the merges are right by the equations, and so is what waits
pub record AreRight (ns : List Node) (said : List Equation) (ms : List Merge) (pending : List Cause) : Type 0 where
  pub trail : IsTrail ns said ms
  pub causes : AreCauses ns said (class_of ms) pending

-- nodes of one class stay in one class
abbrev pub Keeps : ℕ → (ℕ → ℕ) → (ℕ → ℕ) → Type 0
Keeps n old new = (j k : ℕ) → j < n → k < n → old j ≡ old k → new j ≡ new k

-- each node with a part in the class is in the list
pub record Touches (ns : List Node) (f : ℕ → ℕ) (small : ℕ) (dirty : List ℕ) : Type 0 where
  pub each : (k : ℕ) (x : Node) → slice_get ns k ≡ Some x → Has dirty k ⊎ EachPart (λ p. (f p ≡ small) → ⊥) x
  pub inside : (k : ℕ) → Has dirty k → k < length ns

-- the value of a signature, where its class is its value
abbrev pub class_at : (ℕ → ℕ) → Option ℕ → ℕ
class_at f (Some q) = f q
class_at f None = 0
