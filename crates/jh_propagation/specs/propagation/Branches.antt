-- A branch of the search: what was decided, what follows from it, and why.
use Rattle.std.specs.Prelude.{◌≡◌, ◌⊎◌, ◌<◌, ◌≤◌, ◌+◌, ℕ, Bool, if◌then◌else◌, ◌==◌, List, [], ◌∷◌, ◌++◌, Some, slice_get, length, take, drop}
use Rattle.std.specs.List.{list_any}
use Rattle.jh_form.specs.Tree.{FormulaTree, ValueTree}
use Rattle.jh_closure.specs.congruence_closure.Cores.{Begins}
use Rattle.jh_closure.specs.congruence_closure.Nodes.{Has}
use Rattle.jh_arena.specs.table.Nodes.{nodes}
use Rattle.jh_cong.specs.classes.Saying.{Asserted}
use Rattle.jh_models.specs.ground_models.Truths.{IsFalse}
use Rattle.jh_propagation.specs.declared.trail.decided.Decided.{Decided}
use Rattle.jh_propagation.specs.trail.Listing.{decided, IsUndecided}
use Rattle.jh_propagation.specs.trail.Saying.{truth_at, literals_at, opposite_of}
use Rattle.jh_propagation.specs.trail.Occurring.{places_in}
use Rattle.jh_propagation.specs.declared.propagation.problem.Problem.{Problem}
use Rattle.jh_propagation.specs.declared.propagation.branch.Branch.{Branch}
use Rattle.jh_propagation.specs.declared.propagation.branch.Reason.{Reason}
use Rattle.jh_propagation.specs.declared.propagation.branch.Reason.TheVariants as reason
use Rattle.jh_propagation.specs.propagation.Problems.{IsProblem}
use Rattle.jh_propagation.specs.propagation.Speaking.{AreSpoken, MayFollow, IsImplied, IsTold}

-- The instance at this place is made false by the literals with the opposite of one put to them.
pub record IsForced (ts : List ValueTree) (p : Problem) (had : List Decided) (d : Decided) (place : ℕ) : Type 0 where
  pub instance : ℕ
  pub here : slice_get p.instances.items place ≡ Some instance
  pub makes_false : IsFalse (literals_at ts (opposite_of d ∷ had)) (truth_at ts instance)

-- The literal follows by equality from the first so many.
pub record IsEqual (ts : List ValueTree) (had : List Decided) (d : Decided) (count : ℕ) : Type 0 where
  pub inside : count ≤ length had
  pub may : MayFollow ts d
  pub implied : IsImplied ts (take count had) d

-- why a literal stands behind others
abbrev pub Why : List ValueTree → Problem → List Decided → List Decided → Decided → Reason → Type 0
Why ts p decisions had d reason.Decision = Has decisions d
Why ts p decisions had d (reason.Instance place) = IsForced ts p had d place
Why ts p decisions had d (reason.Equality count) = IsEqual ts had d count

-- An instance is quiet where it isn't false, and what it forces is listed.
pub record IsQuiet (ts : List ValueTree) (trail : List Decided) (i : FormulaTree) : Type 0 where
  pub not_false : IsFalse (literals_at ts trail) i → ⊥
  pub forced : (l : Decided) → IsFalse (literals_at ts (opposite_of l ∷ trail)) i → Has trail l

-- What a branch comes to: its decisions, what the classes were told, the trail with the reasons, and the instances that wait,
-- from a place on.
pub record Parts : Type 0 where
  pub decisions : List Decided
  pub classes : Asserted
  pub trail : List Decided
  pub reasons : List Reason
  pub waiting : List ℕ
  pub head : ℕ

abbrev pub parts_of : Branch → Parts
parts_of b = record { decisions = b.decisions.items; classes = b.classes; trail = b.trail; reasons = b.reasons.items; waiting = b.waiting.items; head = b.head }

-- These are the parts of a branch. Each instance is quiet, or waits to be looked at, or is being looked at.
pub record AreParts (p : Problem) (busy : List ℕ) (b : Parts) : Type 0 where
  pub problem : IsProblem (nodes b.classes.table) p
  pub over_atoms : (d : Decided) → Has b.trail d → Has p.ground.atoms d.atom
  pub decided : (d : Decided) → Has b.decisions d → Has b.trail d
  pub reasoned : length b.reasons ≡ length b.trail
  pub justified : (n : ℕ) (d : Decided) (r : Reason) → slice_get b.trail n ≡ Some d → slice_get b.reasons n ≡ Some r → Why (nodes p.table) p b.decisions (take n b.trail) d r
  pub counts : (n count : ℕ) → slice_get b.reasons n ≡ Some (reason.Equality count) → count ≤ length b.classes.said
  pub rising : (m n first later : ℕ) → m ≤ n → slice_get b.reasons m ≡ Some (reason.Equality first) → slice_get b.reasons n ≡ Some (reason.Equality later) → first ≤ later
  pub told : length b.classes.said ≤ length b.trail
  pub spoken : AreSpoken (nodes b.classes.table) (nodes p.table) (take (length b.classes.said) b.trail) b.classes.said
  pub begun : b.head ≤ length b.waiting
  pub waits : (j : ℕ) → Has b.waiting j → j < length p.instances.items
  pub quiet : (j n : ℕ) → slice_get p.instances.items j ≡ Some n → Has busy j ⊎ (Has (drop b.head b.waiting) j ⊎ IsQuiet (nodes p.table) b.trail (truth_at (nodes p.table) n))

abbrev pub IsBranch : Problem → List ℕ → Branch → Type 0
IsBranch p busy b = AreParts p busy (parts_of b)

-- a reason that names equality is on all that the classes were told
abbrev pub IsLatest : Branch → Reason → Type 0
IsLatest b r = (count : ℕ) → r ≡ reason.Equality count → count ≡ length b.classes.said

-- whether an atom is decided
abbrev pub is_decided : List Decided → ℕ → Bool
is_decided trail k = list_any (λ (d : Decided). d.atom == k) trail

-- the weights of the atoms that aren't decided, added up
abbrev pub left_over : (ℕ → ℕ) → List Decided → List ℕ → ℕ
left_over weight trail [] = 0
left_over weight trail (k ∷ ks) = (if is_decided trail k then 0 else weight k) + left_over weight trail ks

-- how many atoms aren't decided
abbrev pub undecided_count : Problem → Branch → ℕ
undecided_count p b = left_over (λ k. 1) b.trail p.ground.atoms

-- how often an instance may still be looked at
abbrev pub looks_left : Problem → Branch → ℕ
looks_left p b = left_over (λ k. length (places_in p.ground k)) b.trail p.ground.atoms + length b.waiting.items

-- an atom is decided, one way or the other
abbrev pub IsSaid : List Decided → ℕ → Type 0
IsSaid trail k = (b : Bool) × Has trail (decided k b)

-- the trail goes on, and its reasons
pub record IsLonger (old new : Branch) : Type 0 where
  pub trail : Begins old.trail new.trail
  pub reasons : Begins old.reasons.items new.reasons.items

-- Literals were put to the trail, instances to those that wait, and there is less to look at.
pub record HasMore (p : Problem) (old new : Branch) : Type 0 where
  pub decisions : new.decisions.items ≡ old.decisions.items
  pub classes : new.classes ≡ old.classes
  pub trail : (more : List Decided) × (new.trail ≡ old.trail ++ more)
  pub reasons : (more : List Reason) × (new.reasons.items ≡ old.reasons.items ++ more)
  pub waiting : (more : List ℕ) × (new.waiting.items ≡ old.waiting.items ++ more)
  pub head : new.head ≡ old.head
  pub looks : looks_left p new ≤ looks_left p old
  pub count : undecided_count p new ≤ undecided_count p old

-- the instance that is looked at waits again where something was put to the trail
abbrev pub WaitsAgain : Branch → Branch → ℕ → Type 0
WaitsAgain old new place = (new.trail ≡ old.trail) ⊎ Has (drop new.head new.waiting.items) place

-- Nothing was put to the trail, or it is longer and fewer atoms are left.
abbrev pub Moved : Problem → Branch → Branch → Type 0
Moved p old new = ((new.trail ≡ old.trail) × (new.waiting.items ≡ old.waiting.items)) ⊎ ((length old.trail < length new.trail) × (undecided_count p new < undecided_count p old))

-- The literal of an atom that isn't decided doesn't follow by equality.
abbrev pub IsUnforced : Problem → Branch → ℕ → Type 0
IsUnforced p b k = IsUndecided b.trail k → (holds : Bool) → MayFollow (nodes p.table) (decided k holds) → IsTold (nodes b.classes.table) (nodes p.table) b.classes.said (decided k holds) → ⊥
