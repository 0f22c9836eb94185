-- What is kept of an explanation while it is gone through without a decision.
use Rattle.std.specs.Prelude.{◌≡◌, ◌⊎◌, ◌<◌, ℕ, Bool, true, false, List, ◌∷◌, ◌++◌, Option, Some, None, length, slice_get, take}
use Rattle.std.specs.declared.alloc.Global.{Global}
use Rattle.std.specs.declared.vec.Vec.{Vec}
use Rattle.jh_form.specs.Tree.{ValueTree}
use Rattle.jh_arena.specs.table.Nodes.{nodes}
use Rattle.jh_closure.specs.congruence_closure.Nodes.{Has}
use Rattle.jh_cong.specs.classes.Saying.{Asserted}
use Rattle.jh_models.specs.ground_models.Clashes.{Clash}
use Rattle.jh_models.specs.shortening.Steps.{IsMost}
use Rattle.jh_models.specs.shortening.Shortened.{IsShortened}
use Rattle.jh_propagation.specs.declared.trail.decided.Decided.{Decided}
use Rattle.jh_propagation.specs.trail.Listing.{DecideOnce}
use Rattle.jh_propagation.specs.trail.Saying.{literal_tree_at, literals_at, opposite_of}
use Rattle.jh_propagation.specs.declared.propagation.problem.Problem.{Problem}
use Rattle.jh_propagation.specs.propagation.Problems.{instances_in}
use Rattle.jh_propagation.specs.propagation.Speaking.{AreSpoken}
use Rattle.jh_explanations.specs.declared.step.Step.{Step}
use Rattle.jh_explanations.specs.Steps.{literals_of, trees_of, AreMarked, AreOverAtoms}

-- The trail was told to the classes, and doesn't clash.
pub record IsQuiet (p : Problem) (classes : Asserted) (trail : List Decided) : Type 0 where
  pub spoken : AreSpoken (nodes classes.table) (nodes p.table) trail classes.said
  pub quiet : Clash (instances_in (nodes p.table) p) (literals_at (nodes p.table) trail) → ⊥

-- The classes were told the first literals of the trail, which don't clash.
pub record IsReady (p : Problem) (classes : Asserted) (trail : List Decided) : Type 0 where
  pub first : IsQuiet p classes (take (length classes.said) trail)

-- Steps over atoms, which say whether their literals are decisions; and decisions over atoms.
pub record AreRight (p : Problem) (ds : List Decided) (ss : List Step) : Type 0 where
  pub marked : AreMarked ds ss
  pub over : AreOverAtoms p.ground (literals_of ss)
  pub decided_over : (d : Decided) → Has ds d → Has p.ground.atoms d.atom

-- The most is kept of the steps that are gone, without a decision, whichever decisions the steps know of.
abbrev pub IsMostOf : List ValueTree → Problem → List Step → Decided → List Step → List Step → Type 0
IsMostOf ts p ss out gone kept = (ds : List Decided) → AreRight p ds ss → IsMost (instances_in ts p) (literals_at ts ds) (literal_tree_at ts out) (trees_of ts gone) (trees_of ts kept)

-- What is kept of the first steps.
pub record AreKept (ts : List ValueTree) (p : Problem) (ss : List Step) (out : Decided) (count : ℕ) (kept : List Step) : Type 0 where
  pub most : IsMostOf ts p ss out (take count ss) kept
  pub inside : (s : Step) → Has kept s → Has ss s
  pub from : (d : Decided) → Has (literals_of kept) d → (n : ℕ) × ((n < count) × (slice_get (literals_of ss) n ≡ Some d))
  pub once : DecideOnce (literals_of kept)

-- Without a decision what is kept of all steps doesn't clash; or what is kept of the first ones does.
pub record IsWhole (ts : List ValueTree) (p : Problem) (ss : List Step) (out : Decided) : Type 0 where
  pub kept : List Step
  pub most : IsMostOf ts p ss out ss kept
  pub apart : Clash (instances_in ts p) (trees_of ts kept) → ⊥

pub record IsShorter (ts : List ValueTree) (p : Problem) (ss : List Step) (out : Decided) (kept : List Step) : Type 0 where
  pub gone : List Step
  pub rest : List Step
  pub parts : ss ≡ gone ++ rest
  pub most : IsMostOf ts p ss out gone kept
  pub clash : Clash (instances_in ts p) (trees_of ts kept)
  pub inside : (s : Step) → Has kept s → Has ss s
  pub once : DecideOnce (literals_of kept)

abbrev pub IsTried : List ValueTree → Problem → List Step → Decided → Option (List Step) → Type 0
IsTried ts p ss out None = IsWhole ts p ss out
IsTried ts p ss out (Some kept) = IsShorter ts p ss out kept

-- The steps are right, and shortened where these decisions were tried.
pub record AreTried (ts : List ValueTree) (p : Problem) (ds tried : List Decided) (ss : List Step) : Type 0 where
  pub right : AreRight p ds ss
  pub shortened : IsShortened (instances_in ts p) (literals_at ts ds) (literals_at ts tried) (trees_of ts ss)

abbrev pub kept_items : Option (Vec Step Global) → Option (List Step)
kept_items None = None
kept_items (Some v) = Some v.items

-- A step is kept where it isn't the one that is out and is a decision, or its opposite clashes with what is kept.
abbrev pub MayBeKept : List ValueTree → Problem → List Decided → Step → Type 0
MayBeKept ts p had s = (s.is_decision ≡ true) ⊎ Clash (instances_in ts p) (literals_at ts (opposite_of s.literal ∷ had))

abbrev pub IsKept : List ValueTree → Problem → List Decided → Step → Decided → Bool → Type 0
IsKept ts p had s out true = (s.literal ≡ out → ⊥) × MayBeKept ts p had s
IsKept ts p had s out false = (s.literal ≡ out) ⊎ (MayBeKept ts p had s → ⊥)

-- each step is a decision, or its opposite clashes with those before it
abbrev pub AreFollowing : List ValueTree → Problem → List Step → Type 0
AreFollowing ts p ss = (n : ℕ) (s : Step) → slice_get ss n ≡ Some s → MayBeKept ts p (literals_of (take n ss)) s
