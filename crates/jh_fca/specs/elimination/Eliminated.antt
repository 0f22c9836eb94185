-- Derived fields are eliminated from a sequent, one after another.
use Rattle.std.specs.Prelude.{true, false, if◌then◌else◌, List, [], ◌∷◌, map, Option, None, Some}
use Rattle.jh_name.specs.declared.naming.Name.{Name}
use Rattle.jh_seq.specs.sequent.Sequents.{HypTree, SequentTree}
use Rattle.jh_fca.specs.elimination.Constraints.{Constraint}
use Rattle.jh_fca.specs.elimination.Derived.{is_listed_in, derived, first_for, without_first}
use Rattle.jh_fca.specs.elimination.Exchanged.{eliminated}

-- the hypotheses, which stand negatively
abbrev pub facts_eliminated : Constraint → List HypTree → List HypTree
facts_eliminated c hs = map (λ h. record { name = h.name; fact = eliminated c h.fact false }) hs

-- The step of a field: the hypothesis that constrains it goes, and in the others and in the goal its reads are exchanged.
abbrev pub step : Constraint → SequentTree → SequentTree
step c s = record { method = s.method; mark = s.mark; hyps = facts_eliminated c (without_first c.field s.hyps); goal = eliminated c s.goal true }

-- the constraint of a field when its turn comes; there is none where it is no longer derived
unfoldable pub at_turn : Name → SequentTree → Option Constraint
at_turn f s = if is_listed_in f s then None else first_for f s.hyps

unfoldable pub step_by : Option Constraint → SequentTree → SequentTree
step_by None s = s
step_by (Some c) s = step c s

abbrev pub step_of : Name → SequentTree → SequentTree
step_of f s = step_by (at_turn f s) s

unfoldable pub all_steps : List Name → SequentTree → SequentTree
all_steps [] s = s
all_steps (f ∷ fs) s = all_steps fs (step_of f s)

-- The derived fields are those of the given sequent; one that is no longer derived when its turn comes is passed over.
unfoldable pub eliminate : SequentTree → SequentTree
eliminate s = all_steps (derived s) s
