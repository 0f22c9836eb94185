-- What comes before the condition of a loop, and its turns (a loop is cut at its invariants).
use Rattle.std.specs.Prelude.{ℕ, List, [], ◌∷◌, ◌++◌, map, codes}
use Rattle.jh_name.specs.declared.place.Place.{Place}
use Rattle.jh_form.specs.declared.mark.MarkKind.TheVariants as kind
use Rattle.jh_form.specs.Tree.{FormulaTree}
use Rattle.jh_form.specs.Tree as t
use Rattle.jh_wp.specs.Command.{CommandTree}
use Rattle.jh_wp.specs.Command as w
use Rattle.jh_semantics.specs.Code.{Local, TruthCode, Claim, Stmt}
use Rattle.jh_semantics.specs.Program.{Program}
use Rattle.jh_guard.specs.Terms.{truth_formula, truth_checks}
use Rattle.jh_guard.specs.Items.{Item, Sorted, sorted_item, sorted_local, items_where}
use Rattle.jh_guard.specs.Writes.{Writes, stmt_writes, locals_assigned, first_ones}
use Rattle.jh_guard.specs.Steps.{sequence, assert_checks, assert_claims, assume_claims, assume_named, changed, growth}

-- the state that a body may write, in the order of the state
abbrev pub written_by : Program → Writes → Stmt → List Item
written_by p ws body = items_where p (stmt_writes ws body)

-- and with it the locals that it assigns, in the order of their first assignments
abbrev pub changed_by : Program → Writes → List Local → Stmt → List Sorted
changed_by p ws scope body = map sorted_item (written_by p ws body) ++ map sorted_local (first_ones (locals_assigned scope body))

-- The invariants are asserted; what the body may write is copied and takes any value; then the state is well formed, the sets of objects
-- only grew, and the invariants are true. The condition is checked.
abbrev pub loop_head : Program → Writes → FormulaTree → Place → List Local → List Claim → TruthCode → Stmt → ℕ → List CommandTree
loop_head p ws wf q scope invariants e body k =
    assert_claims kind.LoopEntry invariants
    ++ changed (changed_by p ws scope body) k
    ++ (assume_named (codes "wf") q wf ∷ growth k (written_by p ws body))
    ++ assume_claims invariants
    ++ assert_checks (truth_checks e)

-- one turn from there: the body, after which the invariants are asserted; or the end of the loop
abbrev pub loop_turn : Place → List Claim → TruthCode → List CommandTree → CommandTree
loop_turn q invariants e body =
    w.choice
    (sequence (assume_named (codes "cond") q (truth_formula e) ∷ body ++ assert_claims kind.LoopKept invariants ++ (w.stop ∷ [])))
    (assume_named (codes "cond") q (t.negation (truth_formula e)))
