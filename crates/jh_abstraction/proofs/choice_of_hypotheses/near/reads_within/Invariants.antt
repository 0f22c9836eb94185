use Rattle.std.proofs.Common.{◌≡◌, drop}
use Rattle.std.specs.List.{list_all}
use Rattle.jh_form.specs.Tree.{FormulaTree, of_truth}
use Rattle.jh_arena.specs.table.Nodes.{nodes}
use Rattle.jh_approx.specs.free_name_tests.Passing.{name_passes}
use Rattle.jh_query_names.specs.query_names.Kinds.{value_at}
use Rattle.jh_query_names.specs.mentioned_names.Notes.{AreFree}
use Rattle.jh_abstraction.specs.choice_of_hypotheses.Choosing as choosing
use Rattle.jh_abstraction.proofs.choice_of_hypotheses.near.reads_within.Given as goal

-- all names so far pass
abbrev pub invariant-loop-place : goal.invariant-loop-place
invariant-loop-place l = (goal : FormulaTree) → AreFree (nodes l.table) (of_truth goal) l.reads →
    list_all (λ n. name_passes (choosing.stands_within goal) (value_at (nodes l.table) n)) (drop l.place l.free) ≡ list_all (λ n. name_passes (choosing.stands_within goal) (value_at (nodes l.table) n)) l.free
