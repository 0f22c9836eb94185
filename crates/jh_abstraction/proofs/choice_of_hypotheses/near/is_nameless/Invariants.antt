use Rattle.std.proofs.Common.{◌≡◌, drop}
use Rattle.std.specs.List.{list_all}
use Rattle.jh_arena.specs.table.Nodes.{nodes}
use Rattle.jh_approx.specs.free_name_tests.Passing.{name_passes}
use Rattle.jh_approx.specs.definition.Links as spec
use Rattle.jh_query_names.specs.query_names.Kinds.{value_at}
use Rattle.jh_abstraction.proofs.choice_of_hypotheses.near.is_nameless.Given as goal

-- all names so far pass
abbrev pub invariant-loop-place : goal.invariant-loop-place
invariant-loop-place l = list_all (λ n. name_passes spec.is_set_of_class (value_at (nodes l.table) n)) (drop l.place l.free) ≡ list_all (λ n. name_passes spec.is_set_of_class (value_at (nodes l.table) n)) l.free
