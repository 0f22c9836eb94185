use Rattle.std.proofs.Common.{◌≡◌, ◌++◌, drop}
use Rattle.std.specs.Prelude.{filter}
use Rattle.jh_arena.specs.table.Nodes.{nodes}
use Rattle.jh_query_names.specs.query_names.Kinds.{value_at}
use Rattle.jh_query_names.specs.mentioned_names.Linking as linking
use Rattle.jh_query_names.proofs.mentioned_names.linking.links.Given as goal

-- what is kept, with what links of the rest, is all that links
abbrev pub invariant-loop-place : goal.invariant-loop-place
invariant-loop-place l = l.kept.items ++ filter (λ n. linking.linking l.few (value_at (nodes l.table) n)) (drop l.place l.row) ≡ filter (λ n. linking.linking l.few (value_at (nodes l.table) n)) l.row
