use Rattle.std.proofs.Common.{◌≡◌, true, drop}
use Rattle.std.specs.List.{list_any}
use Rattle.jh_arena.specs.table.Nodes.{nodes}
use Rattle.jh_query_names.specs.query_names.Kinds.{value_at}
use Rattle.jh_query_names.specs.mentioned_names.Linking as linking
use Rattle.jh_query_names.proofs.mentioned_names.linking.has_links.Given as goal

-- no name so far links
abbrev pub invariant-loop-place : goal.invariant-loop-place
invariant-loop-place l = list_any (λ n. linking.linking true (value_at (nodes l.table) n)) (drop l.place l.row) ≡ list_any (λ n. linking.linking true (value_at (nodes l.table) n)) l.row
