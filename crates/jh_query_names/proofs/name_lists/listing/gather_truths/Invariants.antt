use Rattle.std.proofs.Common.{◌≡◌, drop}
use Rattle.std.specs.List.{flat_map}
use Rattle.jh_arena.specs.table.Nodes.{nodes}
use Rattle.jh_arena.specs.makers.Joined.{truths_at}
use Rattle.jh_approx.specs.definition.Names.{names}
use Rattle.jh_query_names.specs.query_names.Gathered.{with_names}
use Rattle.jh_query_names.specs.query_names.Finding.{IsFound, values_at}
use Rattle.jh_query_names.proofs.name_lists.listing.gather_truths.Given as goal

-- with those of the facts that are left the names come to all
abbrev pub invariant-loop-fact : goal.invariant-loop-fact
invariant-loop-fact l = record {
  names : with_names (values_at (nodes l.table) l.found.names.keys) (flat_map names (truths_at (nodes l.table) (drop l.fact-index l.facts))) ≡ with_names (values_at (nodes l.table) l.initial.found.names.keys) (flat_map names (truths_at (nodes l.table) l.facts));
  found : IsFound (nodes l.table) l.found.names.keys l.found.seen.keys;
}
