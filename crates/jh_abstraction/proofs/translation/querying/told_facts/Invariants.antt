use Rattle.std.proofs.Common.{◌≡◌, ◌++◌, drop, map}
use Rattle.jh_arena.specs.table.Nodes.{nodes}
use Rattle.jh_query.specs.queries.Bare.{cond_tree}
use Rattle.jh_query_names.specs.name_lists.Lists.{lists_of}
use Rattle.jh_abstraction.proofs.translation.Facts.{told_at}
use Rattle.jh_abstraction.proofs.translation.querying.told_facts.Given as goal

-- with what is told of the facts that are left the conditions are those of all
abbrev pub invariant-loop-fact : goal.invariant-loop-fact
invariant-loop-fact l = map cond_tree l.made.items ++ told_at (lists_of (nodes l.table) l.names) (nodes l.table) (drop l.fact-index l.facts) ≡ told_at (lists_of (nodes l.table) l.names) (nodes l.table) l.facts
