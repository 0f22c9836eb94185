use Rattle.std.proofs.Common.{◌≡◌, ◌++◌, drop}
use Rattle.jh_arena.specs.table.Growth.{Extends}
use Rattle.jh_arena.specs.table.Nodes.{nodes}
use Rattle.jh_open_branches.specs.Placed.{ArePlaced, noted}
use Rattle.jh_deriv.specs.Replays.{AllFormulas, bare_facts, facts_at}
use Rattle.jh_deriv.proofs.replaying.add_hyps.Given as goal

abbrev pub invariant-loop-hyp : goal.invariant-loop-hyp
invariant-loop-hyp l = record {
  whole : facts_at (nodes l.table) l.facts.facts.items ++ bare_facts (drop l.hyp-index l.hyps) ≡ facts_at (nodes l.fn.table) l.fn.facts.facts.items ++ bare_facts l.hyps;
  formulas : AllFormulas (nodes l.table) l.facts.facts.items;
  placed : ArePlaced l.facts.facts.items (noted l.facts.places);
  grows : Extends l.fn.table l.table;
}
