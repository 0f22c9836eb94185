use Rattle.std.proofs.Common.{◌≡◌, take}
use Rattle.jh_arena.specs.table.Nodes.{nodes}
use Rattle.jh_instance_proofs.specs.derivations.Facts.{formulas_at, hyp_facts}
use Rattle.jh_instance_proofs.proofs.derivations.answering.hyps_of.Given as goal

-- the first facts are boxed
abbrev pub invariant-loop-place : goal.invariant-loop-place
invariant-loop-place l = hyp_facts l.made.items ≡ formulas_at (nodes l.table) (take l.place l.facts)
