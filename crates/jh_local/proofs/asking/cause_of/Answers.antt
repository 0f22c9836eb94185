use Rattle.std.proofs.Common.{sym, subst, List}
use Rattle.jh_arena.specs.table.Nodes.{nodes}
use Rattle.jh_propagation.specs.propagation.Problems.{instances_in}
use Rattle.jh_instance_proofs.specs.jh_search.Outcomes.{IsFound}
use Rattle.jh_instance_proofs.specs.jh_search.declared.turn.ClosedBranch.{ClosedBranch}
use Rattle.jh_instance_proofs.specs.jh_search.declared.turn.Found.{Found}
use Rattle.jh_local.specs.Standing.{EachFormulas}
use Rattle.jh_local.proofs.Found.{model-formulas, spent-formulas}
use Rattle.jh_local.proofs.asking.cause_of.Goals as goal

pub boxed_trail-requires : goal.boxed_trail-requires
boxed_trail-requires c =
    let p = c.args.problem.now in
    let s = c.args.searching.now in
    record { there = model-formulas (instances_in (nodes p.table) p) (nodes p.table) s.branch.trail (subst (λ (f : Found). IsFound p c.requires.0 s f) c.in-Model.is c.requires.1) }

pub boxed_branches-requires : goal.boxed_branches-requires
boxed_branches-requires c =
    let p = c.args.problem.now in
    let s = c.args.searching.now in
    record {
      there = subst (λ (bs : List ClosedBranch). EachFormulas (nodes p.table) bs) (sym c.as_slice.ensures.value)
          (spent-formulas (instances_in (nodes p.table) p) (nodes p.table) c.requires.0 s.closed.items (subst (λ (f : Found). IsFound p c.requires.0 s f) c.in-Spent.is c.requires.1));
    }
