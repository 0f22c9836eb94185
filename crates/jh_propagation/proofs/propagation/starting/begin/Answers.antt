use Rattle.std.proofs.Common.{refl, subst, ℕ, List, ◌<◌, ◌↔◌, length}
use Rattle.jh_closure.specs.congruence_closure.Nodes.{Has}
use Rattle.jh_propagation.specs.declared.propagation.branch.Branch.{Branch}
use Rattle.jh_propagation.specs.propagation.Branches.{parts_of}
use Rattle.jh_propagation.proofs.propagation.Starts.{nothing-decided}
use Rattle.jh_propagation.proofs.propagation.starting.begin.Goals as goal

pub returns-clause-branch : goal.returns-clause-branch
returns-clause-branch c =
    let b : Branch = record { decisions = c.new.result; classes = c.args.classes; trail = c.new-2.result; reasons = c.new-3.result; waiting = c.in_ok-waiting.waiting; head = 0 } in
    nothing-decided c.args.problem.now (parts_of b) c.requires.problem c.new.ensures.items c.requires.said c.new-2.ensures c.new-3.ensures.items refl
    (subst (λ (xs : List ℕ). (j : ℕ) → Has c.in_ok-waiting.waiting.items j ↔ (j < length xs)) c.as_slice.ensures.value c.in_ok-waiting.ensures)
