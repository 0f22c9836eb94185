use Rattle.std.proofs.Common.{sym, ap, ◌∙◌, subst, ◌<◌, ◌++◌, List, ◌∷◌, [], arith}
use Rattle.jh_propagation.specs.declared.trail.decided.Decided.{Decided}
use Rattle.jh_propagation.specs.declared.propagation.branch.Branch.{Branch}
use Rattle.jh_propagation.specs.propagation.Branches.{left_over, parts_of, undecided_count}
use Rattle.jh_propagation.proofs.propagation.Measures.{left-falls, undecided-test}
use Rattle.jh_propagation.proofs.propagation.Pushing.{branch-decided}
use Rattle.jh_propagation.proofs.propagation.branch.decide.Goals as goal

pub returns-clause-branch : goal.returns-clause-branch
returns-clause-branch c =
    let old : Branch = c.args.branch.now in
    let new : Branch = record { decisions = c.push.new.self; classes = c.put.new.branch.classes; trail = c.put.new.branch.trail; reasons = c.put.new.branch.reasons; waiting = c.put.new.branch.waiting; head = c.put.new.branch.head } in
    branch-decided c.others_say_nothing.ensures c.args.problem.now [] (parts_of old) (parts_of new) c.args.literal
    (c.in_ok-push.ensures.items ∙ ap (λ v. v.items ++ c.args.literal ∷ []) c.put.ensures.decisions) c.put.ensures.classes c.in_ok-put.ensures.trail c.in_ok-put.ensures.reasons c.in_ok-put.ensures.waiting c.put.ensures.head c.requires.branch c.requires.atom

pub returns-clause-count : goal.returns-clause-count
returns-clause-count c =
    let falls = left-falls (λ k. 1) c.args.branch.now.trail c.args.literal c.args.problem.now.ground.atoms c.requires.atom (undecided-test c.args.branch.now.trail c.args.literal.atom c.requires.undecided) in
    subst (λ (trail : List Decided). left_over (λ k. 1) trail c.args.problem.now.ground.atoms < undecided_count c.args.problem.now c.args.branch.now) (sym c.in_ok-put.ensures.trail) (omega (arith, falls))
