use Rattle.std.proofs.Common.{sym, ap, subst, ◌+◌, ◌≤◌, List}
use Rattle.jh_cong.proofs.classes.Oks.{on-ok}
use Rattle.jh_propagation.specs.declared.trail.decided.Decided.{Decided}
use Rattle.jh_propagation.specs.propagation.Branches.{left_over, parts_of}
use Rattle.jh_propagation.proofs.propagation.Measures.{left-falls, undecided-test}
use Rattle.jh_propagation.proofs.propagation.Pushing.{branch-pushed, three-ok}
use Rattle.jh_propagation.proofs.propagation.branch.push.Goals as goal

pub returns-clause-branch : goal.returns-clause-branch
returns-clause-branch c =
    three-ok c.put.result (λ trail reasons waiting busy h. branch-pushed c.others_say_nothing.ensures c.args.problem.now busy (parts_of c.args.branch.now) (parts_of c.put.new.branch) c.args.literal c.args.reason (ap (λ v. v.items) c.put.ensures.decisions) c.put.ensures.classes trail reasons waiting c.put.ensures.head h c.requires.atom c.requires.why c.requires.latest)
    c.put.ensures.trail c.put.ensures.reasons c.put.ensures.waiting

pub returns-clause-left : goal.returns-clause-left
returns-clause-left c =
    on-ok c.put.result (λ e weight. subst (λ (trail : List Decided). left_over weight trail c.args.problem.now.ground.atoms + weight c.args.literal.atom ≤ left_over weight c.args.branch.now.trail c.args.problem.now.ground.atoms) (sym e)
    (left-falls weight c.args.branch.now.trail c.args.literal c.args.problem.now.ground.atoms c.requires.atom (undecided-test c.args.branch.now.trail c.args.literal.atom c.requires.undecided))) c.put.ensures.trail
