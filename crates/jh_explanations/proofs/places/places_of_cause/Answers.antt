use Rattle.std.proofs.Common.{sym, subst, ℕ, List}
use Rattle.jh_cong.proofs.classes.Oks.{if-ok}
use Rattle.jh_arena.specs.table.Nodes.{nodes}
use Rattle.jh_propagation.specs.declared.propagation.branch.Cause.{Cause}
use Rattle.jh_propagation.specs.propagation.Closings.{IsCause}
use Rattle.jh_explanations.specs.Resting.{ClashWith}
use Rattle.jh_explanations.proofs.Follows.{clash-unmet}
use Rattle.jh_explanations.proofs.places.places_of_cause.Goals as goal

pub returns-in-Equality-clause-clash : goal.returns-in-Equality-clause-clash
returns-in-Equality-clause-clash c =
    let ts = nodes c.args.table.now in
    let unmet = subst (λ (x : Cause). IsCause ts c.args.problem.now c.args.trail.now x) c.in-Equality.is c.requires.cause in
    if-ok c.copied.result (λ made e. subst (λ (ns : List ℕ). ClashWith ts c.args.problem.now c.args.trail.now ns) (sym e) (subst (λ (ns : List ℕ). ClashWith ts c.args.problem.now c.args.trail.now ns) (sym c.items.ensures) (clash-unmet ts c.args.problem.now c.args.trail.now _ unmet))) c.copied.ensures
