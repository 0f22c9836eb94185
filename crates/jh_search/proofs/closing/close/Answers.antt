use Rattle.std.proofs.Common.{◌≡◌, sym, ap, ◌∙◌, subst, List, [], ◌∷◌, ◌++◌}
use Rattle.jh_closure.specs.congruence_closure.Nodes.{Has}
use Rattle.jh_arena.specs.table.Nodes.{nodes}
use Rattle.jh_arena.specs.table.Growth.{AreDifferent}
use Rattle.jh_explanations.specs.declared.step.Step.{Step}
use Rattle.jh_explanations.specs.Steps.{literals_of}
use Rattle.jh_search.specs.declared.turn.ClosedBranch.{ClosedBranch}
use Rattle.jh_search.specs.Searches.{IsGoingBack}
use Rattle.jh_search.proofs.Leaves.{goes-back}
use Rattle.jh_search.proofs.Lists.{both-ok}
use Rattle.jh_search.proofs.closing.close.Goals as goal

pub returns-clause-back : goal.returns-clause-back
returns-clause-back c =
    both-ok c.needs_of.result
    (λ needs only all. subst (λ (bs : List ClosedBranch). IsGoingBack (nodes c.args.problem.now.table) c.args.problem.now c.args.searching.now.path.items bs needs.items) (sym pushed)
    (goes-back c.search_goes_on.ensures c.args.problem.now c.args.searching.now c.args.cause.now c.requires.leaf c.in_ok-steps.steps.items c.in_ok-steps.ensures.explains different needs.items
    (λ d h. let x = only d h in (x.0, (subst (λ (xs : List Step). Has xs x.0) c.as_slice-3.ensures.value x.1.0, x.1.1)))
    (λ x h. all x (subst (λ (xs : List Step). Has xs x) (sym c.as_slice-3.ensures.value) h))
    more
    (c.in_ok-decisions.ensures ∙ c.as_slice.ensures.value)
    (c.in_ok-explanation.ensures ∙ ap literals_of c.as_slice-2.ensures.value)))
    c.needs_of.ensures.only c.needs_of.ensures.all
  where
    different : AreDifferent (nodes c.args.problem.now.table)
    different = c.nodes_differ.ensures.different

    more : ClosedBranch
    more = record { decisions = c.in_ok-decisions.decisions; explanation = c.in_ok-explanation.explanation }

    pushed : c.push.new.self.items ≡ c.args.searching.now.closed.items ++ more ∷ []
    pushed = c.in_ok-push.ensures.items ∙ ap (λ (bs : List ClosedBranch). bs ++ more ∷ []) c.in_ok-steps.ensures.closed
