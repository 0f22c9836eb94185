use Rattle.std.proofs.Common.{sym, ◌∙◌, subst, List}
use Rattle.std.proofs.lemmas.Bool.{true≢false}
use Rattle.jh_closure.specs.congruence_closure.Nodes.{Has}
use Rattle.jh_arena.specs.table.Nodes.{nodes}
use Rattle.jh_explanations.specs.declared.step.Step.{Step}
use Rattle.jh_explanations.specs.Steps.{literals_of}
use Rattle.jh_explanations.proofs.Keeps.{tries-absent}
use Rattle.jh_explanations.proofs.shortening.shortened_by.Goals as goal

pub returns-else-holds-clause-tries : goal.returns-else-holds-clause-tries
returns-else-holds-clause-tries c =
    λ ds tried h. tries-absent (nodes c.args.problem.now.table) c.args.problem.now c.requires.problem.posed c.nodes_differ.ensures.different c.shortening_is_exact.ensures c.most_is_kept.ensures ds tried c.args.steps.items c.args.out h c.requires.out
    (λ there. true≢false (sym (c.holds.ensures.1 (subst (λ (xs : List Step). Has (literals_of xs) c.args.out) (sym c.as_slice.ensures.value) there)) ∙ c.if-holds.false))
