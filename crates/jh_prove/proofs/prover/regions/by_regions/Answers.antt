use Rattle.std.proofs.Common.{subst, sym}
use Rattle.std.proofs.lemmas.Result.{IfOk-weaker}
use Rattle.jh_approx.specs.definition.Regions.{bapa_of, unlabelled}
use Rattle.jh_local.specs.jh_abstraction.choice_of_hypotheses.Asking.{IsAsked}
use Rattle.jh_query.specs.queries.Bare.{query_tree}
use Rattle.jh_query.specs.queries.Named.{IsWellFormed}
use Rattle.jh_query.specs.queries.Tree.{QueryTree}
use Rattle.jh_seq.specs.sequent.Sequents.{SequentTree}
use Rattle.jh_prove.specs.prover.Right.{IsRegional}
use Rattle.jh_prove.proofs.prover.regions.by_regions.Goals as goal

pub answer_of-requires : goal.answer_of-requires
answer_of-requires c =
    let s = c.requires.sequent.0 in
    subst (λ (q : QueryTree). IsWellFormed q) (sym (c.in_ok-query.ensures.query s c.requires.sequent.1)) (c.queries_are_well_formed.ensures s)

pub returns-clause-decided : goal.returns-clause-decided
returns-clause-decided c =
    let t = c.args.table.now in
    let a = c.args.asked in
    IfOk-weaker
    c.answer_of.result
    (λ made. IsRegional (query_tree c.in_ok-query.query) made)
    (λ made. (s : SequentTree) → IsAsked t a.hyps.now a.label a.facts.now a.goal (unlabelled s) → IsRegional (bapa_of s) made)
    (λ made decided s h. subst (λ (q : QueryTree). IsRegional q made) (c.in_ok-query.ensures.query s h) decided)
    c.answer_of.ensures
