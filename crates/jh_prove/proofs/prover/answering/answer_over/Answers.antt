use Rattle.std.proofs.Common.{◌≡◌, subst, sym}
use Rattle.jh_arena.specs.table.Nodes.{nodes}
use Rattle.jh_arena.proofs.table.Listed.{extends-trans}
use Rattle.jh_approx.specs.definition.Regions.{bapa_of, unlabelled}
use Rattle.jh_local.specs.declared.answer.Searched.TheVariants as searched
use Rattle.jh_local.proofs.of_jh_query_names.mentioned_names.Growing.{mentions-grow}
use Rattle.jh_query.specs.queries.Bare.{query_tree}
use Rattle.jh_prove.specs.prover.Right.{IsProof}
use Rattle.jh_prove.proofs.prover.Asking.{asked-bare, asked-stays}
use Rattle.jh_prove.proofs.prover.Rights.{local-right, regional-cause, regional-proof, tried-as}
use Rattle.jh_prove.proofs.prover.Bareness.{bare-truth, bare-truths, not-both, trivial-over}
use Rattle.jh_prove.proofs.prover.answering.answer_over.Goals as goal

pub is_trivial-requires-clause-goal : goal.is_trivial-requires-clause-goal
is_trivial-requires-clause-goal c =
    let a = c.args.asked in
    let s = c.requires.sequent.0 in
    bare-truth (nodes c.args.table.now) s.goal a.goal (asked-bare c.args.table.now a.hyps.now a.label a.facts.now a.goal s c.requires.sequent.1).goal_is

pub is_trivial-requires-clause-facts : goal.is_trivial-requires-clause-facts
is_trivial-requires-clause-facts c =
    let a = c.args.asked in
    let s = c.requires.sequent.0 in
    bare-truths c.args.table.now s.hyps a.facts.now (asked-bare c.args.table.now a.hyps.now a.label a.facts.now a.goal s c.requires.sequent.1).hyps

pub returns-then-is_trivial-clause-right : goal.returns-then-is_trivial-clause-right
returns-then-is_trivial-clause-right c = λ s h.
    let a = c.args.asked in
    subst (λ (P : Type 0). P) (trivial-over c.args.table.now a.facts.now a.goal s (asked-bare c.args.table.now a.hyps.now a.label a.facts.now a.goal s h)) (c.is_trivial.ensures.0 c.if-is_trivial.true)

pub by_search-requires-clause-sequent : goal.by_search-requires-clause-sequent
by_search-requires-clause-sequent c =
    let a = c.args.asked in
    let s = c.requires.sequent.0 in
    (s, asked-stays c.args.table.now c.by_regions.new.table c.by_regions.ensures.grows a.hyps.now a.label a.facts.now a.goal (unlabelled s) c.requires.sequent.1)

pub returns-in_err-derivation-in-Unproved-clause-grows : goal.returns-in_err-derivation-in-Unproved-clause-grows
returns-in_err-derivation-in-Unproved-clause-grows c = extends-trans c.args.table.now c.by_regions.new.table c.by_search.new.table c.by_regions.ensures.grows c.by_search.ensures.grows

pub returns-in-Proved-clause-right : goal.returns-in-Proved-clause-right
returns-in-Proved-clause-right c = λ s h.
    let t = c.args.table.now in
    let a = c.args.asked in
    let proof : (query_tree c.in-Proved.query ≡ bapa_of s) × IsProof (bapa_of s) = regional-proof (bapa_of s) c.in_ok-query.field-0 c.in-Proved.query c.in-Proved.is (c.in_ok-query.ensures.decided s h) in (
      (λ trivial. not-both c.is_trivial.result (c.is_trivial.ensures.1 (subst (λ (P : Type 0). P) (sym (trivial-over t a.facts.now a.goal s (asked-bare t a.hyps.now a.label a.facts.now a.goal s h))) trivial)) c.if-is_trivial.false),
      proof.0,
      proof.1,
    )

pub returns-in-Proved-2-clause-right : goal.returns-in-Proved-2-clause-right
returns-in-Proved-2-clause-right c = λ s h.
    let t = c.args.table.now in
    let u = c.by_regions.new.table in
    let a = c.args.asked in
    local-right c.args.options s c.in-Unproved.bapa c.in-Proved-2.derivation
    (λ trivial. not-both c.is_trivial.result (c.is_trivial.ensures.1 (subst (λ (P : Type 0). P) (sym (trivial-over t a.facts.now a.goal s (asked-bare t a.hyps.now a.label a.facts.now a.goal s h))) trivial)) c.if-is_trivial.false)
    (regional-cause (bapa_of s) c.in_ok-query.field-0 c.in-Unproved.bapa c.in-Unproved.is (c.in_ok-query.ensures.decided s h))
    (tried-as c.args.options s c.in_ok-derivation-in-Unproved.field-0 (searched.Proved c.in-Proved-2.derivation) c.in-Proved-2.is
    (c.in_ok-derivation-in-Unproved.ensures.tried s (asked-stays t u c.by_regions.ensures.grows a.hyps.now a.label a.facts.now a.goal (unlabelled s) h)))

pub returns-in-Proved-2-clause-seen : goal.returns-in-Proved-2-clause-seen
returns-in-Proved-2-clause-seen c = mentions-grow (nodes c.by_regions.new.table) (nodes c.by_search.new.table) c.by_search.ensures.grows.nodes c.by_regions.new.seen c.in_ok-query.ensures.seen

pub returns-in-Proved-2-clause-grows : goal.returns-in-Proved-2-clause-grows
returns-in-Proved-2-clause-grows c = extends-trans c.args.table.now c.by_regions.new.table c.by_search.new.table c.by_regions.ensures.grows c.by_search.ensures.grows

pub returns-in-Unproved-2-clause-right : goal.returns-in-Unproved-2-clause-right
returns-in-Unproved-2-clause-right c = λ s h.
    let t = c.args.table.now in
    let u = c.by_regions.new.table in
    let a = c.args.asked in (
      (λ trivial. not-both c.is_trivial.result (c.is_trivial.ensures.1 (subst (λ (P : Type 0). P) (sym (trivial-over t a.facts.now a.goal s (asked-bare t a.hyps.now a.label a.facts.now a.goal s h))) trivial)) c.if-is_trivial.false),
      regional-cause (bapa_of s) c.in_ok-query.field-0 c.in-Unproved.bapa c.in-Unproved.is (c.in_ok-query.ensures.decided s h),
      tried-as c.args.options s c.in_ok-derivation-in-Unproved.field-0 (searched.Unproved c.in-Unproved-2.local) c.in-Unproved-2.is
          (c.in_ok-derivation-in-Unproved.ensures.tried s (asked-stays t u c.by_regions.ensures.grows a.hyps.now a.label a.facts.now a.goal (unlabelled s) h)),
    )

pub returns-in-Unproved-2-clause-seen : goal.returns-in-Unproved-2-clause-seen
returns-in-Unproved-2-clause-seen c = mentions-grow (nodes c.by_regions.new.table) (nodes c.by_search.new.table) c.by_search.ensures.grows.nodes c.by_regions.new.seen c.in_ok-query.ensures.seen

pub returns-in-Unproved-2-clause-grows : goal.returns-in-Unproved-2-clause-grows
returns-in-Unproved-2-clause-grows c = extends-trans c.args.table.now c.by_regions.new.table c.by_search.new.table c.by_regions.ensures.grows c.by_search.ensures.grows
