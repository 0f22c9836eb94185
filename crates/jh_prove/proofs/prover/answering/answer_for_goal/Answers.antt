use Rattle.std.proofs.Common.{sym, subst, List, ℕ, ◌∙◌}
use Rattle.std.proofs.lemmas.Result.{IfOk-weaker}
use Rattle.jh_approx.specs.definition.Regions.{unlabelled}
use Rattle.jh_local.specs.jh_abstraction.choice_of_hypotheses.Asking.{IsAsked}
use Rattle.jh_local.proofs.of_jh_query_names.mentioned_names.Growing.{mentions-grow, on-ok}
use Rattle.jh_seq.specs.sequent.Sequents.{SequentTree}
use Rattle.jh_splitting.specs.declared.sequent.NodeHyp.{NodeHyp}
use Rattle.jh_splitting.specs.Pairs.{ArePaired}
use Rattle.jh_splitting.specs.Standing.{IsHyp, IsSequent}
use Rattle.jh_arena.specs.table.Nodes.{nodes}
use Rattle.jh_prove.specs.prover.Memos.{found}
use Rattle.jh_prove.specs.prover.Right.{Right}
use Rattle.jh_prove.specs.prover.Unlabelled.{AreFacts, AreUnlabelled}
use Rattle.jh_prove.proofs.prover.Asking.{asked-of}
use Rattle.jh_prove.proofs.prover.Bareness.{holds-grow, hyps-facts}
use Rattle.jh_prove.proofs.prover.answering.answer_for_goal.Goals as goal

pub facts_without_labels-requires-clause-hyps : goal.facts_without_labels-requires-clause-hyps
facts_without_labels-requires-clause-hyps c =
    let t = c.args.table.now in
    let s = c.requires.sequent.0 in
    subst (λ (xs : List NodeHyp). AreFacts t xs) (sym c.as_slice.ensures.value) (hyps-facts t c.in_ok-hyps.hyps.items s.hyps (c.in_ok-hyps.ensures t s.hyps c.requires.sequent.1.hyps))

pub answer_over-requires-clause-sequent : goal.answer_over-requires-clause-sequent
answer_over-requires-clause-sequent c =
    let t = c.args.table.now in
    let u = c.facts_without_labels.new.table in
    let s = c.requires.sequent.0 in
    let h = c.requires.sequent.1 in (
      s,
      asked-of t u c.facts_without_labels.ensures.grows c.args.sequents.now.hyps c.args.sequents.now.method c.args.sequent s h c.as_slice-2.result.now
          (subst (λ (xs : List NodeHyp). ArePaired (IsHyp t) xs s.hyps) (sym c.as_slice-2.ensures.value) (c.in_ok-hyps.ensures t s.hyps h.hyps))
          c.as_slice-3.result.now
          (subst (λ (ns : List ℕ). AreUnlabelled (nodes u) c.as_slice-2.result.now ns) (sym c.as_slice-3.ensures.value)
          (subst (λ (xs : List NodeHyp). AreUnlabelled (nodes u) xs c.in_ok-facts.facts.items) (c.as_slice.ensures.value ∙ sym c.as_slice-2.ensures.value) c.in_ok-facts.ensures.facts))
          c.args.goal c.requires.goal,
    )

pub answer_over-requires-clause-seen : goal.answer_over-requires-clause-seen
answer_over-requires-clause-seen c = mentions-grow (nodes c.args.table.now) (nodes c.facts_without_labels.new.table) c.facts_without_labels.ensures.grows.nodes c.args.seen.now c.requires.seen

pub returns-clause-right : goal.returns-clause-right
returns-clause-right c =
    let t = c.args.table.now in
    let u = c.facts_without_labels.new.table in
    IfOk-weaker
    c.answer_over.result
    (λ made. (s : SequentTree) → IsAsked u c.as_slice-2.result.now c.args.sequent.mark c.as_slice-3.result.now c.args.goal (unlabelled s) → Right c.args.options s made)
    (λ made. (s : SequentTree) → IsSequent t c.args.sequents.now.hyps c.args.sequents.now.method c.args.sequent s → Right c.args.options s made)
    (λ made right s h. right s (asked-of t u c.facts_without_labels.ensures.grows c.args.sequents.now.hyps c.args.sequents.now.method c.args.sequent s h c.as_slice-2.result.now
    (subst (λ (xs : List NodeHyp). ArePaired (IsHyp t) xs s.hyps) (sym c.as_slice-2.ensures.value) (c.in_ok-hyps.ensures t s.hyps h.hyps))
    c.as_slice-3.result.now
    (subst (λ (ns : List ℕ). AreUnlabelled (nodes u) c.as_slice-2.result.now ns) (sym c.as_slice-3.ensures.value)
    (subst (λ (xs : List NodeHyp). AreUnlabelled (nodes u) xs c.in_ok-facts.facts.items) (c.as_slice.ensures.value ∙ sym c.as_slice-2.ensures.value) c.in_ok-facts.ensures.facts))
    c.args.goal c.requires.goal))
    c.answer_over.ensures.right

pub returns-clause-memo : goal.returns-clause-memo
returns-clause-memo c =
    let t = c.facts_without_labels.new.table in
    let u = c.answer_over.new.table in
    on-ok c.answer_over.result
    (holds-grow (nodes t) (nodes u) c.answer_over.ensures.grows.nodes (found c.facts_without_labels.new.memo.answers) c.in_ok-facts.ensures.memo)
