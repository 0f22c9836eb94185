use Rattle.std.proofs.Common.{◌≡◌, sym, subst, List, ℕ, ◌∙◌}
use Rattle.std.proofs.lemmas.Result.{IfOk-weaker}
use Rattle.jh_approx.specs.definition.Regions.{unlabelled}
use Rattle.jh_local.specs.jh_abstraction.choice_of_hypotheses.Asking.{IsAsked}
use Rattle.jh_local.specs.jh_fca.local_form.LocalOf.{local_of}
use Rattle.jh_local.specs.jh_local_form.local_sequents.Forming.{IsFormed}
use Rattle.jh_seq.specs.sequent.Sequents.{SequentTree}
use Rattle.jh_splitting.specs.declared.sequent.NodeHyp.{NodeHyp}
use Rattle.jh_splitting.specs.Pairs.{ArePaired}
use Rattle.jh_splitting.specs.Standing.{IsHyp, IsSequent}
use Rattle.jh_arena.specs.table.Nodes.{nodes}
use Rattle.jh_arena.proofs.table.Listed.{extends-trans}
use Rattle.jh_prove.specs.prover.Right.{local_form}
use Rattle.jh_prove.specs.prover.Unlabelled.{AreFacts, AreUnlabelled}
use Rattle.jh_prove.proofs.prover.Asking.{asked-of}
use Rattle.jh_prove.proofs.prover.Bareness.{hyps-facts}
use Rattle.jh_prove.proofs.prover.forms.form_for_goal.Goals as goal

pub facts_without_labels-requires-clause-hyps : goal.facts_without_labels-requires-clause-hyps
facts_without_labels-requires-clause-hyps c =
    let t = c.args.table.now in
    let s = c.requires.sequent.0 in
    subst (λ (xs : List NodeHyp). AreFacts t xs) (sym c.as_slice.ensures.value) (hyps-facts t c.in_ok-hyps.hyps.items s.hyps (c.in_ok-hyps.ensures t s.hyps c.requires.sequent.1.hyps))

pub local_of-requires : goal.local_of-requires
local_of-requires c =
    let t = c.args.table.now in
    let u = c.facts_without_labels.new.table in
    let s = c.requires.sequent.0 in
    let h = c.requires.sequent.1 in record {
      sequent = (
        unlabelled s,
        asked-of t u c.facts_without_labels.ensures.grows c.args.sequents.now.hyps c.args.sequents.now.method c.args.sequent s h c.as_slice-2.result.now
            (subst (λ (xs : List NodeHyp). ArePaired (IsHyp t) xs s.hyps) (sym c.as_slice-2.ensures.value) (c.in_ok-hyps.ensures t s.hyps h.hyps))
            c.as_slice-3.result.now
            (subst (λ (ns : List ℕ). AreUnlabelled (nodes u) c.as_slice-2.result.now ns) (sym c.as_slice-3.ensures.value)
            (subst (λ (xs : List NodeHyp). AreUnlabelled (nodes u) xs c.in_ok-facts.facts.items) (c.as_slice.ensures.value ∙ sym c.as_slice-2.ensures.value) c.in_ok-facts.ensures.facts))
            c.args.goal c.requires.goal,
      );
    }

pub returns-clause-form : goal.returns-clause-form
returns-clause-form c =
    let t = c.args.table.now in
    let u = c.facts_without_labels.new.table in
    let w = c.local_of.new.table in
    IfOk-weaker
    c.local_of.result
    (λ made. (s : SequentTree) → IsAsked u c.as_slice-2.result.now c.args.sequent.mark c.as_slice-3.result.now c.args.goal s → IsFormed w made (local_of s))
    (λ made. (s : SequentTree) → IsSequent t c.args.sequents.now.hyps c.args.sequents.now.method c.args.sequent s → IsFormed w made (local_form s))
    (λ made form s h. form (unlabelled s) (asked-of t u c.facts_without_labels.ensures.grows c.args.sequents.now.hyps c.args.sequents.now.method c.args.sequent s h c.as_slice-2.result.now
    (subst (λ (xs : List NodeHyp). ArePaired (IsHyp t) xs s.hyps) (sym c.as_slice-2.ensures.value) (c.in_ok-hyps.ensures t s.hyps h.hyps))
    c.as_slice-3.result.now
    (subst (λ (ns : List ℕ). AreUnlabelled (nodes u) c.as_slice-2.result.now ns) (sym c.as_slice-3.ensures.value)
    (subst (λ (xs : List NodeHyp). AreUnlabelled (nodes u) xs c.in_ok-facts.facts.items) (c.as_slice.ensures.value ∙ sym c.as_slice-2.ensures.value) c.in_ok-facts.ensures.facts))
    c.args.goal c.requires.goal))
    c.local_of.ensures.local

pub returns-clause-grows : goal.returns-clause-grows
returns-clause-grows c = extends-trans c.args.table.now c.facts_without_labels.new.table c.local_of.new.table c.facts_without_labels.ensures.grows c.local_of.ensures.grows
