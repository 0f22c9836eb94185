use Rattle.std.proofs.Common.{◌≡◌, refl, sym, ap, subst, ◌∙◌, List, [], ◌∷◌, ◌++◌, map, Some}
use Rattle.jh_arena.proofs.table.Listed.{extends-trans}
use Rattle.jh_seq.specs.sequent.Sequents.{hyp_tree, sequent_tree}
use Rattle.jh_prove.specs.jh_splitting.declared.sequent.NodeSequent.{NodeSequent}
use Rattle.jh_prove.specs.jh_splitting.Standing.{AreHyps, IsSequent, AreSequents}
use Rattle.jh_boxed_calls.proofs.sequents.EnteredSteps.{hyps_still}
use Rattle.jh_boxed_calls.proofs.sequents.entering.enter_sequent.Goals as goal

pub returns-clause-sequents : goal.returns-clause-sequents
unfolding sequent_tree
returns-clause-sequents c =
    let s = c.args.sequent.now in
    let t = c.enter_formula.new.table in
    let lists = c.enter_hyps.new.lists in
    let made : NodeSequent = record { mark = Some c.in_ok-mark.mark; hyps = c.in_ok-hyps.hyps; goal = c.in_ok-goal.goal } in
    let pushed : c.push.new.self.items ≡ made ∷ [] = c.in_ok-push.ensures.items ∙ ap (λ xs. xs ++ made ∷ []) c.new-made.ensures.items in
    let grows = extends-trans c.enter_hyps.new.table c.mark.new.self t c.mark.ensures.grows c.enter_formula.ensures.grows in
    let hyps : AreHyps t lists c.in_ok-hyps.hyps (map hyp_tree s.hyps) = subst (λ hs. AreHyps t lists c.in_ok-hyps.hyps (map hyp_tree hs)) c.items.ensures (hyps_still c.enter_hyps.new.table t lists c.in_ok-hyps.hyps (map hyp_tree c.items.result.now) grows c.in_ok-hyps.ensures.hyps) in
    let is : IsSequent t lists s.method made (sequent_tree s) = record {
      mark = Some s.mark;
      label = c.enter_formula.ensures.grows.marks.keeps c.in_ok-mark.mark s.mark c.in_ok-mark.ensures.number;
      shown = refl;
      of_method = refl;
      hyps = hyps;
      goal = c.in_ok-goal.ensures.node;
    } in
    subst (λ (xs : List NodeSequent). AreSequents t lists s.method xs (sequent_tree s ∷ [])) (sym pushed) (is, tt)
