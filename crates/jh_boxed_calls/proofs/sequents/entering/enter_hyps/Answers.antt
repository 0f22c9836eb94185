use Rattle.std.proofs.Common.{sym, ap, subst, ◌∙◌, List, [], ◌∷◌, ◌++◌, map, take}
use Rattle.std.proofs.lemmas.List.{map_more}
use Rattle.jh_arena.proofs.table.Listed.{extends-trans}
use Rattle.jh_seq.specs.sequent.Sequents.{HypTree, hyp_tree}
use Rattle.jh_prove.specs.jh_splitting.Standing.{AreHyps}
use Rattle.std.proofs.Common.{Some}
use Rattle.jh_boxed_calls.proofs.sequents.EnteredSteps.{hyps-more}
use Rattle.jh_boxed_calls.proofs.sequents.entering.enter_hyps.Goals as goal

pub loop-hyp-preserved : goal.loop-hyp-preserved
loop-hyp-preserved c =
    let known = c.loop-hyp.invariant in
    let hyps = c.args.hyps.now in
    let i = c.loop-hyp.hyp-index in
    let h = c.hyp-item.result in
    let t = c.enter_hyp.new.table in
    let more = map_more hyp_tree hyps i h c.loop-hyp-test.true ∙ ap (λ x. map hyp_tree (take i hyps) ++ hyp_tree x ∷ []) (sym c.hyp-item.is) in
    record {
      table = extends-trans c.args.table.now c.loop-hyp.table t known.table c.enter_hyp.ensures.grows;
      hyps = subst (λ (hs : List HypTree). AreHyps t c.extend.new.self (Some c.in_ok-extend.field-0) hs) (sym more)
          (hyps-more c.loop-hyp.table t c.loop-hyp.lists c.extend.new.self c.loop-hyp.list c.in_ok-extend.field-0 (map hyp_tree (take i hyps)) c.in_ok-made.made (hyp_tree h) c.enter_hyp.ensures.grows known.hyps c.in_ok-extend.ensures.made c.in_ok-made.ensures.hyp);
    }
