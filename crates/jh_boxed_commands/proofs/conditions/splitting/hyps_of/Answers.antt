use Rattle.std.proofs.Common.{List, sym, subst}
use Rattle.jh_splitting.specs.Pairs.{ArePaired}
use Rattle.jh_splitting.specs.Standing.{IsHyp}
use Rattle.jh_splitting.specs.declared.sequent.NodeHyp.{NodeHyp}
use Rattle.jh_boxed_commands.proofs.conditions.splitting.hyps_of.Goals as goal

pub boxed_hyps-requires : goal.boxed_hyps-requires
boxed_hyps-requires c =
    let t = c.args.table.now in
    let hs = c.requires.0.hyps in
    (hs, subst (λ (xs : List NodeHyp). ArePaired (IsHyp t) xs hs) (sym c.as_slice.ensures.value) (c.in_ok-hyps.ensures t hs c.requires.1.hyps))

pub returns : goal.returns
returns c = λ s is.
    let t = c.args.table.now in
    c.boxed_hyps.ensures s.hyps (subst (λ (xs : List NodeHyp). ArePaired (IsHyp t) xs s.hyps) (sym c.as_slice.ensures.value) (c.in_ok-hyps.ensures t s.hyps is.hyps))
