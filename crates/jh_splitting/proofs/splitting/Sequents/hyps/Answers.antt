use Rattle.std.proofs.Common.{◌≡◌, sym, ap, ◌∙◌, subst, List, reverse}
use Rattle.jh_splitting.specs.declared.sequent.NodeHyp.{NodeHyp}
use Rattle.jh_splitting.specs.Pairs.{ArePaired}
use Rattle.jh_splitting.specs.Standing.{IsHyp}
use Rattle.jh_splitting.proofs.Pairing.{reversed-paired}
use Rattle.jh_splitting.proofs.splitting.Sequents.hyps.Goals as goal

pub returns : goal.returns
returns c = λ t hs h.
    let is : c.reverse.new.self.items ≡ reverse h.0 = c.reverse.ensures.items ∙ ap reverse (c.in_ok-hyps.ensures h.0 h.1) in
    subst (λ (xs : List NodeHyp). ArePaired (IsHyp t) xs hs) (sym is) (reversed-paired (IsHyp t) h.0 hs h.2)
