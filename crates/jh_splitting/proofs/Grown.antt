-- The sequents of a formula stay while the table grows.
use Rattle.std.proofs.Common.{List}
use Rattle.jh_name.specs.declared.place.MethodId.{MethodId}
use Rattle.jh_arena.specs.table.Entries.{Listing}
use Rattle.jh_arena.specs.table.Growth.{Extends}
use Rattle.jh_containers.specs.declared.shared_lists.chains.Link.{Link}
use Rattle.jh_seq.specs.sequent.Sequents.{SequentTree}
use Rattle.jh_splitting.specs.declared.sequent.NodeHyp.{NodeHyp}
use Rattle.jh_splitting.specs.declared.sequent.NodeSequent.{NodeSequent}
use Rattle.jh_splitting.specs.Standing.{IsSequent, AreSequents}
use Rattle.jh_splitting.proofs.Pairing.{paired-grows}
use Rattle.jh_splitting.proofs.Standings.{label-grows, formula-grows, hyps-grow}

module _ (t u : Listing) (g : Extends t u) (links : List (Link NodeHyp)) (method : MethodId) where
  pub sequent-stays : (x : NodeSequent) (s : SequentTree) → IsSequent t links method x s → IsSequent u links method x s
  sequent-stays x s h = record {
    mark = h.mark;
    label = label-grows t u g x.mark h.mark h.label;
    shown = h.shown;
    of_method = h.of_method;
    hyps = hyps-grow t u g links links x.hyps s.hyps (λ n ys k. k) h.hyps;
    goal = formula-grows t u g x.goal s.goal h.goal;
  }

  pub sequents-stay : (xs : List NodeSequent) (ss : List SequentTree) → AreSequents t links method xs ss → AreSequents u links method xs ss
  sequents-stay xs ss h = paired-grows (IsSequent t links method) (IsSequent u links method) sequent-stays xs ss h
