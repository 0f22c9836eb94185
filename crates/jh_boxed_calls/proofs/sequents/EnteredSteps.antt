-- Hypotheses that were entered, one after another.
use Rattle.std.proofs.Common.{refl, ℕ, List, [], ◌∷◌, ◌++◌, Option, Some, None}
use Rattle.jh_form.specs.declared.mark.Mark.{Mark}
use Rattle.jh_form.specs.Tree.{of_truth}
use Rattle.jh_arena.specs.table.Entries.{Listing}
use Rattle.jh_arena.specs.table.Growth.{Extends}
use Rattle.jh_containers.specs.declared.shared_lists.chains.Link.{Link}
use Rattle.jh_containers.specs.shared_lists.Chained.{IsChain}
use Rattle.jh_seq.specs.sequent.Sequents.{HypTree}
use Rattle.jh_prove.specs.jh_splitting.declared.sequent.NodeHyp.{NodeHyp}
use Rattle.jh_prove.specs.jh_splitting.Pairs.{AreReversed}
use Rattle.jh_prove.specs.jh_splitting.Standing.{IsLabel, IsHyp, AreHyps}

label-still : (t u : Listing) (n : Option ℕ) (m : Option Mark) → Extends t u → IsLabel t n m → IsLabel u n m
label-still t u None None g h = h
label-still t u None (Some m) g h = h
label-still t u (Some n) None g h = h
label-still t u (Some n) (Some m) g h = g.marks.keeps n m h

hyp-still : (t u : Listing) (x : NodeHyp) (h : HypTree) → Extends t u → IsHyp t x h → IsHyp u x h
hyp-still t u x h g is = record { mark = is.mark; label = label-still t u x.mark is.mark g is.label; name = is.name; fact = g.nodes.keeps x.fact (of_truth h.fact) is.fact }

reversed-still : (t u : Listing) (xs : List NodeHyp) (hs : List HypTree) → Extends t u → AreReversed (IsHyp t) xs hs → AreReversed (IsHyp u) xs hs
reversed-still t u [] hs g are = are
reversed-still t u (x ∷ xs) hs g (front, last, is, rest, e) = (front, last, hyp-still t u x last g is, reversed-still t u xs front g rest, e)

pub hyps_still : (t u : Listing) (links : List (Link NodeHyp)) (list : Option ℕ) (hs : List HypTree) → Extends t u → AreHyps t links list hs → AreHyps u links list hs
hyps_still t u links list hs g (xs, chain, are) = (xs, chain, reversed-still t u xs hs g are)

pub hyps-more : (t u : Listing) (old new : List (Link NodeHyp)) (list : Option ℕ) (made : ℕ) (hs : List HypTree) (x : NodeHyp) (h : HypTree) → Extends t u → AreHyps t old list hs → ((xs : List NodeHyp) → IsChain old list xs → IsChain new (Some made) (x ∷ xs)) → IsHyp u x h →
    AreHyps u new (Some made) (hs ++ h ∷ [])
hyps-more t u old new list made hs x h g (xs, chain, are) more is = (x ∷ xs, more xs chain, (hs, h, is, reversed-still t u xs hs g are, refl))

pub ruleset entered_steps = (hyps_still)
