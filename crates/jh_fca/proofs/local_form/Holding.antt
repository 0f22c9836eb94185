-- Lists of formulas that are all true.
use Rattle.std.proofs.Common.{◌≡◌, true, List, [], ◌∷◌, ◌++◌, map, None}
use Rattle.jh_form.specs.Tree.{FormulaTree}
use Rattle.jh_form.specs.Meaning.{Interp, truth}
use Rattle.jh_seq.specs.sequent.Sequents.{HypTree, AllTrue}

-- all formulas are true in an interpretation
abbrev pub AllHold : Interp → List FormulaTree → Type 0
AllHold m [] = Unit {0}
AllHold m (a ∷ fs) = (truth a m [] ≡ true) × AllHold m fs

pub hold-both : (m : Interp) (fs gs : List FormulaTree) → AllHold m fs → AllHold m gs → AllHold m (fs ++ gs)
hold-both m [] gs h k = k
hold-both m (a ∷ fs) gs h k = (h.0, hold-both m fs gs h.1 k)

-- hypotheses behind hypotheses
pub true-both : (m : Interp) (hs gs : List HypTree) → AllTrue hs m → AllTrue gs m → AllTrue (hs ++ gs) m
true-both m [] gs h k = k
true-both m (x ∷ hs) gs h k = (h.0, true-both m hs gs h.1 k)

-- formulas as hypotheses without names
pub true-facts : (m : Interp) (fs : List FormulaTree) → AllHold m fs → AllTrue (map (λ a. record { name = None; fact = a }) fs) m
true-facts m [] h = tt
true-facts m (a ∷ fs) h = (h.0, true-facts m fs h.1)
