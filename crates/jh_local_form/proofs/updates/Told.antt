-- What names say, one after another.
use Rattle.std.proofs.Common.{◌≡◌, refl, sym, ap, subst, ◌∙◌, ℕ, ◌+◌, ◌≤◌, List, [], ◌∷◌, ◌++◌, take, length, slice_get, Option, Some, None, append-nil, arith}
use Rattle.std.specs.List.{flat_map}
use Rattle.std.proofs.lemmas.Grind.{flat_map-append}
use Rattle.std.proofs.lemmas.List.{take_all}
use Rattle.jh_form.specs.Tree.{FormulaTree, ValueTree, of_truth}
use Rattle.jh_arena.specs.table.Entries.{Listing}
use Rattle.jh_arena.specs.table.Growth.{Extends}
use Rattle.jh_arena.specs.table.Nodes.{nodes}
use Rattle.jh_reach.specs.Standing.{AreFormulas}
use Rattle.jh_reach.proofs.Standings.{formulas-grow, formulas-push}
use Rattle.jh_local_form.specs.updates.NamedUpdates.{AreTold}
use Rattle.jh_local_form.proofs.updates.Places.{take-next}

-- one more place of a list that is gone through
pub flat-next : {X Y : Type 0} (f : X → List Y) (xs : List X) (i : ℕ) (x : X) → slice_get xs i ≡ Some x → flat_map f (take (i + 1) xs) ≡ flat_map f (take i xs) ++ f x
flat-next f xs i x at = ap (flat_map f) (take-next xs i x at) ∙ flat_map-append f (take i xs) (x ∷ []) ∙ ap (λ ys. flat_map f (take i xs) ++ ys) (append-nil (f x))

-- what is told stands behind what was there
pub told-none : (t u : Listing) (ns ms : List ℕ) (done facts : List FormulaTree) → Extends t u → ms ≡ ns → AreFormulas t ns done → AreTold (nodes u) None facts → AreFormulas u ms (done ++ facts)
unfolding AreTold
told-none t u ns ms done facts g e h told =
    subst (λ (k : List ℕ). AreFormulas u k (done ++ facts)) (sym e) (subst (λ (fs : List FormulaTree). AreFormulas u ns fs) (sym (append-nil done) ∙ ap (λ fs. done ++ fs) (sym told)) (formulas-grow t u ns done g h))

pub told-some : (t u : Listing) (ns ms : List ℕ) (n : ℕ) (done facts : List FormulaTree) → Extends t u → ms ≡ ns ++ n ∷ [] → AreFormulas t ns done → AreTold (nodes u) (Some n) facts → AreFormulas u ms (done ++ facts)
unfolding AreTold
told-some t u ns ms n done facts g e h told =
    subst (λ (k : List ℕ). AreFormulas u k (done ++ facts)) (sym e)
    (subst (λ (fs : List FormulaTree). AreFormulas u (ns ++ n ∷ []) (done ++ fs)) (sym told.1) (formulas-push u ns n done told.0 (formulas-grow t u ns done g h) told.2))

-- what one more says behind what the first ones do
pub told-next : (t : Listing) (f : ValueTree → List FormulaTree) (us : List ValueTree) (i : ℕ) (u : ValueTree) (ns : List ℕ) → slice_get us i ≡ Some u → AreFormulas t ns (flat_map f (take i us) ++ f u) → AreFormulas t ns (flat_map f (take (i + 1) us))
told-next t f us i u ns at h = subst (λ (fs : List FormulaTree). AreFormulas t ns fs) (sym (flat-next f us i u at)) h
