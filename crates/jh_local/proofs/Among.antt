-- The first instances among all.
use Rattle.std.proofs.Common.{◌≡◌, refl, sym, ap, Bool, true, false, inl, inr, ◌&&◌, if◌then◌else◌, subst, List, [], ◌∷◌, ◌++◌}
use Rattle.std.specs.List.{list_all}
use Rattle.jh_form.specs.Tree.{FormulaTree}
use Rattle.jh_form.proofs.ClosedLemmas.{both-left, both-right}
use Rattle.jh_models.specs.ground_models.Atoms.{StandsIn}
use Rattle.jh_inst.specs.instances.Entries.{Entry}
use Rattle.jh_inst.specs.instances.Instances.{is_ground, instances_of}

-- each formula of the second list stands in the first
abbrev pub AreAmong : List FormulaTree → List FormulaTree → Type 0
AreAmong is [] = Unit {0}
AreAmong is (a ∷ xs) = StandsIn is a × AreAmong is xs

among-later : (x : FormulaTree) (is xs : List FormulaTree) → AreAmong is xs → AreAmong (x ∷ is) xs
among-later x is [] h = tt
among-later x is (a ∷ xs) h = (inr h.0, among-later x is xs h.1)

front-among : (xs ys : List FormulaTree) → AreAmong (xs ++ ys) xs
front-among [] ys = tt
front-among (a ∷ xs) ys = (inl refl, among-later a (xs ++ ys) xs (front-among xs ys))

added : (b : Bool) (a : FormulaTree) (xs ys zs : List FormulaTree) → xs ≡ ys ++ zs → (if b then a ∷ xs else xs) ≡ (if b then a ∷ ys else ys) ++ zs
added true a xs ys zs e = ap (λ x. a ∷ x) e
added false a xs ys zs e = e

instances-of-both : (es fs : List Entry) → instances_of (es ++ fs) ≡ instances_of es ++ instances_of fs
instances-of-both [] fs = refl
instances-of-both (e ∷ es) fs = added (is_ground e.formula) e.formula (instances_of (es ++ fs)) (instances_of es) (instances_of fs) (instances-of-both es fs)

-- the instances among the first entries
pub first-among : (es fs : List Entry) → AreAmong (instances_of (es ++ fs)) (instances_of es)
first-among es fs = subst (λ (is : List FormulaTree). AreAmong is (instances_of es)) (sym (instances-of-both es fs)) (front-among (instances_of es) (instances_of fs))

front-all : (p : FormulaTree → Bool) (xs ys : List FormulaTree) → list_all p (xs ++ ys) ≡ true → list_all p xs ≡ true
front-all p [] ys h = refl
front-all p (x ∷ xs) ys h =
    both (p x) (list_all p xs) (both-left (p x) (list_all p (xs ++ ys)) h) (front-all p xs ys (both-right (p x) (list_all p (xs ++ ys)) h))
  where
    both : (a b : Bool) → a ≡ true → b ≡ true → (a && b) ≡ true
    both true b h k = k
    both false b h k = h

-- what all instances pass the first ones pass
pub first-all : (p : FormulaTree → Bool) (es fs : List Entry) → list_all p (instances_of (es ++ fs)) ≡ true → list_all p (instances_of es) ≡ true
first-all p es fs h = front-all p (instances_of es) (instances_of fs) (subst (λ (is : List FormulaTree). list_all p is ≡ true) (instances-of-both es fs) h)
