-- A search that isn't finished decided something, so its beginning is open.
use Rattle.std.proofs.Common.{◌≡◌, refl, ℕ, ap, ◌∙◌, List, [], ◌∷◌, ◌++◌, inl, inr}
use Rattle.jh_form.specs.Tree.{FormulaTree}
use Rattle.jh_closure.specs.structures.Literals.{LiteralTree}
use Rattle.jh_models.specs.ground_models.Clashes.{AllPropagated, IsOpen, none, more}
use Rattle.jh_models.specs.ground_models.Branches.{ClosedTree, Each, Goes, IsNeeded}
use Rattle.jh_models.specs.ground_models.Budget.{IsSpent}
use Rattle.jh_models.proofs.ground_models.Growing.{propagated-more}

abbrev Path : Type 0
Path = List LiteralTree

-- a list with something in it has a last member
abbrev HasLast : Path → Type 0
HasLast ds = (before : Path) × (l : LiteralTree) × (ds ≡ before ++ (l ∷ []))

last-behind : (l : LiteralTree) (rest : Path) → HasLast (l ∷ rest)
last-behind l [] = ([], l, refl)
last-behind l (m ∷ ms) =
    let h = last-behind m ms in
    (l ∷ h.0, h.1, ap (λ ds. l ∷ ds) h.2)

last-of : (before : Path) (l : LiteralTree) (rest : Path) → HasLast (before ++ (l ∷ rest))
last-of [] l rest = last-behind l rest
last-of (k ∷ ks) l rest =
    let h = last-of ks l rest in
    (k ∷ h.0, h.1, ap (λ ds. k ∷ ds) h.2)

-- what is there after propagation of nothing is there after propagation of any list
all-more : (is : List FormulaTree) (ls had : List LiteralTree) → AllPropagated is [] had → AllPropagated is ls had
all-more is ls _ none = none
all-more is ls _ (more l rest h hs) = more l rest (propagated-more is [] ls tt l h) (all-more is ls rest hs)

-- where a list is open, so is the empty one
begin-open : (is : List FormulaTree) (ls : List LiteralTree) → IsOpen is ls → IsOpen is []
begin-open is ls h = record {
  none_false = λ had all. h.none_false had (all-more is ls had all);
  met = λ never. h.met (λ s all. never s (λ l p. all l (propagated-more is [] ls tt l p)));
}

module _ (is : List FormulaTree) where
  abbrev OpenBefore : ClosedTree → Type 0
  OpenBefore b = (before : List LiteralTree) (l : LiteralTree) → b.decisions ≡ before ++ (l ∷ []) → IsOpen is before

  one-open : (b : ClosedTree) (before : Path) (l : LiteralTree) → OpenBefore b → Goes b before l → IsOpen is []
  one-open b before l h goes =
      let last = last-of before l goes.0 in
      begin-open is last.0 (h last.0 last.1 (goes.1 ∙ last.2))

  some-open : (bs : List ClosedTree) (before : Path) (l : LiteralTree) → Each OpenBefore bs → IsNeeded bs before l → IsOpen is []
  some-open [] before l h needed = absurd needed
  some-open (b ∷ bs) before l h (inl here) = one-open b before l h.0 here.0
  some-open (b ∷ bs) before l h (inr there) = some-open bs before l h.1 there

  pub spent-open : (leaves : ℕ) (bs : List ClosedTree) → IsSpent is leaves bs → IsOpen is []
  spent-open leaves bs h =
      let end = h.leaves_of_one.unfinished in
      some-open bs end.0 end.1 h.leaves_of_one.open_before end.2
