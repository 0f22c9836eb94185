-- Ground models hold what propagation adds, and none holds the decisions of a branch that is explained.
use Rattle.std.proofs.Common.{subst, ℕ, Bool, true, false, not, List, [], ◌∷◌, ◌++◌, ◌⊎◌, inl, inr}
use Rattle.jh_form.specs.Tree.{FormulaTree}
use Rattle.jh_form.specs.Tree as t
use Rattle.jh_closure.specs.structures.Structures.{Structure}
use Rattle.jh_closure.specs.structures.Literals.{LiteralTree, MeetsOne, Meets, IsListed, AreListed}
use Rattle.jh_closure.proofs.structures.Listed.{meets-listed, meets-all}
use Rattle.jh_models.specs.ground_models.Atoms.{literal, opposite, IsGroundAtom}
use Rattle.jh_models.specs.ground_models.Truths.{IsDenied, IsTrue, AllTrue}
use Rattle.jh_models.specs.ground_models.GroundModel.{IsGroundModel, IsDecided}
use Rattle.jh_models.specs.ground_models.Making.{Unmakes, Makes, MakesAll}
use Rattle.jh_models.specs.ground_models.Clashes.{Clash, Propagated, given, forced, equal, other}
use Rattle.jh_models.specs.ground_models.Explanations.{GoesOn}
use Rattle.jh_models.proofs.ground_models.Opposites.{not-opposites}
use Rattle.jh_models.proofs.ground_models.Propagation.{propagated-met}
use Rattle.jh_models.proofs.ground_models.Clashing.{clash-unmade}

-- a structure that meets literals makes true what they do
module _ {O N T S F : Type 0} (s : Structure O N T S F) (ls : List LiteralTree) (met : Meets s ls) where
  denied-unmade : (a : FormulaTree) → IsDenied ls a → Unmakes s a
  denied-unmade t.true_formula h = h
  denied-unmade t.false_formula h = h
  denied-unmade a h = meets-listed s ls (literal a false) h met

  pub true-made : (i : FormulaTree) → IsTrue ls i → Makes s i
  true-made t.true_formula h = h
  true-made t.false_formula h = h
  true-made (t.and a b) h = (true-made a h.0, true-made b h.1)
  true-made (t.or a b) (inl h) = inl (true-made a h)
  true-made (t.or a b) (inr h) = inr (true-made b h)
  true-made (t.negation a) h = denied-unmade a h
  true-made a h = meets-listed s ls (literal a true) h met

  pub all-made : (is : List FormulaTree) → AllTrue is ls → MakesAll s is
  all-made [] h = tt
  all-made (i ∷ is) h = (true-made i h.0, all-made is h.1)

module _ (is : List FormulaTree) (m : List LiteralTree) (g : IsGroundModel is m) where
  makes : (s : Structure ℕ ℕ ℕ ℕ ℕ) → Meets s m → MakesAll s is
  makes s met = all-made s m met is g.true_in

  -- one of both is listed; the other is met
  listed : (a : FormulaTree) (p : Bool) → IsDecided m a → (IsListed m (literal a (not p)) → ⊥) → IsListed m (literal a p)
  listed a true (inl h) never = h
  listed a true (inr h) never = absurd (never h)
  listed a false (inl h) never = absurd (never h)
  listed a false (inr h) never = h

  pub model-holds : (l : LiteralTree) → IsGroundAtom is l.atom → (IsListed m (opposite l) → ⊥) → IsListed m l
  model-holds l at never = listed l.atom l.holds (g.decides l.atom at) never

  -- what each structure meets that meets the model
  by-structures : (l : LiteralTree) → IsGroundAtom is l.atom → ((s : Structure ℕ ℕ ℕ ℕ ℕ) → Meets s m → MeetsOne s l.holds l.atom) → IsListed m l
  by-structures l at f = model-holds l at (λ both. g.met (λ s met. not-opposites s l.atom l.holds (f s met) (meets-listed s m (opposite l) both met)))

  met-there : (ls : List LiteralTree) → AreListed m ls → (l : LiteralTree) → Propagated is ls l → (s : Structure ℕ ℕ ℕ ℕ ℕ) → Meets s m → MeetsOne s l.holds l.atom
  met-there ls held l h s met = propagated-met is ls s (makes s met) (meets-all s m ls held met) l h

  held-one-of : (ls : List LiteralTree) → AreListed m ls → (l : LiteralTree) → IsListed ls l → IsListed m l
  held-one-of [] held l h = absurd h
  held-one-of (k ∷ ks) held l (inl e) = subst (λ z. IsListed m z) e held.0
  held-one-of (k ∷ ks) held l (inr later) = held-one-of ks held.1 l later

  pub model-propagated : (ls : List LiteralTree) → AreListed m ls → (l : LiteralTree) → Propagated is ls l → IsListed m l
  model-propagated ls held _ (given l h) = held-one-of ls held l h
  model-propagated ls held _ (forced had l hs at h) = by-structures l at (met-there ls held l (forced had l hs at h))
  model-propagated ls held _ (equal had a hs at e f) = by-structures (literal a true) at (met-there ls held (literal a true) (equal had a hs at e f))
  model-propagated ls held _ (other had l hs at e f) = by-structures l at (met-there ls held l (other had l hs at e f))

  no-clash : (ls : List LiteralTree) → AreListed m ls → Clash is ls → ⊥
  no-clash ls held c = g.met (λ s met. clash-unmade is ls c s (makes s met) (meets-all s m ls held met))

  held-more : (ls : List LiteralTree) (l : LiteralTree) → AreListed m ls → IsListed m l → AreListed m (ls ++ (l ∷ []))
  held-more [] l held h = (h, tt)
  held-more (k ∷ ks) l held h = (held.0, held-more ks l held.1 h)

  next-held : (decisions had : List LiteralTree) (l : LiteralTree) → AreListed m decisions → AreListed m had → IsGroundAtom is l.atom → IsListed decisions l ⊎ Clash is (opposite l ∷ had) → IsListed m l
  next-held decisions had l held hs at (inl h) = held-one-of decisions held l h
  next-held decisions had l held hs at (inr c) = model-holds l at (λ turned. no-clash (opposite l ∷ had) (turned, hs) c)

  pub explained-closed : (decisions had ls : List LiteralTree) → AreListed m decisions → AreListed m had → GoesOn is decisions had ls → ⊥
  explained-closed decisions had [] held hs c = no-clash had hs c
  explained-closed decisions had (l ∷ ls) held hs c = explained-closed decisions (had ++ (l ∷ [])) ls held (held-more had l hs (next-held decisions had l held hs c.0 c.1)) c.2
