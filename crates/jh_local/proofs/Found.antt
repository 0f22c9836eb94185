-- What a search found has formulas for its atoms.
use Rattle.std.proofs.Common.{◌≡◌, refl, subst, ℕ, zero, suc, true, inl, inr, List, [], ◌∷◌, ◌++◌, Some, slice_get}
use Rattle.jh_form.specs.Tree.{FormulaTree, ValueTree}
use Rattle.jh_arena.specs.table.Entries.{is_truth}
use Rattle.jh_closure.specs.structures.Literals.{LiteralTree, IsListed}
use Rattle.jh_models.specs.ground_models.Atoms.{IsGroundAtom}
use Rattle.jh_models.specs.ground_models.Branches.{ClosedTree, Each}
use Rattle.jh_models.specs.ground_models.Budget.{IsSpent}
use Rattle.jh_models.specs.ground_models.Explanations.{GoesOn, IsExplanation}
use Rattle.jh_models.specs.ground_models.GroundModel.{IsGroundModel}
use Rattle.jh_propagation.specs.declared.trail.decided.Decided.{Decided}
use Rattle.jh_propagation.specs.trail.Saying.{literal_tree_at, literals_at, truth_at}
use Rattle.jh_instance_proofs.specs.jh_search.Paths.{all_closed}
use Rattle.jh_instance_proofs.specs.jh_search.declared.turn.ClosedBranch.{ClosedBranch}
use Rattle.jh_local.specs.Standing.{AreFormulas, HasFormulas, EachFormulas}
use Rattle.jh_local.proofs.Grounds.{is-formula}

some-same : {X : Type 0} (x y : X) → Some x ≡ Some y → x ≡ y
some-same x y e = cc

none-there : {X : Type 0} (i : ℕ) (x : X) → slice_get [] i ≡ Some x → ⊥
none-there i x e = cc

module _ (is : List FormulaTree) (ts : List ValueTree) where
  formula-at : (d : Decided) → IsGroundAtom is (truth_at ts d.atom) → is_truth (slice_get ts d.atom) ≡ true
  formula-at d h = is-formula is (slice_get ts d.atom) h

  -- literals over ground atoms, listed in one way or another
  listed : (ds : List Decided) → ((l : LiteralTree) → IsListed (literals_at ts ds) l → IsGroundAtom is l.atom) → AreFormulas ts ds
  listed [] h i d at = absurd (none-there i d at)
  listed (e ∷ ds) h zero d at = subst (λ (x : Decided). is_truth (slice_get ts x.atom) ≡ true) (some-same e d at) (formula-at e (h (literal_tree_at ts e) (inl refl)))
  listed (e ∷ ds) h (suc i) d at = listed ds (λ l k. h l (inr k)) i d at

  pub model-formulas : (ds : List Decided) → IsGroundModel is (literals_at ts ds) → AreFormulas ts ds
  model-formulas ds model = listed ds model.over_atoms

  each-one : (ds : List Decided) → Each (λ l. IsGroundAtom is l.atom) (literals_at ts ds) → AreFormulas ts ds
  each-one [] h i d at = absurd (none-there i d at)
  each-one (e ∷ ds) h zero d at = subst (λ (x : Decided). is_truth (slice_get ts x.atom) ≡ true) (some-same e d at) (formula-at e h.0)
  each-one (e ∷ ds) h (suc i) d at = each-one ds h.1 i d at

  going-on : (decisions had : List LiteralTree) (ds : List Decided) → GoesOn is decisions had (literals_at ts ds) → AreFormulas ts ds
  going-on decisions had [] h i d at = absurd (none-there i d at)
  going-on decisions had (e ∷ ds) h zero d at = subst (λ (x : Decided). is_truth (slice_get ts x.atom) ≡ true) (some-same e d at) (formula-at e h.0)
  going-on decisions had (e ∷ ds) h (suc i) d at = going-on decisions (had ++ (literal_tree_at ts e ∷ [])) ds h.2 i d at

  each-branch : (bs : List ClosedBranch) → Each (λ b. Each (λ l. IsGroundAtom is l.atom) b.decisions) (all_closed ts bs) →
      Each (λ b. GoesOn is b.decisions [] b.explanation) (all_closed ts bs) → EachFormulas ts bs
  each-branch [] h k i b at = absurd (none-there i b at)
  each-branch (c ∷ bs) h k zero b at =
      subst (HasFormulas ts) (some-same c b at) (record {
        decisions = each-one c.decisions.items h.0;
        explanation = going-on (literals_at ts c.decisions.items) [] c.explanation.items k.0;
      })
  each-branch (c ∷ bs) h k (suc i) b at = each-branch bs h.1 k.1 i b at

  closing : (bs : List ClosedTree) → Each (λ b. IsExplanation is b.decisions b.explanation) bs → Each (λ b. GoesOn is b.decisions [] b.explanation) bs
  closing [] h = tt
  closing (b ∷ bs) h = (h.0.closes, closing bs h.1)

  pub spent-formulas : (leaves : ℕ) (bs : List ClosedBranch) → IsSpent is leaves (all_closed ts bs) → EachFormulas ts bs
  spent-formulas leaves bs spent = each-branch bs spent.leaves_of_one.on_atoms (closing (all_closed ts bs) spent.explained)
