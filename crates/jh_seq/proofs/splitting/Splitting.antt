-- The sequents of a formula are all valid exactly where the formula is true wherever the hypotheses are.
use Rattle.std.proofs.Common.{◌≡◌, refl, sym, ◌∙◌, ℕ, suc, ◌≤◌, arith, true, ◌&&◌, List, ◌∷◌, ◌++◌, Option, None, Some}
use Rattle.jh_name.specs.declared.naming.Name.{Name}
use Rattle.jh_name.specs.declared.place.MethodId.{MethodId}
use Rattle.jh_form.specs.declared.mark.Mark.{Mark}
use Rattle.jh_form.specs.Tree.{FormulaTree, FieldTrees}
use Rattle.jh_form.specs.Tree as t
use Rattle.jh_form.specs.Passing.{formula_passes}
use Rattle.jh_form.specs.Agreement.{AgreeOn}
use Rattle.jh_form.specs.Meaning.{Interp, InUniverse, an_object, truth}
use Rattle.jh_form.specs.Assigned.{assigned}
use Rattle.jh_form.proofs.ClosedLemmas.{both-left, both-right}
use Rattle.jh_form.proofs.Coincidences.{truth-agrees}
use Rattle.jh_wp.specs.jh_boxed.Mapped.{mapped_fields}
use Rattle.jh_seq.specs.sequent.Sequents.{HypTree, AllTrue}
use Rattle.jh_seq.specs.splitting.Laws.{AllValid}
use Rattle.jh_seq.specs.splitting.Split.{Forest, closing, constant, facts_next, facts_of, true_goal, split_over, before}
use Rattle.jh_seq.proofs.splitting.Closings.{values, truth-closed_by}
use Rattle.jh_seq.proofs.splitting.Connectives.{all-at, all-made, implied, imply, agreeing, agree-to, agree-from, true-left, true-right, true-both, valid-left, valid-right, valid-both}
use Rattle.jh_seq.proofs.splitting.Agreements.{AllBefore, AllHang, agree-lower, before-lower, values-agree, same-truth, hang-lower, hang-both, true-moves, agree-fresh, inside-fresh, value-fresh, is_below}
use Rattle.jh_seq.proofs.splitting.Assumptions.{next-grows, facts-back, facts-hang, facts-chosen}

-- what splitting asks of the goals `tree`, each way
abbrev pub ForestSound : Forest → MethodId → ℕ → Type 0
ForestSound forest method j =
    (fs : FieldTrees) (mark : Option Mark) (hs : List HypTree) (ws : List Name) (k : ℕ) → j ≤ k → formula_passes (t.tree fs) (before j) ≡ true → AllHang k hs → AllBefore k ws →
    AllValid (forest (mapped_fields fs (closing ws) 0) method mark hs k) → (m : Interp) → InUniverse m → AllTrue hs m → truth (t.tree fs) m (values m ws) ≡ true

abbrev pub ForestComplete : Forest → MethodId → Type 0
ForestComplete forest method =
    (fs : FieldTrees) (mark : Option Mark) (hs : List HypTree) (ws : List Name) (k : ℕ) → ((m : Interp) → InUniverse m → AllTrue hs m → truth (t.tree fs) m (values m ws) ≡ true) →
    AllValid (forest (mapped_fields fs (closing ws) 0) method mark hs k)

-- where all sequents are valid, the goal is true wherever the hypotheses are
module _ (forest : Forest) (method : MethodId) (j : ℕ) (at_tree : ForestSound forest method j) where
  -- under one more assumption
  under : (a b : FormulaTree) (hs : List HypTree) (ws : List Name) (k : ℕ) → j ≤ k → formula_passes a (before j) ≡ true → formula_passes b (before j) ≡ true → AllHang k hs → AllBefore k ws →
      ((m : Interp) → InUniverse m → AllTrue (hs ++ facts_of a None ws k) m → truth b m (values m ws) ≡ true) → (m : Interp) → InUniverse m → AllTrue hs m → truth a m (values m ws) ≡ true → truth b m (values m ws) ≡ true
  under a b hs ws k le pa pb hang wb next m u h e =
      let chosen = facts-chosen j k a None ws le pa wb m u e in
      same-truth j k m chosen.0 b ws le pb wb chosen.1 ∙ next chosen.0 chosen.2 (true-both hs (facts_of a None ws k) chosen.0 (true-moves k hs m chosen.0 hang chosen.1 h) chosen.3)

  pub split-sound : (a : FormulaTree) (mark : Option Mark) (hs : List HypTree) (ws : List Name) (k : ℕ) → j ≤ k → formula_passes a (before j) ≡ true → AllHang k hs → AllBefore k ws →
      AllValid (split_over forest a method mark hs ws k) → (m : Interp) → InUniverse m → AllTrue hs m → truth a m (values m ws) ≡ true
  unfolding formula_passes
  split-sound (t.mark l a) mark hs ws k le passes hang wb valid m u h = split-sound a (Some l) hs ws k le passes hang wb valid m u h
  split-sound (t.and a b) mark hs ws k le passes hang wb valid m u h =
      λ i. split-sound a mark hs ws k le (both-left (formula_passes a (before j)) (formula_passes b (before j)) passes) hang wb (valid-left (split_over forest a method mark hs ws k) (split_over forest b method mark hs ws k) valid) m u h i
      && split-sound b mark hs ws k le (both-right (formula_passes a (before j)) (formula_passes b (before j)) passes) hang wb (valid-right (split_over forest a method mark hs ws k) (split_over forest b method mark hs ws k) valid) m u h i
  split-sound (t.implies a b) mark hs ws k le passes hang wb valid m u h =
      let pa = both-left (formula_passes a (before j)) (formula_passes b (before j)) passes in
      let pb = both-right (formula_passes a (before j)) (formula_passes b (before j)) passes in
      let up = next-grows a k in
      implied (truth a m (values m ws)) (truth b m (values m ws)) (under a b hs ws k le pa pb hang wb
      (split-sound b mark (hs ++ facts_of a None ws k) ws (facts_next a k) (omega (arith, up, le)) pb
      (hang-both (facts_next a k) hs (facts_of a None ws k) (hang-lower k (facts_next a k) hs up hang) (facts-hang j k a None ws le pa wb)) (before-lower k (facts_next a k) ws up wb) valid) m u h)
  split-sound (t.iff a b) mark hs ws k le passes hang wb valid m u h =
      let pa = both-left (formula_passes a (before j)) (formula_passes b (before j)) passes in
      let pb = both-right (formula_passes a (before j)) (formula_passes b (before j)) passes in
      let up = next-grows a k in
      let vp = next-grows b k in
      let left = split_over forest b method mark (hs ++ facts_of a None ws k) ws (facts_next a k) in
      let right = split_over forest a method mark (hs ++ facts_of b None ws k) ws (facts_next b k) in
      agreeing (truth a m (values m ws)) (truth b m (values m ws))
      (under a b hs ws k le pa pb hang wb
      (split-sound b mark (hs ++ facts_of a None ws k) ws (facts_next a k) (omega (arith, up, le)) pb
      (hang-both (facts_next a k) hs (facts_of a None ws k) (hang-lower k (facts_next a k) hs up hang) (facts-hang j k a None ws le pa wb)) (before-lower k (facts_next a k) ws up wb) (valid-left left right valid)) m u h)
      (under b a hs ws k le pb pa hang wb
      (split-sound a mark (hs ++ facts_of b None ws k) ws (facts_next b k) (omega (arith, vp, le)) pa
      (hang-both (facts_next b k) hs (facts_of b None ws k) (hang-lower k (facts_next b k) hs vp hang) (facts-hang j k b None ws le pb wb)) (before-lower k (facts_next b k) ws vp wb) (valid-right left right valid)) m u h)
  split-sound (t.all a) mark hs ws k le passes hang wb valid m u h = all-made (suc m.last) (λ x. truth a m (x ∷ values m ws)) (λ x lt.
      let m1 : Interp = assigned m (constant k) (an_object x) in
      let fresh : AgreeOn (before k) m m1 = agree-fresh k x m in
      truth-agrees (before j) m m1 (agree-lower j k m m1 le fresh) a (x ∷ values m ws) passes
      ∙ (λ i. truth a m1 (sym (value-fresh k x m) i ∷ values-agree k m m1 ws fresh wb i))
      ∙ split-sound a mark hs (constant k ∷ ws) (suc k) (omega arith) passes (hang-lower k (suc k) hs (omega arith) hang) (is_below k, before-lower k (suc k) ws (omega arith) wb) valid m1 (inside-fresh k x m lt u) (true-moves k hs m m1 hang fresh h))
  split-sound t.true_formula mark hs ws k le passes hang wb valid m u h = refl
  split-sound (t.tree fs) mark hs ws k le passes hang wb valid m u h = at_tree fs mark hs ws k le passes hang wb valid m u h
  split-sound a mark hs ws k le passes hang wb valid m u h = sym (truth-closed_by ws m a) ∙ valid.0 m u h

-- and back: where the goal is true wherever the hypotheses are, all sequents are valid
module _ (forest : Forest) (method : MethodId) (at_tree : ForestComplete forest method) where
  true-valid : (mark : Option Mark) (hs : List HypTree) → AllValid (true_goal method mark hs)
  true-valid None hs = tt
  true-valid (Some l) hs = (λ m u h. refl, tt)

  pub split-complete : (a : FormulaTree) (mark : Option Mark) (hs : List HypTree) (ws : List Name) (k : ℕ) → ((m : Interp) → InUniverse m → AllTrue hs m → truth a m (values m ws) ≡ true) → AllValid (split_over forest a method mark hs ws k)
  split-complete (t.mark l a) mark hs ws k goal = split-complete a (Some l) hs ws k goal
  split-complete (t.and a b) mark hs ws k goal =
      valid-both (split_over forest a method mark hs ws k) (split_over forest b method mark hs ws k)
      (split-complete a mark hs ws k (λ m u h. both-left (truth a m (values m ws)) (truth b m (values m ws)) (goal m u h)))
      (split-complete b mark hs ws k (λ m u h. both-right (truth a m (values m ws)) (truth b m (values m ws)) (goal m u h)))
  split-complete (t.implies a b) mark hs ws k goal =
      split-complete b mark (hs ++ facts_of a None ws k) ws (facts_next a k)
      (λ m u h. imply (truth a m (values m ws)) (truth b m (values m ws)) (goal m u (true-left hs (facts_of a None ws k) m h)) (facts-back a None ws k m u (true-right hs (facts_of a None ws k) m h)))
  split-complete (t.iff a b) mark hs ws k goal =
      valid-both (split_over forest b method mark (hs ++ facts_of a None ws k) ws (facts_next a k)) (split_over forest a method mark (hs ++ facts_of b None ws k) ws (facts_next b k))
      (split-complete b mark (hs ++ facts_of a None ws k) ws (facts_next a k) (λ m u h. agree-to (truth a m (values m ws)) (truth b m (values m ws)) (goal m u (true-left hs (facts_of a None ws k) m h)) (facts-back a None ws k m u (true-right hs (facts_of a None ws k) m h))))
      (split-complete a mark (hs ++ facts_of b None ws k) ws (facts_next b k) (λ m u h. agree-from (truth a m (values m ws)) (truth b m (values m ws)) (goal m u (true-left hs (facts_of b None ws k) m h)) (facts-back b None ws k m u (true-right hs (facts_of b None ws k) m h))))
  split-complete (t.all a) mark hs ws k goal =
      split-complete a mark hs (constant k ∷ ws) (suc k) (λ m u h. all-at (suc m.last) (λ x. truth a m (x ∷ values m ws)) (m.object (constant k)) (goal m u h) (u.object (constant k)))
  split-complete t.true_formula mark hs ws k goal = true-valid mark hs
  split-complete (t.tree fs) mark hs ws k goal = at_tree fs mark hs ws k goal
  split-complete a mark hs ws k goal = (λ m u h. truth-closed_by ws m a ∙ goal m u h, tt)
