-- Where a formula is true, constants can be chosen so that it is true with them.
use Rattle.std.proofs.Common.{◌≡◌, sym, ◌∙◌, ap, ℕ, suc, ◌+◌, ◌≤◌, arith, true, ◌&&◌, List, [], ◌∷◌, inl, inr}
use Rattle.jh_name.specs.declared.naming.Name.{Name}
use Rattle.jh_form.specs.Tree.{FormulaTree}
use Rattle.jh_form.specs.Tree as t
use Rattle.jh_form.specs.Agreement.{AgreeOn}
use Rattle.jh_form.specs.Assigned.{assigned}
use Rattle.jh_form.specs.Meaning.{Interp, InUniverse, an_object, truth}
use Rattle.jh_form.specs.Passing.{formula_passes}
use Rattle.jh_form.proofs.ClosedLemmas.{both-left, both-right}
use Rattle.jh_form.proofs.Coincidences.{truth-agrees}
use Rattle.jh_seq.specs.splitting.Split.{constant, closing, closed_by, before}
use Rattle.jh_inst.specs.instances.Witnesses.{witnesses, witnessed}
use Rattle.jh_inst.proofs.instances.Agreements.{AllBefore, agree-lower, agree-refl, agree-trans, before-lower, values, values-agree, agree-fresh, inside-fresh, value-fresh, is_below}
use Rattle.jh_inst.proofs.instances.Closings.{truth-closed_by}
use Rattle.jh_inst.proofs.instances.Connectives.{any-found, or_left, or_right, either}
use Rattle.jh_inst.proofs.instances.Passings.{closing-passes, formula-passing, passes-lower}

-- a formula that is true and has no name from turn k on
abbrev pub Fine : ℕ → Interp → FormulaTree → Type 0
Fine k m a = (truth a m [] ≡ true) × (formula_passes a (before k) ≡ true)

-- an interpretation that agrees on names before turn k, in which P holds
abbrev pub Chosen : ℕ → Interp → (Interp → Type 0) → Type 0
Chosen k m P = (n : Interp) × AgreeOn (before k) m n × InUniverse n × P n

-- where interpretations agree, a formula behind constants means the same
pub same-truth : (j k : ℕ) (m n : Interp) (a : FormulaTree) (ws : List Name) → j ≤ k → formula_passes a (before j) ≡ true → AllBefore k ws → AgreeOn (before k) m n →
    truth a m (values m ws) ≡ truth a n (values n ws)
same-truth j k m n a ws le passes wb both =
    truth-agrees (before j) m n (agree-lower j k m n le both) a (values m ws) passes ∙ ap (truth a n) (values-agree k m n ws both wb)

-- with constants from k on there are no names from k and their number on
pub witnessed-passes : (j k : ℕ) (a : FormulaTree) (ws : List Name) → j ≤ k → formula_passes a (before j) ≡ true → AllBefore k ws → formula_passes (witnessed a ws k) (before (k + witnesses a)) ≡ true
unfolding formula_passes
witnessed-passes j k (t.and a b) ws le h wb = λ i.
    passes-lower (k + witnesses a) (k + (witnesses a + witnesses b)) (omega arith) (witnessed a ws k) (witnessed-passes j k a ws le (both-left (formula_passes a (before j)) (formula_passes b (before j)) h) wb) i
    && passes-lower (k + witnesses a + witnesses b) (k + (witnesses a + witnesses b)) (omega arith) (witnessed b ws (k + witnesses a)) (witnessed-passes j (k + witnesses a) b ws (omega (arith, le)) (both-right (formula_passes a (before j)) (formula_passes b (before j)) h) (before-lower k (k + witnesses a) ws (omega arith) wb)) i
witnessed-passes j k (t.or a b) ws le h wb = λ i.
    passes-lower (k + witnesses a) (k + (witnesses a + witnesses b)) (omega arith) (witnessed a ws k) (witnessed-passes j k a ws le (both-left (formula_passes a (before j)) (formula_passes b (before j)) h) wb) i
    && passes-lower (k + witnesses a + witnesses b) (k + (witnesses a + witnesses b)) (omega arith) (witnessed b ws (k + witnesses a)) (witnessed-passes j (k + witnesses a) b ws (omega (arith, le)) (both-right (formula_passes a (before j)) (formula_passes b (before j)) h) (before-lower k (k + witnesses a) ws (omega arith) wb)) i
witnessed-passes j k (t.ex a) ws le h wb =
    passes-lower (suc k + witnesses a) (k + suc (witnesses a)) (omega arith) (witnessed a (constant k ∷ ws) (suc k)) (witnessed-passes j (suc k) a (constant k ∷ ws) (omega (arith, le)) h (is_below k, before-lower k (suc k) ws (omega arith) wb))
witnessed-passes j k a ws le h wb = passes-lower k (k + 0) (omega arith) (closed_by a ws) (formula-passing (closing ws) (before j) (before k) (closing-passes j k le ws wb) a 0 h)

abbrev IsWitnessed : FormulaTree → List Name → ℕ → Interp → Type 0
IsWitnessed a ws k n = truth (witnessed a ws k) n [] ≡ true

-- The interpretation gives a value to each constant; a formula that was made true stays so.
pub witnessed-chosen : (j k : ℕ) (a : FormulaTree) (ws : List Name) → j ≤ k → formula_passes a (before j) ≡ true → AllBefore k ws → (m : Interp) → InUniverse m → truth a m (values m ws) ≡ true → Chosen k m (IsWitnessed a ws k)
unfolding formula_passes
witnessed-chosen j k (t.and a b) ws le h wb m u true_there =
    let pa = both-left (formula_passes a (before j)) (formula_passes b (before j)) h in
    let pb = both-right (formula_passes a (before j)) (formula_passes b (before j)) h in
    let w : ℕ = witnesses a in
    let first = witnessed-chosen j k a ws le pa wb m u (both-left (truth a m (values m ws)) (truth b m (values m ws)) true_there) in
    let there : truth b first.0 (values first.0 ws) ≡ true = sym (same-truth j k m first.0 b ws le pb wb first.1) ∙ both-right (truth a m (values m ws)) (truth b m (values m ws)) true_there in
    let second = witnessed-chosen j (k + w) b ws (omega (arith, le)) pb (before-lower k (k + w) ws (omega arith) wb) first.0 first.2 there in (
      second.0,
      agree-trans k m first.0 second.0 first.1 (agree-lower k (k + w) first.0 second.0 (omega arith) second.1),
      second.2,
      λ i. (sym (truth-agrees (before (k + w)) first.0 second.0 second.1 (witnessed a ws k) [] (witnessed-passes j k a ws le pa wb)) ∙ first.3) i && second.3 i,
    )
witnessed-chosen j k (t.or a b) ws le h wb m u true_there =
    elim (either (truth a m (values m ws)) (truth b m (values m ws)) true_there) [
      | inl here ↦
          let first = witnessed-chosen j k a ws le (both-left (formula_passes a (before j)) (formula_passes b (before j)) h) wb m u here in
          (first.0, first.1, first.2, or_left (truth (witnessed a ws k) first.0 []) (truth (witnessed b ws (k + witnesses a)) first.0 []) first.3)
      | inr here ↦
          let second = witnessed-chosen j (k + witnesses a) b ws (omega (arith, le)) (both-right (formula_passes a (before j)) (formula_passes b (before j)) h) (before-lower k (k + witnesses a) ws (omega arith) wb) m u here in
          (second.0, agree-lower k (k + witnesses a) m second.0 (omega arith) second.1, second.2, or_right (truth (witnessed a ws k) second.0 []) (truth (witnessed b ws (k + witnesses a)) second.0 []) second.3)
    ]
witnessed-chosen j k (t.ex a) ws le h wb m u true_there =
    let found = any-found (suc m.last) (λ x. truth a m (x ∷ values m ws)) true_there in
    let x : ℕ = found.0 in
    let m1 : Interp = assigned m (constant k) (an_object x) in
    let fresh : AgreeOn (before k) m m1 = agree-fresh k x m in
    let there : truth a m1 (values m1 (constant k ∷ ws)) ≡ true =
    (λ i. truth a m1 (value-fresh k x m i ∷ sym (values-agree k m m1 ws fresh wb) i)) ∙ sym (truth-agrees (before j) m m1 (agree-lower j k m m1 le fresh) a (x ∷ values m ws) h) ∙ found.2 in
    let inner = witnessed-chosen j (suc k) a (constant k ∷ ws) (omega (arith, le)) h (is_below k, before-lower k (suc k) ws (omega arith) wb) m1 (inside-fresh k x m found.1 u) there in
    (inner.0, agree-trans k m m1 inner.0 fresh (agree-lower k (suc k) m1 inner.0 (omega arith) inner.1), inner.2, inner.3)
witnessed-chosen j k a ws le h wb m u true_there = (m, agree-refl k m, u, truth-closed_by ws m a ∙ true_there)
