-- The facts of an assumption: they are true exactly where it is, for some values of their constants.
use Rattle.std.proofs.Common.{◌≡◌, sym, ◌∙◌, ℕ, suc, ◌≤◌, arith, true, ◌&&◌, List, [], ◌∷◌, Option}
use Rattle.jh_name.specs.declared.naming.Name.{Name}
use Rattle.jh_form.specs.Tree.{FormulaTree}
use Rattle.jh_form.specs.Tree as t
use Rattle.jh_form.specs.Passing.{formula_passes}
use Rattle.jh_form.specs.Agreement.{AgreeOn}
use Rattle.jh_form.specs.Meaning.{Interp, InUniverse, an_object, truth}
use Rattle.jh_form.specs.Assigned.{assigned}
use Rattle.jh_form.proofs.ClosedLemmas.{both-left, both-right}
use Rattle.jh_form.proofs.Coincidences.{truth-agrees}
use Rattle.jh_seq.specs.sequent.Sequents.{HypTree, AllTrue}
use Rattle.jh_seq.specs.splitting.Split.{closed_by, constant, hyp_of, facts_next, facts_of, before}
use Rattle.jh_seq.proofs.splitting.Closings.{values, truth-closed_by}
use Rattle.jh_seq.proofs.splitting.Connectives.{any-made, any-found, true-left, true-right, true-both}
use Rattle.jh_seq.proofs.splitting.Agreements.{AllBefore, AllHang, agree-lower, agree-refl, agree-trans, before-lower, values-agree, same-truth, hang-lower, hang-both, true-moves, agree-fresh, inside-fresh, value-fresh, is_below}

pub next-grows : (a : FormulaTree) (k : ℕ) → k ≤ facts_next a k
next-grows (t.and a b) k = omega (arith, next-grows a k, next-grows b (facts_next a k))
next-grows (t.ex a) k = omega (arith, next-grows a (suc k))
next-grows (t.mark m a) k = next-grows a k
next-grows a k = omega arith

-- the facts that are true give back what was assumed, whatever the constants are
pub facts-back : (a : FormulaTree) (n : Option Name) (ws : List Name) (k : ℕ) (m : Interp) → InUniverse m → AllTrue (facts_of a n ws k) m → truth a m (values m ws) ≡ true
facts-back (t.and a b) n ws k m u h =
    λ i. facts-back a n ws k m u (true-left (facts_of a n ws k) (facts_of b n ws (facts_next a k)) m h) i && facts-back b n ws (facts_next a k) m u (true-right (facts_of a n ws k) (facts_of b n ws (facts_next a k)) m h) i
facts-back (t.ex a) n ws k m u h = any-made (suc m.last) (λ x. truth a m (x ∷ values m ws)) (m.object (constant k)) (u.object (constant k)) (facts-back a n (constant k ∷ ws) (suc k) m u h)
facts-back (t.mark l a) n ws k m u h = facts-back a l.name ws k m u h
facts-back a n ws k m u h = sym (truth-closed_by ws m a) ∙ h.0

-- what the facts hang on
pub alone-hangs : (j k : ℕ) (a : FormulaTree) (n : Option Name) (ws : List Name) → j ≤ k → formula_passes a (before j) ≡ true → AllBefore k ws → AllHang k (hyp_of n (closed_by a ws) ∷ [])
alone-hangs j k a n ws le passes wb = (λ m o both. truth-closed_by ws m a ∙ same-truth j k m o a ws le passes wb both ∙ sym (truth-closed_by ws o a), tt)

pub facts-hang : (j k : ℕ) (a : FormulaTree) (n : Option Name) (ws : List Name) → j ≤ k → formula_passes a (before j) ≡ true → AllBefore k ws → AllHang (facts_next a k) (facts_of a n ws k)
unfolding formula_passes
facts-hang j k (t.and a b) n ws le passes wb =
    let up = next-grows a k in
    hang-both (facts_next b (facts_next a k)) (facts_of a n ws k) (facts_of b n ws (facts_next a k))
    (hang-lower (facts_next a k) (facts_next b (facts_next a k)) (facts_of a n ws k) (next-grows b (facts_next a k)) (facts-hang j k a n ws le (both-left (formula_passes a (before j)) (formula_passes b (before j)) passes) wb))
    (facts-hang j (facts_next a k) b n ws (omega (arith, up, le)) (both-right (formula_passes a (before j)) (formula_passes b (before j)) passes) (before-lower k (facts_next a k) ws up wb))
facts-hang j k (t.ex a) n ws le passes wb = facts-hang j (suc k) a n (constant k ∷ ws) (omega arith) passes (is_below k, before-lower k (suc k) ws (omega arith) wb)
facts-hang j k (t.mark l a) n ws le passes wb = facts-hang j k a l.name ws le passes wb
facts-hang j k a n ws le passes wb = alone-hangs j k a n ws le passes wb

-- where an assumption is true, its constants can be chosen so that its facts are
abbrev pub Chosen : ℕ → List HypTree → Interp → Type 0
Chosen k hs m = (n : Interp) × AgreeOn (before k) m n × InUniverse n × AllTrue hs n

pub facts-chosen : (j k : ℕ) (a : FormulaTree) (n : Option Name) (ws : List Name) → j ≤ k → formula_passes a (before j) ≡ true → AllBefore k ws → (m : Interp) → InUniverse m → truth a m (values m ws) ≡ true → Chosen k (facts_of a n ws k) m
unfolding formula_passes
facts-chosen j k (t.and a b) n ws le passes wb m u h =
    let pa = both-left (formula_passes a (before j)) (formula_passes b (before j)) passes in
    let pb = both-right (formula_passes a (before j)) (formula_passes b (before j)) passes in
    let up = next-grows a k in
    let first = facts-chosen j k a n ws le pa wb m u (both-left (truth a m (values m ws)) (truth b m (values m ws)) h) in
    let there : truth b first.0 (values first.0 ws) ≡ true = sym (same-truth j k m first.0 b ws le pb wb first.1) ∙ both-right (truth a m (values m ws)) (truth b m (values m ws)) h in
    let second = facts-chosen j (facts_next a k) b n ws (omega (arith, up, le)) pb (before-lower k (facts_next a k) ws up wb) first.0 first.2 there in (
      second.0,
      agree-trans k m first.0 second.0 first.1 (agree-lower k (facts_next a k) first.0 second.0 up second.1),
      second.2,
      true-both (facts_of a n ws k) (facts_of b n ws (facts_next a k)) second.0 (true-moves (facts_next a k) (facts_of a n ws k) first.0 second.0 (facts-hang j k a n ws le pa wb) second.1 first.3) second.3,
    )
facts-chosen j k (t.ex a) n ws le passes wb m u h =
    let found = any-found (suc m.last) (λ x. truth a m (x ∷ values m ws)) h in
    let x : ℕ = found.0 in
    let m1 : Interp = assigned m (constant k) (an_object x) in
    let fresh : AgreeOn (before k) m m1 = agree-fresh k x m in
    let there : truth a m1 (values m1 (constant k ∷ ws)) ≡ true =
    (λ i. truth a m1 (value-fresh k x m i ∷ sym (values-agree k m m1 ws fresh wb) i)) ∙ sym (truth-agrees (before j) m m1 (agree-lower j k m m1 le fresh) a (x ∷ values m ws) passes) ∙ found.2 in
    let inner = facts-chosen j (suc k) a n (constant k ∷ ws) (omega arith) passes (is_below k, before-lower k (suc k) ws (omega arith) wb) m1 (inside-fresh k x m found.1 u) there in
    (inner.0, agree-trans k m m1 inner.0 fresh (agree-lower k (suc k) m1 inner.0 (omega arith) inner.1), inner.2, inner.3)
facts-chosen j k (t.mark l a) n ws le passes wb m u h = facts-chosen j k a l.name ws le passes wb m u h
facts-chosen j k a n ws le passes wb m u h = (m, agree-refl k m, u, (truth-closed_by ws m a ∙ h, tt))
