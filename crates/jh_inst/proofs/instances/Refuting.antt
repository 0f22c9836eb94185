-- A sequent follows from what its instances say.
use Rattle.std.proofs.Common.{◌≡◌, refl, ap, ◌∙◌, ℕ, Bool, true, false, not, if◌then◌else◌, List, [], ◌∷◌, ◌++◌, ◌⊎◌, inl, inr, map, filter}
use Rattle.std.specs.List.{list_all}
use Rattle.jh_form.specs.Tree.{FormulaTree}
use Rattle.jh_form.specs.Tree as t
use Rattle.jh_form.specs.Agreement.{AgreeOn}
use Rattle.jh_form.specs.Meaning.{Interp, InUniverse, truth}
use Rattle.jh_form.specs.Passing.{formula_passes}
use Rattle.jh_form.proofs.ClosedLemmas.{both-left, both-right}
use Rattle.jh_boxed_operations.specs.comparison.Unmarked.{unmarked_formula}
use Rattle.jh_normal_forms.specs.negation_normal_form.Normal.{normal}
use Rattle.jh_seq.specs.sequent.Sequents.{HypTree, SequentTree, IsValid, AllTrue}
use Rattle.jh_seq.specs.splitting.Split.{before}
use Rattle.jh_derivation_rules.specs.Closes.{facts_of, AllHold, AreUnsatisfiable}
use Rattle.jh_derivation_rules.proofs.Unmarkings.{truth-unmarked}
use Rattle.jh_inst.specs.instances.Entries.{formulas}
use Rattle.jh_inst.specs.instances.Instances.{is_free, made, is_ground, instances}
use Rattle.jh_inst.proofs.instances.Following.{made-chosen}
use Rattle.jh_inst.proofs.instances.Normals.{truth-normal, normal-passes}
use Rattle.jh_inst.proofs.instances.Putting.{AllFine}

facts-fine : (k : ℕ) (m : Interp) (xs : List FormulaTree) → AllHold m xs → list_all (λ a. formula_passes a (before k)) xs ≡ true → AllFine k m (map (λ a. normal a true) xs)
facts-fine k m [] h p = tt
facts-fine k m (a ∷ more) h p =
    let here = both-left (formula_passes a (before k)) (list_all (λ b. formula_passes b (before k)) more) p in
    let later = both-right (formula_passes a (before k)) (list_all (λ b. formula_passes b (before k)) more) p in
    ((truth-normal a true m [] ∙ h.0, normal-passes (before k) a true here), facts-fine k m more h.1 later)

hold : (k : ℕ) (m : Interp) (xs : List FormulaTree) → AllFine k m xs → AllHold m xs
hold k m [] f = tt
hold k m (a ∷ more) f = (f.0.0, hold k m more f.1)

pub made-follows : (s : SequentTree) (k r : ℕ) → is_free s k ≡ true → (m : Interp) → InUniverse m → AllHold m (facts_of s) →
    (n : Interp) × AgreeOn (before k) m n × InUniverse n × AllHold n (formulas (made s k r))
made-follows s k r free m u h =
    let chosen = made-chosen (map (λ a. normal a true) (facts_of s)) k r m u (facts-fine k m (facts_of s) h free) in
    (chosen.0, chosen.1, chosen.2, hold chosen.3.0 chosen.0 (formulas (made s k r)) chosen.3.1)

one-held : (m : Interp) (b : Bool) (a : FormulaTree) (more : List FormulaTree) → truth a m [] ≡ true → AllHold m more → AllHold m (if b then a ∷ more else more)
one-held m true a more h g = (h, g)
one-held m false a more h g = g

some-hold : (m : Interp) (test : FormulaTree → Bool) (xs : List FormulaTree) → AllHold m xs → AllHold m (filter test xs)
some-hold m test [] h = tt
some-hold m test (a ∷ more) h = one-held m (test a) a (filter test more) h.0 (some-hold m test more h.1)

hold-both : (m : Interp) (xs bs : List FormulaTree) → AllHold m xs → AllHold m bs → AllHold m (xs ++ bs)
hold-both m [] bs h g = g
hold-both m (a ∷ xs) bs h g = (h.0, hold-both m xs bs h.1 g)

hyps-hold : (m : Interp) (hs : List HypTree) → AllTrue hs m → AllHold m (map (λ (h : HypTree). unmarked_formula h.fact) hs)
hyps-hold m [] h = tt
hyps-hold m (x ∷ hs) h = (truth-unmarked x.fact m [] ∙ h.0, hyps-hold m hs h.1)

sure : (b : Bool) → (b ≡ true) ⊎ (b ≡ false)
sure true = inl refl
sure false = inr refl

pub clash-valid : (s : SequentTree) (k r : ℕ) → is_free s k ≡ true → AreUnsatisfiable (instances s k r) → IsValid s
clash-valid s k r free clash m u all =
    elim (sure (truth s.goal m [])) [
      | inl holds ↦ holds
      | inr fails ↦
          let negated : truth (t.negation (unmarked_formula s.goal)) m [] ≡ true = ap not (truth-unmarked s.goal m [] ∙ fails) in
          let facts : AllHold m (facts_of s) = hold-both m (map (λ (h : HypTree). unmarked_formula h.fact) s.hyps) (t.negation (unmarked_formula s.goal) ∷ []) (hyps-hold m s.hyps all) (negated, tt) in
          let follows = made-follows s k r free m u facts in
          absurd (clash follows.0 follows.2 (some-hold follows.0 is_ground (formulas (made s k r)) follows.3))
    ]
