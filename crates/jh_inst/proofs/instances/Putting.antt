-- What is put is true, with suitable constants.
use Rattle.std.proofs.Common.{◌≡◌, refl, sym, ap, ◌∙◌, subst, ℕ, zero, suc, ◌+◌, ◌≤◌, arith, length, true, List, [], ◌∷◌, ◌++◌, map}
use Rattle.jh_form.specs.Tree.{TermTree, FormulaTree}
use Rattle.jh_form.specs.Tree as t
use Rattle.jh_form.specs.Agreement.{AgreeOn}
use Rattle.jh_form.specs.Closed.{is_closed_term}
use Rattle.jh_form.specs.Meaning.{Interp, InUniverse, truth, term_value}
use Rattle.jh_form.specs.Passing.{term_passes, formula_passes}
use Rattle.jh_form.proofs.Coincidences.{truth-agrees}
use Rattle.jh_form.proofs.Universes.{term_inside}
use Rattle.jh_boxed_operations.specs.substitution.Opened.{opened}
use Rattle.jh_boxed_operations.proofs.substitution.Openings.{truth-opened}
use Rattle.jh_seq.specs.splitting.Split.{before}
use Rattle.jh_inst.specs.instances.Witnesses.{witnesses, witnessed, constants_from}
use Rattle.jh_inst.specs.instances.Prenex.{prenex}
use Rattle.jh_inst.specs.instances.Entries.{Entry, formulas}
use Rattle.jh_inst.specs.instances.Rounds.{AtHand, put_at, made_constants, puts}
use Rattle.jh_inst.proofs.instances.Agreements.{agree-lower, agree-refl, agree-trans}
use Rattle.jh_inst.proofs.instances.Choosing.{Fine, Chosen, witnessed-passes, witnessed-chosen}
use Rattle.jh_inst.proofs.instances.Connectives.{all-at}
use Rattle.jh_inst.proofs.instances.Passings.{passes-lower, term-lower, opened-passes}
use Rattle.jh_inst.proofs.instances.Prenexes.{prenex-holds, prenex-passes}

-- a closed term without names from turn k on
abbrev pub Usable : ℕ → TermTree → Type 0
Usable k a = (is_closed_term a 0 ≡ true) × (term_passes a (before k) ≡ true)

abbrev pub AllUsable : ℕ → List TermTree → Type 0
AllUsable k [] = Unit {0}
AllUsable k (a ∷ more) = Usable k a × AllUsable k more

abbrev pub EachUsable : ℕ → List (List TermTree) → Type 0
EachUsable k [] = Unit {0}
EachUsable k (c ∷ cs) = AllUsable k c × EachUsable k cs

abbrev pub AllFine : ℕ → Interp → List FormulaTree → Type 0
AllFine k m [] = Unit {0}
AllFine k m (a ∷ more) = Fine k m a × AllFine k m more

abbrev pub hand : List AtHand → List FormulaTree
hand hs = map (λ (h : AtHand). h.formula) hs

-- all this stays so with later turns, and in interpretations that agree
pub usable-lower : (j k : ℕ) → j ≤ k → (ts : List TermTree) → AllUsable j ts → AllUsable k ts
usable-lower j k le [] h = tt
usable-lower j k le (a ∷ more) h = ((h.0.0, term-lower j k le a h.0.1), usable-lower j k le more h.1)

pub each-lower : (j k : ℕ) → j ≤ k → (cs : List (List TermTree)) → EachUsable j cs → EachUsable k cs
each-lower j k le [] h = tt
each-lower j k le (c ∷ cs) h = (usable-lower j k le c h.0, each-lower j k le cs h.1)

pub fine-moves : (j k : ℕ) → j ≤ k → (m n : Interp) → AgreeOn (before j) m n → (a : FormulaTree) → Fine j m a → Fine k n a
fine-moves j k le m n both a h = (sym (truth-agrees (before j) m n both a [] h.1) ∙ h.0, passes-lower j k le a h.1)

pub all-move : (j k : ℕ) → j ≤ k → (m n : Interp) → AgreeOn (before j) m n → (xs : List FormulaTree) → AllFine j m xs → AllFine k n xs
all-move j k le m n both [] h = tt
all-move j k le m n both (a ∷ more) h = (fine-moves j k le m n both a h.0, all-move j k le m n both more h.1)

pub fine-both : (k : ℕ) (m : Interp) (xs bs : List FormulaTree) → AllFine k m xs → AllFine k m bs → AllFine k m (xs ++ bs)
fine-both k m [] bs h g = g
fine-both k m (a ∷ xs) bs h g = (h.0, fine-both k m xs bs h.1 g)

pub formulas-both : (es fs : List Entry) → formulas (es ++ fs) ≡ formulas es ++ formulas fs
formulas-both [] fs = refl
formulas-both (e ∷ es) fs = ap (λ xs. e.formula ∷ xs) (formulas-both es fs)

pub entries-both : (k : ℕ) (m : Interp) (es fs : List Entry) → AllFine k m (formulas es) → AllFine k m (formulas fs) → AllFine k m (formulas (es ++ fs))
entries-both k m es fs h g = subst (λ xs. AllFine k m xs) (sym (formulas-both es fs)) (fine-both k m (formulas es) (formulas fs) h g)

-- a universal that is true, at closed terms
pub put-true : (m : Interp) → InUniverse m → (k : ℕ) (c : List TermTree) (a : FormulaTree) → AllUsable k c → Fine k m a → Fine k m (put_at a c)
unfolding formula_passes
put-true m u k [] a h f = f
put-true m u k (w ∷ ws) (t.all a) h f =
    let there : truth (opened a w) m [] ≡ true = truth-opened a w h.0.0 m [] ∙ all-at (suc m.last) (λ x. truth a m (x ∷ [])) (term_value w m []) f.0 (term_inside m u [] (λ i. omega arith) w) in
    put-true m u k ws (opened a w) h.1 (there, opened-passes (before k) a w f.1 h.0.1)
put-true m u k (w ∷ ws) a h f = f

-- with constants for what is there, and quantifiers in front
pub put-chosen : (k : ℕ) (m : Interp) → InUniverse m → (a : FormulaTree) → Fine k m a → Chosen k m (λ n. Fine (k + witnesses a) n (prenex (witnessed a [] k)))
put-chosen k m u a f =
    let chosen = witnessed-chosen k k a [] (omega arith) f.1 tt m u f.0 in
    (chosen.0, chosen.1, chosen.2, (prenex-holds chosen.0 (witnessed a [] k) [] chosen.3, prenex-passes (before (k + witnesses a)) (witnessed a [] k) (witnessed-passes k k a [] (omega arith) f.1 tt)))

length-constants : (k n : ℕ) → length (constants_from k n) ≡ n
length-constants k zero = refl
length-constants k (suc n) = ap suc (length-constants (suc k) n)

pub puts-chosen : (h : AtHand) (cs : List (List TermTree)) (k : ℕ) (m : Interp) → InUniverse m → Fine k m h.formula → EachUsable k cs → Chosen k m (λ n. AllFine (k + made_constants (puts h cs k)) n (formulas (puts h cs k)))
puts-chosen h [] k m u f each = (m, agree-refl k m, u, tt)
puts-chosen h (c ∷ cs) k m u f each =
    let a : FormulaTree = put_at h.formula c in
    let w : ℕ = witnesses a in
    let first = put-chosen k m u a (put-true m u k c h.formula each.0 f) in
    let second = puts-chosen h cs (k + w) first.0 first.2 (fine-moves k (k + w) (omega arith) m first.0 first.1 h.formula f) (each-lower k (k + w) (omega arith) cs each.1) in
    let many : length (constants_from k w) ≡ w = length-constants k w in
    let more : ℕ = made_constants (puts h cs (k + w)) in
    let same : k + w + more ≡ k + (length (constants_from k w) + more) = omega (arith, many) in (
      second.0,
      agree-trans k m first.0 second.0 first.1 (agree-lower k (k + w) first.0 second.0 (omega arith) second.1),
      second.2,
      subst (λ z. AllFine z second.0 (formulas (puts h (c ∷ cs) k))) same
          (fine-moves (k + w) (k + w + more) (omega arith) first.0 second.0 second.1 (prenex (witnessed a [] k)) first.3, second.3),
    )
