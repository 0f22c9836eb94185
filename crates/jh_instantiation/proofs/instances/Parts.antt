-- The parts of facts, and the facts of a list one after another.
use Rattle.std.proofs.Common.{◌≡◌, refl, sym, ap, ◌∙◌, ℕ, zero, suc, ◌+◌, add-one, arith, append_assoc, List, [], ◌∷◌, ◌++◌, map, take, slice_get, Some}
use Rattle.std.proofs.lemmas.List.{map-append, append-nil}
use Rattle.jh_form.specs.Tree.{FormulaTree}
use Rattle.jh_form.specs.Tree as t
use Rattle.jh_inst.specs.instances.Witnesses.{witnesses}
use Rattle.jh_inst.specs.instances.Entries.{Entry, conjuncts, parts_of, taken, all_witnesses}
use Rattle.jh_instantiation.proofs.skolem_constants.Elses.{NoAnd}

-- a formula that is no And is one part
pub conjuncts-else : (a : FormulaTree) → NoAnd a → conjuncts a ≡ a ∷ []
conjuncts-else (t.and x y) h = absurd (h x y refl)
conjuncts-else _ h = refl

-- the parts of both sides
pub parts-both : (f : FormulaTree → Entry) (es : List Entry) (xs ys : List FormulaTree) → (es ++ map f xs) ++ map f ys ≡ es ++ map f (xs ++ ys)
parts-both f es xs ys = append_assoc es (map f xs) (map f ys) ∙ ap (λ zs. es ++ zs) (sym (map-append f xs ys))

witnesses-more : (fs : List FormulaTree) (i : ℕ) (a : FormulaTree) → slice_get fs i ≡ Some a → all_witnesses (take (suc i) fs) ≡ all_witnesses (take i fs) + witnesses a
witnesses-more [] i a e = absurd (cc)
witnesses-more (b ∷ fs) zero a e =
    let is : b ≡ a = cc in
    let same : witnesses b ≡ witnesses a = ap witnesses is in
    omega (arith, same)
witnesses-more (b ∷ fs) (suc i) a e = let more = witnesses-more fs i a e in omega (arith, more)

taken-more : (fs : List FormulaTree) (i n k : ℕ) (a : FormulaTree) → slice_get fs i ≡ Some a → taken (take (suc i) fs) n k ≡ taken (take i fs) n k ++ parts_of (n + i) a (k + all_witnesses (take i fs))
taken-more [] i n k a e = absurd (cc)
taken-more (b ∷ fs) zero n k a e =
    let is : b ≡ a = cc in
    let here : n ≡ n + 0 = omega arith in
    let same : k ≡ k + 0 = omega arith in
    append-nil (parts_of n b k) ∙ (λ j. parts_of (here j) (is j) (same j))
taken-more (b ∷ fs) (suc i) n k a e =
    let here : suc n + i ≡ n + suc i = omega arith in
    let same : (k + witnesses b) + all_witnesses (take i fs) ≡ k + (witnesses b + all_witnesses (take i fs)) = omega arith in
    ap (λ es. parts_of n b k ++ es) (taken-more fs i (suc n) (k + witnesses b) a e ∙ (λ j. taken (take i fs) (suc n) (k + witnesses b) ++ parts_of (here j) a (same j)))
    ∙ sym (append_assoc (parts_of n b k) (taken (take i fs) (suc n) (k + witnesses b)) (parts_of (n + suc i) a (k + (witnesses b + all_witnesses (take i fs)))))

-- one more fact is taken
pub taken-next : (fs : List FormulaTree) (i k next : ℕ) (a : FormulaTree) (es : List Entry) → slice_get fs i ≡ Some a → next ≡ k + all_witnesses (take i fs) → (es ++ taken (take i fs) 0 k) ++ parts_of i a next ≡ es ++ taken (take (i + 1) fs) 0 k
taken-next fs i k next a es e f =
    let here : i ≡ 0 + i = omega arith in
    append_assoc es (taken (take i fs) 0 k) (parts_of i a next)
    ∙ ap (λ zs. es ++ zs) ((λ j. taken (take i fs) 0 k ++ parts_of (here j) a (f j)) ∙ sym (taken-more fs i 0 k a e) ∙ ap (λ j. taken (take j fs) 0 k) (sym (add-one i)))

pub witnesses-next : (fs : List FormulaTree) (i k next after : ℕ) (a : FormulaTree) → slice_get fs i ≡ Some a → next ≡ k + all_witnesses (take i fs) → after ≡ next + witnesses a → after ≡ k + all_witnesses (take (i + 1) fs)
witnesses-next fs i k next after a e f g =
    let more : all_witnesses (take (i + 1) fs) ≡ all_witnesses (take i fs) + witnesses a = ap (λ j. all_witnesses (take j fs)) (add-one i) ∙ witnesses-more fs i a e in
    omega (arith, f, g, more)
