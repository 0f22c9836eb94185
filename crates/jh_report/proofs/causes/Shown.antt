-- Equalities that are shown, one after another.
use Rattle.std.specs.List.{flat_map}
use Rattle.std.proofs.Common.{◌≡◌, ◌∙◌, ap, sym, ℕ, zero, suc, ◌-◌, ◌<◌, true, List, [], ◌∷◌, ◌++◌, append_assoc, drop, take, slice_get, Some, arith}
use Rattle.jh_form.specs.Bare.{formula_tree, term_tree}
use Rattle.jh_form.specs.declared.form.Formula.TheVariants as formula
use Rattle.jh_form.specs.declared.form.Term.{Term}
use Rattle.jh_closure.specs.declared.structures.literal.Literal.{Literal}
use Rattle.jh_closure.specs.structures.Literals.{LiteralTree, literal_tree}
use Rattle.jh_report.specs.causes.LocalCauses.{equalities, equality_pieces, pieces_if, sides_text}

shown-piece : (l : Literal) (a b : Term) → l.holds ≡ true → l.atom ≡ formula.EqObj a b → equality_pieces (literal_tree l) ≡ sides_text (term_tree a) (term_tree b) ∷ []
unfolding literal_tree formula_tree
shown-piece l a b holds is = λ i. pieces_if (holds i) (formula_tree (is i))

one-less : (left : ℕ) (ps xs : List (List ℕ)) (x : List ℕ) → 0 < left → (ps ++ x ∷ []) ++ take (left - 1) xs ≡ ps ++ take left (x ∷ xs)
one-less zero ps xs x h = absurd (omega (arith, h))
one-less (suc n) ps xs x h = let less : suc n - 1 ≡ n = omega arith in ap (λ m. (ps ++ x ∷ []) ++ take m xs) less ∙ append_assoc ps (x ∷ []) (take n xs)

-- what was shown, with what is left, is all
pub one-shown : (ps : List (List ℕ)) (rest : List LiteralTree) (left : ℕ) (l : Literal) (a b : Term) → 0 < left → l.holds ≡ true → l.atom ≡ formula.EqObj a b →
    (ps ++ sides_text (term_tree a) (term_tree b) ∷ []) ++ equalities (left - 1) rest ≡ ps ++ equalities left (literal_tree l ∷ rest)
one-shown ps rest left l a b some holds is =
    one-less left ps (flat_map equality_pieces rest) (sides_text (term_tree a) (term_tree b)) some
    ∙ ap (λ xs. ps ++ take left (xs ++ flat_map equality_pieces rest)) (sym (shown-piece l a b holds is))

some-is : {X : Type 0} (x y : X) → Some x ≡ Some y → x ≡ y
some-is x y e = cc

none-some : {X P : Type 0} (i : ℕ) (x : X) → slice_get [] i ≡ Some x → P
none-some i x e = cc

-- the literals from a place on
pub drop-at : (ls : List Literal) (n : ℕ) (l : Literal) → slice_get ls n ≡ Some l → drop n ls ≡ l ∷ drop (suc n) ls
drop-at [] n l e = none-some n l e
drop-at (k ∷ ls) zero l e = ap (λ z. z ∷ ls) (some-is k l e)
drop-at (k ∷ ls) (suc n) l e = drop-at ls n l e
