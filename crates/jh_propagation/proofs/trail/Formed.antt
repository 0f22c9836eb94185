-- What literals say of an instance that is known, or that is a literal.
use Rattle.std.proofs.Common.{◌≡◌, refl, sym, ap, subst, Bool, true, false, List, [], ◌∷◌, Some}
use Rattle.std.specs.Option.{option_map_or}
use Rattle.std.proofs.lemmas.Bool.{true≢false}
use Rattle.jh_form.specs.Tree.{FormulaTree}
use Rattle.jh_form.specs.Tree as t
use Rattle.jh_closure.specs.structures.Literals.{LiteralTree, IsListed}
use Rattle.jh_models.specs.ground_models.Atoms.{literal, opposite, atoms_of}
use Rattle.jh_models.specs.ground_models.Truths.{IsFalse, IsTrue}
use Rattle.jh_propagation.specs.trail.Forms.{known_denied, known_of, denied_literal, literal_of}

pub some-is : {X : Type 0} (x y : X) → Some x ≡ Some y → x ≡ y
some-is x y e = ap (λ o. option_map_or (λ z. z) o x) e

pub record SaysLiteral (i : FormulaTree) (l : LiteralTree) : Type 0 where
  pub refutes : (ls : List LiteralTree) → IsFalse ls i → IsListed ls (opposite l)
  pub refuted : (ls : List LiteralTree) → IsListed ls (opposite l) → IsFalse ls i
  pub proves : (ls : List LiteralTree) → IsTrue ls i → IsListed ls l
  pub proved : (ls : List LiteralTree) → IsListed ls l → IsTrue ls i
  pub atoms : atoms_of i ≡ l.atom ∷ []
  pub unknown : l.atom ≡ t.true_formula → ⊥

denied-says : (a : FormulaTree) (l : LiteralTree) → denied_literal a ≡ Some l → SaysLiteral (t.negation a) l
denied-says t.true_formula l e = absurd (cc)
denied-says t.false_formula l e = absurd (cc)
denied-says a l e = subst (λ k. SaysLiteral (t.negation a) k) (some-is (literal a false) l e) (record {
  refutes = λ ls h. h;
  refuted = λ ls h. h;
  proves = λ ls h. h;
  proved = λ ls h. h;
  atoms = refl;
  unknown = λ same. cc;
})

pub literal-says : (i : FormulaTree) (l : LiteralTree) → literal_of i ≡ Some l → SaysLiteral i l
literal-says t.true_formula l e = absurd (cc)
literal-says t.false_formula l e = absurd (cc)
literal-says (t.and a b) l e = absurd (cc)
literal-says (t.or a b) l e = absurd (cc)
literal-says (t.negation a) l e = denied-says a l e
literal-says a l e = subst (λ k. SaysLiteral a k) (some-is (literal a true) l e) (record {
  refutes = λ ls h. h;
  refuted = λ ls h. h;
  proves = λ ls h. h;
  proved = λ ls h. h;
  atoms = refl;
  unknown = λ same. cc;
})

pub record SaysKnown (i : FormulaTree) (b : Bool) : Type 0 where
  pub refutes : (ls : List LiteralTree) → IsFalse ls i → b ≡ false
  pub refuted : (ls : List LiteralTree) → b ≡ false → IsFalse ls i
  pub proves : (ls : List LiteralTree) → IsTrue ls i → b ≡ true
  pub proved : (ls : List LiteralTree) → b ≡ true → IsTrue ls i
  pub atoms : atoms_of i ≡ []

says-true : (i : FormulaTree) → ((ls : List LiteralTree) → IsFalse ls i → ⊥) → ((ls : List LiteralTree) → IsTrue ls i) → atoms_of i ≡ [] → SaysKnown i true
says-true i never always none = record {
  refutes = λ ls h. absurd (never ls h);
  refuted = λ ls e. absurd (true≢false e);
  proves = λ ls h. refl;
  proved = λ ls e. always ls;
  atoms = none;
}

says-false : (i : FormulaTree) → ((ls : List LiteralTree) → IsTrue ls i → ⊥) → ((ls : List LiteralTree) → IsFalse ls i) → atoms_of i ≡ [] → SaysKnown i false
says-false i never always none = record {
  refutes = λ ls h. refl;
  refuted = λ ls e. always ls;
  proves = λ ls h. absurd (never ls h);
  proved = λ ls e. absurd (true≢false (sym e));
  atoms = none;
}

denied-known : (a : FormulaTree) (b : Bool) → known_denied a ≡ Some b → SaysKnown (t.negation a) b
denied-known t.true_formula b e = subst (λ c. SaysKnown (t.negation t.true_formula) c) (some-is false b e) (says-false (t.negation t.true_formula) (λ ls h. h) (λ ls. tt) refl)
denied-known t.false_formula b e = subst (λ c. SaysKnown (t.negation t.false_formula) c) (some-is true b e) (says-true (t.negation t.false_formula) (λ ls h. h) (λ ls. tt) refl)
denied-known a b e = absurd (cc)

pub known-says : (i : FormulaTree) (b : Bool) → known_of i ≡ Some b → SaysKnown i b
known-says t.true_formula b e = subst (λ c. SaysKnown t.true_formula c) (some-is true b e) (says-true t.true_formula (λ ls h. h) (λ ls. tt) refl)
known-says t.false_formula b e = subst (λ c. SaysKnown t.false_formula c) (some-is false b e) (says-false t.false_formula (λ ls h. h) (λ ls. tt) refl)
known-says (t.negation a) b e = denied-known a b e
known-says a b e = absurd (cc)
