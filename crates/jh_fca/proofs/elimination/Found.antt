-- The first hypothesis that constrains a field.
use Rattle.std.proofs.Common.{◌≡◌, refl, sym, ap, subst, ◌∙◌, ℕ, suc, ◌<◌, ◌==◌, Bool, true, false, not, ◌&&◌, ◌||◌, if◌then◌else◌, List, [], ◌∷◌, None, Some}
use Rattle.std.proofs.lemmas.Bool.{true≢false, eqb-true, eq-eqb}
use Rattle.jh_name.specs.declared.naming.Name.{Name}
use Rattle.jh_form.specs.Tree.{TermTree, FormulaTree}
use Rattle.jh_form.specs.Tree as t
use Rattle.jh_form.specs.Meaning.{Interp, InUniverse, truth}
use Rattle.jh_form.specs.Closed.{is_closed_formula}
use Rattle.jh_form.specs.Passing.{formula_passes}
use Rattle.jh_form.proofs.ClosedLemmas.{both-left, both-right}
use Rattle.jh_seq.specs.sequent.Sequents.{HypTree, AllTrue}
use Rattle.jh_fca.specs.elimination.Constraints.{Constraint, constraint_tree, other_than, is_variable, is_apart, constraint_in}
use Rattle.jh_fca.specs.elimination.Derived.{is_of, first_for, without_first}
use Rattle.jh_fca.proofs.elimination.Bools.{imply, all-at}

-- a formula that constrains a field
pub record IsConstraint (c : Constraint) : Type 0 where
  pub free : formula_passes c.says (other_than c.field) ≡ true
  pub closed : is_closed_formula c.says 2 ≡ true

pub record IsConstraintAt (c : Constraint) (a : FormulaTree) : Type 0 where
  pub is : IsConstraint c
  pub at : a ≡ constraint_tree c

variable-is : (k : ℕ) (a : TermTree) → is_variable k a ≡ true → a ≡ t.bound k
unfolding is_variable
variable-is k (t.bound j) h = ap t.bound (eqb-true j k h)
variable-is k a h = absurd (true≢false (sym h))

chosen-is : (b : Bool) (c d : Constraint) → (if b then Some d else None) ≡ Some c → (b ≡ true) × (d ≡ c)
chosen-is true c d e = (refl, cc)
chosen-is false c d e = absurd (cc)

pub constraint-is : (a : FormulaTree) (c : Constraint) → constraint_in a ≡ Some c → IsConstraintAt c a
unfolding constraint_in is_apart
constraint-is (t.all (t.all (t.implies (t.eq_object (t.read_object (t.free_field f) x) y) p))) c e =
    let d : Constraint = record { field = f; says = p } in
    let made = chosen-is (is_variable 1 x && is_variable 0 y && (formula_passes p (other_than f) && is_closed_formula p 2)) c d e in
    let variables : (is_variable 1 x && is_variable 0 y) ≡ true = both-left (is_variable 1 x && is_variable 0 y) (formula_passes p (other_than f) && is_closed_formula p 2) made.0 in
    let rest : (formula_passes p (other_than f) && is_closed_formula p 2) ≡ true = both-right (is_variable 1 x && is_variable 0 y) (formula_passes p (other_than f) && is_closed_formula p 2) made.0 in
    let first : x ≡ t.bound 1 = variable-is 1 x (both-left (is_variable 1 x) (is_variable 0 y) variables) in
    let second : y ≡ t.bound 0 = variable-is 0 y (both-right (is_variable 1 x) (is_variable 0 y) variables) in
    subst (λ (k : Constraint). IsConstraintAt k (t.all (t.all (t.implies (t.eq_object (t.read_object (t.free_field f) x) y) p)))) made.1
    record {
      is = record { free = both-left (formula_passes p (other_than f)) (is_closed_formula p 2) rest; closed = both-right (formula_passes p (other_than f)) (is_closed_formula p 2) rest };
      at = λ i. t.all (t.all (t.implies (t.eq_object (t.read_object (t.free_field f) (first i)) (second i)) p));
    }
constraint-is a c e = absurd (cc)

-- ---- among hypotheses

chosen-first : (f : Name) (h : HypTree) (hs : List HypTree) (c : Constraint) (b : Bool) → (if b then constraint_in h.fact else first_for f hs) ≡ Some c → (first_for f hs ≡ Some c → IsConstraint c) → IsConstraint c
chosen-first f h hs c true e rest = (constraint-is h.fact c e).is
chosen-first f h hs c false e rest = rest e

pub first-is : (f : Name) (hs : List HypTree) (c : Constraint) → first_for f hs ≡ Some c → IsConstraint c
unfolding first_for
first-is f [] c e = absurd (cc)
first-is f (h ∷ hs) c e = chosen-first f h hs c (is_of f (constraint_in h.fact)) e (λ k. first-is f hs c k)

if-true : (m : Interp) (b : Bool) (h : HypTree) (hs gs : List HypTree) → AllTrue hs m → truth h.fact m [] ≡ true → AllTrue gs m → AllTrue (if b then hs else h ∷ gs) m
if-true m true h hs gs k l n = k
if-true m false h hs gs k l n = (l, n)

pub without-true : (f : Name) (hs : List HypTree) (m : Interp) → AllTrue hs m → AllTrue (without_first f hs) m
unfolding without_first
without-true f [] m k = tt
without-true f (h ∷ hs) m k = if-true m (is_of f (constraint_in h.fact)) h hs (without_first f hs) k.1 k.0 (without-true f hs m k.1)

-- a hypothesis that constrains a field is true where what the field gives is what it says
constraint-says : (c : Constraint) (m : Interp) → InUniverse m → truth (constraint_tree c) m [] ≡ true → (x : ℕ) → x < suc m.last → truth c.says m ((m.field c.field).objects x ∷ x ∷ []) ≡ true
constraint-says c m universe h x lt =
    let y : ℕ = (m.field c.field).objects x in
    imply (y == y) (truth c.says m (y ∷ x ∷ []))
    (all-at (suc m.last) (λ z. not ((m.field c.field).objects x == z) || truth c.says m (z ∷ x ∷ [])) y
    (all-at (suc m.last) (λ w. truth (t.all (t.implies (t.eq_object (t.read_object (t.free_field c.field) (t.bound 1)) (t.bound 0)) c.says)) m (w ∷ [])) x h lt) (universe.field c.field x lt))
    (eq-eqb y y refl)

at-first : (f : Name) (h : HypTree) (hs : List HypTree) (c : Constraint) (m : Interp) (b : Bool) → InUniverse m → (if b then constraint_in h.fact else first_for f hs) ≡ Some c → truth h.fact m [] ≡ true →
    (first_for f hs ≡ Some c → (x : ℕ) → x < suc m.last → truth c.says m ((m.field c.field).objects x ∷ x ∷ []) ≡ true) → (x : ℕ) → x < suc m.last → truth c.says m ((m.field c.field).objects x ∷ x ∷ []) ≡ true
at-first f h hs c m true universe e k rest = constraint-says c m universe (ap (λ a. truth a m []) (sym (constraint-is h.fact c e).at) ∙ k)
at-first f h hs c m false universe e k rest = rest e

pub first-true : (f : Name) (hs : List HypTree) (c : Constraint) (m : Interp) → InUniverse m → first_for f hs ≡ Some c → AllTrue hs m → (x : ℕ) → x < suc m.last → truth c.says m ((m.field c.field).objects x ∷ x ∷ []) ≡ true
unfolding first_for
first-true f [] c m universe e k = absurd (cc)
first-true f (h ∷ hs) c m universe e k = at-first f h hs c m (is_of f (constraint_in h.fact)) universe e k.0 (λ l. first-true f hs c m universe l k.1)
