-- The tree of each variant, an equation for each.
use Rattle.std.proofs.Common.{◌≡◌, refl, ap, ◌∙◌, List, ℕ, ℤ}
use Rattle.jh_name.specs.declared.naming.Name.{Name}
use Rattle.jh_form.specs.declared.mark.Mark.{Mark}
use Rattle.jh_form.specs.declared.form.Term.{Term}
use Rattle.jh_form.specs.declared.form.IntTerm.{IntTerm}
use Rattle.jh_form.specs.declared.form.SetTerm.{SetTerm}
use Rattle.jh_form.specs.declared.form.FieldTerm.{FieldTerm}
use Rattle.jh_form.specs.declared.form.Value.{Value}
use Rattle.jh_form.specs.declared.form.Formula.{Formula}
use Rattle.jh_form.specs.declared.form.Formula.{Row_of-FieldTerm, end_of-FieldTerm, more_of-FieldTerm, items-the_row-FieldTerm, items_hidden-the_row-FieldTerm-0}
use Rattle.jh_form.specs.declared.form.FieldTerm.TheBlock.{hidden-the_row-FieldTerm-0}
use Rattle.jh_form.specs.declared.form.Term.TheVariants as term
use Rattle.jh_form.specs.declared.form.IntTerm.TheVariants as int
use Rattle.jh_form.specs.declared.form.SetTerm.TheVariants as set
use Rattle.jh_form.specs.declared.form.FieldTerm.TheVariants as field
use Rattle.jh_form.specs.declared.form.Value.TheVariants as value
use Rattle.jh_form.specs.declared.form.Formula.TheVariants as formula
use Rattle.jh_form.specs.Bare.{term_tree, int_tree, set_tree, field_tree, value_tree, formula_tree, fields_tree, list_tree}
use Rattle.jh_form.specs.Tree as tree

-- the trees of a row are those of the list of its items
pub fields_tree-items : {n : _} (fs : Row_of-FieldTerm n) → fields_tree fs ≡ list_tree (items-the_row-FieldTerm n fs)
unfolding fields_tree
fields_tree-items end_of-FieldTerm = refl
fields_tree-items (more_of-FieldTerm f fs) = ap (tree.more (field_tree f)) (fields_tree-items fs)

pub fields_tree-hidden : (fs : List FieldTerm) → fields_tree (hidden-the_row-FieldTerm-0 fs) ≡ list_tree fs
fields_tree-hidden fs =
    fields_tree-items (hidden-the_row-FieldTerm-0 fs) ∙ ap list_tree (items_hidden-the_row-FieldTerm-0 fs)

pub term_tree-Bound : (k : ℕ) → term_tree (term.Bound k) ≡ tree.bound k
unfolding term_tree
term_tree-Bound k = refl

pub term_tree-Free : (x : Name) → term_tree (term.Free x) ≡ tree.free_object x
unfolding term_tree
term_tree-Free x = refl

pub term_tree-Null : term_tree term.Null ≡ tree.null
unfolding term_tree
term_tree-Null = refl

pub term_tree-Read : (i : _) (a : FieldTerm) (j : _) (b : Term) → term_tree (term.Read' i a j b) ≡ tree.read_object (field_tree a) (term_tree b)
unfolding term_tree
term_tree-Read i a j b = refl

pub int_tree-Const : (z : ℤ) → int_tree (int.Const z) ≡ tree.const z
unfolding int_tree
int_tree-Const z = refl

pub int_tree-Free : (x : Name) → int_tree (int.Free x) ≡ tree.free_number x
unfolding int_tree
int_tree-Free x = refl

pub int_tree-Read : (i : _) (a : FieldTerm) (j : _) (b : Term) → int_tree (int.Read' i a j b) ≡ tree.read_number (field_tree a) (term_tree b)
unfolding int_tree
int_tree-Read i a j b = refl

pub int_tree-Add : (i : _) (a : IntTerm) (j : _) (b : IntTerm) → int_tree (int.Add' i a j b) ≡ tree.add (int_tree a) (int_tree b)
unfolding int_tree
int_tree-Add i a j b = refl

pub int_tree-Sub : (i : _) (a : IntTerm) (j : _) (b : IntTerm) → int_tree (int.Sub' i a j b) ≡ tree.sub (int_tree a) (int_tree b)
unfolding int_tree
int_tree-Sub i a j b = refl

pub int_tree-Neg : (i : _) (a : IntTerm) → int_tree (int.Neg' i a) ≡ tree.neg (int_tree a)
unfolding int_tree
int_tree-Neg i a = refl

pub int_tree-Scale : (z : ℤ) (i : _) (a : IntTerm) → int_tree (int.Scale' z i a) ≡ tree.scale z (int_tree a)
unfolding int_tree
int_tree-Scale z i a = refl

pub int_tree-Card : (i : _) (a : SetTerm) → int_tree (int.Card' i a) ≡ tree.card (set_tree a)
unfolding int_tree
int_tree-Card i a = refl

pub set_tree-Free : (x : Name) → set_tree (set.Free x) ≡ tree.free_set x
unfolding set_tree
set_tree-Free x = refl

pub set_tree-Read : (i : _) (a : FieldTerm) (j : _) (b : Term) → set_tree (set.Read' i a j b) ≡ tree.read_set (field_tree a) (term_tree b)
unfolding set_tree
set_tree-Read i a j b = refl

pub set_tree-Empty : set_tree set.Empty ≡ tree.empty
unfolding set_tree
set_tree-Empty = refl

pub set_tree-Univ : set_tree set.Univ ≡ tree.univ
unfolding set_tree
set_tree-Univ = refl

pub set_tree-Single : (i : _) (a : Term) → set_tree (set.Single' i a) ≡ tree.single (term_tree a)
unfolding set_tree
set_tree-Single i a = refl

pub set_tree-Union : (i : _) (a : SetTerm) (j : _) (b : SetTerm) → set_tree (set.Union' i a j b) ≡ tree.union (set_tree a) (set_tree b)
unfolding set_tree
set_tree-Union i a j b = refl

pub set_tree-Inter : (i : _) (a : SetTerm) (j : _) (b : SetTerm) → set_tree (set.Inter' i a j b) ≡ tree.inter (set_tree a) (set_tree b)
unfolding set_tree
set_tree-Inter i a j b = refl

pub set_tree-Diff : (i : _) (a : SetTerm) (j : _) (b : SetTerm) → set_tree (set.Diff' i a j b) ≡ tree.diff (set_tree a) (set_tree b)
unfolding set_tree
set_tree-Diff i a j b = refl

pub set_tree-Compl : (i : _) (a : SetTerm) → set_tree (set.Compl' i a) ≡ tree.compl (set_tree a)
unfolding set_tree
set_tree-Compl i a = refl

pub set_tree-Compr : (i : _) (a : Formula) → set_tree (set.Compr' i a) ≡ tree.compr (formula_tree a)
unfolding set_tree
set_tree-Compr i a = refl

pub field_tree-Free : (x : Name) → field_tree (field.Free x) ≡ tree.free_field x
unfolding field_tree
field_tree-Free x = refl

pub field_tree-Update : (i : _) (a : FieldTerm) (j : _) (b : Term) (l : _) (c : Value) → field_tree (field.Update' i a j b l c) ≡ tree.update (field_tree a) (term_tree b) (value_tree c)
unfolding field_tree
field_tree-Update i a j b l c = refl

pub value_tree-Obj : (a : Term) → value_tree (value.Obj a) ≡ tree.of_object (term_tree a)
unfolding value_tree
value_tree-Obj a = refl

pub value_tree-Int : (a : IntTerm) → value_tree (value.Int a) ≡ tree.of_number (int_tree a)
unfolding value_tree
value_tree-Int a = refl

pub value_tree-Bool : (a : Formula) → value_tree (value.Bool a) ≡ tree.of_truth (formula_tree a)
unfolding value_tree
value_tree-Bool a = refl

pub value_tree-Set : (a : SetTerm) → value_tree (value.Set a) ≡ tree.of_set (set_tree a)
unfolding value_tree
value_tree-Set a = refl

pub value_tree-Field : (a : FieldTerm) → value_tree (value.Field a) ≡ tree.of_field (field_tree a)
unfolding value_tree
value_tree-Field a = refl

pub formula_tree-True : formula_tree formula.True ≡ tree.true_formula
unfolding formula_tree
formula_tree-True = refl

pub formula_tree-False : formula_tree formula.False ≡ tree.false_formula
unfolding formula_tree
formula_tree-False = refl

pub formula_tree-Free : (x : Name) → formula_tree (formula.Free x) ≡ tree.free_truth x
unfolding formula_tree
formula_tree-Free x = refl

pub formula_tree-Read : (i : _) (a : FieldTerm) (j : _) (b : Term) → formula_tree (formula.Read' i a j b) ≡ tree.read_truth (field_tree a) (term_tree b)
unfolding formula_tree
formula_tree-Read i a j b = refl

pub formula_tree-Not : (i : _) (a : Formula) → formula_tree (formula.Not' i a) ≡ tree.negation (formula_tree a)
unfolding formula_tree
formula_tree-Not i a = refl

pub formula_tree-And : (i : _) (a : Formula) (j : _) (b : Formula) → formula_tree (formula.And' i a j b) ≡ tree.and (formula_tree a) (formula_tree b)
unfolding formula_tree
formula_tree-And i a j b = refl

pub formula_tree-Or : (i : _) (a : Formula) (j : _) (b : Formula) → formula_tree (formula.Or' i a j b) ≡ tree.or (formula_tree a) (formula_tree b)
unfolding formula_tree
formula_tree-Or i a j b = refl

pub formula_tree-Implies : (i : _) (a : Formula) (j : _) (b : Formula) → formula_tree (formula.Implies' i a j b) ≡ tree.implies (formula_tree a) (formula_tree b)
unfolding formula_tree
formula_tree-Implies i a j b = refl

pub formula_tree-Iff : (i : _) (a : Formula) (j : _) (b : Formula) → formula_tree (formula.Iff' i a j b) ≡ tree.iff (formula_tree a) (formula_tree b)
unfolding formula_tree
formula_tree-Iff i a j b = refl

pub formula_tree-All : (i : _) (a : Formula) → formula_tree (formula.All' i a) ≡ tree.all (formula_tree a)
unfolding formula_tree
formula_tree-All i a = refl

pub formula_tree-Ex : (i : _) (a : Formula) → formula_tree (formula.Ex' i a) ≡ tree.ex (formula_tree a)
unfolding formula_tree
formula_tree-Ex i a = refl

pub formula_tree-EqObj : (a : Term) (b : Term) → formula_tree (formula.EqObj a b) ≡ tree.eq_object (term_tree a) (term_tree b)
unfolding formula_tree
formula_tree-EqObj a b = refl

pub formula_tree-EqInt : (a : IntTerm) (b : IntTerm) → formula_tree (formula.EqInt a b) ≡ tree.eq_number (int_tree a) (int_tree b)
unfolding formula_tree
formula_tree-EqInt a b = refl

pub formula_tree-EqSet : (a : SetTerm) (b : SetTerm) → formula_tree (formula.EqSet a b) ≡ tree.eq_set (set_tree a) (set_tree b)
unfolding formula_tree
formula_tree-EqSet a b = refl

pub formula_tree-Less : (a : IntTerm) (b : IntTerm) → formula_tree (formula.Less a b) ≡ tree.less (int_tree a) (int_tree b)
unfolding formula_tree
formula_tree-Less a b = refl

pub formula_tree-LessEq : (a : IntTerm) (b : IntTerm) → formula_tree (formula.LessEq a b) ≡ tree.less_equal (int_tree a) (int_tree b)
unfolding formula_tree
formula_tree-LessEq a b = refl

pub formula_tree-Divides : (z : ℤ) (a : IntTerm) → formula_tree (formula.Divides z a) ≡ tree.divides z (int_tree a)
unfolding formula_tree
formula_tree-Divides z a = refl

pub formula_tree-Member : (a : Term) (b : SetTerm) → formula_tree (formula.Member a b) ≡ tree.member (term_tree a) (set_tree b)
unfolding formula_tree
formula_tree-Member a b = refl

pub formula_tree-Subset : (a : SetTerm) (b : SetTerm) → formula_tree (formula.Subset a b) ≡ tree.subset (set_tree a) (set_tree b)
unfolding formula_tree
formula_tree-Subset a b = refl

pub formula_tree-Reach : (fs : List FieldTerm) (a : Term) (b : Term) → formula_tree (formula.Reach fs a b) ≡ tree.reach (list_tree fs) (term_tree a) (term_tree b)
unfolding formula_tree
formula_tree-Reach fs a b = ap (λ fs. tree.reach fs (term_tree a) (term_tree b)) (fields_tree-hidden fs)

pub formula_tree-Tree : (fs : List FieldTerm) → formula_tree (formula.Tree fs) ≡ tree.tree (list_tree fs)
unfolding formula_tree
formula_tree-Tree fs = ap (λ fs. tree.tree fs) (fields_tree-hidden fs)

pub formula_tree-Mark : (k : Mark) (i : _) (a : Formula) → formula_tree (formula.Mark' k i a) ≡ tree.mark k (formula_tree a)
unfolding formula_tree
formula_tree-Mark k i a = refl

pub ruleset tree_steps = (term_tree-Bound, term_tree-Free, term_tree-Null, term_tree-Read, int_tree-Const, int_tree-Free, int_tree-Read, int_tree-Add, int_tree-Sub, int_tree-Neg, int_tree-Scale, int_tree-Card, set_tree-Free, set_tree-Read, set_tree-Empty, set_tree-Univ, set_tree-Single, set_tree-Union, set_tree-Inter, set_tree-Diff, set_tree-Compl, set_tree-Compr, field_tree-Free, field_tree-Update, value_tree-Obj, value_tree-Int, value_tree-Bool, value_tree-Set, value_tree-Field, formula_tree-True, formula_tree-False, formula_tree-Free, formula_tree-Read, formula_tree-Not, formula_tree-And, formula_tree-Or, formula_tree-Implies, formula_tree-Iff, formula_tree-All, formula_tree-Ex, formula_tree-EqObj, formula_tree-EqInt, formula_tree-EqSet, formula_tree-Less, formula_tree-LessEq, formula_tree-Divides, formula_tree-Member, formula_tree-Subset, formula_tree-Reach, formula_tree-Tree, formula_tree-Mark)
