-- What stands for the leaves of a tree decides which loose bound variables the mapped tree has.
use Rattle.std.proofs.Common.{◌≡◌, refl, ℕ, ◌+◌, nat_lt, true, ◌&&◌, arith}
use Rattle.jh_name.specs.declared.naming.Name.{Name}
use Rattle.jh_form.specs.Tree.{TermTree, IntTree, SetTree, FieldTree, ValueTree, FormulaTree, FieldTrees}
use Rattle.jh_form.specs.Tree as t
use Rattle.jh_form.specs.Closed.{is_closed_term, is_closed_int, is_closed_set, is_closed_field, is_closed_value, is_closed_formula, is_closed_fields}
use Rattle.jh_form.proofs.ClosedLemmas.{both-left, both-right}
use Rattle.jh_boxed.specs.Mapped.{LeafMap, mapped_term, mapped_int, mapped_set, mapped_field, mapped_value, mapped_formula, mapped_fields}

-- where a leaf belongs to one of c binders around the tree, what stands for it has its variables below d
pub record Closing (l : LeafMap) (c d : ℕ) : Type 0 where
  pub object : (x : Name) (k n : ℕ) → n ≡ k + d → is_closed_term (l.object_at x k) n ≡ true
  pub number : (x : Name) (k n : ℕ) → n ≡ k + d → is_closed_int (l.number_at x k) n ≡ true
  pub truth : (x : Name) (k n : ℕ) → n ≡ k + d → is_closed_formula (l.truth_at x k) n ≡ true
  pub set : (x : Name) (k n : ℕ) → n ≡ k + d → is_closed_set (l.set_at x k) n ≡ true
  pub field : (x : Name) (k n : ℕ) → n ≡ k + d → is_closed_field (l.field_at x k) n ≡ true
  pub bound : (i k m n : ℕ) → m ≡ k + c → n ≡ k + d → nat_lt i m ≡ true → is_closed_term (l.bound_at i k) n ≡ true

under : (k m c : ℕ) → m ≡ k + c → m + 1 ≡ k + 1 + c
under k m c e = omega arith

module _ (l : LeafMap) (c d : ℕ) (w : Closing l c d) where
  mutual
    unfolding mapped_term mapped_int mapped_set mapped_field mapped_value mapped_formula mapped_fields is_closed_term is_closed_int is_closed_set is_closed_field is_closed_value is_closed_formula is_closed_fields

    pub term-closing : (a : TermTree) (k m n : ℕ) → m ≡ k + c → n ≡ k + d → is_closed_term a m ≡ true → is_closed_term (mapped_term a l k) n ≡ true
    term-closing (t.bound i) k m n u v h = w.bound i k m n u v h
    term-closing (t.free_object x) k m n u v h = w.object x k n v
    term-closing t.null k m n u v h = refl
    term-closing (t.read_object a b) k m n u v h = λ i. field-closing a k m n u v (both-left (is_closed_field a m) (is_closed_term b m) h) i && term-closing b k m n u v (both-right (is_closed_field a m) (is_closed_term b m) h) i

    pub int-closing : (a : IntTree) (k m n : ℕ) → m ≡ k + c → n ≡ k + d → is_closed_int a m ≡ true → is_closed_int (mapped_int a l k) n ≡ true
    int-closing (t.const z) k m n u v h = refl
    int-closing (t.free_number x) k m n u v h = w.number x k n v
    int-closing (t.read_number a b) k m n u v h = λ i. field-closing a k m n u v (both-left (is_closed_field a m) (is_closed_term b m) h) i && term-closing b k m n u v (both-right (is_closed_field a m) (is_closed_term b m) h) i
    int-closing (t.add a b) k m n u v h = λ i. int-closing a k m n u v (both-left (is_closed_int a m) (is_closed_int b m) h) i && int-closing b k m n u v (both-right (is_closed_int a m) (is_closed_int b m) h) i
    int-closing (t.sub a b) k m n u v h = λ i. int-closing a k m n u v (both-left (is_closed_int a m) (is_closed_int b m) h) i && int-closing b k m n u v (both-right (is_closed_int a m) (is_closed_int b m) h) i
    int-closing (t.neg a) k m n u v h = int-closing a k m n u v h
    int-closing (t.scale z a) k m n u v h = int-closing a k m n u v h
    int-closing (t.card a) k m n u v h = set-closing a k m n u v h

    pub set-closing : (a : SetTree) (k m n : ℕ) → m ≡ k + c → n ≡ k + d → is_closed_set a m ≡ true → is_closed_set (mapped_set a l k) n ≡ true
    set-closing (t.free_set x) k m n u v h = w.set x k n v
    set-closing (t.read_set a b) k m n u v h = λ i. field-closing a k m n u v (both-left (is_closed_field a m) (is_closed_term b m) h) i && term-closing b k m n u v (both-right (is_closed_field a m) (is_closed_term b m) h) i
    set-closing t.empty k m n u v h = refl
    set-closing t.univ k m n u v h = refl
    set-closing (t.single a) k m n u v h = term-closing a k m n u v h
    set-closing (t.union a b) k m n u v h = λ i. set-closing a k m n u v (both-left (is_closed_set a m) (is_closed_set b m) h) i && set-closing b k m n u v (both-right (is_closed_set a m) (is_closed_set b m) h) i
    set-closing (t.inter a b) k m n u v h = λ i. set-closing a k m n u v (both-left (is_closed_set a m) (is_closed_set b m) h) i && set-closing b k m n u v (both-right (is_closed_set a m) (is_closed_set b m) h) i
    set-closing (t.diff a b) k m n u v h = λ i. set-closing a k m n u v (both-left (is_closed_set a m) (is_closed_set b m) h) i && set-closing b k m n u v (both-right (is_closed_set a m) (is_closed_set b m) h) i
    set-closing (t.compl a) k m n u v h = set-closing a k m n u v h
    set-closing (t.compr a) k m n u v h = formula-closing a (k + 1) (m + 1) (n + 1) (under k m c u) (under k n d v) h

    pub field-closing : (a : FieldTree) (k m n : ℕ) → m ≡ k + c → n ≡ k + d → is_closed_field a m ≡ true → is_closed_field (mapped_field a l k) n ≡ true
    field-closing (t.free_field x) k m n u v h = w.field x k n v
    field-closing (t.update a b c) k m n u v h = λ i. field-closing a k m n u v (both-left (is_closed_field a m) (is_closed_term b m) (both-left (is_closed_field a m && is_closed_term b m) (is_closed_value c m) h)) i && term-closing b k m n u v (both-right (is_closed_field a m) (is_closed_term b m) (both-left (is_closed_field a m && is_closed_term b m) (is_closed_value c m) h)) i && value-closing c k m n u v (both-right (is_closed_field a m && is_closed_term b m) (is_closed_value c m) h) i

    pub value-closing : (a : ValueTree) (k m n : ℕ) → m ≡ k + c → n ≡ k + d → is_closed_value a m ≡ true → is_closed_value (mapped_value a l k) n ≡ true
    value-closing (t.of_object a) k m n u v h = term-closing a k m n u v h
    value-closing (t.of_number a) k m n u v h = int-closing a k m n u v h
    value-closing (t.of_truth a) k m n u v h = formula-closing a k m n u v h
    value-closing (t.of_set a) k m n u v h = set-closing a k m n u v h
    value-closing (t.of_field a) k m n u v h = field-closing a k m n u v h

    pub formula-closing : (a : FormulaTree) (k m n : ℕ) → m ≡ k + c → n ≡ k + d → is_closed_formula a m ≡ true → is_closed_formula (mapped_formula a l k) n ≡ true
    formula-closing t.true_formula k m n u v h = refl
    formula-closing t.false_formula k m n u v h = refl
    formula-closing (t.free_truth x) k m n u v h = w.truth x k n v
    formula-closing (t.read_truth a b) k m n u v h = λ i. field-closing a k m n u v (both-left (is_closed_field a m) (is_closed_term b m) h) i && term-closing b k m n u v (both-right (is_closed_field a m) (is_closed_term b m) h) i
    formula-closing (t.negation a) k m n u v h = formula-closing a k m n u v h
    formula-closing (t.and a b) k m n u v h = λ i. formula-closing a k m n u v (both-left (is_closed_formula a m) (is_closed_formula b m) h) i && formula-closing b k m n u v (both-right (is_closed_formula a m) (is_closed_formula b m) h) i
    formula-closing (t.or a b) k m n u v h = λ i. formula-closing a k m n u v (both-left (is_closed_formula a m) (is_closed_formula b m) h) i && formula-closing b k m n u v (both-right (is_closed_formula a m) (is_closed_formula b m) h) i
    formula-closing (t.implies a b) k m n u v h = λ i. formula-closing a k m n u v (both-left (is_closed_formula a m) (is_closed_formula b m) h) i && formula-closing b k m n u v (both-right (is_closed_formula a m) (is_closed_formula b m) h) i
    formula-closing (t.iff a b) k m n u v h = λ i. formula-closing a k m n u v (both-left (is_closed_formula a m) (is_closed_formula b m) h) i && formula-closing b k m n u v (both-right (is_closed_formula a m) (is_closed_formula b m) h) i
    formula-closing (t.all a) k m n u v h = formula-closing a (k + 1) (m + 1) (n + 1) (under k m c u) (under k n d v) h
    formula-closing (t.ex a) k m n u v h = formula-closing a (k + 1) (m + 1) (n + 1) (under k m c u) (under k n d v) h
    formula-closing (t.eq_object a b) k m n u v h = λ i. term-closing a k m n u v (both-left (is_closed_term a m) (is_closed_term b m) h) i && term-closing b k m n u v (both-right (is_closed_term a m) (is_closed_term b m) h) i
    formula-closing (t.eq_number a b) k m n u v h = λ i. int-closing a k m n u v (both-left (is_closed_int a m) (is_closed_int b m) h) i && int-closing b k m n u v (both-right (is_closed_int a m) (is_closed_int b m) h) i
    formula-closing (t.eq_set a b) k m n u v h = λ i. set-closing a k m n u v (both-left (is_closed_set a m) (is_closed_set b m) h) i && set-closing b k m n u v (both-right (is_closed_set a m) (is_closed_set b m) h) i
    formula-closing (t.less a b) k m n u v h = λ i. int-closing a k m n u v (both-left (is_closed_int a m) (is_closed_int b m) h) i && int-closing b k m n u v (both-right (is_closed_int a m) (is_closed_int b m) h) i
    formula-closing (t.less_equal a b) k m n u v h = λ i. int-closing a k m n u v (both-left (is_closed_int a m) (is_closed_int b m) h) i && int-closing b k m n u v (both-right (is_closed_int a m) (is_closed_int b m) h) i
    formula-closing (t.divides z a) k m n u v h = int-closing a k m n u v h
    formula-closing (t.member a b) k m n u v h = λ i. term-closing a k m n u v (both-left (is_closed_term a m) (is_closed_set b m) h) i && set-closing b k m n u v (both-right (is_closed_term a m) (is_closed_set b m) h) i
    formula-closing (t.subset a b) k m n u v h = λ i. set-closing a k m n u v (both-left (is_closed_set a m) (is_closed_set b m) h) i && set-closing b k m n u v (both-right (is_closed_set a m) (is_closed_set b m) h) i
    formula-closing (t.reach fs a b) k m n u v h = λ i. fields-closing fs k m n u v (both-left (is_closed_fields fs m) (is_closed_term a m) (both-left (is_closed_fields fs m && is_closed_term a m) (is_closed_term b m) h)) i && term-closing a k m n u v (both-right (is_closed_fields fs m) (is_closed_term a m) (both-left (is_closed_fields fs m && is_closed_term a m) (is_closed_term b m) h)) i && term-closing b k m n u v (both-right (is_closed_fields fs m && is_closed_term a m) (is_closed_term b m) h) i
    formula-closing (t.tree fs) k m n u v h = fields-closing fs k m n u v h
    formula-closing (t.mark x a) k m n u v h = formula-closing a k m n u v h

    pub fields-closing : (a : FieldTrees) (k m n : ℕ) → m ≡ k + c → n ≡ k + d → is_closed_fields a m ≡ true → is_closed_fields (mapped_fields a l k) n ≡ true
    fields-closing t.none k m n u v h = refl
    fields-closing (t.more a fs) k m n u v h = λ i. field-closing a k m n u v (both-left (is_closed_field a m) (is_closed_fields fs m) h) i && fields-closing fs k m n u v (both-right (is_closed_field a m) (is_closed_fields fs m) h) i
