-- What stands for the leaves of a tree decides which names the mapped tree has.
use Rattle.std.proofs.Common.{◌≡◌, refl, ℕ, ◌+◌, ◌-◌, ◌≤◌, nat_lt, Bool, true, false, ◌&&◌, if◌then◌else◌, List, [], ◌∷◌, suc, zero}
use Rattle.jh_name.specs.declared.naming.Name.{Name}
use Rattle.jh_name.specs.declared.place.Sort as place
use Rattle.jh_name.specs.declared.place.Sort.TheVariants as Sort
use Rattle.jh_form.specs.Tree.{TermTree, IntTree, SetTree, FieldTree, ValueTree, FormulaTree, FieldTrees}
use Rattle.jh_form.specs.Tree as t
use Rattle.jh_form.specs.Passing.{term_passes, int_passes, set_passes, field_passes, value_passes, formula_passes, fields_passes}
use Rattle.jh_form.proofs.ClosedLemmas.{both-left, both-right}
use Rattle.jh_wp.specs.jh_boxed.Mapped.{LeafMap, mapped_term, mapped_int, mapped_set, mapped_field, mapped_value, mapped_formula, mapped_fields}
use Rattle.jh_seq.specs.splitting.Split.{constant_at, closing, before}
use Rattle.jh_seq.proofs.splitting.Agreements.{AllBefore, lower}

-- where a name passes one test, what stands for it passes another
pub record Passing (l : LeafMap) (p q : Name → place.Sort → Bool) : Type 0 where
  pub object : (x : Name) (d : ℕ) → p x Sort.Obj ≡ true → term_passes (l.object_at x d) q ≡ true
  pub number : (x : Name) (d : ℕ) → p x Sort.Int ≡ true → int_passes (l.number_at x d) q ≡ true
  pub truth : (x : Name) (d : ℕ) → p x Sort.Bool ≡ true → formula_passes (l.truth_at x d) q ≡ true
  pub set : (x : Name) (d : ℕ) → p x Sort.Set ≡ true → set_passes (l.set_at x d) q ≡ true
  pub field : (x : Name) (d : ℕ) → p x Sort.Field ≡ true → field_passes (l.field_at x d) q ≡ true
  pub bound : (k d : ℕ) → term_passes (l.bound_at k d) q ≡ true

module _ (l : LeafMap) (p q : Name → place.Sort → Bool) (w : Passing l p q) where
  mutual
    unfolding mapped_term mapped_int mapped_set mapped_field mapped_value mapped_formula mapped_fields term_passes int_passes set_passes field_passes value_passes formula_passes fields_passes

    pub term-passing : (a : TermTree) (d : ℕ) → term_passes a p ≡ true → term_passes (mapped_term a l d) q ≡ true
    term-passing (t.bound k) d h = w.bound k d
    term-passing (t.free_object x) d h = w.object x d h
    term-passing t.null d h = refl
    term-passing (t.read_object a b) d h = λ i. field-passing a d (both-left (field_passes a p) (term_passes b p) h) i && term-passing b d (both-right (field_passes a p) (term_passes b p) h) i

    pub int-passing : (a : IntTree) (d : ℕ) → int_passes a p ≡ true → int_passes (mapped_int a l d) q ≡ true
    int-passing (t.const z) d h = refl
    int-passing (t.free_number x) d h = w.number x d h
    int-passing (t.read_number a b) d h = λ i. field-passing a d (both-left (field_passes a p) (term_passes b p) h) i && term-passing b d (both-right (field_passes a p) (term_passes b p) h) i
    int-passing (t.add a b) d h = λ i. int-passing a d (both-left (int_passes a p) (int_passes b p) h) i && int-passing b d (both-right (int_passes a p) (int_passes b p) h) i
    int-passing (t.sub a b) d h = λ i. int-passing a d (both-left (int_passes a p) (int_passes b p) h) i && int-passing b d (both-right (int_passes a p) (int_passes b p) h) i
    int-passing (t.neg a) d h = int-passing a d h
    int-passing (t.scale z a) d h = int-passing a d h
    int-passing (t.card a) d h = set-passing a d h

    pub set-passing : (a : SetTree) (d : ℕ) → set_passes a p ≡ true → set_passes (mapped_set a l d) q ≡ true
    set-passing (t.free_set x) d h = w.set x d h
    set-passing (t.read_set a b) d h = λ i. field-passing a d (both-left (field_passes a p) (term_passes b p) h) i && term-passing b d (both-right (field_passes a p) (term_passes b p) h) i
    set-passing t.empty d h = refl
    set-passing t.univ d h = refl
    set-passing (t.single a) d h = term-passing a d h
    set-passing (t.union a b) d h = λ i. set-passing a d (both-left (set_passes a p) (set_passes b p) h) i && set-passing b d (both-right (set_passes a p) (set_passes b p) h) i
    set-passing (t.inter a b) d h = λ i. set-passing a d (both-left (set_passes a p) (set_passes b p) h) i && set-passing b d (both-right (set_passes a p) (set_passes b p) h) i
    set-passing (t.diff a b) d h = λ i. set-passing a d (both-left (set_passes a p) (set_passes b p) h) i && set-passing b d (both-right (set_passes a p) (set_passes b p) h) i
    set-passing (t.compl a) d h = set-passing a d h
    set-passing (t.compr a) d h = formula-passing a (d + 1) h

    pub field-passing : (a : FieldTree) (d : ℕ) → field_passes a p ≡ true → field_passes (mapped_field a l d) q ≡ true
    field-passing (t.free_field x) d h = w.field x d h
    field-passing (t.update a b c) d h = λ i. field-passing a d (both-left (field_passes a p) (term_passes b p) (both-left (field_passes a p && term_passes b p) (value_passes c p) h)) i && term-passing b d (both-right (field_passes a p) (term_passes b p) (both-left (field_passes a p && term_passes b p) (value_passes c p) h)) i && value-passing c d (both-right (field_passes a p && term_passes b p) (value_passes c p) h) i

    pub value-passing : (a : ValueTree) (d : ℕ) → value_passes a p ≡ true → value_passes (mapped_value a l d) q ≡ true
    value-passing (t.of_object a) d h = term-passing a d h
    value-passing (t.of_number a) d h = int-passing a d h
    value-passing (t.of_truth a) d h = formula-passing a d h
    value-passing (t.of_set a) d h = set-passing a d h
    value-passing (t.of_field a) d h = field-passing a d h

    pub formula-passing : (a : FormulaTree) (d : ℕ) → formula_passes a p ≡ true → formula_passes (mapped_formula a l d) q ≡ true
    formula-passing t.true_formula d h = refl
    formula-passing t.false_formula d h = refl
    formula-passing (t.free_truth x) d h = w.truth x d h
    formula-passing (t.read_truth a b) d h = λ i. field-passing a d (both-left (field_passes a p) (term_passes b p) h) i && term-passing b d (both-right (field_passes a p) (term_passes b p) h) i
    formula-passing (t.negation a) d h = formula-passing a d h
    formula-passing (t.and a b) d h = λ i. formula-passing a d (both-left (formula_passes a p) (formula_passes b p) h) i && formula-passing b d (both-right (formula_passes a p) (formula_passes b p) h) i
    formula-passing (t.or a b) d h = λ i. formula-passing a d (both-left (formula_passes a p) (formula_passes b p) h) i && formula-passing b d (both-right (formula_passes a p) (formula_passes b p) h) i
    formula-passing (t.implies a b) d h = λ i. formula-passing a d (both-left (formula_passes a p) (formula_passes b p) h) i && formula-passing b d (both-right (formula_passes a p) (formula_passes b p) h) i
    formula-passing (t.iff a b) d h = λ i. formula-passing a d (both-left (formula_passes a p) (formula_passes b p) h) i && formula-passing b d (both-right (formula_passes a p) (formula_passes b p) h) i
    formula-passing (t.all a) d h = formula-passing a (d + 1) h
    formula-passing (t.ex a) d h = formula-passing a (d + 1) h
    formula-passing (t.eq_object a b) d h = λ i. term-passing a d (both-left (term_passes a p) (term_passes b p) h) i && term-passing b d (both-right (term_passes a p) (term_passes b p) h) i
    formula-passing (t.eq_number a b) d h = λ i. int-passing a d (both-left (int_passes a p) (int_passes b p) h) i && int-passing b d (both-right (int_passes a p) (int_passes b p) h) i
    formula-passing (t.eq_set a b) d h = λ i. set-passing a d (both-left (set_passes a p) (set_passes b p) h) i && set-passing b d (both-right (set_passes a p) (set_passes b p) h) i
    formula-passing (t.less a b) d h = λ i. int-passing a d (both-left (int_passes a p) (int_passes b p) h) i && int-passing b d (both-right (int_passes a p) (int_passes b p) h) i
    formula-passing (t.less_equal a b) d h = λ i. int-passing a d (both-left (int_passes a p) (int_passes b p) h) i && int-passing b d (both-right (int_passes a p) (int_passes b p) h) i
    formula-passing (t.divides z a) d h = int-passing a d h
    formula-passing (t.member a b) d h = λ i. term-passing a d (both-left (term_passes a p) (set_passes b p) h) i && set-passing b d (both-right (term_passes a p) (set_passes b p) h) i
    formula-passing (t.subset a b) d h = λ i. set-passing a d (both-left (set_passes a p) (set_passes b p) h) i && set-passing b d (both-right (set_passes a p) (set_passes b p) h) i
    formula-passing (t.reach fs a b) d h = λ i. fields-passing fs d (both-left (fields_passes fs p) (term_passes a p) (both-left (fields_passes fs p && term_passes a p) (term_passes b p) h)) i && term-passing a d (both-right (fields_passes fs p) (term_passes a p) (both-left (fields_passes fs p && term_passes a p) (term_passes b p) h)) i && term-passing b d (both-right (fields_passes fs p && term_passes a p) (term_passes b p) h) i
    formula-passing (t.tree fs) d h = fields-passing fs d h
    formula-passing (t.mark k a) d h = formula-passing a d h

    pub fields-passing : (a : FieldTrees) (d : ℕ) → fields_passes a p ≡ true → fields_passes (mapped_fields a l d) q ≡ true
    fields-passing t.none d h = refl
    fields-passing (t.more a fs) d h = λ i. field-passing a d (both-left (field_passes a p) (fields_passes fs p) h) i && fields-passing fs d (both-right (field_passes a p) (fields_passes fs p) h) i

-- the constants of binders come before the number that is free behind them
module _ (j k : ℕ) (le : j ≤ k) where
  constant-passes : (ws : List Name) (i : ℕ) → AllBefore k ws → term_passes (constant_at ws i) (before k) ≡ true
  unfolding term_passes
  constant-passes [] i wb = refl
  constant-passes (v ∷ ws) zero wb = wb.0
  constant-passes (v ∷ ws) (suc i) wb = constant-passes ws i wb.1

  bound-passes : (ws : List Name) (n d : ℕ) (b : Bool) → AllBefore k ws → term_passes (if b then t.bound n else constant_at ws (n - d)) (before k) ≡ true
  unfolding term_passes
  bound-passes ws n d true wb = refl
  bound-passes ws n d false wb = constant-passes ws (n - d) wb

  pub closing-passes : (ws : List Name) → AllBefore k ws → Passing (closing ws) (before j) (before k)
  unfolding term_passes int_passes set_passes field_passes formula_passes
  closing-passes ws wb = record {
    object = λ x d h. lower x.turn j k le h;
    number = λ x d h. lower x.turn j k le h;
    truth = λ x d h. lower x.turn j k le h;
    set = λ x d h. lower x.turn j k le h;
    field = λ x d h. lower x.turn j k le h;
    bound = λ n d. bound-passes ws n d (nat_lt n d) wb;
  }
