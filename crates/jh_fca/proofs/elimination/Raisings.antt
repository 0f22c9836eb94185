-- Where a field may stand in a tree whose bound variables are exchanged.
use Rattle.std.proofs.Common.{◌≡◌, refl, sym, ◌∙◌, ℕ, ◌+◌, Bool, false}
use Rattle.jh_name.specs.declared.naming.Name.{Name}
use Rattle.jh_form.specs.Tree.{TermTree, IntTree, SetTree, FieldTree, ValueTree, FormulaTree, FieldTrees}
use Rattle.jh_form.specs.Tree as t
use Rattle.jh_boxed.specs.Mapped.{LeafMap, unchanged, mapped_term, mapped_int, mapped_set, mapped_field, mapped_value, mapped_formula, mapped_fields}
use Rattle.jh_fca.specs.elimination.Constraints.{is_name}
use Rattle.jh_fca.proofs.elimination.Readings.{Never, TermReads, IntReads, SetReads, FieldReads, ValueReads, FormulaReads, FieldsReads, term-weaker}

pub never : (s : TermTree) → ⊥ → ⊥
never s h = h

module _ (f : Name) (g : ℕ → ℕ → TermTree) (bounds : (k d : ℕ) → TermReads (g k d) f false Never) where
  abbrev l : LeafMap
  l = record unchanged { bound_at = g }

  name-mapped : (a : FieldTree) (d : ℕ) → is_name f (mapped_field a l d) ≡ is_name f a
  unfolding mapped_field is_name
  name-mapped (t.free_field x) d = refl
  name-mapped (t.update a b c) d = refl

  mutual
    unfolding mapped_term mapped_int mapped_set mapped_field mapped_value mapped_formula mapped_fields

    pub term-mapped : (a : TermTree) (lax : Bool) (Q P : TermTree → Type 0) (d : ℕ) → ((s : TermTree) → Q s → P (mapped_term s l d)) → TermReads a f lax Q → TermReads (mapped_term a l d) f lax P
    term-mapped (t.bound k) lax Q P d q h = term-weaker (g k d) f false lax P (bounds k d)
    term-mapped (t.free_object x) lax Q P d q h = tt
    term-mapped t.null lax Q P d q h = tt
    term-mapped (t.read_object a b) lax Q P d q h = (field-mapped a Never d h.0, (term-mapped b lax Q P d q h.1.0, λ e. q b (h.1.1 (sym (name-mapped a d) ∙ e))))

    pub int-mapped : (a : IntTree) (lax : Bool) (Q P : TermTree → Type 0) (d : ℕ) → ((s : TermTree) → Q s → P (mapped_term s l d)) → IntReads a f lax Q → IntReads (mapped_int a l d) f lax P
    int-mapped (t.const z) lax Q P d q h = tt
    int-mapped (t.free_number x) lax Q P d q h = tt
    int-mapped (t.read_number a b) lax Q P d q h = (field-mapped a Never d h.0, (term-mapped b lax Q P d q h.1.0, λ e. h.1.1 (sym (name-mapped a d) ∙ e)))
    int-mapped (t.add a b) lax Q P d q h = (int-mapped a lax Q P d q h.0, int-mapped b lax Q P d q h.1)
    int-mapped (t.sub a b) lax Q P d q h = (int-mapped a lax Q P d q h.0, int-mapped b lax Q P d q h.1)
    int-mapped (t.neg a) lax Q P d q h = int-mapped a lax Q P d q h
    int-mapped (t.scale z a) lax Q P d q h = int-mapped a lax Q P d q h
    int-mapped (t.card a) lax Q P d q h = set-mapped a lax Q P d q h

    pub set-mapped : (a : SetTree) (lax : Bool) (Q P : TermTree → Type 0) (d : ℕ) → ((s : TermTree) → Q s → P (mapped_term s l d)) → SetReads a f lax Q → SetReads (mapped_set a l d) f lax P
    set-mapped (t.free_set x) lax Q P d q h = tt
    set-mapped (t.read_set a b) lax Q P d q h = (field-mapped a Never d h.0, (term-mapped b lax Q P d q h.1.0, λ e. h.1.1 (sym (name-mapped a d) ∙ e)))
    set-mapped t.empty lax Q P d q h = tt
    set-mapped t.univ lax Q P d q h = tt
    set-mapped (t.single a) lax Q P d q h = term-mapped a lax Q P d q h
    set-mapped (t.union a b) lax Q P d q h = (set-mapped a lax Q P d q h.0, set-mapped b lax Q P d q h.1)
    set-mapped (t.inter a b) lax Q P d q h = (set-mapped a lax Q P d q h.0, set-mapped b lax Q P d q h.1)
    set-mapped (t.diff a b) lax Q P d q h = (set-mapped a lax Q P d q h.0, set-mapped b lax Q P d q h.1)
    set-mapped (t.compl a) lax Q P d q h = set-mapped a lax Q P d q h
    set-mapped (t.compr a) lax Q P d q h = formula-mapped a false Never Never (d + 1) never h

    pub field-mapped : (a : FieldTree) (Q : TermTree → Type 0) (d : ℕ) → FieldReads a f → FieldReads (mapped_field a l d) f
    field-mapped (t.free_field x) Q d h = tt
    field-mapped (t.update a b c) Q d h = (λ e. h.0 (sym (name-mapped a d) ∙ e), (field-mapped a Never d h.1.0, (term-mapped b false Never Never d never h.1.1.0, value-mapped c Never d h.1.1.1)))

    pub value-mapped : (a : ValueTree) (Q : TermTree → Type 0) (d : ℕ) → ValueReads a f → ValueReads (mapped_value a l d) f
    value-mapped (t.of_object a) Q d h = term-mapped a false Never Never d never h
    value-mapped (t.of_number a) Q d h = int-mapped a false Never Never d never h
    value-mapped (t.of_truth a) Q d h = formula-mapped a false Never Never d never h
    value-mapped (t.of_set a) Q d h = set-mapped a false Never Never d never h
    value-mapped (t.of_field a) Q d h = (λ e. h.0 (sym (name-mapped a d) ∙ e), field-mapped a Never d h.1)

    pub formula-mapped : (a : FormulaTree) (lax : Bool) (Q P : TermTree → Type 0) (d : ℕ) → ((s : TermTree) → Q s → P (mapped_term s l d)) → FormulaReads a f lax Q → FormulaReads (mapped_formula a l d) f lax P
    formula-mapped t.true_formula lax Q P d q h = tt
    formula-mapped t.false_formula lax Q P d q h = tt
    formula-mapped (t.free_truth x) lax Q P d q h = tt
    formula-mapped (t.read_truth a b) lax Q P d q h = (field-mapped a Never d h.0, (term-mapped b lax Q P d q h.1.0, λ e. h.1.1 (sym (name-mapped a d) ∙ e)))
    formula-mapped (t.negation a) lax Q P d q h = formula-mapped a lax Q P d q h
    formula-mapped (t.and a b) lax Q P d q h = (formula-mapped a lax Q P d q h.0, formula-mapped b lax Q P d q h.1)
    formula-mapped (t.or a b) lax Q P d q h = (formula-mapped a lax Q P d q h.0, formula-mapped b lax Q P d q h.1)
    formula-mapped (t.implies a b) lax Q P d q h = (formula-mapped a lax Q P d q h.0, formula-mapped b lax Q P d q h.1)
    formula-mapped (t.iff a b) lax Q P d q h = (formula-mapped a lax Q P d q h.0, formula-mapped b lax Q P d q h.1)
    formula-mapped (t.all a) lax Q P d q h = formula-mapped a lax Never Never (d + 1) never h
    formula-mapped (t.ex a) lax Q P d q h = formula-mapped a lax Never Never (d + 1) never h
    formula-mapped (t.eq_object a b) lax Q P d q h = (term-mapped a lax Q P d q h.0, term-mapped b lax Q P d q h.1)
    formula-mapped (t.eq_number a b) lax Q P d q h = (int-mapped a lax Q P d q h.0, int-mapped b lax Q P d q h.1)
    formula-mapped (t.eq_set a b) lax Q P d q h = (set-mapped a lax Q P d q h.0, set-mapped b lax Q P d q h.1)
    formula-mapped (t.less a b) lax Q P d q h = (int-mapped a lax Q P d q h.0, int-mapped b lax Q P d q h.1)
    formula-mapped (t.less_equal a b) lax Q P d q h = (int-mapped a lax Q P d q h.0, int-mapped b lax Q P d q h.1)
    formula-mapped (t.divides z a) lax Q P d q h = int-mapped a lax Q P d q h
    formula-mapped (t.member a b) lax Q P d q h = (term-mapped a lax Q P d q h.0, set-mapped b lax Q P d q h.1)
    formula-mapped (t.subset a b) lax Q P d q h = (set-mapped a lax Q P d q h.0, set-mapped b lax Q P d q h.1)
    formula-mapped (t.reach a b c) lax Q P d q h = (fields-mapped a Never d h.0, (term-mapped b lax Q P d q h.1.0, term-mapped c lax Q P d q h.1.1))
    formula-mapped (t.tree a) lax Q P d q h = fields-mapped a Never d h
    formula-mapped (t.mark m a) lax Q P d q h = formula-mapped a lax Q P d q h

    pub fields-mapped : (a : FieldTrees) (Q : TermTree → Type 0) (d : ℕ) → FieldsReads a f → FieldsReads (mapped_fields a l d) f
    fields-mapped t.none Q d h = tt
    fields-mapped (t.more a b) Q d h = (λ e. h.0 (sym (name-mapped a d) ∙ e), (field-mapped a Never d h.1.0, fields-mapped b Never d h.1.1))
