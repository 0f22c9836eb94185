-- An interpretation as a structure of numbers. Fields and sets are known by where they come from: a field by its name, a set by
-- its name, or by a field and an object. What no term of local shape has is null.
use Rattle.std.proofs.Common.{◌≡◌, refl, sym, ap, ◌∙◌, ℕ, zero, suc, arith, Bool, true, false, ◌&&◌, [], ◌∷◌, map, slice_index}
use Rattle.std.proofs.lemmas.Bool.{true≢false}
use Rattle.std.proofs.lemmas.Bool.Decides.{Decides-eqb, Decides-int_eq}
use Rattle.jh_form.specs.Tree.{TermTree, IntTree, SetTree, FieldTree, FieldTrees, FormulaTree}
use Rattle.jh_form.specs.Tree as t
use Rattle.jh_form.specs.Meaning.{Interp, Fields, reaches, is_forest, term_value, int_value, set_value, field_value, fields_value, truth}
use Rattle.jh_form.proofs.ClosedLemmas.{both-left, both-right}
use Rattle.jh_derivation_rules.specs.jh_seq.splitting.Local.{is_field_name, are_field_names, is_local_term, is_local_number, is_local_set}
use Rattle.jh_closure.specs.structures.Structures.{Structure, object_in, number_in, set_in, field_in, fields_in, truth_in}
use Rattle.jh_closure.specs.structures.Literals.{Says, Denies}
use Rattle.jh_cong.proofs.flattening.Coding.{pair, first, second, first-pair, second-pair, int_code, code-one}
use Rattle.jh_models.specs.interpretations.Instances.{is_local_atom}
use Rattle.jh_models.proofs.interpretations.Naming.{name_code, name_of, name-back}

abbrev bit : Bool → ℕ
bit true = 1
bit false = 0

module _ (m : Interp) where
  abbrev field_of : ℕ → Fields
  field_of c = m.field (name_of c)

  abbrev set_of_parts : ℕ → ℕ → ℕ → Bool
  set_of_parts zero c = m.set (name_of c)
  set_of_parts (suc k) c = (field_of (first c)).sets (second c)

  -- the set of a code: its first part says whether it is a name or a read
  abbrev set_of : ℕ → ℕ → Bool
  set_of c = set_of_parts (first c) (second c)

  abbrev pub interpreted : Structure ℕ ℕ ℕ ℕ ℕ
  interpreted = record {
    bound = λ k. slice_index [] k;
    free_object = m.object;
    null = 0;
    read_object = λ f a. (field_of f).objects a;
    const = int_code;
    free_number = λ x. int_code (m.number x);
    read_number = λ f a. int_code ((field_of f).numbers a);
    add = λ a b. 0;
    sub = λ a b. 0;
    neg = λ a. 0;
    scale = λ z a. 0;
    card = λ a. 0;
    free_set = λ x. pair 0 (name_code x);
    read_set = λ f a. pair 1 (pair f a);
    empty = 0;
    univ = 0;
    single = λ a. 0;
    union = λ a b. 0;
    inter = λ a b. 0;
    diff = λ a b. 0;
    compl = λ a. 0;
    compr = λ a. 0;
    free_field = name_code;
    update = λ f a v. 0;
    true_value = 1;
    false_value = 0;
    free_truth = λ x. bit (m.truth x);
    read_truth = λ f a. bit ((field_of f).truths a);
    negation = λ a. 0;
    and = λ a b. 0;
    or = λ a b. 0;
    implies = λ a b. 0;
    iff = λ a b. 0;
    all = λ a. 0;
    ex = λ a. 0;
    eq_object = λ a b. 0;
    eq_number = λ a b. 0;
    eq_set = λ a b. 0;
    less = λ a b. 0;
    less_equal = λ a b. 0;
    divides = λ z a. 0;
    member = λ a b. bit (set_of b a);
    subset = λ a b. 0;
    reach = λ fs a b. bit (reaches m.last (map field_of fs) a b);
    tree = λ fs. bit (is_forest m.last (map field_of fs));
    constants_differ = code-one;
    truths_differ = λ e. omega (arith, e);
  }

  field-back : (f : FieldTree) → is_field_name f ≡ true → field_of (field_in interpreted f) ≡ field_value f m []
  field-back (t.free_field x) h = ap m.field (name-back x)
  field-back (t.update f a v) h = absurd (true≢false (sym h))

  object-back : (a : TermTree) → is_local_term a ≡ true → object_in interpreted a ≡ term_value a m []
  object-back (t.bound k) h = refl
  object-back (t.free_object x) h = refl
  object-back t.null h = refl
  object-back (t.read_object f a) h = λ i. (field-back f (both-left (is_field_name f) (is_local_term a) h) i).objects (object-back a (both-right (is_field_name f) (is_local_term a) h) i)

  number-back : (a : IntTree) → is_local_number a ≡ true → number_in interpreted a ≡ int_code (int_value a m [])
  number-back (t.const z) h = refl
  number-back (t.free_number x) h = refl
  number-back (t.read_number f a) h = λ i. int_code ((field-back f (both-left (is_field_name f) (is_local_term a) h) i).numbers (object-back a (both-right (is_field_name f) (is_local_term a) h) i))
  number-back _ h = absurd (true≢false (sym h))

  set-back : (a : SetTree) → is_local_set a ≡ true → set_of (set_in interpreted a) ≡ set_value a m []
  set-back (t.free_set x) h = (λ i. set_of_parts (first-pair 0 (name_code x) i) (second-pair 0 (name_code x) i)) ∙ ap m.set (name-back x)
  set-back (t.read_set f a) h =
      let c : ℕ = field_in interpreted f in
      let d : ℕ = object_in interpreted a in
      (λ i. set_of_parts (first-pair 1 (pair c d) i) (second-pair 1 (pair c d) i))
      ∙ ((λ i. (field_of (first-pair c d i)).sets (second-pair c d i))
      ∙ (λ i. (field-back f (both-left (is_field_name f) (is_local_term a) h) i).sets (object-back a (both-right (is_field_name f) (is_local_term a) h) i)))
  set-back _ h = absurd (true≢false (sym h))

  fields-back : (fs : FieldTrees) → are_field_names fs ≡ true → map field_of (fields_in interpreted fs) ≡ fields_value fs m []
  fields-back t.none h = refl
  fields-back (t.more f fs) h = λ i. field-back f (both-left (is_field_name f) (are_field_names fs) h) i ∷ fields-back fs (both-right (is_field_name f) (are_field_names fs) h) i

  -- the value of an atom that is no equation
  read-back : (f : FieldTree) (a : TermTree) → is_field_name f ≡ true → is_local_term a ≡ true → truth_in interpreted (t.read_truth f a) ≡ bit (truth (t.read_truth f a) m [])
  read-back f a h k = λ i. bit ((field-back f h i).truths (object-back a k i))

  member-back : (a : TermTree) (b : SetTree) → is_local_term a ≡ true → is_local_set b ≡ true → truth_in interpreted (t.member a b) ≡ bit (truth (t.member a b) m [])
  member-back a b h k = λ i. bit (set-back b k i (object-back a h i))

  reach-back : (fs : FieldTrees) (a b : TermTree) → are_field_names fs ≡ true → is_local_term a ≡ true → is_local_term b ≡ true → truth_in interpreted (t.reach fs a b) ≡ bit (truth (t.reach fs a b) m [])
  reach-back fs a b h k l = λ i. bit (reaches m.last (fields-back fs h i) (object-back a k i) (object-back b l i))

  tree-back : (fs : FieldTrees) → are_field_names fs ≡ true → truth_in interpreted (t.tree fs) ≡ bit (truth (t.tree fs) m [])
  tree-back fs h = λ i. bit (is_forest m.last (fields-back fs h i))

  -- the parts of what is tested of a path
  fields-part : (fs : FieldTrees) (a b : TermTree) → is_local_atom (t.reach fs a b) ≡ true → are_field_names fs ≡ true
  fields-part fs a b h = both-left (are_field_names fs) (is_local_term a) (both-left (are_field_names fs && is_local_term a) (is_local_term b) h)

  from-part : (fs : FieldTrees) (a b : TermTree) → is_local_atom (t.reach fs a b) ≡ true → is_local_term a ≡ true
  from-part fs a b h = both-right (are_field_names fs) (is_local_term a) (both-left (are_field_names fs && is_local_term a) (is_local_term b) h)

  to-part : (fs : FieldTrees) (a b : TermTree) → is_local_atom (t.reach fs a b) ≡ true → is_local_term b ≡ true
  to-part fs a b h = both-right (are_field_names fs && is_local_term a) (is_local_term b) h

  -- An atom that is true is said by the structure.
  pub says : (a : FormulaTree) → is_local_atom a ≡ true → truth a m [] ≡ true → Says interpreted a
  says t.true_formula h e = refl
  says t.false_formula h e = absurd (true≢false (sym e))
  says (t.free_truth x) h e = ap bit e
  says (t.read_truth f a) h e = read-back f a (both-left (is_field_name f) (is_local_term a) h) (both-right (is_field_name f) (is_local_term a) h) ∙ ap bit e
  says (t.eq_object a b) h e =
      object-back a (both-left (is_local_term a) (is_local_term b) h)
      ∙ ((Decides-eqb (term_value a m []) (term_value b m [])).0 e ∙ sym (object-back b (both-right (is_local_term a) (is_local_term b) h)))
  says (t.eq_number a b) h e =
      number-back a (both-left (is_local_number a) (is_local_number b) h)
      ∙ (ap int_code ((Decides-int_eq (int_value a m []) (int_value b m [])).0 e) ∙ sym (number-back b (both-right (is_local_number a) (is_local_number b) h)))
  says (t.member a b) h e = member-back a b (both-left (is_local_term a) (is_local_set b) h) (both-right (is_local_term a) (is_local_set b) h) ∙ ap bit e
  says (t.reach fs a b) h e = reach-back fs a b (fields-part fs a b h) (from-part fs a b h) (to-part fs a b h) ∙ ap bit e
  says (t.tree fs) h e = tree-back fs h ∙ ap bit e
  says _ h e = absurd (true≢false (sym h))

  -- One that is false is denied.
  pub denies : (a : FormulaTree) → is_local_atom a ≡ true → truth a m [] ≡ false → Denies interpreted a
  denies t.true_formula h e = absurd (true≢false e)
  denies t.false_formula h e = refl
  denies (t.free_truth x) h e = ap bit e
  denies (t.read_truth f a) h e = read-back f a (both-left (is_field_name f) (is_local_term a) h) (both-right (is_field_name f) (is_local_term a) h) ∙ ap bit e
  denies (t.eq_object a b) h e = λ same.
      let one : term_value a m [] ≡ term_value b m [] =
      sym (object-back a (both-left (is_local_term a) (is_local_term b) h)) ∙ (same ∙ object-back b (both-right (is_local_term a) (is_local_term b) h)) in
      true≢false (sym ((Decides-eqb (term_value a m []) (term_value b m [])).1 one) ∙ e)
  denies (t.eq_number a b) h e = λ same.
      let one : int_code (int_value a m []) ≡ int_code (int_value b m []) =
      sym (number-back a (both-left (is_local_number a) (is_local_number b) h)) ∙ (same ∙ number-back b (both-right (is_local_number a) (is_local_number b) h)) in
      true≢false (sym ((Decides-int_eq (int_value a m []) (int_value b m [])).1 (code-one (int_value a m []) (int_value b m []) one)) ∙ e)
  denies (t.member a b) h e = member-back a b (both-left (is_local_term a) (is_local_set b) h) (both-right (is_local_term a) (is_local_set b) h) ∙ ap bit e
  denies (t.reach fs a b) h e = reach-back fs a b (fields-part fs a b h) (from-part fs a b h) (to-part fs a b h) ∙ ap bit e
  denies (t.tree fs) h e = tree-back fs h ∙ ap bit e
  denies _ h e = absurd (true≢false (sym h))
