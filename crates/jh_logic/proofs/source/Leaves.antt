-- The value of a formula is as its names are: it has no loose bound variables and its names pass a test, where those of its names and
-- fields do.
use Rattle.std.proofs.Common.{◌≡◌, refl, sym, ap, subst, ◌∙◌, ℕ, ℤ, suc, ◌+◌, nat_lt, true, ◌&&◌, if◌then◌else◌, List, [], ◌∷◌, ◌++◌, map, length, Option, Some, None, arith, length-append}
use Rattle.std.specs.Option.{option_map_or}
use Rattle.jh_name.specs.declared.place.Sort.TheVariants as sort
use Rattle.jh_ast.specs.declared.word.Word.{Word}
use Rattle.jh_ast.specs.declared.spec.SpecOp.{SpecOp}
use Rattle.jh_ast.specs.declared.spec.SpecOp.TheVariants as op
use Rattle.jh_ast.specs.Forms.{FormTree, FormTrees}
use Rattle.jh_ast.specs.Forms as f
use Rattle.jh_form.specs.Tree.{TermTree, IntTree, SetTree, FieldTree, ValueTree, FormulaTree, FieldTrees}
use Rattle.jh_form.specs.Tree as t
use Rattle.jh_form.specs.Closed.{is_closed_term, is_closed_int, is_closed_set, is_closed_field, is_closed_value, is_closed_formula, is_closed_fields}
use Rattle.jh_form.specs.Passing.{term_passes, int_passes, set_passes, field_passes, value_passes, formula_passes, fields_passes}
use Rattle.jh_rules.specs.Words.{text_of}
use Rattle.jh_rules.specs.Names.{Declared}
use Rattle.jh_rules.specs.Formulas.{equations}
use Rattle.jh_vars.specs.Resolved.{as_object, as_number, as_set, as_truth, Spot, under, at_entry, resolved, union_of, with_single, name_value, after_dots, field_name, field_list, path_fields, binary, scaled, multiple, literal, equal}
use Rattle.jh_logic.proofs.source.Lists.{both-true}
use Rattle.jh_logic.proofs.source.Passings.{Passing}
use Rattle.jh_logic.proofs.source.Closings.{Closing}
use Rattle.jh_logic.proofs.source.Fine.{Test, Fine, one-fine, two-fine, object-fine, number-fine, truth-fine, set-fine, equation-fine, negation-fine, at-most-fine, difference-fine, opposite-fine, quantified-fine, all-fine, ex-fine, mapped-fine}

-- the binders round a place
abbrev pub depth : Spot → ℕ
depth at = length at.bound + (if at.this_bound then 1 else 0)

-- state at the entry stays closed
pub entry-closing : (d : ℕ) → Closing at_entry d d
unfolding is_closed_term is_closed_int is_closed_set is_closed_field is_closed_formula
entry-closing d = record {
  object = λ x k n e. refl;
  number = λ x k n e. refl;
  truth = λ x k n e. refl;
  set = λ x k n e. refl;
  field = λ x k n e. refl;
  bound = λ i k m n u v h. ap (nat_lt i) (v ∙ sym u) ∙ h;
}

module _ (l : Declared) (spelled : ℕ → List ℕ) (meaning : ℕ → List ℕ → ValueTree) where
  -- what stands behind dots, and lists of fields
  abbrev pub MemberFine : Test → Spot → Word → Type 0
  MemberFine q at w = (a : TermTree) → Fine q (depth at) (t.of_object a) → Fine q (depth at) (after_dots l spelled meaning at a w)

  abbrev pub FieldsFine : Test → Spot → List Word → Type 0
  FieldsFine q at [] = Unit {0}
  FieldsFine q at (w ∷ ws) = (q (field_name l spelled at w) sort.Field ≡ true) × FieldsFine q at ws

  abbrev pub PathFine : Test → Spot → Option (List Word) → Type 0
  PathFine q at None = Unit {0}
  PathFine q at (Some ws) = FieldsFine q at ws

  abbrev mutual
    -- the names and fields of a formula are fine
    pub Leaves : Test → FormTree → Spot → Type 0
    Leaves q (f.name p w) at = Fine q (depth at) (name_value l spelled meaning at w)
    Leaves q (f.member p a w) at = Leaves q a at × MemberFine q at w
    Leaves q (f.negation p a) at = Leaves q a at
    Leaves q (f.minus p a) at = Leaves q a at
    Leaves q (f.old p a) at = (r : Test) × Passing at_entry r q × Leaves r a at
    Leaves q (f.card p a) at = Leaves q a at
    Leaves q (f.binary p o a b) at = Leaves q a at × Leaves q b at
    Leaves q (f.dvd p z a) at = Leaves q a at
    Leaves q (f.all p ws a) at = Leaves q a (under at ws)
    Leaves q (f.ex p ws a) at = Leaves q a (under at ws)
    Leaves q (f.tree p ws) at = FieldsFine q at ws
    Leaves q (f.rtrancl p x y body a b) at = PathFine q at (equations (text_of x) (text_of y) body) × Leaves q a at × Leaves q b at
    Leaves q (f.braces p fs) at = AllLeaves q fs at
    Leaves q (f.compr p w a) at = Leaves q a (under at (w ∷ []))
    Leaves q _ at = Unit {0}

    pub AllLeaves : Test → FormTrees → Spot → Type 0
    AllLeaves q f.none at = Unit {0}
    AllLeaves q (f.more a fs) at = Leaves q a at × AllLeaves q fs at

  fields-fine : (q : Test) (d : ℕ) (at : Spot) (ws : List Word) → FieldsFine q at ws → (is_closed_fields (field_list l spelled at ws) d ≡ true) × (fields_passes (field_list l spelled at ws) q ≡ true)
  unfolding is_closed_fields is_closed_field fields_passes field_passes field_list
  fields-fine q d at [] h = (refl, refl)
  fields-fine q d at (w ∷ ws) h = let r = fields-fine q d at ws h.1 in (r.0, both-true (q (field_name l spelled at w) sort.Field) (fields_passes (field_list l spelled at ws) q) h.0 r.1)

  path-fine : (q : Test) (d : ℕ) (at : Spot) (o : Option (List Word)) → PathFine q at o → (is_closed_fields (option_map_or (field_list l spelled at) o t.none) d ≡ true) × (fields_passes (option_map_or (field_list l spelled at) o t.none) q ≡ true)
  unfolding is_closed_fields fields_passes
  path-fine q d at None h = (refl, refl)
  path-fine q d at (Some ws) h = fields-fine q d at ws h

  multiple-fine : (q : Test) (d : ℕ) (o : Option ℤ) (a : ValueTree) → Fine q d a → Fine q d (multiple o a)
  unfolding is_closed_value is_closed_int value_passes int_passes
  multiple-fine q d (Some z) a h = one-fine q d (t.of_number (t.scale z (as_number a))) (t.of_number (as_number a)) (number-fine q d a h) refl refl
  multiple-fine q d None a h = number-fine q d a h

  scaled-fine : (q : Test) (d : ℕ) (x y : Option ℤ) (a b : ValueTree) → Fine q d a → Fine q d b → Fine q d (scaled x y a b)
  scaled-fine q d (Some z) y a b g h = multiple-fine q d (Some z) b h
  scaled-fine q d None y a b g h = multiple-fine q d y a g

  binary-fine : (q : Test) (d : ℕ) (o : SpecOp) (y z : Option ℤ) (a b : ValueTree) → Fine q d a → Fine q d b → Fine q d (binary o y a z b)
  unfolding is_closed_value is_closed_formula is_closed_set is_closed_int value_passes formula_passes set_passes int_passes
  binary-fine q d op.Implies y z a b g h = two-fine q d (t.of_truth (t.implies (as_truth a) (as_truth b))) (t.of_truth (as_truth a)) (t.of_truth (as_truth b)) (truth-fine q d a g) (truth-fine q d b h) refl refl
  binary-fine q d op.Or y z a b g h = two-fine q d (t.of_truth (t.or (as_truth a) (as_truth b))) (t.of_truth (as_truth a)) (t.of_truth (as_truth b)) (truth-fine q d a g) (truth-fine q d b h) refl refl
  binary-fine q d op.And y z a b g h = two-fine q d (t.of_truth (t.and (as_truth a) (as_truth b))) (t.of_truth (as_truth a)) (t.of_truth (as_truth b)) (truth-fine q d a g) (truth-fine q d b h) refl refl
  binary-fine q d op.Equal y z a b g h = equation-fine q d a b g h
  binary-fine q d op.NotEqual y z a b g h = negation-fine q d (equal a b) (equation-fine q d a b g h)
  binary-fine q d op.Elem y z a b g h = two-fine q d (t.of_truth (t.member (as_object a) (as_set b))) (t.of_object (as_object a)) (t.of_set (as_set b)) (object-fine q d a g) (set-fine q d b h) refl refl
  binary-fine q d op.NotElem y z a b g h = negation-fine q d (t.member (as_object a) (as_set b)) (two-fine q d (t.of_truth (t.member (as_object a) (as_set b))) (t.of_object (as_object a)) (t.of_set (as_set b)) (object-fine q d a g) (set-fine q d b h) refl refl)
  binary-fine q d op.Less y z a b g h = two-fine q d (t.of_truth (t.less (as_number a) (as_number b))) (t.of_number (as_number a)) (t.of_number (as_number b)) (number-fine q d a g) (number-fine q d b h) refl refl
  binary-fine q d op.Greater y z a b g h = two-fine q d (t.of_truth (t.less (as_number b) (as_number a))) (t.of_number (as_number b)) (t.of_number (as_number a)) (number-fine q d b h) (number-fine q d a g) refl refl
  binary-fine q d op.LessEq y z a b g h = at-most-fine q d a b g h
  binary-fine q d op.GreaterEq y z a b g h = at-most-fine q d b a h g
  binary-fine q d op.Union y z a b g h = two-fine q d (t.of_set (t.union (as_set a) (as_set b))) (t.of_set (as_set a)) (t.of_set (as_set b)) (set-fine q d a g) (set-fine q d b h) refl refl
  binary-fine q d op.Inter y z a b g h = two-fine q d (t.of_set (t.inter (as_set a) (as_set b))) (t.of_set (as_set a)) (t.of_set (as_set b)) (set-fine q d a g) (set-fine q d b h) refl refl
  binary-fine q d op.Add y z a b g h = two-fine q d (t.of_number (t.add (as_number a) (as_number b))) (t.of_number (as_number a)) (t.of_number (as_number b)) (number-fine q d a g) (number-fine q d b h) refl refl
  binary-fine q d op.Sub y z a b g h = difference-fine q d a b g h
  binary-fine q d op.Mul y z a b g h = scaled-fine q d y z a b g h

  -- under the names of a binder
  under-depth : (at : Spot) (ws : List Word) → depth (under at ws) ≡ depth at + length ws
  under-depth at ws = let one = length-append at.bound (map text_of ws) in let two = map-length ws in sum (length (at.bound ++ map text_of ws)) (length at.bound) (length (map text_of ws)) (length ws) (if at.this_bound then 1 else 0) one two
    where
      map-length : (ws : List Word) → length (map text_of ws) ≡ length ws
      map-length [] = refl
      map-length (w ∷ ws) = ap suc (map-length ws)

      sum : (a b c d e : ℕ) → a ≡ b + c → c ≡ d → a + e ≡ b + e + d
      sum a b c d e x y = omega arith

  -- what a union was made of before
  MadeFine : Test → ℕ → Option SetTree → Type 0
  MadeFine q d None = Unit {0}
  MadeFine q d (Some s) = Fine q d (t.of_set s)

  single-fine : (q : Test) (d : ℕ) (made : Option SetTree) (a : TermTree) → MadeFine q d made → Fine q d (t.of_object a) → Fine q d (t.of_set (with_single made a))
  unfolding is_closed_value is_closed_set value_passes set_passes MadeFine
  single-fine q d None a m h = one-fine q d (t.of_set (t.single a)) (t.of_object a) h refl refl
  single-fine q d (Some s) a m h = two-fine q d (t.of_set (t.union s (t.single a))) (t.of_set s) (t.of_set (t.single a)) m (one-fine q d (t.of_set (t.single a)) (t.of_object a) h refl refl) refl refl

  made-fine : (q : Test) (d : ℕ) (made : Option SetTree) → MadeFine q d made → Fine q d (t.of_set (option_map_or (λ s. s) made t.empty))
  unfolding is_closed_value is_closed_set value_passes set_passes MadeFine
  made-fine q d None m = record { closed = refl; passes = refl }
  made-fine q d (Some s) m = m

  abbrev value : FormTree → Spot → ValueTree
  value a at = resolved l spelled meaning a at

  mutual
    unfolding resolved is_closed_value is_closed_term is_closed_int is_closed_set is_closed_formula value_passes term_passes int_passes set_passes formula_passes MadeFine

    pub fine-form : (a : FormTree) (at : Spot) (q : Test) → Leaves q a at → Fine q (depth at) (resolved l spelled meaning a at)
    fine-form (f.null p) at q h = record { closed = refl; passes = refl }
    fine-form (f.yes p) at q h = record { closed = refl; passes = refl }
    fine-form (f.no p) at q h = record { closed = refl; passes = refl }
    fine-form (f.univ p) at q h = record { closed = refl; passes = refl }
    fine-form (f.number p z) at q h = record { closed = refl; passes = refl }
    fine-form (f.name p w) at q h = h
    fine-form (f.member p a w) at q h = h.1 (as_object (value a at)) (object-fine q (depth at) (value a at) (fine-form a at q h.0))
    fine-form (f.negation p a) at q h = negation-fine q (depth at) (as_truth (value a at)) (truth-fine q (depth at) (value a at) (fine-form a at q h))
    fine-form (f.minus p a) at q h = opposite-fine q (depth at) (value a at) (fine-form a at q h)
    fine-form (f.old p a) at q h = mapped-fine at_entry h.0 q (depth at) (depth at) (value a at) h.1 (entry-closing (depth at)) (fine-form a at h.0 h.2)
    fine-form (f.card p a) at q h = one-fine q (depth at) (t.of_number (t.card (as_set (value a at)))) (t.of_set (as_set (value a at))) (set-fine q (depth at) (value a at) (fine-form a at q h)) refl refl
    fine-form (f.binary p o a b) at q h = binary-fine q (depth at) o (literal a) (literal b) (value a at) (value b at) (fine-form a at q h.0) (fine-form b at q h.1)
    fine-form (f.dvd p z a) at q h = one-fine q (depth at) (t.of_truth (t.divides z (as_number (value a at)))) (t.of_number (as_number (value a at))) (number-fine q (depth at) (value a at) (fine-form a at q h)) refl refl
    fine-form (f.all p ws a) at q h = quantified-fine q t.all (all-fine q) (length ws) (depth at) (as_truth (value a (under at ws))) (subst (λ d. Fine q d (t.of_truth (as_truth (value a (under at ws))))) (under-depth at ws) (truth-fine q (depth (under at ws)) (value a (under at ws)) (fine-form a (under at ws) q h)))
    fine-form (f.ex p ws a) at q h = quantified-fine q t.ex (ex-fine q) (length ws) (depth at) (as_truth (value a (under at ws))) (subst (λ d. Fine q d (t.of_truth (as_truth (value a (under at ws))))) (under-depth at ws) (truth-fine q (depth (under at ws)) (value a (under at ws)) (fine-form a (under at ws) q h)))
    fine-form (f.tree p ws) at q h = let r = fields-fine q (depth at) at ws h in record { closed = r.0; passes = r.1 }
    fine-form (f.rtrancl p x y body a b) at q h =
        let r = path-fine q (depth at) at (equations (text_of x) (text_of y) body) h.0 in
        let s : FieldTrees = path_fields l spelled at x y body in
        let u = object-fine q (depth at) (value a at) (fine-form a at q h.1) in
        let v = object-fine q (depth at) (value b at) (fine-form b at q h.2) in
        record {
          closed = both-true (is_closed_fields s (depth at) && is_closed_term (as_object (value a at)) (depth at)) (is_closed_term (as_object (value b at)) (depth at)) (both-true (is_closed_fields s (depth at)) (is_closed_term (as_object (value a at)) (depth at)) r.0 u.closed) v.closed;
          passes = both-true (fields_passes s q && term_passes (as_object (value a at)) q) (term_passes (as_object (value b at)) q) (both-true (fields_passes s q) (term_passes (as_object (value a at)) q) r.1 u.passes) v.passes;
        }
    fine-form (f.braces p fs) at q h = fine-forms fs at q None h tt
    fine-form (f.compr p w a) at q h =
        let u = truth-fine q (depth (under at (w ∷ []))) (value a (under at (w ∷ []))) (fine-form a (under at (w ∷ [])) q h) in
        let v = subst (λ d. Fine q d (t.of_truth (as_truth (value a (under at (w ∷ [])))))) (under-depth at (w ∷ [])) u in
        record { closed = v.closed; passes = v.passes }

    fine-forms : (fs : FormTrees) (at : Spot) (q : Test) (made : Option SetTree) → AllLeaves q fs at → MadeFine q (depth at) made → Fine q (depth at) (t.of_set (union_of l spelled meaning fs at made))
    fine-forms f.none at q made h m = made-fine q (depth at) made m
    fine-forms (f.more a fs) at q made h m = fine-forms fs at q (Some (with_single made (as_object (value a at)))) h.1 (single-fine q (depth at) made (as_object (value a at)) m (object-fine q (depth at) (value a at) (fine-form a at q h.0)))
