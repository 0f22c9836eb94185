-- The value of each formula of a source has no loose bound variables, and speaks of what is now and what was at entry alone.
use Rattle.std.proofs.Common.{◌≡◌, refl, subst, ℕ, zero, suc, ◌+◌, ◌==◌, nat_lt, Bool, true, false, if◌then◌else◌, List, [], ◌∷◌, ◌++◌, Option, Some, None, ⊎_elim, arith}
use Rattle.std.specs.List.{Contains, flat_map, list_any}
use Rattle.std.specs.Option.{option_map_or}
use Rattle.std.proofs.lemmas.List.Elements.{Contains-append_cases}
use Rattle.jh_name.specs.declared.naming.Name.{Name}
use Rattle.jh_name.specs.declared.place.Kind.{Kind}
use Rattle.jh_name.specs.declared.place.Kind.TheVariants as k
use Rattle.jh_ast.specs.declared.word.Word.{Word}
use Rattle.jh_ast.specs.Forms.{FormTree, FormTrees, SpecPart, LabelledPart}
use Rattle.jh_ast.specs.Forms as f
use Rattle.jh_ast.specs.Stmts.{StmtTree}
use Rattle.jh_ast.specs.Stmts as st
use Rattle.jh_ast.specs.Programs.{ProgramTree, ClassPart, VarPart, DefPart, MethodPart}
use Rattle.jh_form.specs.Tree.{ValueTree}
use Rattle.jh_form.specs.Tree as t
use Rattle.jh_form.specs.Closed.{is_closed_term, is_closed_set, is_closed_value, is_closed_formula}
use Rattle.jh_form.specs.Passing.{term_passes, int_passes, set_passes, field_passes, value_passes, formula_passes}
use Rattle.jh_rules.specs.Words.{text_of}
use Rattle.jh_rules.specs.Names.{Declared, declared_in, def_of, kind_of_word}
use Rattle.jh_rules.specs.Scopes.{Scope}
use Rattle.jh_rules.specs.Formulas.{equations}
use Rattle.jh_vars.specs.States.{State, class_text, state_named}
use Rattle.jh_vars.specs.Statements.{InScope, entry_scope, method_statements}
use Rattle.jh_vars.specs.Resolved.{Spot, own, at_entry, state_name, resolved, under, as_truth}
use Rattle.jh_vars.specs.Opened.{outside, inside, is_of_objects, meant, all_definitions, value_at, uses_this, of_every_object, invariant_value, valued, valued_some, stmt_values, values_of, in_method, in_class, in_classes, found_in, opened}
use Rattle.jh_semantics.specs.LoweredStmts.{spec_value}
use Rattle.jh_semantics.specs.Typed.{IsOfStates}
use Rattle.jh_logic.proofs.source.Lists.{has-none, has-first, has-later, has-cases, flat-from, some-same, no-none}
use Rattle.jh_logic.proofs.source.Passings.{Passing}
use Rattle.jh_logic.proofs.source.Fine.{Test, Fine, truth-fine}
use Rattle.jh_logic.proofs.source.Leaves.{depth, FieldsFine, PathFine, Leaves, AllLeaves, fine-form}
use Rattle.jh_logic.proofs.source.Words.{Passes, name-fine, dots-fine}

-- names of what is now and what was at entry
abbrev pub of_states : Test
of_states x s = nat_lt x.turn 2

entry-of-states : Passing at_entry of_states of_states
unfolding term_passes int_passes set_passes field_passes formula_passes
entry-of-states = record { object = λ x d h. by x (list_any (λ c. c == 46) x.text) h; number = λ x d h. by x (list_any (λ c. c == 46) x.text) h; truth = λ x d h. by x (list_any (λ c. c == 46) x.text) h; set = λ x d h. refl; field = λ x d h. refl; bound = λ k d. refl }
  where
    by : (x : Name) (b : Bool) → nat_lt x.turn 2 ≡ true → nat_lt (if b then own x.text 1 else x).turn 2 ≡ true
    by x true h = refl
    by x false h = h

module _ (p : ProgramTree) where
  abbrev l : Declared
  l = declared_in p

  all-pass : (at : Spot) (w : Word) → Passes p of_states at w
  all-pass at w = record {
    local = λ e x f. refl;
    this = λ o e g. refl;
    result = λ o e g. refl;
    alloc = refl;
    class = λ o e. refl;
    static = λ o x e g h. refl;
    member = λ o x e g h. refl;
    member_this = λ o x e g h. refl;
  }

  module _ (meaning : ℕ → List ℕ → ValueTree) (means : (c : ℕ) (x : List ℕ) → Fine of_states (if is_of_objects p c x then 1 else 0) (meaning c x)) where
    name-turn : (at : Spot) (o : Option State) → nat_lt (option_map_or (state_name (class_text p)) o (own [] 0)).turn 2 ≡ true
    name-turn at None = refl
    name-turn at (Some x) = refl

    fields-of-states : (at : Spot) (ws : List Word) → FieldsFine l (class_text p) meaning of_states at ws
    fields-of-states at [] = tt
    fields-of-states at (w ∷ ws) = (name-turn at (state_named l at.class (text_of w)), fields-of-states at ws)

    path-of-states : (at : Spot) (o : Option (List Word)) → PathFine l (class_text p) meaning of_states at o
    path-of-states at None = tt
    path-of-states at (Some ws) = fields-of-states at ws

    mutual
      leaves-of-states : (a : FormTree) (at : Spot) → Leaves l (class_text p) meaning of_states a at
      leaves-of-states (f.null q) at = tt
      leaves-of-states (f.yes q) at = tt
      leaves-of-states (f.no q) at = tt
      leaves-of-states (f.univ q) at = tt
      leaves-of-states (f.number q z) at = tt
      leaves-of-states (f.name q w) at = name-fine p of_states meaning means at w (all-pass at w)
      leaves-of-states (f.member q a w) at = (leaves-of-states a at, dots-fine p of_states meaning means at w (λ x e h. refl))
      leaves-of-states (f.negation q a) at = leaves-of-states a at
      leaves-of-states (f.minus q a) at = leaves-of-states a at
      leaves-of-states (f.old q a) at = (of_states, entry-of-states, leaves-of-states a at)
      leaves-of-states (f.card q a) at = leaves-of-states a at
      leaves-of-states (f.binary q o a b) at = (leaves-of-states a at, leaves-of-states b at)
      leaves-of-states (f.dvd q z a) at = leaves-of-states a at
      leaves-of-states (f.all q ws a) at = leaves-of-states a (under at ws)
      leaves-of-states (f.ex q ws a) at = leaves-of-states a (under at ws)
      leaves-of-states (f.tree q ws) at = fields-of-states at ws
      leaves-of-states (f.rtrancl q x y body a b) at = (path-of-states at (equations (text_of x) (text_of y) body), leaves-of-states a at, leaves-of-states b at)
      leaves-of-states (f.braces q fs) at = all-of-states fs at
      leaves-of-states (f.compr q w a) at = leaves-of-states a (under at (w ∷ []))

      all-of-states : (fs : FormTrees) (at : Spot) → AllLeaves l (class_text p) meaning of_states fs at
      all-of-states f.none at = tt
      all-of-states (f.more a fs) at = (leaves-of-states a at, all-of-states fs at)

    resolved-of-states : (a : FormTree) (at : Spot) → Fine of_states (depth at) (resolved l (class_text p) meaning a at)
    resolved-of-states a at = fine-form l (class_text p) meaning a at of_states (leaves-of-states a at)

  none-more : (n : ℕ) → 0 + n ≡ n
  none-more n = omega arith

  defined : (n c : ℕ) (x : List ℕ) (o : Option DefPart) → ((c : ℕ) (x : List ℕ) → Fine of_states (if is_of_objects p c x then 1 else 0) (meant p n c x)) →
      Fine of_states (if is_of_objects p c x then 1 else 0) (option_map_or (λ (d : DefPart). resolved l (class_text p) (meant p n) d.spec.form (outside c (is_of_objects p c x))) o (t.of_object t.null))
  unfolding is_closed_value is_closed_term value_passes term_passes
  defined n c x None means = record { closed = refl; passes = refl }
  defined n c x (Some d) means = subst (λ k. Fine of_states k (resolved l (class_text p) (meant p n) d.spec.form (outside c (is_of_objects p c x)))) (none-more (if is_of_objects p c x then 1 else 0)) (resolved-of-states (meant p n) means d.spec.form (outside c (is_of_objects p c x)))

  -- so are what definitions mean
  meant-of-states : (n c : ℕ) (x : List ℕ) → Fine of_states (if is_of_objects p c x then 1 else 0) (meant p n c x)
  unfolding meant is_closed_value is_closed_term value_passes term_passes
  meant-of-states zero c x = record { closed = refl; passes = refl }
  meant-of-states (suc n) c x = defined n c x (def_of p c x) (λ c x. meant-of-states n c x)

  pub value-of-states : (at : Spot) (a : FormTree) → Fine of_states (depth at) (value_at p at a)
  value-of-states at a = resolved-of-states (meant p (all_definitions p)) (meant-of-states (all_definitions p)) a at

  -- the values of all formulas
  abbrev FineItem : ℕ × ValueTree → Type 0
  FineItem x = Fine of_states 0 x.1

  abbrev AllFine : List (ℕ × ValueTree) → Type 0
  AllFine xs = (x : ℕ × ValueTree) → Contains xs x → FineItem x

  none-all : AllFine []
  none-all x i = absurd (has-none x i)

  one-all : (n : ℕ) (v : ValueTree) → Fine of_states 0 v → AllFine ((n, v) ∷ [])
  one-all n v h x i = ⊎_elim (λ e. subst FineItem e h) (λ j. absurd (has-none x j)) (has-cases (n, v) [] x i)

  join-all : (xs ys : List (ℕ × ValueTree)) → AllFine xs → AllFine ys → AllFine (xs ++ ys)
  join-all xs ys f g x i = ⊎_elim (λ j. f x j) (λ j. g x j) (Contains-append_cases xs ys x i)

  flat-all : {X : Type 0} (f : X → List (ℕ × ValueTree)) (xs : List X) → ((x : X) → AllFine (f x)) → AllFine (flat_map f xs)
  flat-all f xs h y i = let r = flat-from f xs y i in h r.0 y r.2

  every-of-states : (n : ℕ) (c : ClassPart) (a : FormTree) (b : Bool) → Fine of_states 0 (if b then of_every_object p c (as_truth (value_at p (outside n true) a)) else value_at p (outside n false) a)
  unfolding is_closed_value is_closed_formula is_closed_term is_closed_set value_passes formula_passes term_passes set_passes
  every-of-states n c a true = let h = truth-fine of_states 1 (value_at p (outside n true) a) (value-of-states (outside n true) a) in record { closed = h.closed; passes = h.passes }
  every-of-states n c a false = value-of-states (outside n false) a

  inside-all : (at : Scope) (spec : SpecPart) → AllFine (valued p (inside k.Obj at) spec)
  inside-all at spec = one-all spec.number (value_at p (inside k.Obj at) spec.form) (value-of-states (inside k.Obj at) spec.form)

  stmt-all : (x : InScope) → AllFine (values_of p x)
  stmt-all x = by x.at x.stmt
    where
      by : (at : Scope) (a : StmtTree) → AllFine (stmt_values p at a)
      by at (st.loop q claims x a) = flat-all (λ (y : LabelledPart). valued p (inside k.Obj at) y.spec) claims (λ y. inside-all at y.spec)
      by at (st.assert q a) = inside-all at a.spec
      by at (st.note q a) = inside-all at a.spec
      by at (st.ghost q a b) = join-all (valued p (inside k.Obj at) a) (valued p (inside k.Obj at) b) (inside-all at a) (inside-all at b)
      by at (st.empty q) = none-all
      by at (st.block q ss) = none-all
      by at (st.local q d r) = none-all
      by at (st.assign q a r) = none-all
      by at (st.call q x) = none-all
      by at (st.branch q x a b) = none-all
      by at (st.return q r) = none-all

  contract-all : (kind : Kind) (at : Scope) (o : Option SpecPart) → AllFine (valued_some p (inside kind at) o)
  contract-all kind at None = none-all
  contract-all kind at (Some spec) = one-all spec.number (value_at p (inside kind at) spec.form) (value-of-states (inside kind at) spec.form)

  method-all : (n : ℕ) (m : MethodPart) → AllFine (in_method p n m)
  unfolding in_method
  method-all n m =
      let pre = valued_some p (inside (kind_of_word m.result) (entry_scope p n m)) m.pre in
      let post = valued_some p (inside (kind_of_word m.result) (entry_scope p n m)) m.post in
      join-all (pre ++ post) (flat_map (values_of p) (method_statements p n m)) (join-all pre post (contract-all (kind_of_word m.result) (entry_scope p n m) m.pre) (contract-all (kind_of_word m.result) (entry_scope p n m) m.post)) (flat-all (values_of p) (method_statements p n m) stmt-all)

  init-all : (n : ℕ) (o : Option SpecPart) → AllFine (valued_some p (outside n false) o)
  init-all n None = none-all
  init-all n (Some spec) = one-all spec.number (value_at p (outside n false) spec.form) (value-of-states (outside n false) spec.form)

  class-all : (n : ℕ) (c : ClassPart) → AllFine (in_class p n c)
  unfolding in_class
  class-all n c =
      let f1 = flat_map (λ (v : VarPart). valued_some p (outside n false) v.init) c.vars in
      let f2 = flat_map (λ (d : DefPart). valued p (outside n false) d.spec) c.defs in
      let f3 = flat_map (λ (x : LabelledPart). (x.spec.number, invariant_value p n c x.spec.form) ∷ []) c.invariants in
      let f4 = flat_map (in_method p n) c.methods in
      join-all (f1 ++ f2 ++ f3) f4 (join-all (f1 ++ f2) f3 (join-all f1 f2
      (flat-all (λ (v : VarPart). valued_some p (outside n false) v.init) c.vars (λ v. init-all n v.init))
      (flat-all (λ (d : DefPart). valued p (outside n false) d.spec) c.defs (λ d. one-all d.spec.number (value_at p (outside n false) d.spec.form) (value-of-states (outside n false) d.spec.form))))
      (flat-all (λ (x : LabelledPart). (x.spec.number, invariant_value p n c x.spec.form) ∷ []) c.invariants (λ x. one-all x.spec.number (invariant_value p n c x.spec.form) (every-of-states n c x.spec.form (uses_this p x.spec.form n [])))))
      (flat-all (in_method p n) c.methods (method-all n))

  classes-all : (n : ℕ) (cs : List ClassPart) → AllFine (in_classes p n cs)
  unfolding in_classes
  classes-all n [] = none-all
  classes-all n (c ∷ cs) = join-all (in_class p n c) (in_classes p (n + 1) cs) (class-all n c) (classes-all (n + 1) cs)

  found-all : (n : ℕ) (xs : List (ℕ × ValueTree)) → AllFine xs → (v : ValueTree) → found_in p n xs ≡ Some v → Fine of_states 0 v
  unfolding found_in
  found-all n [] h v e = absurd (no-none v e)
  found-all n (x ∷ xs) h v e = by (x.0 == n) (λ f. found-all n xs (λ y i. h y (has-later x xs y i)) v f) e
    where
      by : (b : Bool) → (found_in p n xs ≡ Some v → Fine of_states 0 v) → (if b then Some x.1 else found_in p n xs) ≡ Some v → Fine of_states 0 v
      by true rest g = subst (Fine of_states 0) (some-same x.1 v g) (h x (has-first x xs))
      by false rest g = rest g

  -- The value of each formula is of states.
  pub value-fine : (spec : SpecPart) → Fine of_states 0 (spec_value p spec)
  unfolding is_closed_value is_closed_formula value_passes formula_passes
  value-fine spec = by (opened p spec.number) refl
    where
      by : (o : Option ValueTree) → opened p spec.number ≡ o → Fine of_states 0 (option_map_or (λ v. v) o (t.of_truth t.true_formula))
      by None e = record { closed = refl; passes = refl }
      by (Some v) e = found-all spec.number (in_classes p 0 p.classes) (classes-all 0 p.classes) v e

  pub is-of-states : (v : ValueTree) → Fine of_states 0 v → IsOfStates v
  is-of-states v h = record { closed = h.closed; turns = h.passes }

  pub claims-of-states : (spec : SpecPart) → IsOfStates (t.of_truth (as_truth (spec_value p spec)))
  claims-of-states spec = is-of-states (t.of_truth (as_truth (spec_value p spec))) (truth-fine of_states 0 (spec_value p spec) (value-fine spec))
