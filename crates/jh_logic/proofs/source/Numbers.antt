-- No two formulas of a source have one number, so the value by the number of a formula is that of the formula.
use Rattle.std.proofs.Common.{◌≡◌, refl, sym, ap, subst, ◌∙◌, ℕ, zero, suc, ◌+◌, ◌≤◌, ◌==◌, Bool, true, false, not, ◌||◌, if◌then◌else◌, List, [], ◌∷◌, ◌++◌, map, Option, Some, None, slice_get, arith, ◌⊎◌, inl, inr, ⊎_elim}
use Rattle.std.specs.List.{Contains, flat_map, list_any}
use Rattle.std.specs.Option.{option_map_or}
use Rattle.std.proofs.lemmas.Bool.{true≢false}
use Rattle.std.proofs.lemmas.Bool.Decides.{nat_tests}
use Rattle.std.proofs.lemmas.List.Elements.{Contains-append_left, Contains-append_right}
use Rattle.jh_ast.specs.declared.word.Word.{Word}
use Rattle.jh_ast.specs.Exprs.{ExprTree}
use Rattle.jh_ast.specs.Exprs as e
use Rattle.jh_ast.specs.Forms.{FormTree, FormTrees, SpecPart, LabelledPart}
use Rattle.jh_ast.specs.Forms as f
use Rattle.jh_ast.specs.Stmts.{StmtTree, StmtTrees, RhsTree, CallTree}
use Rattle.jh_ast.specs.Stmts as st
use Rattle.jh_ast.specs.Programs.{ProgramTree, ClassPart, VarPart, DefPart, MethodPart}
use Rattle.jh_name.specs.declared.place.Kind.TheVariants as k
use Rattle.jh_form.specs.Tree.{ValueTree}
use Rattle.jh_form.specs.Tree as t
use Rattle.jh_rules.specs.Names.{Declared, declared_in, kind_of_word}
use Rattle.jh_rules.specs.Scopes.{Scope, behind, text_behind, in_loop}
use Rattle.jh_rules.specs.Shape.{Parts, ◌and◌, of_words, type_words, of_declared, of_param, of_target, some_parts, all_parts, expr_parts, form_parts, forms_parts, spec_parts, labelled_parts, call_parts, rhs_parts, stmt_parts, stmts_parts, field_parts, var_parts, def_parts, method_parts, class_parts, program_parts, are_different}
use Rattle.jh_vars.specs.Statements.{InScope, standing, inner_statements, all_statements, entry_scope, method_statements}
use Rattle.jh_vars.specs.Resolved.{Spot}
use Rattle.jh_vars.specs.Opened.{outside, inside, value_at, invariant_value, valued, valued_some, ghost_values, values_of, in_method, in_class, in_classes, found_in}
use Rattle.jh_semantics.specs.LoweredStmts.{spec_value}
use Rattle.jh_logic.proofs.source.Lists.{has-none, has-first, has-cases, flat-has, and-left, and-right, not-true, some-same, no-none}

-- how often a number stands in a list
count : ℕ → List ℕ → ℕ
count n [] = 0
count n (m ∷ ms) = (if m == n then 1 else 0) + count n ms

count-append : (n : ℕ) (xs ys : List ℕ) → count n (xs ++ ys) ≡ count n xs + count n ys
unfolding count
count-append n [] ys = none-more (count n ys)
  where
    none-more : (m : ℕ) → m ≡ 0 + m
    none-more m = omega arith
count-append n (x ∷ xs) ys = ap (λ m. (if x == n then 1 else 0) + m) (count-append n xs ys) ∙ regroup (if x == n then 1 else 0) (count n xs) (count n ys)
  where
    regroup : (a b c : ℕ) → a + (b + c) ≡ a + b + c
    regroup a b c = omega arith

-- numbers that differ stand there once at most
absent-none : (n : ℕ) (ms : List ℕ) → list_any (λ m. m == n) ms ≡ false → count n ms ≡ 0
unfolding count
absent-none n [] h = refl
absent-none n (m ∷ ms) h = by (m == n) (list_any (λ m. m == n) ms) h (λ g. absent-none n ms g)
  where
    by : (a b : Bool) → (a || b) ≡ false → (b ≡ false → count n ms ≡ 0) → (if a then 1 else 0) + count n ms ≡ 0
    by true b g rest = absurd (true≢false g)
    by false b g rest = ap (λ m. 0 + m) (rest g)

different-once : (n : ℕ) (ms : List ℕ) → are_different ms ≡ true → count n ms ≤ 1
unfolding count are_different
different-once n [] h = omega arith
different-once n (m ∷ ms) h = by (m == n) refl (not-true (list_any (λ k. k == m) ms) (and-left (not (list_any (λ k. k == m) ms)) (are_different ms) h)) (different-once n ms (and-right (not (list_any (λ k. k == m) ms)) (are_different ms) h))
  where
    same : (m n : ℕ) → (m == n) ≡ true → m ≡ n
    same m n g = grind (arith, nat_tests)

    one : (c : ℕ) → c ≡ 0 → 1 + c ≤ 1
    one c g = omega arith

    by : (b : Bool) → (m == n) ≡ b → list_any (λ k. k == m) ms ≡ false → count n ms ≤ 1 → (if b then 1 else 0) + count n ms ≤ 1
    by true g absent rest = one (count n ms) (absent-none n ms (subst (λ j. list_any (λ k. k == j) ms ≡ false) (same m n g) absent))
    by false g absent rest = subst (λ c. c ≤ 1) (none-more (count n ms)) rest
      where
        none-more : (m : ℕ) → m ≡ 0 + m
        none-more m = omega arith

-- what is found by a number that stands there once
module _ (p : ProgramTree) where
  keys : List (ℕ × ValueTree) → List ℕ
  keys xs = map (λ (x : ℕ × ValueTree). x.0) xs

  stands-counted : (n : ℕ) (v : ValueTree) (xs : List (ℕ × ValueTree)) → Contains xs (n, v) → 1 ≤ count n (keys xs)
  unfolding keys count
  stands-counted n v [] i = absurd (has-none (n, v) i)
  stands-counted n v (x ∷ xs) i = ⊎_elim (λ h. first (x.0 == n) (count n (keys xs)) (is-one x.0 n (ap (λ (y : ℕ × ValueTree). y.0) h))) (λ j. later (if x.0 == n then 1 else 0) (count n (keys xs)) (stands-counted n v xs j)) (has-cases x xs (n, v) i)
    where
      is-one : (a b : ℕ) → a ≡ b → (a == b) ≡ true
      is-one a b h = grind (arith, nat_tests)

      more : (c : ℕ) → 1 ≤ 1 + c
      more c = omega arith

      first : (b : Bool) (c : ℕ) → b ≡ true → 1 ≤ (if b then 1 else 0) + c
      first true c h = more c
      first false c h = absurd (true≢false (sym h))

      later : (a c : ℕ) → 1 ≤ c → 1 ≤ a + c
      later a c h = omega (h, arith)

  found-once : (n : ℕ) (v : ValueTree) (xs : List (ℕ × ValueTree)) → count n (keys xs) ≤ 1 → Contains xs (n, v) → found_in p n xs ≡ Some v
  unfolding found_in keys count
  found-once n v [] h i = absurd (has-none (n, v) i)
  found-once n v (x ∷ xs) h i = by (x.0 == n) refl (has-cases x xs (n, v) i) (λ g j. found-once n v xs g j)
    where
      less : (a c : ℕ) → a + c ≤ 1 → c ≤ 1
      less a c g = omega (g, arith)

      not-both : (b : Bool) (c : ℕ) → b ≡ true → (if b then 1 else 0) + c ≤ 1 → 1 ≤ c → ⊥
      not-both true c g u w = two c u w
        where
          two : (c : ℕ) → 1 + c ≤ 1 → 1 ≤ c → ⊥
          two c u w = omega (u, w, arith)
      not-both false c g u w = true≢false (sym g)

      is-one : (a b : ℕ) → a ≡ b → (a == b) ≡ true
      is-one a b h = grind (arith, nat_tests)

      by : (b : Bool) → (x.0 == n) ≡ b → (x ≡ (n, v)) ⊎ Contains xs (n, v) → (count n (keys xs) ≤ 1 → Contains xs (n, v) → found_in p n xs ≡ Some v) → (if b then Some x.1 else found_in p n xs) ≡ Some v
      by true g (inl e) rest = ap (λ (y : ℕ × ValueTree). Some y.1) e
      by true g (inr j) rest = absurd (not-both (x.0 == n) (count n (keys xs)) g h (stands-counted n v xs j))
      by false g (inl e) rest = absurd (true≢false (sym (is-one x.0 n (ap (λ (y : ℕ × ValueTree). y.0) e)) ∙ g))
      by false g (inr j) rest = rest (less (if x.0 == n then 1 else 0) (count n (keys xs)) h) j

-- how often a number stands among the numbers of some parts
of-parts : ℕ → Parts → ℕ
of-parts n x = count n x.numbers

module _ (n : ℕ) where
  parts-and : (x y : Parts) → of-parts n (x and y) ≡ of-parts n x + of-parts n y
  unfolding of-parts
  parts-and x y = count-append n x.numbers y.numbers

  none-and : (x y : Parts) → of-parts n x ≡ 0 → of-parts n y ≡ 0 → of-parts n (x and y) ≡ 0
  none-and x y a b = parts-and x y ∙ zeros (of-parts n x) (of-parts n y) a b
    where
      zeros : (a b : ℕ) → a ≡ 0 → b ≡ 0 → a + b ≡ 0
      zeros a b g h = omega arith

  expr-none : (a : ExprTree) → of-parts n (expr_parts a) ≡ 0
  unfolding expr_parts of-parts count
  expr-none (e.null q) = refl
  expr-none (e.yes q) = refl
  expr-none (e.no q) = refl
  expr-none (e.number q z) = refl
  expr-none (e.this q) = refl
  expr-none (e.name q w) = refl
  expr-none (e.member q a w) = none-and (expr_parts a) (of_words (w ∷ [])) (expr-none a) refl
  expr-none (e.negation q a) = expr-none a
  expr-none (e.minus q a) = expr-none a
  expr-none (e.binary q o a b) = none-and (expr_parts a) (expr_parts b) (expr-none a) (expr-none b)

  mutual
    unfolding form_parts of-parts count

    form-none : (a : FormTree) → of-parts n (form_parts a) ≡ 0
    form-none (f.null q) = refl
    form-none (f.yes q) = refl
    form-none (f.no q) = refl
    form-none (f.univ q) = refl
    form-none (f.number q z) = refl
    form-none (f.name q w) = refl
    form-none (f.member q a w) = none-and (form_parts a) (of_words (w ∷ [])) (form-none a) refl
    form-none (f.negation q a) = form-none a
    form-none (f.minus q a) = form-none a
    form-none (f.old q a) = form-none a
    form-none (f.card q a) = form-none a
    form-none (f.binary q o a b) = none-and (form_parts a) (form_parts b) (form-none a) (form-none b)
    form-none (f.dvd q z a) = form-none a
    form-none (f.all q ws a) = form-none a
    form-none (f.ex q ws a) = form-none a
    form-none (f.tree q ws) = refl
    form-none (f.rtrancl q x y body a b) = none-and (form_parts body) (form_parts a and form_parts b) (form-none body) (none-and (form_parts a) (form_parts b) (form-none a) (form-none b))
    form-none (f.braces q fs) = forms-none fs
    form-none (f.compr q w a) = form-none a

    forms-none : (fs : FormTrees) → of-parts n (forms_parts fs) ≡ 0
    forms-none f.none = refl
    forms-none (f.more a fs) = none-and (form_parts a) (forms_parts fs) (form-none a) (forms-none fs)

  zero-left : (a b : ℕ) → a ≡ 0 → a + b ≡ b
  zero-left a b h = omega arith

  zero-right : (a b : ℕ) → b ≡ 0 → a + b ≡ a
  zero-right a b h = omega arith

  none-first : (x y : Parts) → of-parts n x ≡ 0 → of-parts n (x and y) ≡ of-parts n y
  none-first x y h = parts-and x y ∙ zero-left (of-parts n x) (of-parts n y) h

  all-none : {A : Type 0} (g : A → Parts) → ((x : A) → of-parts n (g x) ≡ 0) → (xs : List A) → of-parts n (all_parts g xs) ≡ 0
  unfolding all_parts of-parts count
  all-none g h [] = refl
  all-none g h (x ∷ xs) = none-and (g x) (all_parts g xs) (h x) (all-none g h xs)

  some-none : {A : Type 0} (g : A → Parts) → ((x : A) → of-parts n (g x) ≡ 0) → (o : Option A) → of-parts n (some_parts g o) ≡ 0
  unfolding of-parts count
  some-none g h None = refl
  some-none g h (Some x) = h x

  call-none : (x : CallTree) → of-parts n (call_parts x) ≡ 0
  unfolding of-parts count
  call-none x = none-and (some_parts expr_parts x.receiver) (of_words (x.method ∷ []) and all_parts expr_parts x.args) (some-none expr_parts expr-none x.receiver) (all-none expr_parts expr-none x.args)

  rhs-none : (r : RhsTree) → of-parts n (rhs_parts r) ≡ 0
  unfolding of-parts count
  rhs-none (st.value a) = expr-none a
  rhs-none (st.result_of x) = call-none x
  rhs-none (st.new w) = refl

  spec-one : (spec : SpecPart) → of-parts n (spec_parts spec) ≡ (if spec.number == n then 1 else 0) + 0
  unfolding of-parts count
  spec-one spec = ap (λ m. (if spec.number == n then 1 else 0) + m) (form-none spec.form)

  label-none : (o : Option Word) → of-parts n (some_parts (λ w. of_words (w ∷ [])) o) ≡ 0
  unfolding of-parts count
  label-none None = refl
  label-none (Some w) = refl

  labelled-one : (a : LabelledPart) → of-parts n (labelled_parts a) ≡ (if a.spec.number == n then 1 else 0) + 0
  unfolding of-parts count
  labelled-one a = none-first (some_parts (λ w. of_words (w ∷ [])) a.label) (spec_parts a.spec and of_words a.from) (label-none a.label) ∙ parts-and (spec_parts a.spec) (of_words a.from) ∙ zero-right (of-parts n (spec_parts a.spec)) 0 refl ∙ spec-one a.spec

  module _ (p : ProgramTree) where
    abbrev l : Declared
    l = declared_in p

    -- how often it stands among those of some values
    of-values : List (ℕ × ValueTree) → ℕ
    of-values xs = count n (keys p xs)

    values-append : (xs ys : List (ℕ × ValueTree)) → of-values (xs ++ ys) ≡ of-values xs + of-values ys
    unfolding of-values keys
    values-append xs ys = ap (count n) (map-append xs ys) ∙ count-append n (keys p xs) (keys p ys)
      where
        map-append : (xs ys : List (ℕ × ValueTree)) → map (λ (x : ℕ × ValueTree). x.0) (xs ++ ys) ≡ map (λ (x : ℕ × ValueTree). x.0) xs ++ map (λ (x : ℕ × ValueTree). x.0) ys
        map-append [] ys = refl
        map-append (x ∷ xs) ys = ap (λ zs. x.0 ∷ zs) (map-append xs ys)

    flat-append : {X : Type 0} (g : X → List (ℕ × ValueTree)) (xs ys : List X) → of-values (flat_map g (xs ++ ys)) ≡ of-values (flat_map g xs) + of-values (flat_map g ys)
    unfolding of-values keys count
    flat-append g [] ys = none-more (of-values (flat_map g ys))
      where
        none-more : (m : ℕ) → m ≡ 0 + m
        none-more m = omega arith
    flat-append g (x ∷ xs) ys = values-append (g x) (flat_map g (xs ++ ys)) ∙ ap (λ m. of-values (g x) + m) (flat-append g xs ys) ∙ regroup (of-values (g x)) (of-values (flat_map g xs)) (of-values (flat_map g ys)) ∙ ap (λ m. m + of-values (flat_map g ys)) (sym (values-append (g x) (flat_map g xs)))
      where
        regroup : (a b c : ℕ) → a + (b + c) ≡ a + b + c
        regroup a b c = omega arith

    one-value : (m : ℕ) (v : ValueTree) → of-values ((m, v) ∷ []) ≡ (if m == n then 1 else 0) + 0
    unfolding of-values keys count
    one-value m v = refl

    -- each of a list gives as many
    flat-same : {X : Type 0} (g : X → List (ℕ × ValueTree)) (h : X → Parts) → ((x : X) → of-values (g x) ≡ of-parts n (h x)) → (xs : List X) → of-values (flat_map g xs) ≡ of-parts n (all_parts h xs)
    unfolding all_parts of-parts of-values keys count
    flat-same g h same [] = refl
    flat-same g h same (x ∷ xs) = values-append (g x) (flat_map g xs) ∙ (λ i. same x i + flat-same g h same xs i) ∙ sym (parts-and (h x) (all_parts h xs))

    some-same-count : (at : Spot) (o : Option SpecPart) → of-values (valued_some p at o) ≡ of-parts n (some_parts spec_parts o)
    unfolding of-parts of-values keys count
    some-same-count at None = refl
    some-same-count at (Some spec) = one-value spec.number (value_at p at spec.form) ∙ sym (spec-one spec)

    valued-same : (at : Spot) (spec : SpecPart) → of-values (valued p at spec) ≡ of-parts n (spec_parts spec)
    valued-same at spec = one-value spec.number (value_at p at spec.form) ∙ sym (spec-one spec)

    labelled-same : (at : Spot) (a : LabelledPart) → of-values (valued p at a.spec) ≡ of-parts n (labelled_parts a)
    labelled-same at a = one-value a.spec.number (value_at p at a.spec.form) ∙ sym (labelled-one a)

    -- a statement with those inside it
    abbrev here : List InScope → ℕ
    here xs = of-values (flat_map (values_of p) xs)

    more-here : (x : InScope) (xs : List InScope) → here (x ∷ xs) ≡ of-values (values_of p x) + here xs
    more-here x xs = values-append (values_of p x) (flat_map (values_of p) xs)

    nothing-here : (x : InScope) → of-values (values_of p x) ≡ 0 → here (x ∷ []) ≡ 0
    unfolding of-values keys count
    nothing-here x h = more-here x [] ∙ zero-right (of-values (values_of p x)) 0 refl ∙ h

    mutual
      unfolding stmt_parts inner_statements of-parts of-values keys count

      stmt-count : (a : StmtTree) (at : Scope) → here (standing at a ∷ inner_statements l a at) ≡ of-parts n (stmt_parts a)
      stmt-count (st.empty q) at = refl
      stmt-count (st.block q ss) at = more-here (standing at (st.block q ss)) (all_statements l ss at) ∙ zero-left 0 (here (all_statements l ss at)) refl ∙ stmts-count ss at
      stmt-count (st.local q d r) at = sym (none-and (of_param d) (some_parts rhs_parts r) refl (some-none rhs_parts rhs-none r))
      stmt-count (st.assign q a r) at = sym (none-and (of_target a) (expr_parts a and rhs_parts r) refl (none-and (expr_parts a) (rhs_parts r) (expr-none a) (rhs-none r)))
      stmt-count (st.call q x) at = sym (call-none x)
      stmt-count (st.branch q x a b) at =
          more-here (standing at (st.branch q x a b)) ((standing at a ∷ inner_statements l a at) ++ all_statements l b (text_behind at a)) ∙ zero-left 0 (here ((standing at a ∷ inner_statements l a at) ++ all_statements l b (text_behind at a))) refl
          ∙ flat-append (values_of p) (standing at a ∷ inner_statements l a at) (all_statements l b (text_behind at a))
          ∙ (λ i. stmt-count a at i + stmts-count b (text_behind at a) i)
          ∙ sym (parts-and (stmt_parts a) (stmts_parts b)) ∙ sym (none-first (expr_parts x) (stmt_parts a and stmts_parts b) (expr-none x))
      stmt-count (st.loop q claims x a) at =
          more-here (standing at (st.loop q claims x a)) (standing (in_loop at claims) a ∷ inner_statements l a (in_loop at claims))
          ∙ (λ i. flat-same (λ (y : LabelledPart). valued p (inside k.Obj at) y.spec) labelled_parts (labelled-same (inside k.Obj at)) claims i + stmt-count a (in_loop at claims) i)
          ∙ ap (λ m. of-parts n (all_parts labelled_parts claims) + m) (sym (none-first (expr_parts x) (stmt_parts a) (expr-none x))) ∙ sym (parts-and (all_parts labelled_parts claims) (expr_parts x and stmt_parts a))
      stmt-count (st.return q r) at = sym (some-none expr_parts expr-none r)
      stmt-count (st.assert q a) at = more-here (standing at (st.assert q a)) [] ∙ zero-right (of-values (valued p (inside k.Obj at) a.spec)) 0 refl ∙ labelled-same (inside k.Obj at) a
      stmt-count (st.note q a) at = more-here (standing at (st.note q a)) [] ∙ zero-right (of-values (valued p (inside k.Obj at) a.spec)) 0 refl ∙ labelled-same (inside k.Obj at) a
      stmt-count (st.ghost q a b) at =
          more-here (standing at (st.ghost q a b)) [] ∙ zero-right (of-values (ghost_values p at a b)) 0 refl ∙ values-append (valued p (inside k.Obj at) a) (valued p (inside k.Obj at) b)
          ∙ (λ i. valued-same (inside k.Obj at) a i + valued-same (inside k.Obj at) b i) ∙ sym (parts-and (spec_parts a) (spec_parts b))

      stmts-count : (ss : StmtTrees) (at : Scope) → here (all_statements l ss at) ≡ of-parts n (stmts_parts ss)
      stmts-count st.none at = refl
      stmts-count (st.more a ss) at =
          flat-append (values_of p) (standing at a ∷ inner_statements l a at) (all_statements l ss (behind l at a))
          ∙ (λ i. stmt-count a at i + stmts-count ss (behind l at a) i) ∙ sym (parts-and (stmt_parts a) (stmts_parts ss))

    method-count : (c : ℕ) (m : MethodPart) → of-values (in_method p c m) ≡ of-parts n (method_parts m)
    unfolding in_method of-parts of-values keys count
    method-count c m =
        let at : Spot = inside (kind_of_word m.result) (entry_scope p c m) in
        let pre : List (ℕ × ValueTree) = valued_some p at m.pre in
        let post : List (ℕ × ValueTree) = valued_some p at m.post in
        let body : List (ℕ × ValueTree) = flat_map (values_of p) (method_statements p c m) in
        let last : Parts = some_parts spec_parts m.post and stmts_parts m.body in
        let after : Parts = of_words m.modifies and last in
        let named : Parts = all_parts of_param m.params and some_parts spec_parts m.pre and after in
        values-append (pre ++ post) body ∙ ap (λ k. k + of-values body) (values-append pre post)
        ∙ (λ i. some-same-count at m.pre i + some-same-count at m.post i + stmts-count m.body (entry_scope p c m) i)
        ∙ regroup (of-parts n (some_parts spec_parts m.pre)) (of-parts n (some_parts spec_parts m.post)) (of-parts n (stmts_parts m.body))
        ∙ ap (λ k. of-parts n (some_parts spec_parts m.pre) + k) (sym (none-first (of_words m.modifies) last refl ∙ parts-and (some_parts spec_parts m.post) (stmts_parts m.body)))
        ∙ sym (none-first (of_words (type_words m.result)) (of_declared m.name and named) refl ∙ none-first (of_declared m.name) named refl
        ∙ none-first (all_parts of_param m.params) (some_parts spec_parts m.pre and after) (all-none of_param (λ d. refl) m.params) ∙ parts-and (some_parts spec_parts m.pre) after)
      where
        regroup : (a b c : ℕ) → a + b + c ≡ a + (b + c)
        regroup a b c = omega arith

    class-count : (c : ℕ) (x : ClassPart) → of-values (in_class p c x) ≡ of-parts n (class_parts x)
    unfolding in_class of-parts of-values keys count
    class-count c x =
        let f1 : List (ℕ × ValueTree) = flat_map (λ (v : VarPart). valued_some p (outside c false) v.init) x.vars in
        let f2 : List (ℕ × ValueTree) = flat_map (λ (d : DefPart). valued p (outside c false) d.spec) x.defs in
        let f3 : List (ℕ × ValueTree) = flat_map (λ (a : LabelledPart). (a.spec.number, invariant_value p c x a.spec.form) ∷ []) x.invariants in
        let f4 : List (ℕ × ValueTree) = flat_map (in_method p c) x.methods in
        let p1 : Parts = all_parts var_parts x.vars in
        let p2 : Parts = all_parts def_parts x.defs in
        let p3 : Parts = all_parts labelled_parts x.invariants in
        let p4 : Parts = all_parts method_parts x.methods in
        values-append (f1 ++ f2 ++ f3) f4 ∙ ap (λ k. k + of-values f4) (values-append (f1 ++ f2) f3 ∙ ap (λ k. k + of-values f3) (values-append f1 f2))
        ∙ (λ i. flat-same (λ (v : VarPart). valued_some p (outside c false) v.init) var_parts (λ v. some-same-count (outside c false) v.init ∙ sym (none-first (of_declared v.name) (some_parts spec_parts v.init) refl)) x.vars i
        + flat-same (λ (d : DefPart). valued p (outside c false) d.spec) def_parts (λ d. valued-same (outside c false) d.spec ∙ sym (none-first (of_words (d.name ∷ [])) (spec_parts d.spec) refl)) x.defs i
        + flat-same (λ (a : LabelledPart). (a.spec.number, invariant_value p c x a.spec.form) ∷ []) labelled_parts (λ a. one-value a.spec.number (invariant_value p c x a.spec.form) ∙ sym (labelled-one a)) x.invariants i
        + flat-same (in_method p c) method_parts (method-count c) x.methods i)
        ∙ regroup (of-parts n p1) (of-parts n p2) (of-parts n p3) (of-parts n p4)
        ∙ ap (λ k. of-parts n p4 + (of-parts n p1 + k)) (sym (parts-and p2 p3)) ∙ ap (λ k. of-parts n p4 + k) (sym (parts-and p1 (p2 and p3))) ∙ sym (parts-and p4 (p1 and p2 and p3))
        ∙ sym (none-first (all_parts field_parts x.fields) (p4 and p1 and p2 and p3) (all-none field_parts (λ y. none-and (of_declared y.name) (some_parts expr_parts y.init) refl (some-none expr_parts expr-none y.init)) x.fields))
        ∙ sym (none-first (of_declared x.name) (all_parts field_parts x.fields and p4 and p1 and p2 and p3) refl)
      where
        regroup : (a b c d : ℕ) → a + b + c + d ≡ d + (a + (b + c))
        regroup a b c d = omega arith

    classes-count : (c : ℕ) (cs : List ClassPart) → of-values (in_classes p c cs) ≡ of-parts n (all_parts class_parts cs)
    unfolding in_classes all_parts of-parts of-values keys count
    classes-count c [] = refl
    classes-count c (x ∷ xs) = values-append (in_class p c x) (in_classes p (c + 1) xs) ∙ (λ i. class-count c x i + classes-count (c + 1) xs i) ∙ sym (parts-and (class_parts x) (all_parts class_parts xs))

-- Where no number is used twice, the value by the number of a formula is that of the formula.
pub value-is : (p : ProgramTree) → are_different (program_parts p).numbers ≡ true → (spec : SpecPart) (v : ValueTree) → Contains (in_classes p 0 p.classes) (spec.number, v) → spec_value p spec ≡ v
unfolding of-values of-parts
value-is p different spec v i = ap (λ (o : Option ValueTree). option_map_or (λ (z : ValueTree). z) o (t.of_truth t.true_formula))
    (found-once p spec.number v (in_classes p 0 p.classes) (subst (λ k. k ≤ 1) (sym (classes-count spec.number p 0 p.classes)) (different-once spec.number (program_parts p).numbers different)) i)

-- the values of the formulas of a class, a method and a statement
class-values : (p : ProgramTree) (k : ℕ) (cs : List ClassPart) (j : ℕ) (c : ClassPart) → slice_get cs j ≡ Some c → (x : ℕ × ValueTree) → Contains (in_class p (k + j) c) x → Contains (in_classes p k cs) x
unfolding in_classes
class-values p k [] j c e x i = absurd (no-none c e)
class-values p k (d ∷ ds) zero c e x i = Contains-append_left (in_class p k d) (in_classes p (k + 1) ds) x (subst (λ m. Contains (in_class p m d) x) (no-more k) (subst (λ (z : ClassPart). Contains (in_class p (k + 0) z) x) (sym (some-same d c e)) i))
  where
    no-more : (k : ℕ) → k + 0 ≡ k
    no-more k = omega arith
class-values p k (d ∷ ds) (suc j) c e x i = Contains-append_right (in_class p k d) (in_classes p (k + 1) ds) x (class-values p (k + 1) ds j c e x (subst (λ m. Contains (in_class p m c) x) (one-later k j) i))
  where
    one-later : (k j : ℕ) → k + suc j ≡ k + 1 + j
    one-later k j = omega arith

module _ (p : ProgramTree) (n : ℕ) (c : ClassPart) (is : slice_get p.classes n ≡ Some c) where
  of-class : (x : ℕ × ValueTree) → Contains (in_class p n c) x → Contains (in_classes p 0 p.classes) x
  of-class x i = class-values p 0 p.classes n c is x (subst (λ m. Contains (in_class p m c) x) (none-more n) i)
    where
      none-more : (m : ℕ) → m ≡ 0 + m
      none-more m = omega arith

  pub invariant-stands : (a : LabelledPart) → Contains c.invariants a → Contains (in_classes p 0 p.classes) (a.spec.number, invariant_value p n c a.spec.form)
  unfolding in_class
  invariant-stands a i =
      let f1 : List (ℕ × ValueTree) = flat_map (λ (v : VarPart). valued_some p (outside n false) v.init) c.vars in
      let f2 : List (ℕ × ValueTree) = flat_map (λ (d : DefPart). valued p (outside n false) d.spec) c.defs in
      let f3 : List (ℕ × ValueTree) = flat_map (λ (a : LabelledPart). (a.spec.number, invariant_value p n c a.spec.form) ∷ []) c.invariants in
      let x : ℕ × ValueTree = (a.spec.number, invariant_value p n c a.spec.form) in
      of-class x (Contains-append_left (f1 ++ f2 ++ f3) (flat_map (in_method p n) c.methods) x (Contains-append_right (f1 ++ f2) f3 x (flat-has (λ (a : LabelledPart). (a.spec.number, invariant_value p n c a.spec.form) ∷ []) c.invariants a x i (has-first x []))))

  module _ (m : MethodPart) (stands : Contains c.methods m) where
    of-method : (x : ℕ × ValueTree) → Contains (in_method p n m) x → Contains (in_classes p 0 p.classes) x
    unfolding in_class
    of-method x i =
        let f1 : List (ℕ × ValueTree) = flat_map (λ (v : VarPart). valued_some p (outside n false) v.init) c.vars in
        let f2 : List (ℕ × ValueTree) = flat_map (λ (d : DefPart). valued p (outside n false) d.spec) c.defs in
        let f3 : List (ℕ × ValueTree) = flat_map (λ (a : LabelledPart). (a.spec.number, invariant_value p n c a.spec.form) ∷ []) c.invariants in
        of-class x (Contains-append_right (f1 ++ f2 ++ f3) (flat_map (in_method p n) c.methods) x (flat-has (in_method p n) c.methods m x stands i))

    abbrev entry : Spot
    entry = inside (kind_of_word m.result) (entry_scope p n m)

    pub pre-stands : (spec : SpecPart) → m.pre ≡ Some spec → Contains (in_classes p 0 p.classes) (spec.number, value_at p entry spec.form)
    unfolding in_method
    pre-stands spec e =
        let x : ℕ × ValueTree = (spec.number, value_at p entry spec.form) in
        let pre : List (ℕ × ValueTree) = valued_some p entry m.pre in
        let post : List (ℕ × ValueTree) = valued_some p entry m.post in
        of-method x (Contains-append_left (pre ++ post) (flat_map (values_of p) (method_statements p n m)) x (Contains-append_left pre post x (subst (λ (o : Option SpecPart). Contains (valued_some p entry o) x) (sym e) (has-first x []))))

    pub post-stands : (spec : SpecPart) → m.post ≡ Some spec → Contains (in_classes p 0 p.classes) (spec.number, value_at p entry spec.form)
    unfolding in_method
    post-stands spec e =
        let x : ℕ × ValueTree = (spec.number, value_at p entry spec.form) in
        let pre : List (ℕ × ValueTree) = valued_some p entry m.pre in
        let post : List (ℕ × ValueTree) = valued_some p entry m.post in
        of-method x (Contains-append_left (pre ++ post) (flat_map (values_of p) (method_statements p n m)) x (Contains-append_right pre post x (subst (λ (o : Option SpecPart). Contains (valued_some p entry o) x) (sym e) (has-first x []))))

    pub statement-stands : (s : InScope) → Contains (method_statements p n m) s → (x : ℕ × ValueTree) → Contains (values_of p s) x → Contains (in_classes p 0 p.classes) x
    unfolding in_method
    statement-stands s i x h =
        of-method x (Contains-append_right (valued_some p entry m.pre ++ valued_some p entry m.post) (flat_map (values_of p) (method_statements p n m)) x (flat-has (values_of p) (method_statements p n m) s x i h))
