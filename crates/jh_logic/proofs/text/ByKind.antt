-- What a class has by its kinds, with the numbers of its formulas: a class lists its members by kinds, and not in the order of the text.
use Rattle.std.proofs.Common.{◌≡◌, sym, ap, ◌∙◌, ℕ, ◌+◌, List, [], ◌∷◌, ◌++◌, arith}
use Rattle.jh_ast.specs.Forms.{LabelledPart}
use Rattle.jh_ast.specs.Programs.{FieldPart, VarPart, DefPart, MethodPart}
use Rattle.jh_rules.specs.Shape.{Parts, nothing, all_parts, field_parts, method_parts, var_parts, def_parts, labelled_parts}
use Rattle.jh_logic.proofs.text.Goodness.{times, times-append, Once, once-none, once-same, once-and, Good, good-none, good-and, good-several, Fine}

-- numbers of the formulas of several things
abbrev pub count : {A : Type 0} → ℕ → (A → Parts) → List A → ℕ
count k g xs = times k (all_parts g xs).numbers

count-append : {A : Type 0} (k : ℕ) (g : A → Parts) (xs ys : List A) → count k g (xs ++ ys) ≡ count k g xs + count k g ys
unfolding all_parts times
count-append k g [] ys = from-none (count k g ys)
  where
    from-none : (a : ℕ) → a ≡ 0 + a
    from-none a = omega arith
count-append k g (x ∷ xs) ys =
    times-append k (g x).numbers (all_parts g (xs ++ ys)).numbers
    ∙ ap (λ n. times k (g x).numbers + n) (count-append k g xs ys)
    ∙ three (times k (g x).numbers) (count k g xs) (count k g ys)
    ∙ ap (λ n. n + count k g ys) (sym (times-append k (g x).numbers (all_parts g xs).numbers))
  where
    three : (a b c : ℕ) → a + (b + c) ≡ a + b + c
    three a b c = omega arith

-- what a class has, by its kinds
pub record Kinds (n m : ℕ) (fs : List FieldPart) (ms : List MethodPart) (vs : List VarPart) (ds : List DefPart) (is : List LabelledPart) : Type 0 where
  pub fields : Good (all_parts field_parts fs)
  pub methods : Good (all_parts method_parts ms)
  pub vars : Good (all_parts var_parts vs)
  pub defs : Good (all_parts def_parts ds)
  pub invariants : Good (all_parts labelled_parts is)
  pub once : Once n m (λ k. count k field_parts fs + (count k method_parts ms + (count k var_parts vs + (count k def_parts ds + count k labelled_parts is))))

no-parts : {A : Type 0} (g : A → Parts) → Good (all_parts g [])
unfolding all_parts
no-parts g = good-none

pub kinds-none : (n : ℕ) → Kinds n n [] [] [] [] []
unfolding all_parts times
kinds-none n = record {
  fields = no-parts field_parts;
  methods = no-parts method_parts;
  vars = no-parts var_parts;
  defs = no-parts def_parts;
  invariants = no-parts labelled_parts;
  once = once-none n;
}

-- the sums of two such
summed : (a b c d e a' b' c' d' e' : ℕ) → (a + (b + (c + (d + e)))) + (a' + (b' + (c' + (d' + e')))) ≡ (a + a') + ((b + b') + ((c + c') + ((d + d') + (e + e'))))
summed a b c d e a' b' c' d' e' = omega arith

module _ {n k m : ℕ} {fs : List FieldPart} {ms : List MethodPart} {vs : List VarPart} {ds : List DefPart} {is : List LabelledPart} {fs' : List FieldPart} {ms' : List MethodPart} {vs' : List VarPart} {ds' : List DefPart} {is' : List LabelledPart} where
  pub kinds-and : Kinds n k fs ms vs ds is → Kinds k m fs' ms' vs' ds' is' → Kinds n m (fs ++ fs') (ms ++ ms') (vs ++ vs') (ds ++ ds') (is ++ is')
  kinds-and x y = record {
    fields = good-several field_parts fs fs' x.fields y.fields;
    methods = good-several method_parts ms ms' x.methods y.methods;
    vars = good-several var_parts vs vs' x.vars y.vars;
    defs = good-several def_parts ds ds' x.defs y.defs;
    invariants = good-several labelled_parts is is' x.invariants y.invariants;
    once = once-same
        (λ j. (count j field_parts fs + (count j method_parts ms + (count j var_parts vs + (count j def_parts ds + count j labelled_parts is)))) + (count j field_parts fs' + (count j method_parts ms' + (count j var_parts vs' + (count j def_parts ds' + count j labelled_parts is')))))
        (λ j. count j field_parts (fs ++ fs') + (count j method_parts (ms ++ ms') + (count j var_parts (vs ++ vs') + (count j def_parts (ds ++ ds') + count j labelled_parts (is ++ is')))))
        (λ j.
        summed (count j field_parts fs) (count j method_parts ms) (count j var_parts vs) (count j def_parts ds) (count j labelled_parts is) (count j field_parts fs') (count j method_parts ms') (count j var_parts vs') (count j def_parts ds') (count j labelled_parts is')
        ∙ sym (λ i. count-append j field_parts fs fs' i + (count-append j method_parts ms ms' i + (count-append j var_parts vs vs' i + (count-append j def_parts ds ds' i + count-append j labelled_parts is is' i)))))
        (once-and
        (λ j. count j field_parts fs + (count j method_parts ms + (count j var_parts vs + (count j def_parts ds + count j labelled_parts is))))
        (λ j. count j field_parts fs' + (count j method_parts ms' + (count j var_parts vs' + (count j def_parts ds' + count j labelled_parts is'))))
        x.once y.once);
  }

-- a single one of a kind
alone : (k : ℕ) (xs : List ℕ) → times k (xs ++ []) ≡ times k xs
unfolding times
alone k xs = times-append k xs [] ∙ plus-none (times k xs)
  where
    plus-none : (a : ℕ) → a + 0 ≡ a
    plus-none a = omega arith

module _ {n m : ℕ} where
  pub only-fields : (fs : List FieldPart) → Fine n m (all_parts field_parts fs) → Kinds n m fs [] [] [] []
  unfolding all_parts times
  only-fields fs f = record {
    fields = f.good;
    methods = no-parts method_parts;
    vars = no-parts var_parts;
    defs = no-parts def_parts;
    invariants = no-parts labelled_parts;
    once = once-same (λ k. count k field_parts fs) (λ k. count k field_parts fs + (0 + (0 + (0 + 0)))) (λ k. none-more (count k field_parts fs)) f.once;
  }
    where
      none-more : (a : ℕ) → a ≡ a + (0 + (0 + (0 + 0)))
      none-more a = omega arith

  pub only-method : (x : MethodPart) → Fine n m (method_parts x) → Kinds n m [] (x ∷ []) [] [] []
  unfolding all_parts times
  only-method x f = record {
    fields = no-parts field_parts;
    methods = good-and (method_parts x) nothing f.good good-none;
    vars = no-parts var_parts;
    defs = no-parts def_parts;
    invariants = no-parts labelled_parts;
    once = once-same (λ k. times k (method_parts x).numbers) (λ k. 0 + (count k method_parts (x ∷ []) + (0 + (0 + 0)))) (λ k. none-more (times k (method_parts x).numbers) (count k method_parts (x ∷ [])) (alone k (method_parts x).numbers)) f.once;
  }
    where
      none-more : (a b : ℕ) → b ≡ a → a ≡ 0 + (b + (0 + (0 + 0)))
      none-more a b e = omega arith

  pub only-var : (x : VarPart) → Fine n m (var_parts x) → Kinds n m [] [] (x ∷ []) [] []
  unfolding all_parts times
  only-var x f = record {
    fields = no-parts field_parts;
    methods = no-parts method_parts;
    vars = good-and (var_parts x) nothing f.good good-none;
    defs = no-parts def_parts;
    invariants = no-parts labelled_parts;
    once = once-same (λ k. times k (var_parts x).numbers) (λ k. 0 + (0 + (count k var_parts (x ∷ []) + (0 + 0)))) (λ k. none-more (times k (var_parts x).numbers) (count k var_parts (x ∷ [])) (alone k (var_parts x).numbers)) f.once;
  }
    where
      none-more : (a b : ℕ) → b ≡ a → a ≡ 0 + (0 + (b + (0 + 0)))
      none-more a b e = omega arith

  pub only-def : (x : DefPart) → Fine n m (def_parts x) → Kinds n m [] [] [] (x ∷ []) []
  unfolding all_parts times
  only-def x f = record {
    fields = no-parts field_parts;
    methods = no-parts method_parts;
    vars = no-parts var_parts;
    defs = good-and (def_parts x) nothing f.good good-none;
    invariants = no-parts labelled_parts;
    once = once-same (λ k. times k (def_parts x).numbers) (λ k. 0 + (0 + (0 + (count k def_parts (x ∷ []) + 0)))) (λ k. none-more (times k (def_parts x).numbers) (count k def_parts (x ∷ [])) (alone k (def_parts x).numbers)) f.once;
  }
    where
      none-more : (a b : ℕ) → b ≡ a → a ≡ 0 + (0 + (0 + (b + 0)))
      none-more a b e = omega arith

  pub only-invariant : (x : LabelledPart) → Fine n m (labelled_parts x) → Kinds n m [] [] [] [] (x ∷ [])
  unfolding all_parts times
  only-invariant x f = record {
    fields = no-parts field_parts;
    methods = no-parts method_parts;
    vars = no-parts var_parts;
    defs = no-parts def_parts;
    invariants = good-and (labelled_parts x) nothing f.good good-none;
    once = once-same (λ k. times k (labelled_parts x).numbers) (λ k. 0 + (0 + (0 + (0 + count k labelled_parts (x ∷ []))))) (λ k. none-more (times k (labelled_parts x).numbers) (count k labelled_parts (x ∷ [])) (alone k (labelled_parts x).numbers)) f.once;
  }
    where
      none-more : (a b : ℕ) → b ≡ a → a ≡ 0 + (0 + (0 + (0 + b)))
      none-more a b e = omega arith
