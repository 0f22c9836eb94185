-- The formulas of a made program give few goals.
use Rattle.std.proofs.Common.{ℕ, suc, ◌≤◌, ◌==◌, Bool, true, false, cond, List, [], ◌∷◌, ◌++◌, Some, sym, subst, arith}
use Rattle.std.specs.List.{flat_map}
use Rattle.std.specs.Option.{option_map_or}
use Rattle.std.proofs.lemmas.Bool.{cond_both}
use Rattle.jh_name.specs.declared.place.Kind.TheVariants as k
use Rattle.jh_name.specs.declared.place.Place.{Place}
use Rattle.jh_ast.specs.Forms.{FormTree}
use Rattle.jh_ast.specs.Programs.{ProgramTree, MethodPart}
use Rattle.jh_form.specs.Tree.{ValueTree}
use Rattle.jh_form.specs.Tree as t
use Rattle.jh_vars.specs.jh_boxed.Mapped.{mapped_value, mapped_term}
use Rattle.jh_rules.specs.Words.{halves}
use Rattle.jh_rules.specs.Names.{Declared, declared_in, first_named, class_from}
use Rattle.jh_rules.specs.Scopes.{outermost, declare_all}
use Rattle.jh_vars.specs.Resolved.{as_truth, resolved, bound_as, literal, plain_literal}
use Rattle.jh_vars.specs.Statements.{all_statements, inner_statements}
use Rattle.jh_vars.specs.Opened.{inside, meant, all_definitions, in_method, in_class, in_classes, found_in, opened}
use Rattle.jh_vars.specs.States.{class_text}
use Rattle.jh_seq.specs.counting.Goals.{Weights, goals}
use Rattle.jh_gen_laws.specs.typing.Trees as trees
use Rattle.jh_gen_laws.specs.typing.Trees.{made_program, IsMethod, swaps, sums, cells, AreMethods, none, more}
use Rattle.jh_gen_laws.proofs.typing.Declaring.{known, known-is}
use Rattle.jh_gen_laws.proofs.sequent_count.Cheap.{Light}

-- a value, as a truth, gives three goals at most
abbrev pub IsFew : ValueTree → Type 0
IsFew v = (w : Weights) (b : Bool) → Light w → goals (as_truth v) w b ≤ 3

abbrev AreFew : List (ℕ × ValueTree) → Type 0
AreFew [] = Unit {0}
AreFew (x ∷ xs) = IsFew x.1 × AreFew xs

few-append : (xs ys : List (ℕ × ValueTree)) → AreFew xs → AreFew ys → AreFew (xs ++ ys)
few-append [] ys a b = b
few-append (x ∷ xs) ys a b = (a.0, few-append xs ys a.1 b)

true-one : (b : Bool) → cond b 1 0 ≤ 3
true-one true = omega arith
true-one false = omega arith

few-true : IsFew (t.of_truth t.true_formula)
unfolding goals
few-true w b l = true-one b

few-found : (p : ProgramTree) (n : ℕ) (xs : List (ℕ × ValueTree)) → AreFew xs → IsFew (option_map_or (λ v. v) (found_in p n xs) (t.of_truth t.true_formula))
unfolding found_in
few-found p n [] few = few-true
few-found p n (x ∷ xs) few = cond_both (x.0 == n) (Some x.1) (found_in p n xs) (λ o. IsFew (option_map_or (λ v. v) o (t.of_truth t.true_formula))) (λ _. few.0) (λ _. few-found p n xs few.1)

-- ---- the values, where what is declared is said at the names

module _ (q1 q2 q3 q4 q5 q6 q7 q8 : Place) (ms : List MethodPart) where
  abbrev program : ProgramTree
  program = made_program q1 q2 q3 q4 q5 q6 q7 q8 ms

  module _ (spelled : ℕ → List ℕ) (meaning : ℕ → List ℕ → ValueTree) where
    abbrev value_of : FormTree → Declared → ValueTree
    value_of a l = resolved l spelled meaning a (inside k.Obj (declare_all l (outermost 1 true) []))

    abbrev cells_value : (p1 p2 p3 p4 : Place) → FormTree → Declared → ValueTree
    cells_value p1 p2 p3 p4 a l = resolved l spelled meaning a (inside k.Obj (declare_all l (outermost 1 true) (trees.cells_params p1 p2 p3 p4)))

    swap-known : (s1 s2 s3 s4 s5 s6 : Place) → IsFew (value_of (trees.swap_post s1 s2 s3 s4 s5 s6) (known (declared_in program)))
    unfolding goals resolved bound_as halves first_named class_from declare_all mapped_value mapped_term literal plain_literal
    swap-known s1 s2 s3 s4 s5 s6 w b l = omega arith

    sum-known : (s1 s2 : Place) (n : ℕ) → IsFew (value_of (trees.at_most s1 n s2) (known (declared_in program)))
    unfolding goals resolved bound_as halves first_named class_from declare_all literal plain_literal
    sum-known s1 s2 n w b l = omega arith

    pre-known : (p1 p2 p3 p4 s1 s2 s3 s4 s5 s6 : Place) → IsFew (cells_value p1 p2 p3 p4 (trees.cells_pre s1 s2 s3 s4 s5 s6) (known (declared_in program)))
    unfolding goals resolved bound_as halves first_named class_from declare_all literal plain_literal
    pre-known p1 p2 p3 p4 s1 s2 s3 s4 s5 s6 w b l = omega arith

    post-known : (p1 p2 p3 p4 s1 s2 s3 s4 s5 s6 : Place) (n : ℕ) → IsFew (cells_value p1 p2 p3 p4 (trees.cells_post s1 s2 s3 s4 s5 s6 n) (known (declared_in program)))
    unfolding goals resolved bound_as halves first_named class_from declare_all literal plain_literal
    post-known p1 p2 p3 p4 s1 s2 s3 s4 s5 s6 n w b l = omega arith

  module _ (are : AreMethods 1 ms) where
    few-by : (f : Declared → ValueTree) → IsFew (f (known (declared_in program))) → IsFew (f (declared_in program))
    few-by f few = subst (λ l. IsFew (f l)) (sym (known-is q1 q2 q3 q4 q5 q6 q7 q8 ms are)) few

    method-few : (i : ℕ) (m : MethodPart) → IsMethod i m → AreFew (in_method program 1 m)
    unfolding in_method all_statements inner_statements
    method-few i _ (swaps n q a b c s1 s2 s3 s4 s5 s6 r1 r2 r3 r4 r5 r6 r7 end) =
        (few-by (value_of (class_text program) (meant program (all_definitions program)) (trees.swap_post s1 s2 s3 s4 s5 s6)) (swap-known _ _ s1 s2 s3 s4 s5 s6), tt)
    method-few i _ (sums n m k q a b s1 s2 c s3 s4 r1 r2 r3 end) = (
      few-by (value_of (class_text program) (meant program (all_definitions program)) (trees.at_most s1 0 s2)) (sum-known _ _ s1 s2 0),
      (few-by (value_of (class_text program) (meant program (all_definitions program)) (trees.at_most s3 k s4)) (sum-known _ _ s3 s4 k), tt),
    )
    method-few i _ (cells n m k q p1 p2 p3 p4 a t1 t2 t3 t4 t5 t6 b c s1 s2 s3 s4 s5 s6 r1 r2 r3 r4 r5 r6 end) = (
      few-by (cells_value (class_text program) (meant program (all_definitions program)) p1 p2 p3 p4 (trees.cells_pre t1 t2 t3 t4 t5 t6)) (pre-known _ _ p1 p2 p3 p4 t1 t2 t3 t4 t5 t6),
      (few-by (cells_value (class_text program) (meant program (all_definitions program)) p1 p2 p3 p4 (trees.cells_post s1 s2 s3 s4 s5 s6 k)) (post-known _ _ p1 p2 p3 p4 s1 s2 s3 s4 s5 s6 k), tt),
    )

    methods-few : (i : ℕ) (xs : List MethodPart) → AreMethods i xs → AreFew (flat_map (in_method program 1) xs)
    methods-few i [] none = tt
    methods-few i (m ∷ xs) (more is rest) = few-append (in_method program 1 m) (flat_map (in_method program 1) xs) (method-few i m is) (methods-few (suc i) xs rest)

    all-few : AreFew (in_classes program 0 program.classes)
    unfolding in_classes in_class
    all-few = few-append _ [] (methods-few 1 ms are) tt

    -- a formula by its number
    pub opened-few : (n : ℕ) → IsFew (option_map_or (λ v. v) (opened program n) (t.of_truth t.true_formula))
    opened-few n = few-found program n (in_classes program 0 program.classes) all-few
