-- What the code of a body writes, its method may write, itself or by what it calls.
use Rattle.std.proofs.Common.{◌≡◌, refl, sym, ap, subst, ◌∙◌, ℕ, zero, suc, ◌+◌, Bool, true, false, ◌||◌, if◌then◌else◌, List, [], ◌∷◌, ◌++◌, map, Option, Some, None, is_some, slice_get, codes, ⊎_elim}
use Rattle.std.specs.List.{Contains, flat_map}
use Rattle.std.specs.Option.{option_map_or}
use Rattle.std.proofs.lemmas.Bool.{true≢false}
use Rattle.std.proofs.lemmas.List.Elements.{Contains-append_left, Contains-append_right}
use Rattle.jh_name.specs.declared.place.Place.{Place}
use Rattle.jh_name.specs.declared.place.Kind.TheVariants as k
use Rattle.jh_ast.specs.declared.word.Word.{Word}
use Rattle.jh_ast.specs.declared.word.Param.{Param}
use Rattle.jh_ast.specs.Exprs.{ExprTree}
use Rattle.jh_ast.specs.Exprs as e
use Rattle.jh_ast.specs.Forms.{FormTree, LabelledPart}
use Rattle.jh_ast.specs.Stmts.{StmtTree, StmtTrees, RhsTree, CallTree}
use Rattle.jh_ast.specs.Stmts as st
use Rattle.jh_ast.specs.Programs.{ProgramTree, ClassPart, MethodPart}
use Rattle.jh_form.specs.Tree.{ValueTree}
use Rattle.jh_rules.specs.declared.fault.Fault.{Fault}
use Rattle.jh_rules.specs.declared.types.Ty.{Ty}
use Rattle.jh_rules.specs.declared.types.Ty.TheVariants as ty
use Rattle.jh_rules.specs.declared.entries.FieldEntry.{FieldEntry}
use Rattle.jh_rules.specs.declared.entries.LocalEntry.{LocalEntry}
use Rattle.jh_rules.specs.Breaks.{faults_of}
use Rattle.jh_rules.specs.Faults.{fault, right, wrong, ◌>>=◌}
use Rattle.jh_rules.specs.Words.{same_text, is_one_of, text_of}
use Rattle.jh_rules.specs.Kinds.{class_of}
use Rattle.jh_rules.specs.Names.{Declared, declared_in, number_of, class_from, type_of}
use Rattle.jh_rules.specs.Scopes.{Scope, behind, text_behind, in_loop, declare, declare_all, local_of, outermost}
use Rattle.jh_rules.specs.Rules.{rule_4, rule_5, rule_6_local, rule_17, rule_20, rule_26, rule_24_value}
use Rattle.jh_rules.specs.Shape.{◌and◌, stmt_parts, stmts_parts, rhs_parts, expr_parts, of_param, some_parts, all_parts, labelled_parts, program_parts, are_different}
use Rattle.jh_rules.specs.Formulas.{truth_faults}
use Rattle.jh_rules.specs.Exprs.{expr_type, call_type, call_place, class_spelled, callee_class}
use Rattle.jh_rules.specs.Statements.{of_some, inside, declared_faults, param_faults, rhs_type, rhs_faults, stmt_faults, all_faults}
use Rattle.jh_vars.specs.Statements.{InScope, standing, inner_statements, all_statements, entry_scope, method_statements}
use Rattle.jh_vars.specs.States.{class_text}
use Rattle.jh_vars.specs.Resolved.{kind_known, state_name}
use Rattle.jh_vars.specs.Written.{Written, allocated, objects, plain_objects, state, Callee, MayWrite, directly, called, part_of, all_state, written_name, member_written, class_written, calls_of, rhs_calls, stmt_writes, writes_of, stmt_calls, called_by, own_writes, own_calls, ghost_writes}
use Rattle.jh_vars.specs.Written as vars
use Rattle.jh_vars.specs.Opened as opened
use Rattle.jh_semantics.specs.Code.{Text, ObjectCode, Local, Target, Stmt, Stmts}
use Rattle.jh_semantics.specs.Code as c
use Rattle.jh_semantics.specs.Locals.{has_dot}
use Rattle.jh_semantics.specs.Program.{Method}
use Rattle.jh_semantics.specs.Lowered.{receiver_class, expr_code, member_text}
use Rattle.jh_semantics.specs.Lowered as lowered
use Rattle.jh_semantics.specs.LoweredStmts.{ghost_target, ghost_code, spec_value, local_code, static_target, field_target, own_target, dotted_target, target_code, callee_of, rhs_code, declaration_code, stmt_code, stmts_code}
use Rattle.jh_semantics.specs.LoweredProgram.{program_of}
use Rattle.jh_semantics.specs.Typed.{Surroundings, scope_behind}
use Rattle.jh_guard.specs.Writes.{Writes, target_writes, stmts_write}
use Rattle.jh_guard.specs.Writes as guard
use Rattle.jh_logic.specs.source.Placed.{IsPlaced}
use Rattle.jh_logic.specs.source.Written.{AreWrites}
use Rattle.jh_logic.proofs.source.Lists.{has-first, has-later, flat-has, more-not-empty, left-empty, right-empty, some-same, no-none, or-cases, or-false-left, or-false-right}
use Rattle.jh_logic.proofs.source.Judged.{not-broken, then-first}
use Rattle.jh_logic.proofs.source.Texts.{same-is, is-same, not-same, differ, declared-no-dot, declared-not-this}
use Rattle.jh_logic.proofs.source.Shaped.{Shaped, shaped-left, shaped-right}
use Rattle.jh_logic.proofs.source.Environment.{Agrees}
use Rattle.jh_logic.proofs.source.Classes.{ClassAt, class-at}
use Rattle.jh_logic.proofs.source.Declared.{class-text-is}
use Rattle.jh_logic.proofs.source.Named.{dotless, middle-dot}
use Rattle.jh_logic.proofs.source.Calls.{CallIs, call-is}
use Rattle.jh_logic.proofs.source.Statements.{behind-agrees, loop-scope}
use Rattle.jh_logic.specs.logic.MethodContracts.{WritesCover}
use Rattle.jh_logic.proofs.source.Classes.{MethodFine}
use Rattle.jh_logic.proofs.source.Methods.{declared, MethodAt, method-at, method-code, method-clean, with-params, entry-agrees, params-shaped, body-shaped}
use Rattle.jh_logic.proofs.source.Ghosts.{Left, a_static, a_member, free-target, read-target, ghost-left, left-value}
use Rattle.jh_logic.proofs.source.Covers.{Standing, the_allocated, the_plain, the_objects, the_state, state-same, allocated-same, plain-same, objects-same, item-is, ItemIs, state-stands}

module _ (p : ProgramTree) (placed : IsPlaced p) (clean : faults_of p ≡ []) (shaped : Shaped (program_parts p)) (different : are_different (program_parts p).numbers ≡ true) where
  abbrev l : Declared
  l = declared_in p

  -- the text of a parameter or local is that of no piece of the state
  pub record IsLocalText (x : Text) : Type 0 where
    pub dotless : has_dot x ≡ false
    pub not_alloc : same_text x (codes "alloc") ≡ false
    pub not_object : same_text x (codes "Object") ≡ false
    pub no_class : l.class_named x ≡ None
    pub not_this : same_text x (codes "this") ≡ false
    pub not_result : same_text x (codes "result") ≡ false

  abbrev pub LocalsPlain : Scope → Type 0
  LocalsPlain at = (x : Text) (entry : LocalEntry) → at.local x ≡ Some entry → IsLocalText x

  pub local-plain : (at : Scope) (d : Param) → Shaped (of_param d) → declared_faults l at d ≡ [] → IsLocalText (text_of d.name)
  local-plain at d shape h =
      let x : Text = text_of d.name in
      let listed : Bool = is_one_of x (codes "result" ∷ codes "alloc" ∷ codes "Object" ∷ []) in
      let rule : (listed || is_some (l.class_named x)) ≡ false = not-broken 6 d.name.place (listed || is_some (l.class_named x)) (right-empty (rule_4 l d.jtype ++ rule_5 at d) (rule_6_local l d.name) h) in
      let words : listed ≡ false = or-false-left listed (is_some (l.class_named x)) rule in
      let later : (same_text x (codes "alloc") || (same_text x (codes "Object") || false)) ≡ false = or-false-right (same_text x (codes "result")) (same_text x (codes "alloc") || (same_text x (codes "Object") || false)) words in
      record {
        dotless = declared-no-dot x (shape.declared d.name (has-first d.name []));
        not_alloc = or-false-left (same_text x (codes "alloc")) (same_text x (codes "Object") || false) later;
        not_object = or-false-left (same_text x (codes "Object")) false (or-false-right (same_text x (codes "alloc")) (same_text x (codes "Object") || false) later);
        no_class = absent (l.class_named x) (or-false-right listed (is_some (l.class_named x)) rule);
        not_this = differ x (codes "this") (declared-not-this x (shape.declared d.name (has-first d.name [])));
        not_result = or-false-left (same_text x (codes "result")) (same_text x (codes "alloc") || (same_text x (codes "Object") || false)) words;
      }
    where
      absent : (o : Option ℕ) → is_some o ≡ false → o ≡ None
      absent None g = refl
      absent (Some n) g = absurd (true≢false g)

  pub declare-plain : (is_param : Bool) (at : Scope) (d : Param) → IsLocalText (text_of d.name) → LocalsPlain at → LocalsPlain (declare l is_param at d)
  declare-plain is_param at d plain h x entry g = by (same_text (text_of d.name) x) refl g
    where
      by : (b : Bool) → same_text (text_of d.name) x ≡ b → (if b then Some (local_of l is_param d) else at.local x) ≡ Some entry → IsLocalText x
      by true s f = subst IsLocalText (same-is (text_of d.name) x s) plain
      by false s f = h x entry f

  pub params-plain : (at : Scope) (ds : List Param) → Shaped (all_parts of_param ds) → param_faults l at ds ≡ [] → LocalsPlain at → LocalsPlain (declare_all l at ds)
  unfolding all_parts param_faults declare_all
  params-plain at [] shape h plain = plain
  params-plain at (d ∷ ds) shape h plain = params-plain (declare l true at d) ds (shaped-right (of_param d) (all_parts of_param ds) shape) (right-empty (declared_faults l at d) (param_faults l (declare l true at d) ds) h)
      (declare-plain true at d (local-plain at d (shaped-left (of_param d) (all_parts of_param ds) shape) (left-empty (declared_faults l at d) (param_faults l (declare l true at d) ds) h)) plain)

  abbrev Stands : Written → Type 0
  Stands w = Standing p placed clean shaped w

  abbrev text : Written → Text
  text w = (written_name p w).text

  number-found : (cs : List ClassPart) (n j : ℕ) (d : ClassPart) → slice_get cs j ≡ Some d → class_from n (text_of d.name) cs ≡ None → ⊥
  unfolding class_from
  number-found [] n j d g h = no-none d g
  number-found (x ∷ xs) n zero d g h = by (same_text (text_of x.name) (text_of d.name)) (is-same (text_of x.name) (text_of d.name) (ap (λ (z : ClassPart). text_of z.name) (some-same x d g))) h
    where
      by : (b : Bool) → b ≡ true → (if b then Some n else class_from (n + 1) (text_of d.name) xs) ≡ None → ⊥
      by true f e = no-none n (sym e)
      by false f e = true≢false (sym f)
  number-found (x ∷ xs) n (suc j) d g h = by (same_text (text_of x.name) (text_of d.name)) h (λ e. number-found xs (n + 1) j d g e)
    where
      by : (b : Bool) → (if b then Some n else class_from (n + 1) (text_of d.name) xs) ≡ None → (class_from (n + 1) (text_of d.name) xs ≡ None → ⊥) → ⊥
      by true e rest = no-none n (sym e)
      by false e rest = rest e

  pub local-not-state : (x : Text) → IsLocalText x → (w : Written) → Stands w → x ≡ text w → ⊥
  local-not-state x plain _ the_allocated f = not-same x (codes "alloc") plain.not_alloc f
  local-not-state x plain _ the_plain f = not-same x (codes "Object") plain.not_object f
  local-not-state x plain _ (the_objects n d is) f = number-found p.classes 0 n d is (ap (number_of p) (sym (f ∙ class-text-is p placed clean (dotless p placed clean shaped) n d is)) ∙ plain.no_class)
  local-not-state x plain _ (the_state n y d is) f = true≢false (sym (middle-dot (class_text p n) y) ∙ ap has_dot (sym f) ∙ plain.dotless)

  -- what is assigned to
  module _ (w : Written) (stands : Stands w) (at : Scope) (plain : LocalsPlain at) where
    static-writes : (class : Option ℕ) (v : Word) → target_writes (static_target p class v) (text w) ≡ true → (t : Option Ty) → Contains (member_written p (Some class) t (text_of v)) w
    static-writes None v h t = absurd (true≢false (sym h))
    static-writes (Some n) v h t = subst (Contains (state n (text_of v) ∷ [])) (state-same p placed clean shaped n (text_of v) w stands (same-is (member_text p n (text_of v)) (text w) h)) (has-first (state n (text_of v)) [])

    field-writes : (n : ℕ) (v : Word) (r : ObjectCode) (q : Place) → target_writes (field_target p (Some n) v r q) (text w) ≡ true → state n (text_of v) ≡ w
    field-writes n v r q h = state-same p placed clean shaped n (text_of v) w stands (same-is (member_text p n (text_of v)) (text w) h)

    behind-writes : (t : Option Ty) (v : Word) (r : ObjectCode) (q : Place) → target_writes (field_target p (option_map_or class_of t None) v r q) (text w) ≡ true → Contains (member_written p None t (text_of v)) w
    behind-writes None v r q h = absurd (true≢false (sym h))
    behind-writes (Some u) v r q h = by (class_of u) h
      where
        by : (o : Option ℕ) → target_writes (field_target p o v r q) (text w) ≡ true → Contains (option_map_or (λ k. state k (text_of v) ∷ []) o []) w
        by None g = absurd (true≢false (sym g))
        by (Some n) g = subst (Contains (state n (text_of v) ∷ [])) (field-writes n v r q g) (has-first (state n (text_of v)) [])

    dotted-writes : (spelled : Option (Option ℕ)) (a : ExprTree) (v : Word) → target_writes (dotted_target p at spelled a v) (text w) ≡ true → Contains (member_written p spelled (expr_type l at a).known (text_of v)) w
    dotted-writes (Some class) a v h = static-writes class v h (expr_type l at a).known
    dotted-writes None a v h = behind-writes (expr_type l at a).known v (lowered.as_object (expr_code p a at)) (e.place_of a) h

    own-writes : (v : Word) (x : FieldEntry) (b : Bool) → target_writes (if b then static_target p (Some at.class) v else field_target p (Some at.class) v c.this v.place) (text w) ≡ true → state at.class (text_of v) ≡ w
    own-writes v x true h = state-same p placed clean shaped at.class (text_of v) w stands (same-is (member_text p at.class (text_of v)) (text w) h)
    own-writes v x false h = field-writes at.class v c.this v.place h

    word-writes : (v : Word) (o : Option LocalEntry) → at.local (text_of v) ≡ o → (f : Option FieldEntry) → target_writes (option_map_or (λ (x : LocalEntry). c.to_name (text_of v)) o (option_map_or (own_target p at v) f c.nowhere)) (text w) ≡ true → Contains (if is_some o then [] else state at.class (text_of v) ∷ []) w
    word-writes v (Some x) g f h = absurd (local-not-state (text_of v) (plain (text_of v) x g) w stands (same-is (text_of v) (text w) h))
    word-writes v None g (Some x) h = subst (Contains (state at.class (text_of v) ∷ [])) (own-writes v x x.fixed h) (has-first (state at.class (text_of v)) [])
    word-writes v None g None h = absurd (true≢false (sym h))

    pub target-writes : (a : ExprTree) → target_writes (target_code p at a) (text w) ≡ true → Contains (vars.target_writes p at a) w
    target-writes (e.name q v) h = word-writes v (at.local (text_of v)) refl (l.field_of at.class (text_of v)) h
    target-writes (e.member q a v) h = dotted-writes (class_spelled l at a) a v h
    target-writes (e.null q) h = absurd (true≢false (sym h))
    target-writes (e.yes q) h = absurd (true≢false (sym h))
    target-writes (e.no q) h = absurd (true≢false (sym h))
    target-writes (e.number q z) h = absurd (true≢false (sym h))
    target-writes (e.this q) h = absurd (true≢false (sym h))
    target-writes (e.negation q a) h = absurd (true≢false (sym h))
    target-writes (e.minus q a) h = absurd (true≢false (sym h))
    target-writes (e.binary q o a b) h = absurd (true≢false (sym h))

    -- a new object joins the objects of its class
    new-writes : (v : Word) → (rule_26 l v).faults ≡ [] → same_text (codes "alloc") (text w) || same_text (text_of v) (text w) ≡ true → Contains (class_written p (number_of p (text_of v))) w
    new-writes v h g = ⊎_elim (λ f. alloc-in (number_of p (text_of v)) (allocated-same p placed clean shaped w stands (same-is (codes "alloc") (text w) f))) (λ f. class-in (number_of p (text_of v)) refl (same_text (text_of v) (codes "Object")) refl h (same-is (text_of v) (text w) f)) (or-cases (same_text (codes "alloc") (text w)) (same_text (text_of v) (text w)) g)
      where
        alloc-in : (o : Option ℕ) → allocated ≡ w → Contains (class_written p o) w
        alloc-in None f = subst (Contains (allocated ∷ plain_objects ∷ [])) f (has-first allocated (plain_objects ∷ []))
        alloc-in (Some n) f = subst (Contains (allocated ∷ objects n ∷ [])) f (has-first allocated (objects n ∷ []))

        class-in : (o : Option ℕ) → number_of p (text_of v) ≡ o → (b : Bool) → same_text (text_of v) (codes "Object") ≡ b → (option_map_or (λ u. right u) (option_map_or (λ n. Some (ty.Class n)) o (if b then Some ty.Object else None)) (wrong 26 v.place)).faults ≡ [] → text_of v ≡ text w → Contains (class_written p o) w
        class-in (Some n) f b s u same = let d : ClassAt p n (text_of v) = class-at p (text_of v) n f in
            has-later allocated (objects n ∷ []) w (subst (Contains (objects n ∷ [])) (objects-same p placed clean shaped n d.part d.is w stands (d.text ∙ same)) (has-first (objects n) []))
        class-in None f true s u same = has-later allocated (plain_objects ∷ []) w (subst (Contains (plain_objects ∷ [])) (plain-same p placed clean shaped w stands (sym (same-is (text_of v) (codes "Object") s) ∙ same)) (has-first plain_objects []))
        class-in None f false s u same = absurd (more-not-empty (fault 26 v.place) [] u)

  module _ (ws : Writes) (writes : AreWrites p ws) (m : Callee) (part : MethodPart) (is-part : part_of p m ≡ Some part) (class : ClassPart) (is-class : slice_get p.classes m.class ≡ Some class) (has : Contains class.methods part) (w : Written) (in-state : Contains (all_state p) w) where
    abbrev stands : Stands w
    stands = state-stands p placed clean shaped w in-state

    by-write : (x : InScope) → Contains (method_statements p m.class part) x → Contains (writes_of p x) w → MayWrite p m w
    by-write x i h = directly m w (subst (λ o. Contains (option_map_or (λ (y : MethodPart). flat_map (writes_of p) (method_statements p m.class y)) o []) w) (sym is-part) (flat-has (writes_of p) (method_statements p m.class part) x w i h))

    by-call : (x : InScope) (n : Callee) → Contains (method_statements p m.class part) x → Contains (called_by p x) n → MayWrite p n w → MayWrite p m w
    by-call x n i h may = called m n w (subst (λ o. Contains (option_map_or (λ (y : MethodPart). flat_map (called_by p) (method_statements p m.class y)) o []) n) (sym is-part) (flat-has (called_by p) (method_statements p m.class part) x n i h)) may

    abbrev Inside : List InScope → Type 0
    Inside xs = (x : InScope) → Contains xs x → Contains (method_statements p m.class part) x

    abbrev callee-named : ℕ → List ℕ → Callee
    callee-named n x = record { class = n; name = x }

    -- the method that a call calls
    call-in : (at : Scope) (s : Surroundings) → Agrees at s → (x : CallTree) → (call_type l at x).faults ≡ [] → Contains (calls_of p at x) (callee_of p at x)
    call-in at s agrees x h =
        let is : CallIs p (declared p placed clean shaped) s at agrees x = call-is p (declared p placed clean shaped) s at agrees x h in
        by (callee_class l at x.receiver).known is.class is.looked
      where
        by : (o : Option (Option ℕ × Option Bool)) (n : ℕ) → option_map_or (λ (r : Option ℕ × Option Bool). r.0) o None ≡ Some n →
            Contains (option_map_or (λ (r : Option ℕ × Option Bool). option_map_or (λ k. callee-named k (text_of x.method) ∷ []) r.0 []) o []) (callee-named (option_map_or (λ n. n) (option_map_or (λ (r : Option ℕ × Option Bool). r.0) o None) at.class) (text_of x.method))
        by None n g = absurd (no-none n g)
        by (Some r) n g = subst (λ (o : Option ℕ). Contains (option_map_or (λ k. callee-named k (text_of x.method) ∷ []) o []) (callee-named (option_map_or (λ n. n) o at.class) (text_of x.method))) (sym g) (has-first (callee-named n (text_of x.method)) [])

    -- a right side: a call, a new object, or a value that writes nothing; and what its target writes
    rhs-writes : (at : Scope) (s : Surroundings) → Agrees at s → LocalsPlain at → (x : InScope) → Contains (method_statements p m.class part) x → (q : Place) (target : Target) (r : RhsTree) → (rhs_type l at r).faults ≡ [] →
        (Contains (vars.rhs_writes p r) w → MayWrite p m w) → ((n : Callee) → Contains (rhs_calls p at r) n → MayWrite p n w → MayWrite p m w) → (target_writes target (text w) ≡ true → MayWrite p m w) →
        guard.stmt_writes ws (rhs_code p q at target r) (text w) ≡ true → MayWrite p m w
    rhs-writes at s agrees plain x i q target (st.value a) h f g t b = t b
    rhs-writes at s agrees plain x i q target (st.result_of y) h f g t b = ⊎_elim
        (λ u. g (callee_of p at y) (call-in at s agrees y (then-first (call_type l at y) (rule_24_value (call_place l at y)) h)) ((writes.written (callee_of p at y) w in-state).0 u))
        t (or-cases (ws.written (callee_of p at y) (text w)) (target_writes target (text w)) b)
    rhs-writes at s agrees plain x i q target (st.new v) h f g t b = ⊎_elim
        (λ u. f (new-writes w stands at plain v h u)) t (or-cases (same_text (codes "alloc") (text w) || same_text (text_of v) (text w)) (target_writes target (text w)) b)

    -- a ghost assignment
    ghost-covers : (at : Scope) (x : InScope) → Contains (method_statements p m.class part) x → (a : FormTree) → Left p placed clean shaped at a → (q r : Place) (v : ValueTree) → (Contains (ghost_writes p at a) w → MayWrite p m w) →
        guard.stmt_writes ws (ghost_code q (ghost_target (opened.value_at p (opened.inside k.Obj at) a)) r v) (text w) ≡ true → MayWrite p m w
    ghost-covers at x i a (a_static y is ghost fixed value listed) q r v f b =
        f (subst (λ xs. Contains xs w) (sym listed) (subst (Contains (state y.entry.class y.name ∷ [])) (state-same p placed clean shaped y.entry.class y.name w stands (same-is (text (state y.entry.class y.name)) (text w)
        (subst (λ g. guard.stmt_writes ws (ghost_code q g r v) (text w) ≡ true) (ap ghost_target value ∙ free-target (kind_known y) (state_name (class_text p) y)) b))) (has-first (state y.entry.class y.name) [])))
    ghost-covers at x i a (a_member y is ghost fixed z receiver value listed) q r v f b =
        f (subst (λ xs. Contains xs w) (sym listed) (subst (Contains (state y.entry.class y.name ∷ [])) (state-same p placed clean shaped y.entry.class y.name w stands (same-is (text (state y.entry.class y.name)) (text w)
        (subst (λ g. guard.stmt_writes ws (ghost_code q g r v) (text w) ≡ true) (ap ghost_target value ∙ read-target (kind_known y) (state_name (class_text p) y) z) b))) (has-first (state y.entry.class y.name) [])))

    -- the locals behind a statement
    behind-plain : (at : Scope) (a : StmtTree) → LocalsPlain at → Shaped (stmt_parts a) → stmt_faults l part a at ≡ [] → LocalsPlain (behind l at a)
    unfolding stmt_faults stmt_parts
    behind-plain at (st.local q d r) plain shape h = declare-plain false at d (local-plain at d (shaped-left (of_param d) (some_parts rhs_parts r) shape) (right-empty (of_some (rhs_faults l at (type_of l.class_named d.jtype)) r) (declared_faults l at d) h)) plain
    behind-plain at (st.empty q) plain shape h = plain
    behind-plain at (st.block q ss) plain shape h = plain
    behind-plain at (st.assign q a r) plain shape h = plain
    behind-plain at (st.call q x) plain shape h = plain
    behind-plain at (st.branch q x a b) plain shape h = plain
    behind-plain at (st.loop q xs x a) plain shape h = plain
    behind-plain at (st.return q None) plain shape h = plain
    behind-plain at (st.return q (Some a)) plain shape h = plain
    behind-plain at (st.assert q a) plain shape h = plain
    behind-plain at (st.note q a) plain shape h = plain
    behind-plain at (st.ghost q a b) plain shape h = plain

    mutual
      unfolding stmt_faults stmt_parts stmt_code inner_statements

      stmt-covers : (a : StmtTree) (at : Scope) (s : Surroundings) → Agrees at s → LocalsPlain at → Shaped (stmt_parts a) → stmt_faults l part a at ≡ [] → Inside (standing at a ∷ inner_statements l a at) → guard.stmt_writes ws (stmt_code p a at) (text w) ≡ true → MayWrite p m w
      stmt-covers (st.empty q) at s agrees plain shape h inner b = absurd (true≢false (sym b))
      stmt-covers (st.block q ss) at s agrees plain shape h inner b = stmts-cover ss at s agrees plain shape h (λ x i. inner x (has-later (standing at (st.block q ss)) (all_statements l ss at) x i)) b
      stmt-covers (st.local q d r) at s agrees plain shape h inner b = declaration r refl
        where
          declaration : (o : Option RhsTree) → r ≡ o → MayWrite p m w
          declaration None e = absurd (true≢false (sym (subst (λ o. guard.stmt_writes ws (declaration_code p q at (local_code p d) o) (text w) ≡ true) e b)))
          declaration (Some v) e = rhs-writes at s agrees plain (standing at (st.local q d r)) (inner (standing at (st.local q d r)) (has-first (standing at (st.local q d r)) [])) q (c.to_new (local_code p d)) v
              (left-empty (rhs_type l at v).faults _ (subst (λ o. of_some (rhs_faults l at (type_of l.class_named d.jtype)) o ≡ []) e (left-empty (of_some (rhs_faults l at (type_of l.class_named d.jtype)) r) (declared_faults l at d) h)))
              (λ g. by-write (standing at (st.local q d r)) (inner (standing at (st.local q d r)) (has-first (standing at (st.local q d r)) [])) (subst (λ o. Contains (option_map_or (vars.rhs_writes p) o []) w) (sym e) g))
              (λ n g may. by-call (standing at (st.local q d r)) n (inner (standing at (st.local q d r)) (has-first (standing at (st.local q d r)) [])) (subst (λ o. Contains (option_map_or (rhs_calls p at) o []) n) (sym e) g) may)
              (λ g. absurd (true≢false (sym g)))
              (subst (λ o. guard.stmt_writes ws (declaration_code p q at (local_code p d) o) (text w) ≡ true) e b)
      stmt-covers (st.assign q a r) at s agrees plain shape h inner b =
          let x : InScope = standing at (st.assign q a r) in
          let i = inner x (has-first x []) in
          rhs-writes at s agrees plain x i q (target_code p at a) r
          (left-empty (rhs_type l at r).faults _ (right-empty ((expr_type l at a).faults ++ rule_17 at q a) (rhs_faults l at (expr_type l at a).known r) h))
          (λ g. by-write x i (Contains-append_right (vars.target_writes p at a) (vars.rhs_writes p r) w g))
          (λ n g may. by-call x n i g may)
          (λ g. by-write x i (Contains-append_left (vars.target_writes p at a) (vars.rhs_writes p r) w (target-writes w stands at plain a g))) b
      stmt-covers (st.call q y) at s agrees plain shape h inner b =
          let x : InScope = standing at (st.call q y) in
          ⊎_elim (λ u. by-call x (callee_of p at y) (inner x (has-first x [])) (call-in at s agrees y h) ((writes.written (callee_of p at y) w in-state).0 u)) (λ u. absurd (true≢false (sym u))) (or-cases (ws.written (callee_of p at y) (text w)) false b)
      stmt-covers (st.branch q x a rest) at s agrees plain shape h inner b =
          let test : List Fault = (expr_type l at x >>= rule_20 x).faults in
          let first : List Fault = stmt_faults l part a at in
          let second : List Fault = all_faults l part rest (text_behind at a) in
          ⊎_elim
          (λ u. stmt-covers a at s agrees plain (shaped-left (stmt_parts a) (stmts_parts rest) (shaped-right (expr_parts x) (stmt_parts a and stmts_parts rest) shape)) (right-empty test first (left-empty (test ++ first) second h))
          (λ y i. inner y (has-later (standing at (st.branch q x a rest)) (inner_statements l (st.branch q x a rest) at) y (Contains-append_left (standing at a ∷ inner_statements l a at) (all_statements l rest (text_behind at a)) y i))) u)
          (λ u. stmts-cover rest (text_behind at a) s (record { this = agrees.this; no_this = agrees.no_this; known = agrees.known; unknown = agrees.unknown }) plain (shaped-right (stmt_parts a) (stmts_parts rest) (shaped-right (expr_parts x) (stmt_parts a and stmts_parts rest) shape)) (right-empty (test ++ first) second h)
          (λ y i. inner y (has-later (standing at (st.branch q x a rest)) (inner_statements l (st.branch q x a rest) at) y (Contains-append_right (standing at a ∷ inner_statements l a at) (all_statements l rest (text_behind at a)) y i))) u)
          (or-cases (guard.stmt_writes ws (stmt_code p a at) (text w)) (stmts_write ws (stmts_code p rest (text_behind at a)) (text w)) b)
      stmt-covers (st.loop q claims x a) at s agrees plain shape h inner b =
          let invs : List Fault = flat_map (λ (y : LabelledPart). truth_faults l (inside l at) y.spec) claims in
          let test : List Fault = (expr_type l at x >>= rule_20 x).faults in
          stmt-covers a (in_loop at claims) s (loop-scope p (declared p placed clean shaped) s at agrees claims) plain (shaped-right (expr_parts x) (stmt_parts a) (shaped-right (all_parts labelled_parts claims) (expr_parts x and stmt_parts a) shape)) (right-empty (invs ++ test) (stmt_faults l part a (in_loop at claims)) h)
          (λ y i. inner y (has-later (standing at (st.loop q claims x a)) (inner_statements l (st.loop q claims x a) at) y i)) b
      stmt-covers (st.return q None) at s agrees plain shape h inner b = absurd (true≢false (sym b))
      stmt-covers (st.return q (Some a)) at s agrees plain shape h inner b = absurd (true≢false (sym b))
      stmt-covers (st.assert q a) at s agrees plain shape h inner b = absurd (true≢false (sym b))
      stmt-covers (st.note q a) at s agrees plain shape h inner b = absurd (true≢false (sym b))
      stmt-covers (st.ghost q a r) at s agrees plain shape h inner b =
          let x : InScope = standing at (st.ghost q a r) in
          let i = inner x (has-first x []) in
          ghost-covers at x i a.form (ghost-left p placed clean shaped at s agrees q a.form r.form h) a.place r.place (spec_value p r) (λ g. by-write x i g)
          (subst (λ v. guard.stmt_writes ws (ghost_code a.place (ghost_target v) r.place (spec_value p r)) (text w) ≡ true) (left-value p placed clean shaped different m.class class is-class part has at q a r i) b)

      stmts-cover : (ss : StmtTrees) (at : Scope) (s : Surroundings) → Agrees at s → LocalsPlain at → Shaped (stmts_parts ss) → all_faults l part ss at ≡ [] → Inside (all_statements l ss at) → stmts_write ws (stmts_code p ss at) (text w) ≡ true → MayWrite p m w
      stmts-cover st.none at s agrees plain shape h inner b = absurd (true≢false (sym b))
      stmts-cover (st.more a ss) at s agrees plain shape h inner b =
          let first : List Fault = stmt_faults l part a at in
          let second : List Fault = all_faults l part ss (behind l at a) in
          let here : first ≡ [] = left-empty first second h in
          ⊎_elim
          (λ u. stmt-covers a at s agrees plain (shaped-left (stmt_parts a) (stmts_parts ss) shape) here (λ y i. inner y (Contains-append_left (standing at a ∷ inner_statements l a at) (all_statements l ss (behind l at a)) y i)) u)
          (λ u. stmts-cover ss (behind l at a) (scope_behind (program_of p) s (stmt_code p a at)) (behind-agrees p (declared p placed clean shaped) s at agrees part a (shaped-left (stmt_parts a) (stmts_parts ss) shape) here) (behind-plain at a plain (shaped-left (stmt_parts a) (stmts_parts ss) shape) here) (shaped-right (stmt_parts a) (stmts_parts ss) shape) (right-empty first second h)
          (λ y i. inner y (Contains-append_right (standing at a ∷ inner_statements l a at) (all_statements l ss (behind l at a)) y i)) u)
          (or-cases (guard.stmt_writes ws (stmt_code p a at) (text w)) (stmts_write ws (stmts_code p ss (behind l at a)) (text w)) b)

  -- What the code of a body writes, its method may write.
  pub writes-cover : (ws : Writes) → AreWrites p ws → WritesCover (program_of p) ws
  writes-cover ws writes m x e y i b =
      let r = method-code p m x e in
      let at : MethodAt p m r.0 = method-at p m r.0 r.1 in
      let y-is : ItemIs p placed clean shaped y = item-is p placed clean shaped y i in
      let w : Written = y-is.written in
      let body : stmts_write ws (stmts_code p (r.0).body (entry_scope p m.class r.0)) (text w) ≡ true = subst (λ (z : Method). stmts_write ws z.body (text w) ≡ true) (sym r.2) (subst (λ (z : Text). stmts_write ws x.body z ≡ true) (sym y-is.same) b) in
      let clear : MethodFine l m.class r.0 = method-clean p placed clean shaped m.class at.class at.is r.0 at.stands in
      let may : MayWrite p m w = stmts-cover ws writes m r.0 r.1 at.class at.is at.stands w y-is.stands (r.0).body (entry_scope p m.class r.0) (with-params p (declared p placed clean shaped) (if (r.0).fixed then None else Some m.class) (map (local_code p) (r.0).params))
      (entry-agrees p placed clean shaped m.class at.class at.is r.0 at.stands) (params-plain (outermost m.class (r.0).fixed) (r.0).params (params-shaped p placed clean shaped m.class at.class at.is r.0 at.stands) clear.params (λ z entry g. absurd (no-none entry g)))
      (body-shaped p placed clean shaped m.class at.class at.is r.0 at.stands) clear.body (λ z j. j) body in
      subst (λ (z : Text). ws.written m z ≡ true) y-is.same ((writes.written m w y-is.stands).1 may)
