-- The code of statements in which no rule is broken fits its place.
use Rattle.std.proofs.Common.{◌≡◌, refl, sym, ap, subst, ◌∙◌, ℕ, Bool, true, false, not, ◌||◌, ◌⊎◌, inl, inr, if◌then◌else◌, List, [], ◌∷◌, ◌++◌, map, Option, Some, None, is_some, option_map, codes, ⊎_elim}
use Rattle.std.specs.List.{Contains}
use Rattle.std.specs.Option.{option_map_or}
use Rattle.std.proofs.lemmas.Bool.{true≢false}
use Rattle.std.proofs.lemmas.List.Elements.{Contains-append_left, Contains-append_right, Contains-append_cases}
use Rattle.jh_name.specs.declared.place.Place.{Place}
use Rattle.jh_ast.specs.declared.word.Word.{Word}
use Rattle.jh_ast.specs.declared.word.JType.{JType}
use Rattle.jh_ast.specs.declared.word.JType.TheVariants as j
use Rattle.jh_ast.specs.declared.word.Param.{Param}
use Rattle.jh_ast.specs.Exprs.{ExprTree}
use Rattle.jh_ast.specs.Exprs as e
use Rattle.jh_ast.specs.Forms.{LabelledPart}
use Rattle.jh_ast.specs.Stmts.{StmtTree, StmtTrees, RhsTree, CallTree}
use Rattle.jh_ast.specs.Stmts as st
use Rattle.jh_ast.specs.Programs.{ProgramTree, MethodPart}
use Rattle.jh_form.specs.Tree.{ValueTree}
use Rattle.jh_rules.specs.declared.types.Ty.{Ty}
use Rattle.jh_rules.specs.declared.types.Ty.TheVariants as ty
use Rattle.jh_rules.specs.declared.entries.FieldEntry.{FieldEntry}
use Rattle.jh_rules.specs.declared.entries.LocalEntry.{LocalEntry}
use Rattle.jh_rules.specs.Faults.{Judged, right, wrong, fault, ◌>>=◌}
use Rattle.jh_rules.specs.Words.{same_text, text_of}
use Rattle.jh_rules.specs.Kinds.{fits, is_void}
use Rattle.jh_rules.specs.Names.{Declared, declared_in, type_of, kind_of_word}
use Rattle.jh_rules.specs.Scopes.{Scope, behind, text_behind, in_loop, declare, local_of, has_other_sort}
use Rattle.jh_rules.specs.Rules.{rule_4, rule_5, rule_6_local, rule_16, rule_24_value, rule_26, is_void_word}
use Rattle.jh_rules.specs.Shape.{stmt_parts, rhs_parts, of_param, some_parts, is_not_void, may_be_declared}
use Rattle.jh_rules.specs.Exprs.{expr_type, call_type, call_place, class_spelled}
use Rattle.jh_rules.specs.Statements.{of_some, declared_faults, rhs_type, rhs_place, rhs_faults, stmt_faults}
use Rattle.jh_semantics.specs.Code.{Text, ObjectCode, AnyCode, an_object, Local, Target, Claim, Stmt, Stmts}
use Rattle.jh_semantics.specs.Code as c
use Rattle.jh_semantics.specs.Program.{Program}
use Rattle.jh_semantics.specs.Lowered.{receiver_class, expr_code}
use Rattle.jh_semantics.specs.Lowered as lowered
use Rattle.jh_semantics.specs.LoweredStmts.{default_code, GhostTarget, a_name, a_read, no_target, ghost_target, ghost_code, word_type, local_code, static_target, field_target, own_target, dotted_target, spec_value, target_code, callee_of, receiver_code, rhs_code, declaration_code, stmt_code}
use Rattle.jh_semantics.specs.LoweredProgram.{program_of, method_code}
use Rattle.jh_semantics.specs.Typed.{Surroundings, IsType, MayDeclare, of_null, Fits, Takes, new_local, TakesFit, TypeOf, plain_objects, objects_of, ReceiverFits, ResultFits, CallFits, declaring, scope_behind, StmtFits}
use Rattle.jh_logic.proofs.source.Lists.{has-first, has-later, has-cases, more-not-empty, left-empty, right-empty, some-same, no-none, not-false, not-true, or-false-left}
use Rattle.jh_logic.proofs.source.Judged.{not-broken, met, met-known, then-first, then-next, then-known}
use Rattle.jh_logic.proofs.source.Types.{type-not-void, declared-type, word-known}
use Rattle.jh_logic.proofs.source.Texts.{same-is, not-same, declared-no-dot, declared-not-this}
use Rattle.jh_logic.proofs.source.Shaped.{Shaped, shaped-left}
use Rattle.jh_logic.proofs.source.Environment.{ClassFits, MethodPartFits, Declares, LocalFits, Agrees}
use Rattle.jh_logic.proofs.source.Expressions.{TypedBy, typed}
use Rattle.jh_logic.proofs.source.Calls.{CallIs, call-is}

module _ (p : ProgramTree) (declares : Declares p) where
  abbrev l : Declared
  l = declared_in p

  abbrev P : Program
  P = program_of p

  -- the class of a known type is one of the program
  pub type-is : (w : JType) (u : Ty) → type_of l.class_named w ≡ Some u → IsType P u
  type-is j.Int u e = subst (IsType P) (some-same ty.Int u e) tt
  type-is j.Boolean u e = subst (IsType P) (some-same ty.Boolean u e) tt
  type-is j.Void u e = subst (IsType P) (some-same ty.Void u e) tt
  type-is (j.Class w) u e = of-class (l.class_named (text_of w)) refl (same_text (text_of w) (codes "Object")) e
    where
      of-class : (o : Option ℕ) → l.class_named (text_of w) ≡ o → (b : Bool) → option_map_or (λ n. Some (ty.Class n)) o (if b then Some ty.Object else None) ≡ Some u → IsType P u
      of-class (Some n) f b g = subst (IsType P) (some-same (ty.Class n) u g) (declares.classes (text_of w) n f).stands
      of-class None f true g = subst (IsType P) (some-same ty.Object u g) tt
      of-class None f false g = absurd (no-none u g)

  -- the default of a type fits it
  default-fits : (s : Surroundings) (w : JType) (u : Ty) → is_void_word w ≡ false → type_of l.class_named w ≡ Some u → Fits P s (default_code u) u
  default-fits s w ty.Int h e = record { type = ty.Int; has = refl; fit = refl }
  default-fits s w ty.Boolean h e = record { type = ty.Boolean; has = refl; fit = refl }
  default-fits s w ty.Void h e = absurd (type-not-void l.class_named w h ty.Void e refl)
  default-fits s w ty.Null h e = absurd (never-null w e)
    where
      no-null : Ty → Bool
      no-null ty.Null = true
      no-null _ = false

      never-null : (w : JType) → type_of l.class_named w ≡ Some ty.Null → ⊥
      never-null j.Int e = true≢false (ap no-null (sym (some-same ty.Int ty.Null e)))
      never-null j.Boolean e = true≢false (ap no-null (sym (some-same ty.Boolean ty.Null e)))
      never-null j.Void e = true≢false (ap no-null (sym (some-same ty.Void ty.Null e)))
      never-null (j.Class w) e = from (l.class_named (text_of w)) (same_text (text_of w) (codes "Object")) e
        where
          from : (o : Option ℕ) (b : Bool) → option_map_or (λ n. Some (ty.Class n)) o (if b then Some ty.Object else None) ≡ Some ty.Null → ⊥
          from (Some n) b f = true≢false (ap no-null (sym (some-same (ty.Class n) ty.Null f)))
          from None true f = true≢false (ap no-null (sym (some-same ty.Object ty.Null f)))
          from None false f = no-none ty.Null f
  default-fits s w ty.Object h e = record { type = ty.Null; has = of_null; fit = refl }
  default-fits s w (ty.Class n) h e = record { type = ty.Null; has = of_null; fit = refl }

  module _ (s : Surroundings) (at : Scope) (agrees : Agrees at s) where
    -- what isn't in scope yet may be declared
    module _ (d : Param) (shaped : Shaped (of_param d)) (h : declared_faults l at d ≡ []) where
      declared-first : rule_4 l d.jtype ≡ []
      declared-first = left-empty (rule_4 l d.jtype) (rule_5 at d) (left-empty (rule_4 l d.jtype ++ rule_5 at d) (rule_6_local l d.name) h)

      declared-second : rule_5 at d ≡ []
      declared-second = right-empty (rule_4 l d.jtype) (rule_5 at d) (left-empty (rule_4 l d.jtype ++ rule_5 at d) (rule_6_local l d.name) h)

      pub declared-known : (u : Ty) × (type_of l.class_named d.jtype ≡ Some u)
      declared-known = declared-type p d.jtype declared-first

      pub is-absent : at.local (text_of d.name) ≡ None
      is-absent = absent (at.local (text_of d.name)) (or-false-left (is_some (at.local (text_of d.name))) (has_other_sort (kind_of_word d.jtype) (at.earlier (text_of d.name))) (not-broken 5 d.name.place (is_some (at.local (text_of d.name)) || has_other_sort (kind_of_word d.jtype) (at.earlier (text_of d.name))) declared-second))
        where
          absent : (o : Option LocalEntry) → is_some o ≡ false → o ≡ None
          absent None g = refl
          absent (Some x) g = absurd (true≢false g)

      declared-word : may_be_declared (text_of d.name) ≡ true
      declared-word = shaped.declared d.name (has-first d.name [])

      pub may-declare : MayDeclare P s (local_code p d)
      may-declare = record {
        no_state = declared-no-dot (text_of d.name) declared-word;
        not_this = declared-not-this (text_of d.name) declared-word;
        is_new = λ y i same. agrees.unknown (text_of d.name) is-absent y i same;
        type_fits = subst (IsType P) (sym (word-known p d.jtype declared-known.0 declared-known.1)) (type-is d.jtype declared-known.0 declared-known.1);
      }

      pub is-not-void : is_void_word d.jtype ≡ false
      is-not-void = not-void-word d.jtype (shaped.types d.jtype (has-first d.jtype []))
        where
          not-void-word : (w : JType) → is_not_void w ≡ true → is_void_word w ≡ false
          not-void-word j.Int g = refl
          not-void-word j.Boolean g = refl
          not-void-word j.Void g = absurd (true≢false (sym g))
          not-void-word (j.Class w) g = refl

      -- and behind it the scopes agree again
      pub declares-agree : Agrees (declare l false at d) (record s { locals = local_code p d ∷ s.locals })
      declares-agree = record {
        this = agrees.this;
        no_this = agrees.no_this;
        known = λ x entry e. known x entry (same_text (text_of d.name) x) refl e;
        unknown = λ x e y i same. unknown x (same_text (text_of d.name) x) refl e y (Contains-append_cases s.params (local_code p d ∷ s.locals) y i) same;
      }
        where
          inner : (y : Local) → Contains (s.params ++ s.locals) y → Contains (s.params ++ (local_code p d ∷ s.locals)) y
          inner y i = ⊎_elim (λ k. Contains-append_left s.params (local_code p d ∷ s.locals) y k) (λ k. Contains-append_right s.params (local_code p d ∷ s.locals) y (has-later (local_code p d) s.locals y k)) (Contains-append_cases s.params s.locals y i)

          known : (x : Text) (entry : LocalEntry) (b : Bool) → same_text (text_of d.name) x ≡ b → (if b then Some (local_of l false d) else at.local x) ≡ Some entry → LocalFits (record s { locals = local_code p d ∷ s.locals }) x entry
          known x entry true g e = record {
            local = local_code p d;
            stands = Contains-append_right s.params (local_code p d ∷ s.locals) (local_code p d) (has-first (local_code p d) s.locals);
            text = same-is (text_of d.name) x g;
            has_type = ap (λ (z : LocalEntry). z.ty) (sym (some-same (local_of l false d) entry e)) ∙ declared-known.1 ∙ ap (λ (u : Ty). Some u) (sym (word-known p d.jtype declared-known.0 declared-known.1));
            assigned = λ q. has-first (local_code p d) s.locals;
          }
          known x entry false g e =
              let f : LocalFits s x entry = agrees.known x entry e in
              record { local = f.local; stands = inner f.local f.stands; text = f.text; has_type = f.has_type; assigned = λ q. has-later (local_code p d) s.locals f.local (f.assigned q) }

          unknown : (x : Text) (b : Bool) → same_text (text_of d.name) x ≡ b → (if b then Some (local_of l false d) else at.local x) ≡ None → (y : Local) → Contains s.params y ⊎ Contains (local_code p d ∷ s.locals) y → y.text ≡ x → ⊥
          unknown x true g e y i same = no-none (local_of l false d) (sym e)
          unknown x false g e y (inl i) same = agrees.unknown x e y (Contains-append_left s.params s.locals y i) same
          unknown x false g e y (inr i) same = ⊎_elim (λ k. not-same (text_of d.name) x g (ap (λ (z : Local). z.text) k ∙ same)) (λ k. agrees.unknown x e y (Contains-append_right s.params s.locals y k) same) (has-cases (local_code p d) s.locals y i)

    -- the right side of an assignment
    takes-result : (target : Target) (u : Ty) → TakesFit P s target u → ResultFits P s target u
    takes-result c.nowhere u h = tt
    takes-result (c.to_new x) u h = h
    takes-result (c.to_name x) u h = h
    takes-result (c.to_field f r q) u h = h

    fit-by : (q : Place) (value target : Ty) → rule_16 q value target ≡ [] → fits value target ≡ true
    fit-by q value target h = not-false (fits value target) (not-broken 16 q (not (fits value target)) h)

    -- the method of a call, and the call
    module _ (x : CallTree) (h : (call_type l at x).faults ≡ []) where
      abbrev is : CallIs p declares s at agrees x
      is = call-is p declares s at agrees x h

      abbrev part : MethodPartFits p is.class (text_of x.method) is.entry
      part = declares.methods is.class (text_of x.method) is.entry is.found

      pub callee-same : callee_of p at x ≡ record { class = is.class; name = text_of x.method }
      callee-same = ap (λ (o : Option ℕ). record { class = option_map_or (λ n. n) o at.class; name = text_of x.method }) is.looked

      pub called-is : P.method (record { class = is.class; name = text_of x.method }) ≡ Some (method_code p is.class part.method)
      called-is = ap (λ o. option_map (method_code p is.class) o) part.is

      pub call-known : (call_type l at x).known ≡ Some (word_type p part.method.result)
      call-known = is.known ∙ part.entry_result ∙ ap (λ (u : Ty). Some u) (sym (word-known p part.method.result part.result part.known))

      pub call-fits : (target : Target) → ResultFits P s target (word_type p part.method.result) → (is_void (word_type p part.method.result) ≡ true → target ≡ c.nowhere) → CallFits P s target (receiver_code p at (callee_of p at x) x.receiver) (callee_of p at x) (map (λ a. expr_code p a at) x.args)
      call-fits target fit void = subst (λ m. CallFits P s target (receiver_code p at m x.receiver) m (map (λ a. expr_code p a at) x.args)) (sym callee-same) (record {
        method = method_code p is.class part.method;
        is = called-is;
        receiver_fits = subst (λ b. ReceiverFits P s (receiver_code p at (record { class = is.class; name = text_of x.method }) x.receiver) (if b then None else Some is.class)) (sym part.fixed) is.receiver_fits;
        args_fit = is.args_fit;
        result_fits = fit;
        void = void;
      })

    new-type : (w : Word) → (rule_26 l w).faults ≡ [] → (u : Ty) × ((rule_26 l w).known ≡ Some u) × TypeOf P (text_of w) u
    new-type w h = from (l.class_named (text_of w)) refl (same_text (text_of w) (codes "Object")) refl h
      where
        from : (o : Option ℕ) → l.class_named (text_of w) ≡ o → (b : Bool) → same_text (text_of w) (codes "Object") ≡ b →
            (option_map_or (λ u. right u) (option_map_or (λ n. Some (ty.Class n)) o (if b then Some ty.Object else None)) (wrong 26 w.place)).faults ≡ [] →
            (u : Ty) × ((option_map_or (λ u. right u) (option_map_or (λ n. Some (ty.Class n)) o (if b then Some ty.Object else None)) (wrong 26 w.place)).known ≡ Some u) × TypeOf P (text_of w) u
        from (Some n) e b g k = let f : ClassFits p n (text_of w) = declares.classes (text_of w) n e in (ty.Class n, refl, subst (λ x. TypeOf P x (ty.Class n)) f.text (objects_of n f.stands))
        from None e true g k = (ty.Object, refl, subst (λ x. TypeOf P x ty.Object) (sym (same-is (text_of w) (codes "Object") g)) plain_objects)
        from None e false g k = absurd (more-not-empty (fault 26 w.place) [] k)

    module _ (result : Ty) (q : Place) (target : Target) (u : Ty) (takes : Takes P s target u) where
      goes-to : (value : Ty) → fits value u ≡ true → TakesFit P s target value
      goes-to value fit = record { type = u; takes = takes; fit = fit }

      rhs-asked : (r : RhsTree) → rhs_faults l at (Some u) r ≡ [] → (value : Ty) → (rhs_type l at r).known ≡ Some value → fits value u ≡ true
      rhs-asked r h value known = fit-by (rhs_place l at r) value u (ap (λ o. option_map_or (λ v. rule_16 (rhs_place l at r) v u) o []) (sym known) ∙ right-empty (rhs_type l at r).faults (option_map_or (λ v. rule_16 (rhs_place l at r) v u) (rhs_type l at r).known []) h)

      rhs-faultless : (r : RhsTree) → rhs_faults l at (Some u) r ≡ [] → (rhs_type l at r).faults ≡ []
      rhs-faultless r h = left-empty (rhs_type l at r).faults (option_map_or (λ v. rule_16 (rhs_place l at r) v u) (rhs_type l at r).known []) h

      pub rhs-fits : (r : RhsTree) → rhs_faults l at (Some u) r ≡ [] → StmtFits P result (rhs_code p q at target r) s
      rhs-fits (st.value a) h =
          let v : TypedBy p declares s (expr_type l at a) (expr_code p a at) = typed p declares s at agrees a (rhs-faultless (st.value a) h) in
          record { type = v.type; has = v.has; fit = goes-to v.type (rhs-asked (st.value a) h v.type v.known) }
      rhs-fits (st.result_of x) h =
          let not-void : Ty → Judged Ty = rule_24_value (call_place l at x) in
          let asked-all : (call_type l at x >>= not-void).faults ≡ [] = rhs-faultless (st.result_of x) h in
          let clean : (call_type l at x).faults ≡ [] = then-first (call_type l at x) not-void asked-all in
          let known = call-known x clean in
          let value : Ty = word_type p (part x clean).method.result in
          let all-known : (call_type l at x >>= not-void).known ≡ Some value = then-known (call_type l at x) not-void value known ∙ met-known (not (is_void value)) 24 (call_place l at x) value (then-next (call_type l at x) not-void value asked-all known) in
          call-fits x clean target (takes-result target value (goes-to value (rhs-asked (st.result_of x) h value all-known))) (λ e. absurd (true≢false (sym e ∙ not-true (is_void value) (met (not (is_void value)) 24 (call_place l at x) value (then-next (call_type l at x) not-void value asked-all known)))))
      rhs-fits (st.new w) h =
          let v = new-type w (rhs-faultless (st.new w) h) in
          record { type = v.0; is = v.2; fit = goes-to v.0 (rhs-asked (st.new w) h v.0 v.1) }

    -- a declaration, with its value or the default
    pub declaration-fits : (result : Ty) (q : Place) (d : Param) → Shaped (of_param d) → declared_faults l at d ≡ [] → (r : Option RhsTree) → of_some (rhs_faults l at (type_of l.class_named d.jtype)) r ≡ [] → StmtFits P result (declaration_code p q at (local_code p d) r) s
    declaration-fits result q d shaped h None g =
        let known = declared-known d shaped h in
        let v : Fits P s (default_code (word_type p d.jtype)) (word_type p d.jtype) = subst (λ u. Fits P s (default_code u) u) (sym (word-known p d.jtype known.0 known.1)) (default-fits s d.jtype known.0 (is-not-void d shaped h) known.1) in
        record { type = v.type; has = v.has; fit = record { type = word_type p d.jtype; takes = new_local (local_code p d) (may-declare d shaped h); fit = v.fit } }
    declaration-fits result q d shaped h (Some r) g =
        let known = declared-known d shaped h in
        rhs-fits result q (c.to_new (local_code p d)) (word_type p d.jtype) (new_local (local_code p d) (may-declare d shaped h)) r
        (subst (λ (o : Option Ty). rhs_faults l at o r ≡ []) (known.1 ∙ ap (λ (u : Ty). Some u) (sym (word-known p d.jtype known.0 known.1))) g)

    -- what isn't declared leaves the scope as it is
    is_new : Target → Bool
    is_new (c.to_new x) = true
    is_new _ = false

    not-new : (target : Target) → is_new target ≡ false → declaring P s target ≡ s
    unfolding is_new
    not-new c.nowhere e = refl
    not-new (c.to_new x) e = absurd (true≢false e)
    not-new (c.to_name x) e = refl
    not-new (c.to_field f r q) e = refl

    static-old : (class : Option ℕ) (w : Word) → is_new (static_target p class w) ≡ false
    unfolding is_new
    static-old None w = refl
    static-old (Some n) w = refl

    field-old : (class : Option ℕ) (w : Word) (r : ObjectCode) (q : Place) → is_new (field_target p class w r q) ≡ false
    unfolding is_new
    field-old None w r q = refl
    field-old (Some n) w r q = refl

    word-old : (w : Word) (o : Option LocalEntry) (f : Option FieldEntry) → is_new (option_map_or (λ (x : LocalEntry). c.to_name (text_of w)) o (option_map_or (own_target p at w) f c.nowhere)) ≡ false
    unfolding is_new
    word-old w (Some x) f = refl
    word-old w None None = refl
    word-old w None (Some entry) = by entry.fixed
      where
        by : (b : Bool) → is_new (if b then static_target p (Some at.class) w else field_target p (Some at.class) w c.this w.place) ≡ false
        by true = refl
        by false = refl

    dotted-old : (a : ExprTree) (w : Word) (spelled : Option (Option ℕ)) → is_new (dotted_target p at spelled a w) ≡ false
    dotted-old a w (Some class) = static-old class w
    dotted-old a w None = field-old (receiver_class p at a) w (lowered.as_object (expr_code p a at)) (e.place_of a)

    target-old : (a : ExprTree) → is_new (target_code p at a) ≡ false
    unfolding is_new
    target-old (e.name q w) = word-old w (at.local (text_of w)) (l.field_of at.class (text_of w))
    target-old (e.member q a w) = dotted-old a w (class_spelled l at a)
    target-old (e.null q) = refl
    target-old (e.yes q) = refl
    target-old (e.no q) = refl
    target-old (e.number q z) = refl
    target-old (e.this q) = refl
    target-old (e.negation q a) = refl
    target-old (e.minus q a) = refl
    target-old (e.binary q o a b) = refl

    rhs-behind : (q : Place) (target : Target) (r : RhsTree) → scope_behind P s (rhs_code p q at target r) ≡ declaring P s target
    rhs-behind q target (st.value a) = refl
    rhs-behind q target (st.result_of x) = refl
    rhs-behind q target (st.new w) = refl

    declaration-behind : (q : Place) (x : Local) (r : Option RhsTree) → scope_behind P s (declaration_code p q at x r) ≡ record s { locals = x ∷ s.locals }
    declaration-behind q x None = refl
    declaration-behind q x (Some r) = rhs-behind q (c.to_new x) r

    ghost-behind : (q r : Place) (g : GhostTarget) (v : ValueTree) → scope_behind P s (ghost_code q g r v) ≡ s
    ghost-behind q r (a_name kind x) v = refl
    ghost-behind q r (a_read kind x a) v = refl
    ghost-behind q r no_target v = refl

    same-scope : (a : StmtTree) → Agrees (text_behind at a) s
    same-scope a = record { this = agrees.this; no_this = agrees.no_this; known = agrees.known; unknown = agrees.unknown }

    pub loop-scope : (claims : List LabelledPart) → Agrees (in_loop at claims) s
    loop-scope claims = record { this = agrees.this; no_this = agrees.no_this; known = agrees.known; unknown = agrees.unknown }

    -- the scopes agree behind a statement
    pub behind-agrees : (m : MethodPart) (a : StmtTree) → Shaped (stmt_parts a) → stmt_faults l m a at ≡ [] → Agrees (behind l at a) (scope_behind P s (stmt_code p a at))
    unfolding stmt_faults stmt_parts stmt_code
    behind-agrees m (st.empty q) shaped h = same-scope (st.empty q)
    behind-agrees m (st.block q ss) shaped h = same-scope (st.block q ss)
    behind-agrees m (st.local q d r) shaped h = subst (Agrees (declare l false at d)) (sym (declaration-behind q (local_code p d) r)) (declares-agree d (shaped-left (of_param d) (some_parts rhs_parts r) shaped) (right-empty (of_some (rhs_faults l at (type_of l.class_named d.jtype)) r) (declared_faults l at d) h))
    behind-agrees m (st.assign q a r) shaped h = subst (Agrees (text_behind at (st.assign q a r))) (sym (rhs-behind q (target_code p at a) r ∙ not-new (target_code p at a) (target-old a))) (same-scope (st.assign q a r))
    behind-agrees m (st.call q x) shaped h = same-scope (st.call q x)
    behind-agrees m (st.branch q x a b) shaped h = same-scope (st.branch q x a b)
    behind-agrees m (st.loop q is x a) shaped h = same-scope (st.loop q is x a)
    behind-agrees m (st.return q None) shaped h = same-scope (st.return q None)
    behind-agrees m (st.return q (Some a)) shaped h = same-scope (st.return q (Some a))
    behind-agrees m (st.assert q a) shaped h = same-scope (st.assert q a)
    behind-agrees m (st.note q a) shaped h = same-scope (st.note q a)
    behind-agrees m (st.ghost q a b) shaped h = subst (Agrees (text_behind at (st.ghost q a b))) (sym (ghost-behind a.place b.place (ghost_target (spec_value p a)) (spec_value p b))) (same-scope (st.ghost q a b))
