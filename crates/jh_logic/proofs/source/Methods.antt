-- The methods of a lowered program fit, given what their formulas and their ghost assignments are.
use Rattle.std.proofs.Common.{◌≡◌, refl, sym, ap, subst, ◌∙◌, ℕ, Bool, true, false, not, ◌&&◌, if◌then◌else◌, List, [], ◌∷◌, ◌++◌, map, Option, Some, None, option_map, slice_get, append_assoc, append-nil, ◌⊎◌, inl, inr, ⊎_elim}
use Rattle.std.specs.List.{Contains, flat_map}
use Rattle.std.proofs.lemmas.Bool.{true≢false}
use Rattle.std.proofs.lemmas.List.Elements.{Contains-append_left, Contains-append_right, Contains-append_cases}
use Rattle.jh_name.specs.declared.place.Place.{Place}
use Rattle.jh_ast.specs.declared.word.Param.{Param}
use Rattle.jh_ast.specs.Forms.{SpecPart, LabelledPart}
use Rattle.jh_ast.specs.Stmts.{StmtTree, StmtTrees, RhsTree}
use Rattle.jh_ast.specs.Stmts as st
use Rattle.jh_ast.specs.Programs.{ProgramTree, ClassPart, MethodPart}
use Rattle.jh_form.specs.Tree.{ValueTree}
use Rattle.jh_rules.specs.declared.types.Ty.{Ty}
use Rattle.jh_rules.specs.declared.types.Ty.TheVariants as ty
use Rattle.jh_rules.specs.declared.entries.LocalEntry.{LocalEntry}
use Rattle.jh_rules.specs.Breaks.{faults_of}
use Rattle.jh_rules.specs.Words.{same_text, text_of}
use Rattle.jh_rules.specs.Names.{◌then◌, Declared, declared_in, type_of}
use Rattle.jh_rules.specs.Scopes.{Scope, outermost, declare, declare_all, local_of}
use Rattle.jh_rules.specs.Scopes as scopes
use Rattle.jh_rules.specs.Rules.{is_void_word}
use Rattle.jh_rules.specs.Shape.{◌and◌, all_parts, some_parts, program_parts, method_parts, stmts_parts, of_words, type_words, of_declared, of_param, spec_parts, field_parts, var_parts, def_parts, labelled_parts}
use Rattle.jh_rules.specs.Statements.{declared_faults, param_faults}
use Rattle.jh_vars.specs.Statements.{entry_scope}
use Rattle.jh_vars.specs.Written.{Callee, part_of, method_in}
use Rattle.jh_semantics.specs.Code.{Text, Local, Target, Stmt, Stmts}
use Rattle.jh_semantics.specs.Code as c
use Rattle.jh_semantics.specs.Program.{Program, Method, class_at}
use Rattle.jh_semantics.specs.LoweredStmts.{GhostTarget, a_name, a_read, no_target, ghost_target, ghost_code, spec_value, word_type, local_code, claim_of, labelled_claim, target_code, rhs_code, declaration_code, stmt_code, stmts_code}
use Rattle.jh_semantics.specs.LoweredProgram.{program_of, method_code, class_claims}
use Rattle.jh_semantics.specs.Typed.{Surroundings, AreOfStates, IsType, ParamsFit, MethodFits, ProgramFits, listed, StmtsFit}
use Rattle.jh_semantics.specs.Typed as code
use Rattle.jh_logic.specs.source.Placed.{IsPlaced}
use Rattle.jh_logic.proofs.source.Lists.{has-first, has-none, has-cases, left-empty, right-empty, some-same, no-none, not-false}
use Rattle.jh_logic.proofs.source.Judged.{not-broken}
use Rattle.jh_logic.proofs.source.Texts.{same-is, not-same}
use Rattle.jh_logic.proofs.source.Shaped.{Shaped, shaped-left, shaped-right, shaped-each}
use Rattle.jh_logic.proofs.source.Types.{declared-type, word-known, null-not-named, void-word}
use Rattle.jh_logic.proofs.source.Classes.{MethodFine, method-fine, class-fine}
use Rattle.jh_logic.proofs.source.Named.{class-shaped, dotless, names-fit}
use Rattle.jh_logic.proofs.source.Declared.{method-found, class-stands, declares}
use Rattle.jh_logic.proofs.source.Environment.{Declares, LocalFits, Agrees}
use Rattle.jh_logic.proofs.source.Statements.{type-is, declared-known, may-declare}
use Rattle.jh_logic.proofs.source.Bodies.{ClaimsOfStates, GhostsFit, stmts-fit}

-- Code always returns where the source does.
module _ (p : ProgramTree) where
  rhs-open : (q : Place) (at : Scope) (target : Target) (r : RhsTree) → code.is_closed (rhs_code p q at target r) ≡ false
  rhs-open q at target (st.value a) = refl
  rhs-open q at target (st.result_of x) = refl
  rhs-open q at target (st.new w) = refl

  declaration-open : (q : Place) (at : Scope) (x : Local) (r : Option RhsTree) → code.is_closed (declaration_code p q at x r) ≡ false
  declaration-open q at x None = refl
  declaration-open q at x (Some r) = rhs-open q at (c.to_new x) r

  ghost-open : (q r : Place) (g : GhostTarget) (v : ValueTree) → code.is_closed (ghost_code q g r v) ≡ false
  ghost-open q r (a_name kind x) v = refl
  ghost-open q r (a_read kind x a) v = refl
  ghost-open q r no_target v = refl

  mutual
    unfolding scopes.is_closed stmt_code

    closed-code : (a : StmtTree) (at : Scope) → code.is_closed (stmt_code p a at) ≡ scopes.is_closed a
    closed-code (st.empty q) at = refl
    closed-code (st.block q ss) at = ends-code ss at
    closed-code (st.local q d r) at = declaration-open q at (local_code p d) r
    closed-code (st.assign q a r) at = rhs-open q at (target_code p at a) r
    closed-code (st.call q x) at = refl
    closed-code (st.branch q x a b) at = λ i. closed-code a at i && part-code b (scopes.text_behind at a) i
    closed-code (st.loop q xs x a) at = refl
    closed-code (st.return q None) at = refl
    closed-code (st.return q (Some a)) at = refl
    closed-code (st.assert q a) at = refl
    closed-code (st.note q a) at = refl
    closed-code (st.ghost q a b) at = ghost-open a.place b.place (ghost_target (spec_value p a)) (spec_value p b)

    ends-code : (ss : StmtTrees) (at : Scope) → code.ends_closed (stmts_code p ss at) ≡ scopes.ends_closed ss
    ends-code st.none at = refl
    ends-code (st.more a st.none) at = closed-code a at
    ends-code (st.more a (st.more b ss)) at = ends-code (st.more b ss) (scopes.behind (declared_in p) at a)

    part-code : (ss : StmtTrees) (at : Scope) → code.is_closed_part (stmts_code p ss at) ≡ scopes.is_closed_part ss
    part-code st.none at = refl
    part-code (st.more a ss) at = closed-code a at

module _ (p : ProgramTree) (known : Declares p) (this : Option ℕ) where
  abbrev l : Declared
  l = declared_in p

  abbrev P : Program
  P = program_of p

  abbrev pub with-params : List Local → Surroundings
  with-params params = record { this = this; params = params; locals = [] }

  -- a parameter more in scope
  module _ (at : Scope) (before : List Local) (agrees : Agrees at (with-params before)) (d : Param) (shaped : Shaped (of_param d)) (h : declared_faults l at d ≡ []) where
    abbrev after : List Local
    after = before ++ (local_code p d ∷ [])

    one-of : (y : Local) → Contains before y → Contains (after ++ []) y
    one-of y i = Contains-append_left after [] y (Contains-append_left before (local_code p d ∷ []) y i)

    only-before : (y : Local) → Contains (before ++ []) y → Contains before y
    only-before y i = ⊎_elim (λ j. j) (λ j. absurd (has-none y j)) (Contains-append_cases before [] y i)

    param-known : (x : Text) (entry : LocalEntry) (b : Bool) → same_text (text_of d.name) x ≡ b → (if b then Some (local_of l true d) else at.local x) ≡ Some entry → LocalFits (with-params after) x entry
    param-known x entry true g e = record {
      local = local_code p d;
      stands = Contains-append_left after [] (local_code p d) (Contains-append_right before (local_code p d ∷ []) (local_code p d) (has-first (local_code p d) []));
      text = same-is (text_of d.name) x g;
      has_type = ap (λ (z : LocalEntry). z.ty) (sym (some-same (local_of l true d) entry e)) ∙ (declared-known p known (with-params before) at agrees d shaped h).1
          ∙ ap (λ (u : Ty). Some u) (sym (word-known p d.jtype (declared-known p known (with-params before) at agrees d shaped h).0 (declared-known p known (with-params before) at agrees d shaped h).1));
      assigned = λ q. absurd (true≢false (ap (λ (z : LocalEntry). z.is_param) (some-same (local_of l true d) entry e) ∙ q));
    }
    param-known x entry false g e =
        let f : LocalFits (with-params before) x entry = agrees.known x entry e in
        record { local = f.local; stands = one-of f.local (only-before f.local f.stands); text = f.text; has_type = f.has_type; assigned = λ q. f.assigned q }

    param-unknown : (x : Text) (b : Bool) → same_text (text_of d.name) x ≡ b → (if b then Some (local_of l true d) else at.local x) ≡ None → (y : Local) → Contains (after ++ []) y → y.text ≡ x → ⊥
    param-unknown x true g e y i same = no-none (local_of l true d) (sym e)
    param-unknown x false g e y i same = ⊎_elim
        (λ j. ⊎_elim (λ k. agrees.unknown x e y (Contains-append_left before [] y k) same) (λ k. ⊎_elim (λ f. not-same (text_of d.name) x g (ap (λ (z : Local). z.text) f ∙ same)) (λ f. has-none y f) (has-cases (local_code p d) [] y k)) (Contains-append_cases before (local_code p d ∷ []) y j))
        (λ j. has-none y j) (Contains-append_cases after [] y i)

    params-agree : Agrees (declare l true at d) (with-params after)
    params-agree = record {
      this = agrees.this;
      no_this = agrees.no_this;
      known = λ x entry e. param-known x entry (same_text (text_of d.name) x) refl e;
      unknown = λ x e y i same. param-unknown x (same_text (text_of d.name) x) refl e y i same;
    }

  params-fit : (ds : List Param) (at : Scope) (before : List Local) → Agrees at (with-params before) → Shaped (all_parts of_param ds) → param_faults l at ds ≡ [] → ParamsFit P this before (map (local_code p) ds) × Agrees (declare_all l at ds) (with-params (before ++ map (local_code p) ds))
  unfolding param_faults declare_all all_parts
  params-fit [] at before agrees shaped h = (tt, subst (λ xs. Agrees at (with-params xs)) (sym (append-nil before)) agrees)
  params-fit (d ∷ ds) at before agrees shaped h =
      let here : declared_faults l at d ≡ [] = left-empty (declared_faults l at d) (param_faults l (declare l true at d) ds) h in
      let one : Shaped (of_param d) = shaped-left (of_param d) (all_parts of_param ds) shaped in
      let rest = params-fit ds (declare l true at d) (before ++ (local_code p d ∷ [])) (params-agree at before agrees d one here) (shaped-right (of_param d) (all_parts of_param ds) shaped) (right-empty (declared_faults l at d) (param_faults l (declare l true at d) ds) h) in
      ((may-declare p known (with-params before) at agrees d one here, rest.0), subst (λ xs. Agrees (declare_all l (declare l true at d) ds) (with-params xs)) (append_assoc before (local_code p d ∷ []) (map (local_code p) ds)) rest.1)

-- A method of the program, and where it stands.
pub record MethodAt (p : ProgramTree) (m : Callee) (part : MethodPart) : Type 0 where
  pub class : ClassPart
  pub is : slice_get p.classes m.class ≡ Some class
  pub stands : Contains class.methods part
  pub text : text_of part.name ≡ m.name

pub method-at : (p : ProgramTree) (m : Callee) (part : MethodPart) → part_of p m ≡ Some part → MethodAt p m part
method-at p m part e = by (slice_get p.classes m.class) refl e
  where
    by : (o : Option ClassPart) → slice_get p.classes m.class ≡ o → (o then λ class. method_in m.name class.methods) ≡ Some part → MethodAt p m part
    by None f g = absurd (no-none part g)
    by (Some c) f g = let r = method-found m.name c.methods part g in record { class = c; is = f; stands = r.0; text = r.1 }

pub method-code : (p : ProgramTree) (m : Callee) (x : Method) → (program_of p).method m ≡ Some x → (part : MethodPart) × (part_of p m ≡ Some part) × (method_code p m.class part ≡ x)
method-code p m x e = by (part_of p m) refl e
  where
    by : (o : Option MethodPart) → part_of p m ≡ o → option_map (method_code p m.class) o ≡ Some x → (part : MethodPart) × (part_of p m ≡ Some part) × (method_code p m.class part ≡ x)
    by None f g = absurd (no-none x g)
    by (Some part) f g = (part, f, some-same (method_code p m.class part) x g)

module _ (p : ProgramTree) (placed : IsPlaced p) (clean : faults_of p ≡ []) (shaped : Shaped (program_parts p)) where
  abbrev pub declared : Declares p
  declared = declares p placed clean (dotless p placed clean shaped)

  module _ (n : ℕ) (c : ClassPart) (is : slice_get p.classes n ≡ Some c) (m : MethodPart) (stands : Contains c.methods m) where
    pub method-clean : MethodFine (declared_in p) n m
    method-clean = method-fine (declared_in p) n m ((class-fine p placed clean n c is).methods m stands)

    pub method-shaped : Shaped (method_parts m)
    method-shaped = shaped-each method_parts c.methods
        (shaped-left (all_parts method_parts c.methods) (all_parts var_parts c.vars and all_parts def_parts c.defs and all_parts labelled_parts c.invariants)
        (shaped-right (all_parts field_parts c.fields) (all_parts method_parts c.methods and all_parts var_parts c.vars and all_parts def_parts c.defs and all_parts labelled_parts c.invariants)
        (shaped-right (of_declared c.name) (all_parts field_parts c.fields and all_parts method_parts c.methods and all_parts var_parts c.vars and all_parts def_parts c.defs and all_parts labelled_parts c.invariants) (class-shaped p placed clean shaped n c is)))) m stands

    pub params-shaped : Shaped (all_parts of_param m.params)
    params-shaped = shaped-left (all_parts of_param m.params) (some_parts spec_parts m.pre and of_words m.modifies and some_parts spec_parts m.post and stmts_parts m.body)
        (shaped-right (of_declared m.name) (all_parts of_param m.params and some_parts spec_parts m.pre and of_words m.modifies and some_parts spec_parts m.post and stmts_parts m.body)
        (shaped-right (of_words (type_words m.result)) (of_declared m.name and all_parts of_param m.params and some_parts spec_parts m.pre and of_words m.modifies and some_parts spec_parts m.post and stmts_parts m.body) method-shaped))

    pub body-shaped : Shaped (stmts_parts m.body)
    body-shaped = shaped-right (some_parts spec_parts m.post) (stmts_parts m.body) (shaped-right (of_words m.modifies) (some_parts spec_parts m.post and stmts_parts m.body) (shaped-right (some_parts spec_parts m.pre) (of_words m.modifies and some_parts spec_parts m.post and stmts_parts m.body)
        (shaped-right (all_parts of_param m.params) (some_parts spec_parts m.pre and of_words m.modifies and some_parts spec_parts m.post and stmts_parts m.body)
        (shaped-right (of_declared m.name) (all_parts of_param m.params and some_parts spec_parts m.pre and of_words m.modifies and some_parts spec_parts m.post and stmts_parts m.body)
        (shaped-right (of_words (type_words m.result)) (of_declared m.name and all_parts of_param m.params and some_parts spec_parts m.pre and of_words m.modifies and some_parts spec_parts m.post and stmts_parts m.body) method-shaped)))))

    abbrev this : Option ℕ
    this = if m.fixed then None else Some n

    outermost-agrees : Agrees (outermost n m.fixed) (with-params p declared this [])
    outermost-agrees = record {
      this = λ e. ap (λ (b : Bool). if b then None else Some n) e;
      no_this = λ e. ap (λ (b : Bool). if b then None else Some n) e;
      known = λ x entry e. absurd (no-none entry e);
      unknown = λ x e y i same. has-none y i;
    }

    params-there : ParamsFit (program_of p) this [] (map (local_code p) m.params) × Agrees (entry_scope p n m) (with-params p declared this (map (local_code p) m.params))
    params-there = params-fit p declared this m.params (outermost n m.fixed) [] outermost-agrees params-shaped method-clean.params

    -- the parameters are in scope at the entry
    pub entry-agrees : Agrees (entry_scope p n m) (with-params p declared this (map (local_code p) m.params))
    entry-agrees = params-there.1

    pub result-known : type_of (declared_in p).class_named m.result ≡ Some (word_type p m.result)
    result-known = let r = declared-type p m.result method-clean.result in r.1 ∙ ap (λ (u : Ty). Some u) (sym (word-known p m.result r.0 r.1))

    ended : (word_type p m.result ≡ ty.Void) ⊎ (code.ends_closed (stmts_code p m.body (entry_scope p n m)) ≡ true)
    ended = by (is_void_word m.result) refl (not-broken 25 m.end (not (is_void_word m.result) && not (scopes.ends_closed m.body)) method-clean.end)
      where
        by : (b : Bool) → is_void_word m.result ≡ b → (not b && not (scopes.ends_closed m.body)) ≡ false → (word_type p m.result ≡ ty.Void) ⊎ (code.ends_closed (stmts_code p m.body (entry_scope p n m)) ≡ true)
        by true e h = inl (ap (word_type p) (void-word m.result e))
        by false e h = inr (ends-code p m.body (entry_scope p n m) ∙ not-false (scopes.ends_closed m.body) h)

    module _ (states : ClaimsOfStates p declared n m) (ghosts : GhostsFit p declared n m) where
      contract-states : (a b : Option SpecPart) → AreOfStates (listed (option_map (claim_of p) a) ++ listed (option_map (claim_of p) b))
      contract-states None None = tt
      contract-states None (Some y) = (states y, tt)
      contract-states (Some x) None = (states x, tt)
      contract-states (Some x) (Some y) = (states x, (states y, tt))

      this-class : (b : Bool) → m.fixed ≡ b → (k : ℕ) → (if b then None else Some n) ≡ Some k → Contains (program_of p).classes (class_at (program_of p).classes k)
      this-class true e k h = absurd (no-none k h)
      this-class false e k h = subst (λ (j : ℕ). Contains (program_of p).classes (class_at (program_of p).classes j)) (some-same n k h) (class-stands p placed clean (dotless p placed clean shaped) n c is)

      pub method-fits : MethodFits (program_of p) (method_code p n m)
      method-fits = record {
        of_class = λ k e. this-class m.fixed refl k e;
        params = params-there.0;
        result_type = type-is p declared m.result (word_type p m.result) result-known;
        result_value = null-not-named (declared_in p).class_named m.result (word_type p m.result) result-known;
        body = stmts-fit p declared n m result-known states ghosts m.body (entry_scope p n m) (with-params p declared this (map (local_code p) m.params)) entry-agrees body-shaped method-clean.body (λ x i. i);
        end = ended;
        contract = contract-states m.pre m.post;
      }

  claims-states : (states : (spec : SpecPart) → AreOfStates (claim_of p spec ∷ [])) → (cs : List ClassPart) → AreOfStates (flat_map (class_claims p) cs)
  claims-states states [] = tt
  claims-states states (c ∷ cs) = each c.invariants (claims-states states cs)
    where
      each : (xs : List LabelledPart) → AreOfStates (flat_map (class_claims p) cs) → AreOfStates (map (labelled_claim p) xs ++ flat_map (class_claims p) cs)
      each [] rest = rest
      each (x ∷ xs) rest = ((states x.spec).0, each xs rest)

  -- The program fits.
  pub program-fits : ((spec : SpecPart) → AreOfStates (claim_of p spec ∷ [])) → ((n : ℕ) (c : ClassPart) → slice_get p.classes n ≡ Some c → (m : MethodPart) → Contains c.methods m → GhostsFit p declared n m) → ProgramFits (program_of p)
  program-fits states ghosts = record {
    names = names-fit p placed clean shaped;
    methods = λ m x e. let r = method-code p m x e in let s = method-at p m r.0 r.1 in subst (MethodFits (program_of p)) r.2 (method-fits m.class s.class s.is r.0 s.stands (λ spec. (states spec).0) (ghosts m.class s.class s.is r.0 s.stands));
    invariants = claims-states states p.classes;
  }
