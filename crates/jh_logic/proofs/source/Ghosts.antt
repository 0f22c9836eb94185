-- Ghost assignments in which nothing is wrong assign ghost variables of the program.
use Rattle.std.proofs.Common.{◌≡◌, refl, sym, ap, subst, ◌∙◌, ℕ, Bool, true, false, not, ◌&&◌, ◌||◌, if◌then◌else◌, List, [], ◌∷◌, ◌++◌, Option, Some, None, is_some, option_map, slice_get, codes}
use Rattle.std.specs.List.{Contains}
use Rattle.std.specs.Option.{option_map_or}
use Rattle.std.proofs.lemmas.Bool.{true≢false}
use Rattle.jh_name.specs.declared.naming.Name.{Name}
use Rattle.jh_name.specs.declared.place.Place.{Place}
use Rattle.jh_name.specs.declared.place.Kind.{Kind}
use Rattle.jh_name.specs.declared.place.Kind.TheVariants as k
use Rattle.jh_ast.specs.declared.word.Word.{Word}
use Rattle.jh_ast.specs.Forms.{FormTree, SpecPart}
use Rattle.jh_ast.specs.Forms as f
use Rattle.jh_ast.specs.Stmts as st
use Rattle.jh_ast.specs.Programs.{ProgramTree, ClassPart, MethodPart}
use Rattle.jh_form.specs.Tree.{ValueTree, TermTree}
use Rattle.jh_form.specs.Tree as t
use Rattle.jh_form.specs.Sorts.{tree_sort}
use Rattle.jh_form.specs.Closed.{is_closed_value, is_closed_term}
use Rattle.jh_form.specs.Passing.{value_passes, term_passes}
use Rattle.jh_boxed.specs.Mapped.{mapped_value}
use Rattle.jh_rules.specs.declared.fault.Fault.{Fault}
use Rattle.jh_rules.specs.declared.types.Ty.{Ty}
use Rattle.jh_rules.specs.declared.entries.FieldEntry.{FieldEntry}
use Rattle.jh_rules.specs.declared.entries.LocalEntry.{LocalEntry}
use Rattle.jh_rules.specs.declared.entries.StateEntry.{StateEntry}
use Rattle.jh_rules.specs.Breaks.{faults_of}
use Rattle.jh_rules.specs.Faults.{Judged, wrong, needs, both, second_of, given, ◌>>=◌}
use Rattle.jh_rules.specs.Words.{same_text, is_one_of, text_of, halves}
use Rattle.jh_rules.specs.Kinds.{kind_of, is_obj}
use Rattle.jh_rules.specs.Names.{◌then◌, Declared, declared_in, own_name}
use Rattle.jh_rules.specs.Names as names
use Rattle.jh_rules.specs.Scopes.{Scope}
use Rattle.jh_rules.specs.Rules.{rule_27_field, rule_28, rule_31_target, rule_31_value}
use Rattle.jh_rules.specs.Shape.{program_parts, are_different}
use Rattle.jh_rules.specs.Formulas.{form_kind}
use Rattle.jh_rules.specs.Statements.{of_some, asked, inside, is_ghost_state, is_ghost_target, ghost_faults, stmt_faults}
use Rattle.jh_vars.specs.state_names.States.{sort_of}
use Rattle.jh_vars.specs.States.{State, called, class_text}
use Rattle.jh_vars.specs.Statements.{standing, method_statements}
use Rattle.jh_vars.specs.Written.{state, ghost_writes}
use Rattle.jh_vars.specs.Resolved.{Spot, receiving, own, free, read, as_object, bound_as, kind_known, state_name, static_value, member_value, state_value, state_or_class, outer_value, name_value, this_at, resolved, kind_of_local}
use Rattle.jh_vars.specs.Opened.{value_at, valued, meant, all_definitions}
use Rattle.jh_vars.specs.Opened as opened
use Rattle.jh_semantics.specs.Program.{Program, Member}
use Rattle.jh_semantics.specs.LoweredStmts.{a_name, a_read, ghost_target, of_kind, class_before_dot, ghost_code, spec_value, word_type, stmt_code}
use Rattle.jh_semantics.specs.LoweredProgram.{program_of}
use Rattle.jh_semantics.specs.Typed.{Surroundings, IsGhost, GhostFits, StmtFits}
use Rattle.jh_logic.specs.source.Placed.{IsPlaced}
use Rattle.jh_logic.proofs.source.Lists.{has-first, left-empty, right-empty, no-none, and-left, and-right, not-true, not-false}
use Rattle.jh_logic.proofs.source.Judged.{not-broken, met, then-first}
use Rattle.jh_logic.proofs.source.Texts.{differ}
use Rattle.jh_logic.proofs.source.Shaped.{Shaped}
use Rattle.jh_logic.proofs.source.Environment.{LocalFits, Agrees}
use Rattle.jh_logic.proofs.source.Fine.{Fine, object-fine, number-fine, truth-fine, set-fine}
use Rattle.jh_logic.proofs.source.OfStates.{of_states, value-fine, is-of-states, value-of-states}
use Rattle.jh_logic.proofs.source.Members.{member-of, member-stands}
use Rattle.jh_logic.proofs.source.Declared.{static-sort, class-text-is, halves-of}
use Rattle.jh_logic.proofs.source.Named.{dotless}
use Rattle.jh_logic.proofs.source.States.{IsDeclared, spelled-is, named-is}
use Rattle.jh_logic.proofs.source.Pieces.{PieceIs, piece-is, ghost-plain, kind-known, state-not-this, state-not-result, state-not-alloc, no-class-object}
use Rattle.jh_logic.proofs.source.FormKinds.{Known, kind-sure}
use Rattle.jh_logic.proofs.source.Methods.{declared}
use Rattle.jh_logic.proofs.source.Numbers.{value-is, statement-stands}
use Rattle.jh_logic.proofs.source.Bodies.{GhostsFit}

-- values of a kind
kind-sort : (kind : Kind) (v : ValueTree) → tree_sort (of_kind kind v) ≡ sort_of kind
kind-sort k.Obj v = refl
kind-sort k.Int v = refl
kind-sort k.Bool v = refl
kind-sort k.Set v = refl

kind-fine : (kind : Kind) (v : ValueTree) → Fine of_states 0 v → Fine of_states 0 (of_kind kind v)
kind-fine k.Obj v h = object-fine of_states 0 v h
kind-fine k.Int v h = number-fine of_states 0 v h
kind-fine k.Bool v h = truth-fine of_states 0 v h
kind-fine k.Set v h = set-fine of_states 0 v h

pub free-target : (kind : Kind) (x : Name) → ghost_target (free kind x) ≡ a_name kind x
free-target k.Obj x = refl
free-target k.Int x = refl
free-target k.Bool x = refl
free-target k.Set x = refl

pub read-target : (kind : Kind) (x : Name) (a : TermTree) → ghost_target (read kind x a) ≡ a_read kind x a
read-target k.Obj x a = refl
read-target k.Int x a = refl
read-target k.Bool x a = refl
read-target k.Set x a = refl

module _ (p : ProgramTree) (placed : IsPlaced p) (clean : faults_of p ≡ []) (shaped : Shaped (program_parts p)) where
  abbrev l : Declared
  l = declared_in p

  abbrev P : Program
  P = program_of p

  -- the left side of a ghost assignment: a ghost variable that is static, or one read of one of objects
  pub data Left (at : Scope) (a : FormTree) : Type 0 where
    a_static : (x : State) → IsDeclared p x → x.entry.is_ghost ≡ true → x.entry.fixed ≡ true → value_at p (opened.inside k.Obj at) a ≡ free (kind_known x) (state_name (class_text p) x) → ghost_writes p at a ≡ state x.entry.class x.name ∷ [] → Left at a
    a_member : (x : State) → IsDeclared p x → x.entry.is_ghost ≡ true → x.entry.fixed ≡ false → (r : TermTree) → Fine of_states 0 (t.of_object r) → value_at p (opened.inside k.Obj at) a ≡ read (kind_known x) (state_name (class_text p) x) r → ghost_writes p at a ≡ state x.entry.class x.name ∷ [] → Left at a

  -- a word that names a ghost variable stands for nothing else
  module _ (c : ℕ) (s : StateEntry) where
    ghost-word : (x : List ℕ) → names.state_spelled l c x ≡ Some s → (y : List ℕ) → (names.state_spelled l c y ≡ Some s → ⊥) → same_text x y ≡ false
    ghost-word x e y h = differ x y (λ same. h (ap (names.state_spelled l c) (sym same) ∙ e))

    not-this : names.state_spelled l c (codes "this") ≡ Some s → ⊥
    unfolding halves
    not-this e = state-not-this p placed clean shaped c s e

    not-result : names.state_spelled l c (codes "result") ≡ Some s → ⊥
    unfolding halves
    not-result e = state-not-result p placed clean shaped c s e

    not-alloc : names.state_spelled l c (codes "alloc") ≡ Some s → ⊥
    unfolding halves
    not-alloc e = state-not-alloc p placed clean shaped c s e

    not-both : names.state_spelled l c (codes "Object.alloc") ≡ Some s → ⊥
    unfolding halves
    not-both e = by (l.class_named (codes "Object")) refl e
      where
        by : (o : Option ℕ) → l.class_named (codes "Object") ≡ o → (o then λ d. l.state_of d (codes "alloc")) ≡ Some s → ⊥
        by None g h = no-none s h
        by (Some d) g h = no-class-object p placed clean shaped d g

    not-one-of : (x : List ℕ) → names.state_spelled l c x ≡ Some s → same_text x (codes "Object") ≡ false → is_one_of x (codes "alloc" ∷ codes "Object" ∷ codes "Object.alloc" ∷ []) ≡ false
    not-one-of x e plain = or3 (same_text x (codes "alloc")) (same_text x (codes "Object")) (same_text x (codes "Object.alloc")) (ghost-word x e (codes "alloc") not-alloc) plain (ghost-word x e (codes "Object.alloc") not-both)
      where
        or3 : (a b d : Bool) → a ≡ false → b ≡ false → d ≡ false → (a || (b || (d || false))) ≡ false
        or3 a b d e g h = λ i. e i || (g i || (h i || false))

  module _ (at : Scope) where
    abbrev spot : Spot
    spot = opened.inside k.Obj at

    abbrev meaning : ℕ → List ℕ → ValueTree
    meaning = meant p (all_definitions p)

    -- the value of a word that names a ghost variable
    word-value : (w : Word) (s : StateEntry) → at.local (text_of w) ≡ None → names.state_spelled l at.class (text_of w) ≡ Some s → same_text (text_of w) (codes "Object") ≡ false → name_value l (class_text p) meaning spot w ≡ state_value l (class_text p) meaning spot (called (text_of w) s)
    unfolding bound_as
    word-value w s free-of e plain =
        ap (λ o. option_map_or (λ (x : LocalEntry). free (kind_of_local x) (own (text_of w) 0)) o (outer_value l (class_text p) meaning spot w)) free-of
        ∙ (λ i. if ghost-word at.class s (text_of w) e (codes "this") (not-this at.class s) i then t.of_object (this_at spot) else
        if ghost-word at.class s (text_of w) e (codes "result") (not-result at.class s) i then free k.Obj (own (codes "result") 0) else
        if not-one-of at.class s (text_of w) e plain i then t.of_set (t.free_set (own (codes "alloc") 0)) else state_or_class l (class_text p) meaning spot w)
        ∙ ap (λ o. option_map_or (state_value l (class_text p) meaning spot) (option_map (called (text_of w)) o) (t.of_set (t.free_set (own (text_of w) 0)))) e

    plain-static : (x : State) → x.entry.is_defined ≡ false → static_value l (class_text p) meaning x ≡ free (kind_known x) (state_name (class_text p) x)
    plain-static x e = ap (λ b. if b then meaning x.entry.class x.name else free (kind_known x) (state_name (class_text p) x)) e

    plain-member : (x : State) (a : TermTree) → x.entry.is_defined ≡ false → member_value l (class_text p) meaning x a ≡ read (kind_known x) (state_name (class_text p) x) a
    plain-member x a e = ap (λ b. if b then mapped_value (meaning x.entry.class x.name) (receiving a) 0 else read (kind_known x) (state_name (class_text p) x) a) e

    this-fine : Fine of_states 0 (t.of_object (this_at spot))
    unfolding is_closed_value is_closed_term value_passes term_passes
    this-fine = record { closed = refl; passes = refl }

    word-left : (q : Place) (w : Word) (s : StateEntry) → at.local (text_of w) ≡ None → names.state_spelled l at.class (text_of w) ≡ Some s → same_text (text_of w) (codes "Object") ≡ false → s.is_ghost ≡ true → Left at (f.name q w)
    unfolding resolved
    word-left q w s free-of e plain ghost = by s.fixed refl
      where
        is : IsDeclared p (called (text_of w) s)
        is = spelled-is p at.class (text_of w) (called (text_of w) s) (ap (λ o. option_map (called (text_of w)) o) e)

        writes : ghost_writes p at (f.name q w) ≡ state s.class (called (text_of w) s).name ∷ []
        writes = ap (λ o. option_map_or (λ (y : State). state y.entry.class y.name ∷ []) (option_map (called (text_of w)) o) []) e

        by : (b : Bool) → s.fixed ≡ b → Left at (f.name q w)
        by true h = a_static (called (text_of w) s) is ghost h (word-value w s free-of e plain ∙ ap (λ b. if b then static_value l (class_text p) meaning (called (text_of w) s) else member_value l (class_text p) meaning (called (text_of w) s) (this_at spot)) h ∙ plain-static (called (text_of w) s) (ghost-plain p placed clean shaped (called (text_of w) s) is ghost)) writes
        by false h = a_member (called (text_of w) s) is ghost h (this_at spot) this-fine (word-value w s free-of e plain ∙ ap (λ b. if b then static_value l (class_text p) meaning (called (text_of w) s) else member_value l (class_text p) meaning (called (text_of w) s) (this_at spot)) h ∙ plain-member (called (text_of w) s) (this_at spot) (ghost-plain p placed clean shaped (called (text_of w) s) is ghost)) writes

    unfixed : (w : Word) (s : StateEntry) → names.state_named l at.class (text_of w) ≡ Some s → (rule_27_field l at.class w).faults ≡ [] → s.fixed ≡ false
    unfixed w s e h = not-true s.fixed (met (not s.fixed) 27 w.place s (ap (λ o. (option_map_or (λ (x : StateEntry). needs (not x.fixed) 27 w.place x) o (wrong 27 w.place)).faults) (sym e) ∙ h))

    member-left : (q : Place) (a : FormTree) (w : Word) (s : StateEntry) → names.state_named l at.class (text_of w) ≡ Some s → s.is_ghost ≡ true → (rule_27_field l at.class w).faults ≡ [] → Left at (f.member q a w)
    unfolding resolved
    member-left q a w s e ghost h =
        a_member (called (text_of w) s) is ghost (unfixed w s e h) (as_object (value_at p spot a)) (object-fine of_states 0 (value_at p spot a) (value-of-states p spot a))
        (ap (λ o. option_map_or (λ x. member_value l (class_text p) meaning x (as_object (value_at p spot a))) (option_map (called (text_of w)) o) (t.of_object (as_object (value_at p spot a)))) e ∙ plain-member (called (text_of w) s) (as_object (value_at p spot a)) (ghost-plain p placed clean shaped (called (text_of w) s) is ghost))
        (ap (λ o. option_map_or (λ (y : State). state y.entry.class y.name ∷ []) (option_map (called (text_of w)) o) []) e)
      where
        is : IsDeclared p (called (text_of w) s)
        is = named-is p at.class (text_of w) (called (text_of w) s) (ap (λ o. option_map (called (text_of w)) o) e)

    is-ghost : (o : Option StateEntry) → is_ghost_state l o ≡ true → (s : StateEntry) × (o ≡ Some s) × (s.is_ghost ≡ true)
    is-ghost None h = absurd (true≢false (sym h))
    is-ghost (Some s) h = (s, refl, h)

    pub left-is : (a : FormTree) → is_ghost_target l at a ≡ true → (form_kind l a (inside l at)).faults ≡ [] → Left at a
    unfolding form_kind
    left-is (f.name q w) g h =
        let ghost : Bool = is_ghost_state l (names.state_spelled l at.class (text_of w)) in
        let same : Bool = same_text (text_of w) (codes "Object") in
        let outer : (not same && ghost) ≡ true = and-right (not (is_some (at.local (text_of w)))) (not same && ghost) g in
        let r = is-ghost (names.state_spelled l at.class (text_of w)) (and-right (not same) ghost outer) in
        word-left q w r.0 (absent (at.local (text_of w)) (not-true (is_some (at.local (text_of w))) (and-left (not (is_some (at.local (text_of w)))) (not same && ghost) g))) r.1 (not-true same (and-left (not same) ghost outer)) r.2
      where
        absent : (o : Option LocalEntry) → is_some o ≡ false → o ≡ None
        absent None e = refl
        absent (Some x) e = absurd (true≢false e)
    left-is (f.member q a w) g h =
        let r = is-ghost (names.state_named l at.class (text_of w)) g in
        member-left q a w r.0 r.1 r.2 (right-empty (form_kind l a (inside l at)).faults (rule_27_field l at.class w).faults (then-first (both (form_kind l a (inside l at)) (rule_27_field l at.class w)) (λ u. rule_28 (is_obj u.0) (f.place_of a) k.Obj >>= λ v. given (second_of u).kind) h))
    left-is (f.null q) g h = absurd (true≢false (sym g))
    left-is (f.yes q) g h = absurd (true≢false (sym g))
    left-is (f.no q) g h = absurd (true≢false (sym g))
    left-is (f.univ q) g h = absurd (true≢false (sym g))
    left-is (f.number q z) g h = absurd (true≢false (sym g))
    left-is (f.negation q a) g h = absurd (true≢false (sym g))
    left-is (f.minus q a) g h = absurd (true≢false (sym g))
    left-is (f.old q a) g h = absurd (true≢false (sym g))
    left-is (f.card q a) g h = absurd (true≢false (sym g))
    left-is (f.binary q o a b) g h = absurd (true≢false (sym g))
    left-is (f.dvd q z a) g h = absurd (true≢false (sym g))
    left-is (f.all q ws a) g h = absurd (true≢false (sym g))
    left-is (f.ex q ws a) g h = absurd (true≢false (sym g))
    left-is (f.tree q ws) g h = absurd (true≢false (sym g))
    left-is (f.rtrancl q x y body a b) g h = absurd (true≢false (sym g))
    left-is (f.braces q fs) g h = absurd (true≢false (sym g))
    left-is (f.compr q w a) g h = absurd (true≢false (sym g))

  -- the member that a ghost variable is
  module _ (x : State) (is : IsDeclared p x) (ghost : x.entry.is_ghost ≡ true) where
    abbrev piece : PieceIs p placed clean shaped x
    piece = piece-is p placed clean shaped x is (ghost-plain p placed clean shaped x is ghost)

    abbrev member : Member
    member = member-of p x.entry.class piece.class piece.piece

    pub member-text : member.text ≡ (state_name (class_text p) x).text
    member-text = (λ i. (sym (class-text-is p placed clean (dotless p placed clean shaped) x.entry.class piece.class piece.is) i ++ codes ".") ++ piece.name i)

    no-type : (b : Bool) → b ≡ true → (if b then None else option_map_or (λ (f : FieldEntry). f.ty) (l.field_of x.entry.class (own_name member.text)) None) ≡ None
    no-type true e = refl
    no-type false e = absurd (true≢false (sym e))

    member-ghost : IsGhost P member x.entry.fixed
    member-ghost = record {
      stands = member-stands p x.entry.class piece.class piece.is piece.piece piece.stands;
      sort = static-sort (piece.piece).kind (piece.piece).fixed ∙ piece.fixed;
      has = no-type (piece.piece).is_ghost (piece.ghost ∙ ghost);
    }

    ghost-fits : (b : Bool) → x.entry.fixed ≡ b → (v : ValueTree) → Fine of_states 0 v → GhostFits P b (state_name (class_text p) x).text (of_kind (kind_known x) v) member
    ghost-fits b e v fine = record {
      ghost = subst (λ fixed. IsGhost P member fixed) e member-ghost;
      text = member-text;
      kind = kind-sort (kind_known x) v ∙ ap sort_of (sym piece.kind);
      states = is-of-states p (of_kind (kind_known x) v) (kind-fine (kind_known x) v fine);
    }

    class-is : member.class ≡ class_before_dot (state_name (class_text p) x).text
    class-is =
        let n : ℕ = x.entry.class in
        let text : class_text p n ≡ text_of piece.class.name = class-text-is p placed clean (dotless p placed clean shaped) n piece.class piece.is in
        text ∙ sym (ap (λ o. option_map_or (λ (h : List ℕ × List ℕ). h.0) o []) (ap (λ y. halves ((y ++ codes ".") ++ x.name)) text ∙ halves-of (text_of piece.class.name) x.name (dotless p placed clean shaped n piece.class piece.is)))

  -- a ghost assignment, by the value of its left side
  module _ (result : Ty) (s : Surroundings) (at : Scope) where
    pub code-fits : (a : FormTree) → Left at a → (q r : Place) (v : ValueTree) → Fine of_states 0 v → StmtFits P result (ghost_code q (ghost_target (value_at p (opened.inside k.Obj at) a)) r v) s
    code-fits a (a_static x is ghost fixed value writes) q r v fine = subst (λ u. StmtFits P result (ghost_code q (ghost_target u) r v) s) (sym value)
        (subst (λ g. StmtFits P result (ghost_code q g r v) s) (sym (free-target (kind_known x) (state_name (class_text p) x)))
        (member x is ghost, ghost-fits x is ghost true fixed v fine))
    code-fits a (a_member x is ghost fixed w receiver value writes) q r v fine = subst (λ u. StmtFits P result (ghost_code q (ghost_target u) r v) s) (sym value)
        (subst (λ g. StmtFits P result (ghost_code q g r v) s) (sym (read-target (kind_known x) (state_name (class_text p) x) w))
        (member x is ghost, record { fits = ghost-fits x is ghost false fixed v fine; of_class = class-is x is ghost; receiver = is-of-states p (t.of_object w) receiver }))

  -- the kinds of states are known
  pub spelled-known : (c : ℕ) (x : List ℕ) (s : StateEntry) → names.state_spelled l c x ≡ Some s → (u : Kind) × (s.kind ≡ Some u)
  spelled-known c x s e = kind-known p placed clean shaped s.class (own_name x) s (spelled-is p c x (called x s) (ap (λ o. option_map (called x) o) e))

  pub named-known : (c : ℕ) (x : List ℕ) (s : StateEntry) → names.state_named l c x ≡ Some s → (u : Kind) × (s.kind ≡ Some u)
  named-known c x s e = kind-known p placed clean shaped s.class (own_name x) s (named-is p c x (called x s) (ap (λ o. option_map (called x) o) e))

  scope-known : (at : Scope) (s : Surroundings) → Agrees at s → Known l spelled-known named-known (inside l at)
  scope-known at s agrees = record {
    local = λ x entry e. let h : LocalFits s x entry = agrees.known x entry e in (kind_of h.local.type, ap (λ o. option_map kind_of o) h.has_type);
    result = λ o e. absurd (no-none o e);
  }

  -- nothing is wrong in a ghost assignment: its left side is a ghost variable
  pub ghost-left : (at : Scope) (s : Surroundings) → Agrees at s → (q : Place) (a b : FormTree) → ghost_faults l at q (form_kind l a (inside l at)) (form_kind l b (inside l at)) (is_ghost_target l at a) ≡ [] → Left at a
  ghost-left at s agrees q a b h =
      let left : Judged Kind = form_kind l a (inside l at) in
      let right : Judged Kind = form_kind l b (inside l at) in
      let first : List Fault = asked left (λ u. rule_31_target q (is_ghost_target l at a)) in
      let second : List Fault = asked right (λ v. of_some (λ u. rule_31_value q (u, v)) left.known) in
      let target : List Fault = option_map_or (λ u. rule_31_target q (is_ghost_target l at a)) left.known [] in
      let here : left.faults ++ target ≡ [] = left-empty first second h in
      let known = kind-sure l spelled-known named-known a (inside l at) (scope-known at s agrees) (left-empty left.faults target here) in
      let asked-of : rule_31_target q (is_ghost_target l at a) ≡ [] = ap (λ o. option_map_or (λ u. rule_31_target q (is_ghost_target l at a)) o []) (sym known.1) ∙ right-empty left.faults target here in
      left-is at a (not-false (is_ghost_target l at a) (not-broken 31 q (not (is_ghost_target l at a)) asked-of)) (left-empty left.faults target here)

  module _ (different : are_different (program_parts p).numbers ≡ true) (n : ℕ) (part : ClassPart) (is : slice_get p.classes n ≡ Some part) (m : MethodPart) (stands : Contains part.methods m) where
    -- the value of the left side of a ghost assignment by its number
    pub left-value : (at : Scope) (q : Place) (a b : SpecPart) → Contains (method_statements p n m) (standing at (st.ghost q a b)) → spec_value p a ≡ value_at p (opened.inside k.Obj at) a.form
    left-value at q a b i = value-is p different a (value_at p (opened.inside k.Obj at) a.form)
        (statement-stands p n part is m stands (standing at (st.ghost q a b)) i (a.number, value_at p (opened.inside k.Obj at) a.form) (has-first (a.number, value_at p (opened.inside k.Obj at) a.form) (valued p (opened.inside k.Obj at) b)))

    pub ghosts-fit : GhostsFit p (declared p placed clean shaped) n m
    unfolding stmt_faults stmt_code
    ghosts-fit at s q a b agrees i h =
        subst (λ v. StmtFits P (word_type p m.result) (ghost_code a.place (ghost_target v) b.place (spec_value p b)) s) (sym (left-value at q a b i))
        (code-fits (word_type p m.result) s at a.form (ghost-left at s agrees q a.form b.form h) a.place b.place (spec_value p b) (value-fine p b))
