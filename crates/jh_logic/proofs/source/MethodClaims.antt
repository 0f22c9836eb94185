-- The contracts of methods speak of what they may.
use Rattle.std.proofs.Common.{◌≡◌, refl, sym, ap, subst, ◌∙◌, ℕ, ◌==◌, Bool, true, false, not, ◌&&◌, if◌then◌else◌, List, [], ◌∷◌, ◌++◌, map, Option, Some, None, is_some, option_map, slice_get, codes, ◌⊎◌, inl, inr, ⊎_elim}
use Rattle.std.specs.List.{Contains, flat_map, list_any}
use Rattle.std.specs.Option.{option_map_or}
use Rattle.std.proofs.lemmas.Bool.{true≢false}
use Rattle.std.proofs.lemmas.List.Elements.{Contains-append_cases}
use Rattle.jh_name.specs.declared.naming.Name.{Name}
use Rattle.jh_name.specs.declared.place.Kind.{Kind}
use Rattle.jh_name.specs.declared.place.Kind.TheVariants as k
use Rattle.jh_name.specs.declared.place.Sort.{Sort}
use Rattle.jh_name.specs.declared.place.Sort.TheVariants as sort
use Rattle.jh_ast.specs.declared.word.JType.{JType}
use Rattle.jh_ast.specs.declared.word.JType.TheVariants as j
use Rattle.jh_ast.specs.declared.word.Param.{Param}
use Rattle.jh_ast.specs.Forms.{SpecPart, LabelledPart}
use Rattle.jh_ast.specs.Programs.{ProgramTree, ClassPart, MethodPart}
use Rattle.jh_form.specs.Tree.{ValueTree}
use Rattle.jh_form.specs.Sorts.{same_sort}
use Rattle.jh_form.specs.Passing.{name_equal, term_passes, int_passes, set_passes, field_passes, value_passes, formula_passes}
use Rattle.jh_form.proofs.Names.{name_equal-true}
use Rattle.jh_rules.specs.declared.types.Ty.{Ty}
use Rattle.jh_rules.specs.declared.types.Ty.TheVariants as ty
use Rattle.jh_rules.specs.declared.entries.LocalEntry.{LocalEntry}
use Rattle.jh_rules.specs.Breaks.{faults_of}
use Rattle.jh_rules.specs.Faults.{needs_none}
use Rattle.jh_rules.specs.Words.{same_text, text_of}
use Rattle.jh_rules.specs.Kinds.{kind_of, is_void}
use Rattle.jh_rules.specs.Kinds as kinds
use Rattle.jh_rules.specs.Names.{Declared, declared_in, type_of, kind_of_word}
use Rattle.jh_rules.specs.Scopes.{Scope, outermost, declare, declare_all}
use Rattle.jh_rules.specs.Rules.{rule_11, is_void_word}
use Rattle.jh_rules.specs.Shape.{all_parts, of_param, program_parts, are_different, is_not_void}
use Rattle.jh_rules.specs.Formulas.{Where, form_kind, truth_faults}
use Rattle.jh_rules.specs.Statements.{of_some, declared_faults, param_faults, contract_place, result_kind, outside}
use Rattle.jh_vars.specs.state_names.States.{sort_of}
use Rattle.jh_vars.specs.Statements.{entry_scope}
use Rattle.jh_vars.specs.States.{class_text}
use Rattle.jh_vars.specs.Resolved.{Spot, own, at_entry, kind_of_local, as_truth}
use Rattle.jh_vars.specs.Opened.{is_of_objects, meant, all_definitions, value_at, uses_this, invariant_value}
use Rattle.jh_vars.specs.Opened as opened
use Rattle.jh_vars.specs.Written.{Written, state, written_name}
use Rattle.jh_semantics.specs.Code.{Text, Local, Claim}
use Rattle.jh_semantics.specs.State.{named}
use Rattle.jh_semantics.specs.Locals.{has_dot}
use Rattle.jh_semantics.specs.Program.{Program, Method}
use Rattle.jh_semantics.specs.LoweredStmts.{spec_value, word_type, local_code, claim_of, labelled_claim}
use Rattle.jh_semantics.specs.LoweredProgram.{program_of, method_code, class_claims}
use Rattle.jh_guard.specs.Items.{item_text, item_sort, items}
use Rattle.jh_guard.specs.Calls.{this_text, result_text}
use Rattle.jh_logic.specs.logic.MethodContracts.{is_item, is_state, is_param, is_plain, names_now, speaks_before, speaks_after, speaks_of_state, Speaks, AllSpeak, IsValueType, ContractFits, ContractsFit}
use Rattle.jh_logic.specs.source.Placed.{IsPlaced}
use Rattle.jh_logic.proofs.source.Lists.{has-none, has-first, has-later, has-cases, has-at, map-from, any-passes, left-empty, right-empty, both-true, and-left, and-right, no-none, not-true, or-true-left, or-cases}
use Rattle.jh_logic.proofs.source.Judged.{then-first}
use Rattle.jh_logic.proofs.source.Texts.{same-is, is-same, differ}
use Rattle.jh_logic.proofs.source.Shaped.{Shaped, shaped-left, shaped-right, shaped-each}
use Rattle.jh_logic.proofs.source.Types.{type-not-void, kind-of-word}
use Rattle.jh_logic.proofs.source.Passings.{Passing}
use Rattle.jh_logic.proofs.source.Fine.{Test, Fine, truth-fine}
use Rattle.jh_logic.proofs.source.Leaves.{fine-form}
use Rattle.jh_logic.proofs.source.Classes.{class-fine, class-not-result, MethodFine}
use Rattle.jh_logic.proofs.source.Declared.{class-text-is}
use Rattle.jh_logic.proofs.source.Named.{dotless, middle-dot, class-not-this}
use Rattle.jh_logic.proofs.source.Covers.{Standing, the_allocated, the_plain, the_objects, the_state, ItemIs, item-is, state-stands}
use Rattle.jh_logic.proofs.source.Writing.{IsLocalText, LocalsPlain, params-plain, local-plain, local-not-state}
use Rattle.jh_logic.proofs.source.Speaking.{Matches, Speaking, SpeakingOld, MayBeOld, leaves-speak}
use Rattle.jh_logic.proofs.source.Methods.{MethodAt, method-at, method-code, method-clean, params-shaped, entry-agrees, result-known}
use Rattle.jh_logic.proofs.source.Numbers.{value-is, pre-stands, post-stands, invariant-stands}
use Rattle.jh_logic.proofs.source.Contracts.{wider, means-speak, every-speaks}

-- of a list that has something of a test
any-has : {X : Type 0} (f : X → Bool) (xs : List X) → list_any f xs ≡ true → (x : X) × Contains xs x × (f x ≡ true)
any-has f [] h = absurd (true≢false (sym h))
any-has {X = X} f (y ∷ ys) h = by (or-cases (f y) (list_any f ys) h) (λ g. any-has f ys g)
  where
    by : (f y ≡ true) ⊎ (list_any f ys ≡ true) → (list_any f ys ≡ true → (x : X) × Contains ys x × (f x ≡ true)) → (x : X) × Contains (y ∷ ys) x × (f x ≡ true)
    by (inl g) rest = (y, has-first y ys, g)
    by (inr g) rest = let r = rest g in (r.0, has-later y ys r.0 r.1, r.2)

plain-sort : (kind : Kind) → (kind ≡ k.Set → ⊥) → is_plain (sort_of kind) ≡ true
plain-sort k.Obj h = refl
plain-sort k.Int h = refl
plain-sort k.Bool h = refl
plain-sort k.Set h = absurd (h refl)

void-is : (u : Ty) → is_void u ≡ true → u ≡ ty.Void
void-is ty.Int e = absurd (true≢false (sym e))
void-is ty.Boolean e = absurd (true≢false (sym e))
void-is ty.Void e = refl
void-is ty.Null e = absurd (true≢false (sym e))
void-is ty.Object e = absurd (true≢false (sym e))
void-is (ty.Class n) e = absurd (true≢false (sym e))

-- types have no sets and no fields
no-set : (u : Ty) (kind : Kind) → kind_of u ≡ kind → same_sort sort.Set (sort_of kind) ≡ false
no-set ty.Int kind e = ap (λ z. same_sort sort.Set (sort_of z)) (sym e)
no-set ty.Boolean kind e = ap (λ z. same_sort sort.Set (sort_of z)) (sym e)
no-set ty.Void kind e = ap (λ z. same_sort sort.Set (sort_of z)) (sym e)
no-set ty.Null kind e = ap (λ z. same_sort sort.Set (sort_of z)) (sym e)
no-set ty.Object kind e = ap (λ z. same_sort sort.Set (sort_of z)) (sym e)
no-set (ty.Class n) kind e = ap (λ z. same_sort sort.Set (sort_of z)) (sym e)

no-field : (kind : Kind) → same_sort sort.Field (sort_of kind) ≡ false
no-field k.Obj = refl
no-field k.Int = refl
no-field k.Bool = refl
no-field k.Set = refl

same-sorts : (a : Sort) → same_sort a a ≡ true
same-sorts sort.Obj = refl
same-sorts sort.Int = refl
same-sorts sort.Bool = refl
same-sorts sort.Set = refl
same-sorts sort.Field = refl

word-not-set : (w : JType) → kind_of_word w ≡ k.Set → ⊥
word-not-set j.Int e = true≢false (sym (ap kinds.is_set e))
word-not-set j.Boolean e = true≢false (sym (ap kinds.is_set e))
word-not-set j.Void e = true≢false (sym (ap kinds.is_set e))
word-not-set (j.Class w) e = true≢false (sym (ap kinds.is_set e))

module _ (p : ProgramTree) (placed : IsPlaced p) (clean : faults_of p ≡ []) (shaped : Shaped (program_parts p)) (different : are_different (program_parts p).numbers ≡ true) where
  abbrev l : Declared
  l = declared_in p

  abbrev P : Program
  P = program_of p

  -- the text of a piece of the state
  record StateIs (x : Text) : Type 0 where
    written : Written
    stands : Standing p placed clean shaped written
    same : x ≡ (written_name p written).text

  state-is : (x : Text) (a : Sort) → is_state P x a ≡ true → StateIs x
  state-is x a h =
      let r = any-has (is_item x a) (items P) h in
      let i : ItemIs p placed clean shaped r.0 = item-is p placed clean shaped r.0 r.1 in
      record { written = i.written; stands = state-stands p placed clean shaped i.written i.stands; same = ap (λ (z : Name). z.text) (name_equal-true (named x) (named (item_text r.0)) (and-left (name_equal (named x) (named (item_text r.0))) (same_sort a (item_sort r.0)) r.2)) ∙ sym i.same }

  state-not-this : (x : Text) → StateIs x → same_text x (codes "this") ≡ false
  state-not-this x s = ap (λ y. same_text y (codes "this")) s.same ∙ by s.written s.stands
    where
      by : (w : Written) → Standing p placed clean shaped w → same_text (written_name p w).text (codes "this") ≡ false
      by _ the_allocated = refl
      by _ the_plain = refl
      by _ (the_objects n c is) = ap (λ y. same_text y (codes "this")) (class-text-is p placed clean (dotless p placed clean shaped) n c is) ∙ differ (text_of c.name) (codes "this") (class-not-this p placed clean shaped n c is)
      by _ (the_state n y c is) = differ (written_name p (state n y)).text (codes "this") (λ e. true≢false (sym (middle-dot (class_text p n) y) ∙ ap has_dot e))

  state-not-result : (x : Text) → StateIs x → same_text x (codes "result") ≡ false
  state-not-result x s = ap (λ y. same_text y (codes "result")) s.same ∙ by s.written s.stands
    where
      by : (w : Written) → Standing p placed clean shaped w → same_text (written_name p w).text (codes "result") ≡ false
      by _ the_allocated = refl
      by _ the_plain = refl
      by _ (the_objects n c is) = ap (λ y. same_text y (codes "result")) (class-text-is p placed clean (dotless p placed clean shaped) n c is) ∙ differ (text_of c.name) (codes "result") (class-not-result p placed clean n c is)
      by _ (the_state n y c is) = differ (written_name p (state n y)).text (codes "result") (λ e. true≢false (sym (middle-dot (class_text p n) y) ∙ ap has_dot e))

  abbrev meaning : ℕ → List ℕ → ValueTree
  meaning = meant p (all_definitions p)

  scope-class : (at : Scope) (ds : List Param) → (declare_all l at ds).class ≡ at.class
  unfolding declare_all
  scope-class at [] = refl
  scope-class at (d ∷ ds) = scope-class (declare l true at d) ds

  params-local : (at : Scope) (ds : List Param) → Shaped (all_parts of_param ds) → param_faults l at ds ≡ [] → (d : Param) → Contains ds d → IsLocalText p placed clean shaped different (text_of d.name)
  unfolding all_parts param_faults
  params-local at [] shape h d i = absurd (has-none d i)
  params-local at (x ∷ xs) shape h d i = ⊎_elim
      (λ e. subst (λ (z : Param). IsLocalText p placed clean shaped different (text_of z.name)) e (local-plain p placed clean shaped different at x (shaped-left (of_param x) (all_parts of_param xs) shape) (left-empty (declared_faults l at x) (param_faults l (declare l true at x) xs) h)))
      (λ k. params-local (declare l true at x) xs (shaped-right (of_param x) (all_parts of_param xs) shape) (right-empty (declared_faults l at x) (param_faults l (declare l true at x) xs) h) d k) (has-cases x xs d i)

  module _ (n : ℕ) (c : ClassPart) (is : slice_get p.classes n ≡ Some c) (m : MethodPart) (stands : Contains c.methods m) where
    abbrev X : Method
    X = method_code p n m

    abbrev at : Scope
    at = entry_scope p n m

    fine : MethodFine l n m
    fine = method-clean p placed clean shaped n c is m stands

    plain : LocalsPlain p placed clean shaped different at
    plain = params-plain p placed clean shaped different (outermost n m.fixed) m.params (params-shaped p placed clean shaped n c is m stands) fine.params (λ x entry e. absurd (no-none entry e))

    param-in : (x : Text) (entry : LocalEntry) → at.local x ≡ Some entry → is_param X.params x ≡ true
    param-in x entry e =
        let f = (entry-agrees p placed clean shaped n c is m stands).known x entry e in
        any-passes (λ (y : Local). same_text y.text x) X.params f.local (⊎_elim (λ i. i) (λ i. absurd (has-none f.local i)) (Contains-append_cases X.params [] f.local f.stands)) (is-same f.local.text x f.text)

    param-plain : (x : Text) → is_param X.params x ≡ true → IsLocalText p placed clean shaped different x
    param-plain x h =
        let r = any-has (λ (y : Local). same_text y.text x) X.params h in
        let d = map-from (local_code p) m.params r.0 r.1 in
        subst (IsLocalText p placed clean shaped different) (ap (λ (y : Local). y.text) d.2 ∙ same-is (r.0).text x r.2) (params-local (outermost n m.fixed) m.params (params-shaped p placed clean shaped n c is m stands) fine.params d.0 d.1)

    no-param : (x : Text) → (IsLocalText p placed clean shaped different x → ⊥) → is_param X.params x ≡ false
    no-param x h = by (is_param X.params x) refl
      where
        by : (b : Bool) → is_param X.params x ≡ b → b ≡ false
        by true e = absurd (h (param-plain x e))
        by false e = refl

    -- what a name without `old` may be
    names-state : (r : Bool) (x : Text) (a : Sort) → is_state P x a ≡ true → names_now P X r x a ≡ true
    names-state r x a h =
        let s : StateIs x = state-is x a h in
        (λ i. if state-not-this x s i then is_some X.this && same_sort a sort.Obj else if state-not-result x s i then r && (not (is_void X.result) && same_sort a (sort_of (kind_of X.result)))
        else if no-param x (λ q. local-not-state p placed clean shaped different x q s.written s.stands s.same) i then is_plain a else is_state P x a) ∙ h

    kind-not-set : (entry : LocalEntry) → kind_of_local entry ≡ k.Set → ⊥
    kind-not-set entry e = by entry.ty e
      where
        never : (u : Ty) → kind_of u ≡ k.Set → ⊥
        never ty.Int g = true≢false (sym (ap kinds.is_set g))
        never ty.Boolean g = true≢false (sym (ap kinds.is_set g))
        never ty.Void g = true≢false (sym (ap kinds.is_set g))
        never ty.Null g = true≢false (sym (ap kinds.is_set g))
        never ty.Object g = true≢false (sym (ap kinds.is_set g))
        never (ty.Class d) g = true≢false (sym (ap kinds.is_set g))

        by : (o : Option Ty) → option_map_or kind_of o k.Obj ≡ k.Set → ⊥
        by None g = true≢false (sym (ap kinds.is_set g))
        by (Some u) g = never u g

    names-local : (r : Bool) (x : Text) (entry : LocalEntry) → at.local x ≡ Some entry → names_now P X r x (sort_of (kind_of_local entry)) ≡ true
    names-local r x entry e =
        let q = plain x entry e in
        let a : Sort = sort_of (kind_of_local entry) in
        (λ i. if q.not_this i then is_some X.this && same_sort a sort.Obj else if q.not_result i then r && (not (is_void X.result) && same_sort a (sort_of (kind_of X.result)))
        else if param-in x entry e i then is_plain a else is_state P x a) ∙ plain-sort (kind_of_local entry) (kind-not-set entry)

    names-this : (r : Bool) → not m.fixed ≡ true → names_now P X r (codes "this") sort.Obj ≡ true
    names-this r h = by m.fixed (not-true m.fixed h)
      where
        by : (b : Bool) → b ≡ false → (is_some (if b then None else Some n) && true) ≡ true
        by true e = absurd (true≢false e)
        by false e = refl

    some-result : (w : JType) (o : Option Kind) → result_kind l w ≡ Some o → is_void_word w ≡ false
    some-result j.Void o e = absurd (no-none o e)
    some-result j.Int o e = refl
    some-result j.Boolean o e = refl
    some-result (j.Class w) o e = refl

    names-result : (o : Option Kind) → result_kind l m.result ≡ Some o → names_now P X true (codes "result") (sort_of (kind_of_word m.result)) ≡ true
    names-result o e =
        let known : type_of l.class_named m.result ≡ Some X.result = result-known p placed clean shaped n c is m stands in
        both-true (not (is_void X.result)) (same_sort (sort_of (kind_of_word m.result)) (sort_of (kind_of X.result)))
        (by (is_void X.result) refl (λ g. type-not-void l.class_named m.result (some-result m.result o e) X.result known (void-is X.result g)))
        (ap (λ z. same_sort (sort_of (kind_of_word m.result)) (sort_of z)) (kind-of-word l.class_named m.result X.result known) ∙ same-sorts (sort_of (kind_of_word m.result)))
      where
        by : (b : Bool) → is_void X.result ≡ b → (is_void X.result ≡ true → ⊥) → not b ≡ true
        by true g h = absurd (h g)
        by false g h = refl

    -- what isn't `this`, `result` or a parameter is state
    left-state : (r : Bool) (x : Text) (a : Sort) → (same_text x this_text ≡ true → (is_some X.this && same_sort a sort.Obj) ≡ false) → (same_text x result_text ≡ true → (r && (not (is_void X.result) && same_sort a (sort_of (kind_of X.result)))) ≡ false) → (is_param X.params x ≡ true → is_plain a ≡ false) →
        names_now P X r x a ≡ true → is_state P x a ≡ true
    left-state r x a f g h e = by (same_text x this_text) (same_text x result_text) (is_param X.params x) refl refl refl e
      where
        by : (b d q : Bool) → same_text x this_text ≡ b → same_text x result_text ≡ d → is_param X.params x ≡ q →
            (if b then is_some X.this && same_sort a sort.Obj else if d then r && (not (is_void X.result) && same_sort a (sort_of (kind_of X.result))) else if q then is_plain a else is_state P x a) ≡ true → is_state P x a ≡ true
        by true d q u v w z = absurd (true≢false (sym z ∙ f u))
        by false true q u v w z = absurd (true≢false (sym z ∙ g v))
        by false false true u v w z = absurd (true≢false (sym z ∙ h w))
        by false false false u v w z = z

    and-false : (a b : Bool) → b ≡ false → (a && b) ≡ false
    and-false true b e = e
    and-false false b e = refl

    dotted-state : (r : Bool) (x : Text) (a : Sort) → has_dot x ≡ true → names_now P X r x a ≡ true → is_state P x a ≡ true
    dotted-state r x a dot = left-state r x a (λ e. absurd (true≢false (sym dot ∙ ap has_dot (same-is x this_text e)))) (λ e. absurd (true≢false (sym dot ∙ ap has_dot (same-is x result_text e)))) (λ e. absurd (true≢false (sym dot ∙ (param-plain x e).dotless)))

    set-state : (r : Bool) (x : Text) → names_now P X r x sort.Set ≡ true → is_state P x sort.Set ≡ true
    set-state r x = left-state r x sort.Set (λ e. and-false (is_some X.this) false refl) (λ e. and-false r (not (is_void X.result) && same_sort sort.Set (sort_of (kind_of X.result))) (and-false (not (is_void X.result)) (same_sort sort.Set (sort_of (kind_of X.result))) (no-set X.result (kind_of X.result) refl))) (λ e. refl)

    field-state : (r : Bool) (x : Text) → names_now P X r x sort.Field ≡ true → is_state P x sort.Field ≡ true
    field-state r x = left-state r x sort.Field (λ e. and-false (is_some X.this) false refl) (λ e. and-false r (not (is_void X.result) && same_sort sort.Field (sort_of (kind_of X.result))) (and-false (not (is_void X.result)) (same_sort sort.Field (sort_of (kind_of X.result))) (no-field (kind_of X.result)))) (λ e. refl)

    -- the places of `requires` and `ensures`
    abbrev now : Bool → Test
    now r z a = z.turn == 0 && names_now P X r z.text a

    abbrev spot : Spot
    spot = opened.inside (kind_of_word m.result) at

    matches : (old : Bool) (r : Option (Option Kind)) → Matches p placed clean shaped (contract_place l n m old r) spot
    matches old r = record { class = sym (scope-class (outermost n m.fixed) m.params); local = λ x. refl; bound = λ x e. refl }

    means-now : (q : Test) → ((z : Name) (a : Sort) → speaks_of_state P z a ≡ true → q z a ≡ true) → (d : ℕ) (x : List ℕ) → Fine q (if is_of_objects p d x then 1 else 0) (meaning d x)
    means-now q f d x = wider (speaks_of_state P) q f (if is_of_objects p d x then 1 else 0) (meaning d x) (means-speak p placed clean shaped d x)

    state-now : (r : Bool) (z : Name) (a : Sort) → speaks_of_state P z a ≡ true → now r z a ≡ true
    state-now r z a h = both-true (z.turn == 0) (names_now P X r z.text a) (and-left (z.turn == 0) (is_state P z.text a) h) (names-state r z.text a (and-right (z.turn == 0) (is_state P z.text a) h))

    speaking-before : Speaking p placed clean shaped meaning true (speaks_before P X) (contract_place l n m false None) spot
    speaking-before = record {
      local = λ x entry e. names-local false x entry e;
      this = λ u h b. names-this false h;
      result = λ o e. absurd (no-none o e);
      state = λ x a h. names-state false x a h;
      means = means-now (speaks_before P X) (state-now false);
    }

    after-now : (z : Name) (a : Sort) → now true z a ≡ true → speaks_after P X z a ≡ true
    after-now z a h = or-true-left (now true z a) ((z.turn == 1) && is_state P z.text a) h

    speaking-after : Speaking p placed clean shaped meaning true (speaks_after P X) (contract_place l n m true (result_kind l m.result)) spot
    speaking-after = record {
      local = λ x entry e. after-now (own x 0) (sort_of (kind_of_local entry)) (names-local true x entry e);
      this = λ u h b. after-now (own (codes "this") 0) sort.Obj (names-this true h);
      result = λ o e. after-now (own (codes "result") 0) (sort_of (kind_of_word m.result)) (names-result o e);
      state = λ x a h. after-now (own x 0) a (names-state true x a h);
      means = means-now (speaks_after P X) (λ z a h. after-now z a (state-now true z a h));
    }

    at-entry : (x : Name) (a : Sort) → now true x a ≡ true → (b : Bool) → list_any (λ c. c == 46) x.text ≡ b → speaks_after P X (if b then own x.text 1 else x) a ≡ true
    at-entry x a h true e = dotted-state true x.text a e (and-right (x.turn == 0) (names_now P X true x.text a) h)
    at-entry x a h false e = after-now x a h

    entry-passing : Passing at_entry (now true) (speaks_after P X)
    unfolding term_passes int_passes set_passes field_passes formula_passes
    entry-passing = record {
      object = λ x d h. at-entry x sort.Obj h (list_any (λ c. c == 46) x.text) refl;
      number = λ x d h. at-entry x sort.Int h (list_any (λ c. c == 46) x.text) refl;
      truth = λ x d h. at-entry x sort.Bool h (list_any (λ c. c == 46) x.text) refl;
      set = λ x d h. set-state true x.text (and-right (x.turn == 0) (names_now P X true x.text sort.Set) h);
      field = λ x d h. field-state true x.text (and-right (x.turn == 0) (names_now P X true x.text sort.Field) h);
      bound = λ i d. refl;
    }

    old-after : SpeakingOld p placed clean shaped meaning true (speaks_after P X) (contract_place l n m true (result_kind l m.result)) spot
    old-after = record {
      test = now true;
      passing = entry-passing;
      speaking = record {
        local = λ x entry e. names-local true x entry e;
        this = λ u h b. names-this true h;
        result = λ o e. names-result o e;
        state = λ x a h. names-state true x a h;
        means = means-now (now true) (state-now true);
      };
    }

    fine-claim : (q : Test) (there : Where) → Speaking p placed clean shaped meaning true q there spot → MayBeOld p placed clean shaped meaning true q there spot → Matches p placed clean shaped there spot → (spec : SpecPart) → truth_faults l there spec ≡ [] →
        spec_value p spec ≡ value_at p spot spec.form → formula_passes (as_truth (spec_value p spec)) q ≡ true
    unfolding value_passes
    fine-claim q there speaking old match spec h value =
        let clear : (form_kind l spec.form there).faults ≡ [] = then-first (form_kind l spec.form there) (λ u. needs_none (rule_11 spec u)) h in
        let f : Fine q 0 (value_at p spot spec.form) = fine-form l (class_text p) meaning spec.form spot q (leaves-speak p placed clean shaped meaning spec.form true q there spot speaking old match (λ u. refl) clear) in
        (truth-fine q 0 (spec_value p spec) (subst (Fine q 0) (sym value) f)).passes

    requires-speaks : (o : Option SpecPart) → m.pre ≡ o → Speaks (speaks_before P X) (option_map (claim_of p) o)
    requires-speaks None e = tt
    requires-speaks (Some spec) e = fine-claim (speaks_before P X) (contract_place l n m false None) speaking-before (λ g. absurd (true≢false (sym g))) (matches false None) spec
        (ap (of_some (truth_faults l (contract_place l n m false None))) (sym e) ∙ fine.pre)
        (value-is p different spec (value_at p spot spec.form) (pre-stands p n c is m stands spec e))

    ensures-speaks : (o : Option SpecPart) → m.post ≡ o → Speaks (speaks_after P X) (option_map (claim_of p) o)
    ensures-speaks None e = tt
    ensures-speaks (Some spec) e = fine-claim (speaks_after P X) (contract_place l n m true (result_kind l m.result)) speaking-after (λ g. old-after) (matches true (result_kind l m.result)) spec
        (ap (of_some (truth_faults l (contract_place l n m true (result_kind l m.result)))) (sym e) ∙ fine.post)
        (value-is p different spec (value_at p spot spec.form) (post-stands p n c is m stands spec e))

    value-type : (w : JType) → is_not_void w ≡ true → IsValueType (word_type p w)
    value-type j.Int h = tt
    value-type j.Boolean h = tt
    value-type j.Void h = absurd (true≢false (sym h))
    value-type (j.Class w) h = by (l.class_named (text_of w)) (same_text (text_of w) (codes "Object"))
      where
        by : (o : Option ℕ) (b : Bool) → IsValueType (option_map_or (λ x. x) (option_map_or (λ n. Some (ty.Class n)) o (if b then Some ty.Object else None)) ty.Object)
        by (Some n) b = tt
        by None true = tt
        by None false = tt

    pub contract-fits : ContractFits P X
    contract-fits = record {
      param_types = λ y i. let d = map-from (local_code p) m.params y i in
          subst (λ (z : Local). IsValueType z.type) d.2 (value-type (d.0).jtype ((shaped-each of_param m.params (params-shaped p placed clean shaped n c is m stands) d.0 d.1).types (d.0).jtype (has-first (d.0).jtype [])));
      requires = requires-speaks m.pre refl;
      ensures = ensures-speaks m.post refl;
    }

  -- the invariants
  claim-speaks : (n : ℕ) (c : ClassPart) → slice_get p.classes n ≡ Some c → (x : LabelledPart) → Contains c.invariants x → formula_passes (as_truth (spec_value p x.spec)) (speaks_of_state P) ≡ true
  unfolding value_passes
  claim-speaks n c is x i =
      let clear : (form_kind l x.spec.form (outside l n true)).faults ≡ [] = then-first (form_kind l x.spec.form (outside l n true)) (λ u. needs_none (rule_11 x.spec u)) ((class-fine p placed clean n c is).invariants x i) in
      let value : spec_value p x.spec ≡ invariant_value p n c x.spec.form = value-is p different x.spec (invariant_value p n c x.spec.form) (invariant-stands p n c is x i) in
      (truth-fine (speaks_of_state P) 0 (spec_value p x.spec) (subst (Fine (speaks_of_state P) 0) (sym value) (every-speaks p placed clean shaped n c is x.spec.form clear (uses_this p x.spec.form n []) refl))).passes

  class-speaks : (n : ℕ) (c : ClassPart) → slice_get p.classes n ≡ Some c → (xs : List LabelledPart) → ((x : LabelledPart) → Contains xs x → Contains c.invariants x) → (rest : List Claim) → AllSpeak (speaks_of_state P) rest → AllSpeak (speaks_of_state P) (map (labelled_claim p) xs ++ rest)
  class-speaks n c is [] f rest h = h
  class-speaks n c is (x ∷ xs) f rest h = (claim-speaks n c is x (f x (has-first x xs)), class-speaks n c is xs (λ y i. f y (has-later x xs y i)) rest h)

  classes-speak : (cs : List ClassPart) → ((c : ClassPart) → Contains cs c → Contains p.classes c) → AllSpeak (speaks_of_state P) (flat_map (class_claims p) cs)
  classes-speak [] f = tt
  classes-speak (c ∷ cs) f = let r = has-at p.classes c (f c (has-first c cs)) in class-speaks r.0 c r.1 c.invariants (λ x i. i) (flat_map (class_claims p) cs) (classes-speak cs (λ d i. f d (has-later c cs d i)))

  -- Contracts and invariants speak of what they may.
  pub contracts-fit : ContractsFit P
  contracts-fit = record {
    methods = λ m x e. let r = method-code p m x e in let s : MethodAt p m r.0 = method-at p m r.0 r.1 in subst (ContractFits P) r.2 (contract-fits m.class s.class s.is r.0 s.stands);
    invariants = classes-speak p.classes (λ c i. i);
  }
