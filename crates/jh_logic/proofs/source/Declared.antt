-- What the rules find of a class, a field or a method is what the program has.
use Rattle.std.proofs.Common.{◌≡◌, refl, sym, ap, subst, ◌∙◌, ℕ, zero, suc, ◌==◌, Bool, true, false, not, if◌then◌else◌, List, [], ◌∷◌, ◌++◌, map, Option, Some, None, option_map, slice_get, codes, arith, ◌⊎◌, inl, inr, ⊎_elim}
use Rattle.std.specs.List.{Contains}
use Rattle.std.specs.Option.{option_map_or}
use Rattle.std.proofs.lemmas.Bool.{true≢false}
use Rattle.std.proofs.lemmas.List.Elements.{Contains-append_left, Contains-append_right, Contains-append_cases}
use Rattle.jh_name.specs.declared.place.Kind.{Kind}
use Rattle.jh_name.specs.declared.place.Kind.TheVariants as k
use Rattle.jh_name.specs.declared.place.Sort.TheVariants as sort
use Rattle.jh_ast.specs.declared.word.Param.{Param}
use Rattle.jh_ast.specs.Programs.{ProgramTree, ClassPart, FieldPart, VarPart, MethodPart}
use Rattle.jh_form.specs.Sorts.{same_sort}
use Rattle.jh_rules.specs.declared.types.Ty.{Ty}
use Rattle.jh_rules.specs.declared.entries.FieldEntry.{FieldEntry}
use Rattle.jh_rules.specs.declared.entries.MethodEntry.{MethodEntry}
use Rattle.jh_rules.specs.Words.{same_text, text_of, is_before, halves}
use Rattle.jh_rules.specs.Names.{◌then◌, Declared, declared_in, own_name, MemberPart, field, method, var, member_word, members_of, first_named, field_from, method_from, member_of, type_of, number_of, param_type}
use Rattle.jh_rules.specs.Scopes.{Scope, outermost, declare}
use Rattle.jh_rules.specs.Rules.{rule_4, rule_5, rule_6_local}
use Rattle.jh_rules.specs.Statements.{param_faults, declared_faults}
use Rattle.jh_vars.specs.States.{class_text}
use Rattle.jh_vars.specs.Written.{field_piece, method_in, part_of}
use Rattle.jh_vars.specs.state_names.States.{member_sort}
use Rattle.jh_semantics.specs.Code.{Text}
use Rattle.jh_semantics.specs.Program.{Program, class_at}
use Rattle.jh_semantics.specs.Locals.{has_dot}
use Rattle.jh_semantics.specs.LoweredProgram.{program_of}
use Rattle.jh_logic.proofs.source.Lists.{has-first, has-later, has-none, has-cases, at-has, map-has, map-from, at-map, some-same, no-none, left-empty, right-empty, or-false-left, or-false-right}
use Rattle.jh_logic.proofs.source.Texts.{same-is, is-same}
use Rattle.jh_logic.proofs.source.Types.{declared-type}
use Rattle.jh_logic.proofs.source.Classes.{MethodFine, method-fine, ClassAt, class-at, class-fine, same-member}
use Rattle.jh_logic.proofs.source.Members.{member-of, member-stands, field-piece-has}
use Rattle.jh_logic.proofs.source.Environment.{FieldFits, MethodPartFits, Declares}
use Rattle.jh_logic.specs.source.Placed.{IsPlaced}
use Rattle.jh_rules.specs.Breaks.{faults_of}

-- the halves of a text with a dot, behind a first half without one
pub halves-of : (a x : List ℕ) → has_dot a ≡ false → halves ((a ++ codes ".") ++ x) ≡ Some (a, x)
unfolding halves
halves-of [] x e = refl
halves-of (c ∷ cs) x e = by (c == 46) (or-false-left (c == 46) (has_dot cs) e) (halves-of cs x (or-false-right (c == 46) (has_dot cs) e))
  where
    by : (b : Bool) → b ≡ false → halves ((cs ++ codes ".") ++ x) ≡ Some (cs, x) → (if◌then◌else◌ {A = Option (List ℕ × List ℕ)} b (Some ([], (cs ++ codes ".") ++ x)) (option_map (λ p. (c ∷ p.0, p.1)) (halves ((cs ++ codes ".") ++ x)))) ≡ Some (c ∷ cs, x)
    by true f h = absurd (true≢false f)
    by false f h = ap (λ o. option_map (λ (p : List ℕ × List ℕ). (c ∷ p.0, p.1)) o) h

pub own-of : (a x : List ℕ) → has_dot a ≡ false → own_name ((a ++ codes ".") ++ x) ≡ x
own-of a x e = ap (λ o. option_map_or (λ (h : List ℕ × List ℕ). h.1) o ((a ++ codes ".") ++ x)) (halves-of a x e)

-- the first member of a name
pub first-is : (x : List ℕ) (ms : List MemberPart) (m : MemberPart) → first_named x ms ≡ Some m → Contains ms m × (text_of (member_word m) ≡ x)
unfolding first_named
first-is x [] m e = absurd (no-none m e)
first-is x (z ∷ zs) m e = by (same_text (text_of (member_word z)) x) refl (first_named x zs) (λ n f. first-is x zs n f) e
  where
    chosen : (n : MemberPart) → same_text (text_of (member_word z)) x ≡ true → Contains zs n × (text_of (member_word n) ≡ x) → (b : Bool) → (if b then n else z) ≡ m → Contains (z ∷ zs) m × (text_of (member_word m) ≡ x)
    chosen n s f true g = (has-later z zs m (subst (Contains zs) g f.0), ap (λ (w : MemberPart). text_of (member_word w)) (sym g) ∙ f.1)
    chosen n s f false g = (subst (Contains (z ∷ zs)) g (has-first z zs), ap (λ (w : MemberPart). text_of (member_word w)) (sym g) ∙ same-is (text_of (member_word z)) x s)

    by : (b : Bool) → same_text (text_of (member_word z)) x ≡ b → (o : Option MemberPart) → ((n : MemberPart) → o ≡ Some n → Contains zs n × (text_of (member_word n) ≡ x)) → (if b then Some (option_map_or (λ n. if is_before (member_word n).place (member_word z).place then n else z) o z) else o) ≡ Some m → Contains (z ∷ zs) m × (text_of (member_word m) ≡ x)
    by true s None f g = (subst (Contains (z ∷ zs)) (some-same z m g) (has-first z zs), ap (λ (w : MemberPart). text_of (member_word w)) (sym (some-same z m g)) ∙ same-is (text_of (member_word z)) x s)
    by true s (Some n) f g = chosen n s (f n refl) (is_before (member_word n).place (member_word z).place) (some-same (if is_before (member_word n).place (member_word z).place then n else z) m g)
    by false s o f g = let r = f m g in (has-later z zs m r.0, r.1)

pub first-some : (x : List ℕ) (ms : List MemberPart) (m : MemberPart) → Contains ms m → text_of (member_word m) ≡ x → (n : MemberPart) × (first_named x ms ≡ Some n)
unfolding first_named
first-some x [] m i e = absurd (has-none m i)
first-some x (z ∷ zs) m i e = by (same_text (text_of (member_word z)) x) refl (has-cases z zs m i) (λ j. first-some x zs m j e)
  where
    by : (b : Bool) → same_text (text_of (member_word z)) x ≡ b → (z ≡ m) ⊎ Contains zs m → (Contains zs m → (n : MemberPart) × (first_named x zs ≡ Some n)) → (n : MemberPart) × ((if b then Some (option_map_or (λ n. if is_before (member_word n).place (member_word z).place then n else z) (first_named x zs) z) else first_named x zs) ≡ Some n)
    by true s c rest = (option_map_or (λ n. if is_before (member_word n).place (member_word z).place then n else z) (first_named x zs) z, refl)
    by false s (inl h) rest = absurd (true≢false (sym (is-same (text_of (member_word z)) x (ap (λ w. text_of (member_word w)) h ∙ e)) ∙ s))
    by false s (inr j) rest = rest j

-- members are told apart by what they are
as_field : FieldPart → MemberPart → FieldPart
as_field d (field x) = x
as_field d _ = d

as_method : MethodPart → MemberPart → MethodPart
as_method d (method x) = x
as_method d _ = d

as_var : VarPart → MemberPart → VarPart
as_var d (var x) = x
as_var d _ = d

sort_number : MemberPart → ℕ
sort_number (field x) = zero
sort_number (method x) = suc zero
sort_number (var x) = suc (suc zero)

no-less : (zero ≡ suc zero) → ⊥
no-less e = omega (e, arith)

no-two : (zero ≡ suc (suc zero)) → ⊥
no-two e = omega (e, arith)

no-one : (suc zero ≡ suc (suc zero)) → ⊥
no-one e = omega (e, arith)

module _ (c : ClassPart) where
  pub field-in : (x : FieldPart) → Contains (members_of c) (field x) → Contains c.fields x
  unfolding as_field sort_number
  field-in x i = ⊎_elim
      (λ j. ⊎_elim (λ h. let r = map-from field c.fields (field x) h in subst (Contains c.fields) (ap (as_field x) r.2) r.1)
      (λ h. let r = map-from method c.methods (field x) h in absurd (no-less (sym (ap sort_number r.2)))) (Contains-append_cases (map field c.fields) (map method c.methods) (field x) j))
      (λ h. let r = map-from var c.vars (field x) h in absurd (no-two (sym (ap sort_number r.2))))
      (Contains-append_cases (map field c.fields ++ map method c.methods) (map var c.vars) (field x) i)

  pub method-in : (m : MethodPart) → Contains (members_of c) (method m) → Contains c.methods m
  unfolding as_method sort_number
  method-in m i = ⊎_elim
      (λ j. ⊎_elim (λ h. let r = map-from field c.fields (method m) h in absurd (no-less (ap sort_number r.2)))
      (λ h. let r = map-from method c.methods (method m) h in subst (Contains c.methods) (ap (as_method m) r.2) r.1) (Contains-append_cases (map field c.fields) (map method c.methods) (method m) j))
      (λ h. let r = map-from var c.vars (method m) h in absurd (no-one (sym (ap sort_number r.2))))
      (Contains-append_cases (map field c.fields ++ map method c.methods) (map var c.vars) (method m) i)

  pub var-in : (v : VarPart) → Contains (members_of c) (var v) → Contains c.vars v
  unfolding as_var sort_number
  var-in v i = ⊎_elim
      (λ j. ⊎_elim (λ h. let r = map-from field c.fields (var v) h in absurd (no-two (ap sort_number r.2)))
      (λ h. let r = map-from method c.methods (var v) h in absurd (no-one (ap sort_number r.2))) (Contains-append_cases (map field c.fields) (map method c.methods) (var v) j))
      (λ h. let r = map-from var c.vars (var v) h in subst (Contains c.vars) (ap (as_var v) r.2) r.1)
      (Contains-append_cases (map field c.fields ++ map method c.methods) (map var c.vars) (var v) i)

  pub field-member : (x : FieldPart) → Contains c.fields x → Contains (members_of c) (field x)
  field-member x i = Contains-append_left (map field c.fields ++ map method c.methods) (map var c.vars) (field x) (Contains-append_left (map field c.fields) (map method c.methods) (field x) (map-has field c.fields x i))

  pub method-member : (m : MethodPart) → Contains c.methods m → Contains (members_of c) (method m)
  method-member m i = Contains-append_left (map field c.fields ++ map method c.methods) (map var c.vars) (method m) (Contains-append_right (map field c.fields) (map method c.methods) (method m) (map-has method c.methods m i))

  pub var-member : (v : VarPart) → Contains c.vars v → Contains (members_of c) (var v)
  var-member v i = Contains-append_right (map field c.fields ++ map method c.methods) (map var c.vars) (var v) (map-has var c.vars v i)

-- the method of a name
pub method-found : (x : List ℕ) (ms : List MethodPart) (m : MethodPart) → method_in x ms ≡ Some m → Contains ms m × (text_of m.name ≡ x)
unfolding method_in
method-found x [] m e = absurd (no-none m e)
method-found x (z ∷ zs) m e = by (same_text (text_of z.name) x) refl e (λ f. method-found x zs m f)
  where
    by : (b : Bool) → same_text (text_of z.name) x ≡ b → (if b then Some z else method_in x zs) ≡ Some m → (method_in x zs ≡ Some m → Contains zs m × (text_of m.name ≡ x)) → Contains (z ∷ zs) m × (text_of m.name ≡ x)
    by true s g rest = (subst (Contains (z ∷ zs)) (some-same z m g) (has-first z zs), ap (λ (w : MethodPart). text_of w.name) (sym (some-same z m g)) ∙ same-is (text_of z.name) x s)
    by false s g rest = let r = rest g in (has-later z zs m r.0, r.1)

pub method-some : (x : List ℕ) (ms : List MethodPart) (m : MethodPart) → Contains ms m → text_of m.name ≡ x → (n : MethodPart) × (method_in x ms ≡ Some n)
unfolding method_in
method-some x [] m i e = absurd (has-none m i)
method-some x (z ∷ zs) m i e = by (same_text (text_of z.name) x) refl (has-cases z zs m i) (λ j. method-some x zs m j e)
  where
    by : (b : Bool) → same_text (text_of z.name) x ≡ b → (z ≡ m) ⊎ Contains zs m → (Contains zs m → (n : MethodPart) × (method_in x zs ≡ Some n)) → (n : MethodPart) × ((if b then Some z else method_in x zs) ≡ Some n)
    by true s c rest = (z, refl)
    by false s (inl h) rest = absurd (true≢false (sym (is-same (text_of z.name) x (ap (λ (w : MethodPart). text_of w.name) h ∙ e)) ∙ s))
    by false s (inr j) rest = rest j

-- a static is a value and what each object has is a field
pub static-sort : (kind : Kind) (fixed : Bool) → not (same_sort (member_sort kind fixed) sort.Field) ≡ fixed
static-sort kind false = refl
static-sort k.Obj true = refl
static-sort k.Int true = refl
static-sort k.Bool true = refl
static-sort k.Set true = refl

module _ (p : ProgramTree) (placed : IsPlaced p) (clean : faults_of p ≡ []) (dotless : (n : ℕ) (c : ClassPart) → slice_get p.classes n ≡ Some c → has_dot (text_of c.name) ≡ false) where
  abbrev l : Declared
  l = declared_in p

  abbrev P : Program
  P = program_of p

  module _ (n : ℕ) (c : ClassPart) (is : slice_get p.classes n ≡ Some c) where
    pub class-text-is : class_text p n ≡ text_of c.name
    class-text-is = ap (λ o. option_map_or (λ (c : ClassPart). text_of c.name) o []) is

    pub class-at-is : class_at P.classes n ≡ text_of c.name
    class-at-is = ap (λ o. option_map_or (λ (x : Text). x) o []) (at-map (λ (c : ClassPart). text_of c.name) p.classes n c is)

    pub class-stands : Contains P.classes (class_at P.classes n)
    class-stands = subst (Contains P.classes) (sym class-at-is) (map-has (λ (c : ClassPart). text_of c.name) p.classes c (at-has p.classes n c is))

    -- a member of the class is the first of its name
    pub member-found : (m : MemberPart) → Contains (members_of c) m → member_of p n (text_of (member_word m)) ≡ Some m
    member-found m i =
        let f = first-some (text_of (member_word m)) (members_of c) m i refl in
        let g = first-is (text_of (member_word m)) (members_of c) f.0 f.1 in
        ap (λ o. o then λ (class : ClassPart). first_named (text_of (member_word m)) (members_of class)) is ∙ f.1 ∙ ap (λ (z : MemberPart). Some z) (same-member p placed clean n c is f.0 m g.0 i g.1)

    abbrev entry-of : FieldPart → FieldEntry
    entry-of x = record { fixed = x.fixed; ty = type_of (number_of p) x.jtype }

    pub field-found : (x : FieldPart) → Contains c.fields x → l.field_of n (text_of x.name) ≡ Some (entry-of x)
    field-found x i = ap (field_from p) (member-found (field x) (field-member c x i))

    -- the type of a field as a member
    pub field-type : (x : FieldPart) → Contains c.fields x → (member-of p n c (field_piece x)).type ≡ type_of (number_of p) x.jtype
    field-type x i = ap (λ y. option_map_or (λ (f : FieldEntry). f.ty) (l.field_of n y) None) (own-of (text_of c.name) (text_of x.name) (dotless n c is)) ∙ ap (λ o. option_map_or (λ (f : FieldEntry). f.ty) o None) (field-found x i)

    pub field-known : (x : FieldPart) → Contains c.fields x → (u : Ty) × (type_of (number_of p) x.jtype ≡ Some u)
    field-known x i = declared-type p x.jtype (left-empty (rule_4 l x.jtype) _ ((class-fine p placed clean n c is).fields x i))

    pub field-fits : (x : FieldPart) → Contains c.fields x → FieldFits p n (text_of x.name) (entry-of x)
    field-fits x i = record {
      member = member-of p n c (field_piece x);
      type = (field-known x i).0;
      has_type = (field-known x i).1;
      stands = record { stands = member-stands p n c is (field_piece x) (field-piece-has c x i); sort = static-sort (field_piece x).kind x.fixed; has = field-type x i ∙ (field-known x i).1 };
      text = ap (λ (y : Text). (y ++ codes ".") ++ text_of x.name) (sym class-text-is);
      class = class-text-is ∙ sym class-at-is;
    }

    field-by : (x : Text) (o : Option MemberPart) → first_named x (members_of c) ≡ o → (entry : FieldEntry) → field_from p o ≡ Some entry → FieldFits p n x entry
    field-by x None e entry f = absurd (no-none entry f)
    field-by x (Some (method m)) e entry f = absurd (no-none entry f)
    field-by x (Some (var v)) e entry f = absurd (no-none entry f)
    field-by x (Some (field y)) e entry f = let g = first-is x (members_of c) (field y) e in subst (λ (z : Text). FieldFits p n z entry) g.1 (subst (FieldFits p n (text_of y.name)) (some-same (entry-of y) entry f) (field-fits y (field-in c y g.0)))

    -- a method of the class
    pub method-is : (m : MethodPart) → Contains c.methods m → part_of p (record { class = n; name = text_of m.name }) ≡ Some m
    unfolding as_method
    method-is m i =
        let f = method-some (text_of m.name) c.methods m i refl in
        let g = method-found (text_of m.name) c.methods f.0 f.1 in
        let same : method f.0 ≡ method m = same-member p placed clean n c is (method f.0) (method m) (method-member c f.0 g.0) (method-member c m i) g.1 in
        ap (λ o. o then λ (class : ClassPart). method_in (text_of m.name) class.methods) is ∙ f.1 ∙ ap (λ (z : MethodPart). Some z) (as-same f.0 m same)
      where
        as-same : (x y : MethodPart) → method x ≡ method y → x ≡ y
        as-same x y h = ap (as_method x) h

    param-clean : (at : Scope) (ds : List Param) → param_faults l at ds ≡ [] → (d : Param) → Contains ds d → rule_4 l d.jtype ≡ []
    unfolding param_faults
    param-clean at [] h d i = absurd (has-none d i)
    param-clean at (x ∷ xs) h d i =
        let here : declared_faults l at x ≡ [] = left-empty (declared_faults l at x) (param_faults l (declare l true at x) xs) h in
        ⊎_elim (λ e. subst (λ (z : Param). rule_4 l z.jtype ≡ []) e (left-empty (rule_4 l x.jtype) _ (left-empty (rule_4 l x.jtype ++ rule_5 at x) (rule_6_local l x.name) here)))
        (λ j. param-clean (declare l true at x) xs (right-empty (declared_faults l at x) (param_faults l (declare l true at x) xs) h) d j) (has-cases x xs d i)

    method-by : (x : Text) (o : Option MemberPart) → first_named x (members_of c) ≡ o → (entry : MethodEntry) → method_from p o ≡ Some entry → MethodPartFits p n x entry
    method-by x None e entry f = absurd (no-none entry f)
    method-by x (Some (field y)) e entry f = absurd (no-none entry f)
    method-by x (Some (var v)) e entry f = absurd (no-none entry f)
    method-by x (Some (method m)) e entry f =
        let g = first-is x (members_of c) (method m) e in
        let i : Contains c.methods m = method-in c m g.0 in
        let fine : MethodFine l n m = method-fine l n m ((class-fine p placed clean n c is).methods m i) in
        let known = declared-type p m.result fine.result in
        let same : record { fixed = m.fixed; result = type_of (number_of p) m.result; params = map (param_type p) m.params } ≡ entry = some-same (record { fixed = m.fixed; result = type_of (number_of p) m.result; params = map (param_type p) m.params }) entry f in
        record {
          method = m;
          is = subst (λ (z : Text). part_of p (record { class = n; name = z }) ≡ Some m) g.1 (method-is m i);
          fixed = ap (λ (z : MethodEntry). z.fixed) same;
          result = known.0;
          known = known.1;
          entry_result = ap (λ (z : MethodEntry). z.result) (sym same) ∙ known.1;
          params = ap (λ (z : MethodEntry). z.params) (sym same);
          params_known = λ d j. declared-type p d.jtype (param-clean (outermost n m.fixed) m.params fine.params d j);
        }

  -- What is declared is what the program has.
  pub declares : Declares p
  declares = record {
    fields = λ n x entry e. from-field n x entry (slice_get p.classes n) refl e;
    classes = λ x n e. let c : ClassAt p n x = class-at p x n e in record { stands = class-stands n c.part c.is; text = class-at-is n c.part c.is ∙ c.text };
    methods = λ n x entry e. from-method n x entry (slice_get p.classes n) refl e;
  }
    where
      from-field : (n : ℕ) (x : Text) (entry : FieldEntry) (o : Option ClassPart) → slice_get p.classes n ≡ o → field_from p (o then λ class. first_named x (members_of class)) ≡ Some entry → FieldFits p n x entry
      from-field n x entry None f e = absurd (no-none entry e)
      from-field n x entry (Some c) f e = field-by n c f x (first_named x (members_of c)) refl entry e

      from-method : (n : ℕ) (x : Text) (entry : MethodEntry) (o : Option ClassPart) → slice_get p.classes n ≡ o → method_from p (o then λ class. first_named x (members_of class)) ≡ Some entry → MethodPartFits p n x entry
      from-method n x entry None f e = absurd (no-none entry e)
      from-method n x entry (Some c) f e = method-by n c f x (first_named x (members_of c)) refl entry e
