-- Well-formed states without formulas, and what keeps them so.
use Rattle.std.proofs.Common.{◌≡◌, refl, sym, ap, subst, ◌∙◌, ℕ, ℤ, suc, ◌<◌, ◌⊎◌, inl, inr, ◌==◌, ◌||◌, pos, Bool, true, false, if◌then◌else◌, [], ◌∷◌, Some, codes}
use Rattle.std.specs.List.{Contains}
use Rattle.std.proofs.lemmas.Bool.{true≢false, eqb-true, eq-eqb}
use Rattle.std.proofs.lemmas.List.Elements.{Contains-append_left}
use Rattle.jh_name.specs.declared.naming.Name.{Name}
use Rattle.jh_name.specs.declared.place.Kind.{Kind}
use Rattle.jh_name.specs.declared.place.Kind.TheVariants as k
use Rattle.jh_form.specs.Passing.{name_equal}
use Rattle.jh_form.specs.Meaning.{Fields, Datum, an_object, a_number, a_truth, a_set, a_field, updated}
use Rattle.jh_form.specs.Assigned.{assigned}
use Rattle.jh_form.proofs.Names.{name_equal-true, name_equal-same}
use Rattle.jh_rules.specs.declared.types.Ty.{Ty}
use Rattle.jh_rules.specs.declared.types.Ty.TheVariants as ty
use Rattle.jh_semantics.specs.Code.{Text}
use Rattle.jh_semantics.specs.Program.{Program, Member, class_at}
use Rattle.jh_semantics.specs.State.{State, named, alloc_name, held, stored_at}
use Rattle.jh_semantics.specs.Locals.{has_dot}
use Rattle.jh_semantics.specs.WellFormed.{all_classes}
use Rattle.jh_semantics.specs.Objects.{joining, created}
use Rattle.jh_semantics.specs.Typed.{IsType, NamesFit}
use Rattle.jh_semantics.specs.Laws.{Grew}
use Rattle.jh_semantics.proofs.Growth.{created-sets}
use Rattle.jh_rules.specs.Kinds.{kind_of}

-- a field has the default of a kind at an object
abbrev pub IsDefault : ℕ → Kind → Fields → ℕ → Type 0
IsDefault n k.Obj f a = f.objects a ≡ 0
IsDefault n k.Int f a = f.numbers a ≡ pos 0
IsDefault n k.Bool f a = f.truths a ≡ false
IsDefault n k.Set f a = (b : ℕ) → b < suc n → f.sets a b ≡ false

module _ (p : Program) where
  abbrev pub IsClass : Text → Type 0
  IsClass c = Contains (all_classes p.classes) c

  -- an object lies in a type of objects; nothing is said of other types
  abbrev pub ObjectLies : Ty → State → ℕ → Type 0
  ObjectLies ty.Null s v = v ≡ 0
  ObjectLies ty.Object s v = (v ≡ 0) ⊎ (s.set alloc_name v ≡ true)
  ObjectLies (ty.Class n) s v = (v ≡ 0) ⊎ (s.set (named (class_at p.classes n)) v ≡ true)
  ObjectLies ty.Int s v = Unit {0}
  ObjectLies ty.Boolean s v = Unit {0}
  ObjectLies ty.Void s v = Unit {0}

  -- the six facts, but for parameters, locals and `this`
  pub record Formed (s : State) : Type 0 where
    pub of_class : (a : ℕ) → a < suc s.last → s.set alloc_name a ≡ true → (c : Text) × IsClass c × (s.set (named c) a ≡ true)
    pub in_alloc : (c : Text) → IsClass c → (a : ℕ) → a < suc s.last → s.set (named c) a ≡ true → s.set alloc_name a ≡ true
    pub apart : (c d : Text) → IsClass c → IsClass d → (a : ℕ) → a < suc s.last → s.set (named c) a ≡ true → s.set (named d) a ≡ true → c ≡ d
    pub no_null : s.set alloc_name 0 ≡ false
    pub statics : (x : Member) (type : Ty) → Contains p.members x → x.is_static ≡ true → x.type ≡ Some type → ObjectLies type s (s.object (named x.text))
    pub fields : (x : Member) (type : Ty) → Contains p.members x → x.is_static ≡ false → x.type ≡ Some type → (a : ℕ) → a < suc s.last → s.set (named x.class) a ≡ true → ObjectLies type s ((s.field (named x.text)).objects a)
    pub defaults : (x : Member) → Contains p.members x → x.is_static ≡ false → (a : ℕ) → a < suc s.last → s.set (named x.class) a ≡ false → IsDefault s.last x.kind (s.field (named x.text)) a

  module _ (names : NamesFit p) where
    pub class-of : (c : Text) → Contains p.classes c → IsClass c
    class-of c h = Contains-append_left p.classes (codes "Object" ∷ []) c h

    -- types stay where sets grow
    pub lies-grow : (type : Ty) (s u : State) (v : ℕ) → IsType p type → Grew s u → ObjectLies type s v → ObjectLies type u v
    lies-grow ty.Null s u v t g h = h
    lies-grow ty.Object s u v t g (inl h) = inl h
    lies-grow ty.Object s u v t g (inr h) = inr (g (codes "alloc") refl v h)
    lies-grow (ty.Class n) s u v t g (inl h) = inl h
    lies-grow (ty.Class n) s u v t g (inr h) = inr (g (class_at p.classes n) (names.dotless (class_at p.classes n) (class-of (class_at p.classes n) t)) v h)
    lies-grow ty.Int s u v t g h = tt
    lies-grow ty.Boolean s u v t g h = tt
    lies-grow ty.Void s u v t g h = tt

    -- other objects, numbers and truths: the statics have to lie in their types
    pub names-formed : (s : State) (o : Name → ℕ) (z : Name → ℤ) (b : Name → Bool) → Formed s →
        ((x : Member) (type : Ty) → Contains p.members x → x.is_static ≡ true → x.type ≡ Some type → ObjectLies type s (o (named x.text))) →
        Formed (record s { object = o; number = z; truth = b })
    names-formed s o z b f h = record {
      of_class = λ a i g. f.of_class a i g;
      in_alloc = λ c i a j g. f.in_alloc c i a j g;
      apart = λ c d i j a l g e. f.apart c d i j a l g e;
      no_null = f.no_null;
      statics = λ x type i g e. lies-grow type s (record s { object = o; number = z; truth = b }) (o (named x.text)) (names.types x type i e) (λ y n a m. m) (h x type i g e);
      fields = λ x type i g e a j l. lies-grow type s (record s { object = o; number = z; truth = b }) ((s.field (named x.text)).objects a) (names.types x type i e) (λ y n a m. m) (f.fields x type i g e a j l);
      defaults = λ x i g a j l. f.defaults x i g a j l;
    }

    -- a set with a dot in its text
    same-set : (x y : Text) (v w : ℕ → Bool) → has_dot x ≡ false → has_dot y ≡ true → (t : Bool) → name_equal (named x) (named y) ≡ t → (if t then v else w) ≡ w
    same-set x y v w h i true e = absurd (true≢false (sym i ∙ ap has_dot (sym (ap (λ (z : Name). z.text) (name_equal-true (named x) (named y) e))) ∙ h))
    same-set x y v w h i false e = refl

    pub set-formed : (s : State) (y : Text) (v : ℕ → Bool) → has_dot y ≡ true → Formed s → Formed (assigned s (named y) (a_set v))
    set-formed s y v dot f =
        let u : State = assigned s (named y) (a_set v) in
        let same : (x : Text) → has_dot x ≡ false → u.set (named x) ≡ s.set (named x) = λ x h. same-set x y v (s.set (named x)) h dot (name_equal (named x) (named y)) refl in
        let here : (x : Text) (b : Bool) → has_dot x ≡ false → (a : ℕ) → s.set (named x) a ≡ b → u.set (named x) a ≡ b = λ x b h a i. ap (λ (g : ℕ → Bool). g a) (same x h) ∙ i in
        let there : (x : Text) (b : Bool) → has_dot x ≡ false → (a : ℕ) → u.set (named x) a ≡ b → s.set (named x) a ≡ b = λ x b h a i. ap (λ (g : ℕ → Bool). g a) (sym (same x h)) ∙ i in
        let alloc : Text = codes "alloc" in
        let of_class : (a : ℕ) → a < suc s.last → s.set alloc_name a ≡ true → (c : Text) × IsClass c × (u.set (named c) a ≡ true) = λ a i g.
        let r : (c : Text) × IsClass c × (s.set (named c) a ≡ true) = f.of_class a i g in
        (r.0, r.1, here r.0 true (names.dotless r.0 r.1) a r.2) in
        record {
          of_class = λ a i g. of_class a i (there alloc true refl a g);
          in_alloc = λ c i a j g. here alloc true refl a (f.in_alloc c i a j (there c true (names.dotless c i) a g));
          apart = λ c d i j a l g e. f.apart c d i j a l (there c true (names.dotless c i) a g) (there d true (names.dotless d j) a e);
          no_null = here alloc false refl 0 f.no_null;
          statics = λ x type i g e. lies-grow type s u (s.object (named x.text)) (names.types x type i e) (λ z n a m. here z true n a m) (f.statics x type i g e);
          fields = λ x type i g e a j l. lies-grow type s u ((s.field (named x.text)).objects a) (names.types x type i e) (λ z n a m. here z true n a m)
              (f.fields x type i g e a j (there x.class true (names.dotless x.class (class-of x.class (names.of_class x i))) a l));
          defaults = λ x i g a j l. f.defaults x i g a j (there x.class false (names.dotless x.class (class-of x.class (names.of_class x i))) a l);
        }

    -- a field at an object of its class
    else-of : {X : Type 0} (t : Bool) (x y : X) → t ≡ false → (if t then x else y) ≡ y
    else-of true x y h = absurd (true≢false h)
    else-of false x y h = refl

    default-updated : (n : ℕ) (kind : Kind) (f : Fields) (b : ℕ) (d : Datum) (a : ℕ) → (a == b) ≡ false → IsDefault n kind f a → IsDefault n kind (updated f b d) a
    default-updated n k.Obj f b (an_object v) a h i = else-of (a == b) v (f.objects a) h ∙ i
    default-updated n k.Int f b (an_object v) a h i = i
    default-updated n k.Bool f b (an_object v) a h i = i
    default-updated n k.Set f b (an_object v) a h i = i
    default-updated n k.Obj f b (a_number v) a h i = i
    default-updated n k.Int f b (a_number v) a h i = else-of (a == b) v (f.numbers a) h ∙ i
    default-updated n k.Bool f b (a_number v) a h i = i
    default-updated n k.Set f b (a_number v) a h i = i
    default-updated n k.Obj f b (a_truth v) a h i = i
    default-updated n k.Int f b (a_truth v) a h i = i
    default-updated n k.Bool f b (a_truth v) a h i = else-of (a == b) v (f.truths a) h ∙ i
    default-updated n k.Set f b (a_truth v) a h i = i
    default-updated n k.Obj f b (a_set v) a h i = i
    default-updated n k.Int f b (a_set v) a h i = i
    default-updated n k.Bool f b (a_set v) a h i = i
    default-updated n k.Set f b (a_set v) a h i = λ c l. ap (λ (g : ℕ → Bool). g c) (else-of (a == b) v (f.sets a) h) ∙ i c l
    default-updated n k.Obj f b (a_field v) a h i = i
    default-updated n k.Int f b (a_field v) a h i = i
    default-updated n k.Bool f b (a_field v) a h i = i
    default-updated n k.Set f b (a_field v) a h i = i

    differ : (v : ℕ → Bool) (a b : ℕ) → v a ≡ false → v b ≡ true → (a == b) ≡ false
    differ v a b h i = of_test (a == b) refl
      where
        of_test : (t : Bool) → (a == b) ≡ t → t ≡ false
        of_test true e = absurd (true≢false (sym i ∙ ap v (sym (same e)) ∙ h))
          where
            same : (a == b) ≡ true → a ≡ b
            same e = eqb-true a b e
        of_test false e = refl

    -- what a value has to be to stand in a member
    abbrev pub Suits : Member → State → Datum → Type 0
    Suits x s (an_object v) = (type : Ty) → x.type ≡ Some type → ObjectLies type s v
    Suits x s d = Unit {0}

    chosen-lies : (type : Ty) (s : State) (t : Bool) (v w : ℕ) → ObjectLies type s v → ObjectLies type s w → ObjectLies type s (if t then v else w)
    chosen-lies type s true v w h i = h
    chosen-lies type s false v w h i = i

    object-updated : (x : Member) (type : Ty) (s : State) (f : Fields) (b : ℕ) (d : Datum) (a : ℕ) → x.type ≡ Some type → Suits x s d → ObjectLies type s (f.objects a) → ObjectLies type s ((updated f b (held s d)).objects a)
    object-updated x type s f b (an_object v) a e h i = chosen-lies type s (a == b) v (f.objects a) (h type e) i
    object-updated x type s f b (a_number v) a e h i = i
    object-updated x type s f b (a_truth v) a e h i = i
    object-updated x type s f b (a_set v) a e h i = i
    object-updated x type s f b (a_field v) a e h i = i

    -- the facts of a member at a field
    abbrev FieldFacts : State → Member → Fields → Type 0
    FieldFacts s x f =
        ((type : Ty) → x.type ≡ Some type → (a : ℕ) → a < suc s.last → s.set (named x.class) a ≡ true → ObjectLies type s (f.objects a))
        × ((a : ℕ) → a < suc s.last → s.set (named x.class) a ≡ false → IsDefault s.last x.kind f a)

    field-of : (s : State) (x y : Member) (f g : Fields) → Contains p.members x → Contains p.members y → (t : Bool) → name_equal (named y.text) (named x.text) ≡ t → FieldFacts s x f → FieldFacts s y g → FieldFacts s y (if t then f else g)
    field-of s x y f g i j true e h l = subst (λ (z : Member). FieldFacts s z f) (sym (names.members y x j i (ap (λ (z : Name). z.text) (name_equal-true (named y.text) (named x.text) e)))) h
    field-of s x y f g i j false e h l = l

    pub field-formed : (s : State) (x : Member) (b : ℕ) (d : Datum) → Contains p.members x → x.is_static ≡ false → s.set (named x.class) b ≡ true → Suits x s d → Formed s → Formed (stored_at s x.text b d)
    field-formed s x b d i static inside suits f =
        let u : State = stored_at s x.text b d in
        let new : Fields = updated (s.field (named x.text)) b (held s d) in
        let own : FieldFacts s x new = (
          (λ type e a j l. object-updated x type s (s.field (named x.text)) b d a e suits (f.fields x type i static e a j l)),
          (λ a j l. default-updated s.last x.kind (s.field (named x.text)) b (held s d) a (differ (s.set (named x.class)) a b l inside) (f.defaults x i static a j l)),
        ) in
        let all : (y : Member) → Contains p.members y → y.is_static ≡ false → FieldFacts s y (u.field (named y.text)) = λ y j g.
        field-of s x y new (s.field (named y.text)) i j (name_equal (named y.text) (named x.text)) refl own
        ((λ type e a m l. f.fields y type j g e a m l), (λ a m l. f.defaults y j g a m l)) in
        record {
          of_class = λ a j g. f.of_class a j g;
          in_alloc = λ c j a l g. f.in_alloc c j a l g;
          apart = λ c e j l a m g h. f.apart c e j l a m g h;
          no_null = f.no_null;
          statics = λ y type j g e. lies-grow type s u (s.object (named y.text)) (names.types y type j e) (λ z n a m. m) (f.statics y type j g e);
          fields = λ y type j g e a m l. lies-grow type s u ((u.field (named y.text)).objects a) (names.types y type j e) (λ z n a m. m) ((all y j g).0 type e a m l);
          defaults = λ y j g a m l. (all y j g).1 a m l;
        }

    -- a new object of a class
    joined-here : (s : State) (x y : Name) (a b : ℕ) → (t : Bool) → name_equal y x ≡ t → t ≡ true → (if t then (λ z. s.set x z || (z == a)) else s.set y) b ≡ (s.set y b || (b == a))
    joined-here s x y a b true e h = ap (λ (z : Name). s.set z b || (b == a)) (sym (name_equal-true y x e))
    joined-here s x y a b false e h = absurd (true≢false (sym h))

    -- what joins a set joins it, and no other
    joining-same : (s : State) (x : Name) (a b : ℕ) → (joining s x a).set x b ≡ (s.set x b || (b == a))
    joining-same s x a b = joined-here s x x a b (name_equal x x) refl (name_equal-same x x refl)

    joining-other : (s : State) (x y : Name) (a b : ℕ) → (y ≡ x → ⊥) → (joining s x a).set y b ≡ s.set y b
    joining-other s x y a b h = ap (λ (g : ℕ → Bool). g b) (else-of (name_equal y x) (λ z. s.set x z || (z == a)) (s.set y) (not_equal (name_equal y x) refl))
      where
        not_equal : (t : Bool) → name_equal y x ≡ t → t ≡ false
        not_equal true e = absurd (h (name_equal-true y x e))
        not_equal false e = refl

    text-of : (x y : Text) → named x ≡ named y → x ≡ y
    text-of x y e = ap (λ (z : Name). z.text) e

    pub created-alloc : (s : State) (c : Text) (a b : ℕ) → IsClass c → (created s c a).set alloc_name b ≡ (s.set alloc_name b || (b == a))
    created-alloc s c a b i =
        joining-other (joining s alloc_name a) (named c) alloc_name a b (λ e. names.not_alloc c i (sym (text-of (codes "alloc") c e))) ∙ joining-same s alloc_name a b

    pub created-class : (s : State) (c : Text) (a b : ℕ) → IsClass c → (created s c a).set (named c) b ≡ (s.set (named c) b || (b == a))
    created-class s c a b i =
        joining-same (joining s alloc_name a) (named c) a b ∙ ap (λ (t : Bool). t || (b == a)) (joining-other s alloc_name (named c) a b (λ e. names.not_alloc c i (text-of c (codes "alloc") e)))

    created-other : (s : State) (c d : Text) (a b : ℕ) → IsClass d → (d ≡ c → ⊥) → (created s c a).set (named d) b ≡ s.set (named d) b
    created-other s c d a b i h =
        joining-other (joining s alloc_name a) (named c) (named d) a b (λ e. h (text-of d c e)) ∙ joining-other s alloc_name (named d) a b (λ e. names.not_alloc d i (text-of d (codes "alloc") e))

    -- in a set with one more an object is that one or was there
    one-or-there : (v : Bool) (b a : ℕ) → (v || (b == a)) ≡ true → (b ≡ a) ⊎ (v ≡ true)
    one-or-there true b a h = inr refl
    one-or-there false b a h = inl (eqb-true b a h)

    there-still : (v : Bool) (b a : ℕ) → v ≡ true → (v || (b == a)) ≡ true
    there-still true b a h = refl
    there-still false b a h = absurd (true≢false (sym h))

    not-there : (v : Bool) (b a : ℕ) → (v || (b == a)) ≡ false → v ≡ false
    not-there true b a h = absurd (true≢false h)
    not-there false b a h = refl

    pub now-there : (v : Bool) (b a : ℕ) → b ≡ a → (v || (b == a)) ≡ true
    now-there true b a e = refl
    now-there false b a e = eq-eqb b a e

    -- of a class that has an object after one joined a class: it is that one and that class, or it was there
    class-cases : (s : State) (c d : Text) (a b : ℕ) → IsClass c → IsClass d → (t : Bool) → name_equal (named d) (named c) ≡ t → (created s c a).set (named d) b ≡ true → ((d ≡ c) × (b ≡ a)) ⊎ (s.set (named d) b ≡ true)
    class-cases s c d a b i j true e h = same_class (text-of d c (name_equal-true (named d) (named c) e))
      where
        same_class : d ≡ c → ((d ≡ c) × (b ≡ a)) ⊎ (s.set (named d) b ≡ true)
        same_class q = by_test (one-or-there (s.set (named c) b) b a (sym (created-class s c a b i) ∙ (ap (λ (x : Text). (created s c a).set (named x) b) (sym q) ∙ h)))
          where
            by_test : (b ≡ a) ⊎ (s.set (named c) b ≡ true) → ((d ≡ c) × (b ≡ a)) ⊎ (s.set (named d) b ≡ true)
            by_test (inl g) = inl (q, g)
            by_test (inr g) = inr (ap (λ (x : Text). s.set (named x) b) q ∙ g)
    class-cases s c d a b i j false e h = inr (sym (created-other s c d a b j (λ q. true≢false (sym (name_equal-same (named d) (named c) (ap named q)) ∙ e))) ∙ h)

    pub default-lies : (type : Ty) (kind : Kind) (n : ℕ) (f : Fields) (a : ℕ) (u : State) → kind_of type ≡ kind → IsDefault n kind f a → ObjectLies type u (f.objects a)
    default-lies type kind n f a u e h = of_kind type (subst (λ (x : Kind). IsDefault n x f a) (sym e) h)
      where
        of_kind : (type : Ty) → IsDefault n (kind_of type) f a → ObjectLies type u (f.objects a)
        of_kind ty.Null h = h
        of_kind ty.Object h = inl h
        of_kind (ty.Class m) h = inl h
        of_kind ty.Int h = tt
        of_kind ty.Boolean h = tt
        of_kind ty.Void h = tt

    not-true : (t : Bool) → (t ≡ true → ⊥) → t ≡ false
    not-true true h = absurd (h refl)
    not-true false h = refl

    alloc-cases : (s u : State) (c : Text) (a b : ℕ) → IsClass c → u.set (named c) b ≡ (s.set (named c) b || (b == a)) → (b ≡ a) ⊎ (s.set alloc_name b ≡ true) →
        (s.set alloc_name b ≡ true → (d : Text) × IsClass d × (u.set (named d) b ≡ true)) → (d : Text) × IsClass d × (u.set (named d) b ≡ true)
    alloc-cases s u c a b i e (inl h) old = (c, i, e ∙ now-there (s.set (named c) b) b a h)
    alloc-cases s u c a b i e (inr h) old = old h

    alloc-of : (s u : State) (d c : Text) (a b : ℕ) → u.set alloc_name b ≡ (s.set alloc_name b || (b == a)) → ((d ≡ c) × (b ≡ a)) ⊎ (s.set (named d) b ≡ true) → (s.set (named d) b ≡ true → u.set alloc_name b ≡ true) → u.set alloc_name b ≡ true
    alloc-of s u d c a b e (inl h) old = e ∙ now-there (s.set alloc_name b) b a h.1
    alloc-of s u d c a b e (inr h) old = old h

    -- an object that wasn't there yet is in one class alone
    fresh-nowhere : {X : Type 0} (s : State) (a b : ℕ) → s.set alloc_name a ≡ false → b ≡ a → s.set alloc_name b ≡ true → X
    fresh-nowhere s a b f e h = absurd (true≢false (sym h ∙ (ap (λ (z : ℕ). s.set alloc_name z) e ∙ f)))

    apart-of : (s : State) (d e c : Text) (a b : ℕ) → s.set alloc_name a ≡ false → ((d ≡ c) × (b ≡ a)) ⊎ (s.set (named d) b ≡ true) → ((e ≡ c) × (b ≡ a)) ⊎ (s.set (named e) b ≡ true) →
        (s.set (named d) b ≡ true → s.set alloc_name b ≡ true) → (s.set (named e) b ≡ true → s.set alloc_name b ≡ true) → (s.set (named d) b ≡ true → s.set (named e) b ≡ true → d ≡ e) → d ≡ e
    apart-of s d e c a b f (inl h) (inl g) x y old = h.0 ∙ sym g.0
    apart-of s d e c a b f (inl h) (inr g) x y old = fresh-nowhere s a b f h.1 (y g)
    apart-of s d e c a b f (inr h) (inl g) x y old = fresh-nowhere s a b f g.1 (x h)
    apart-of s d e c a b f (inr h) (inr g) x y old = old h g

    field-lies : (s u : State) (x : Member) (type : Ty) (c : Text) (a b : ℕ) → ((x.class ≡ c) × (b ≡ a)) ⊎ (s.set (named x.class) b ≡ true) → ObjectLies type u ((s.field (named x.text)).objects a) →
        (s.set (named x.class) b ≡ true → ObjectLies type u ((s.field (named x.text)).objects b)) → ObjectLies type u ((s.field (named x.text)).objects b)
    field-lies s u x type c a b (inl h) new old = subst (λ (z : ℕ). ObjectLies type u ((s.field (named x.text)).objects z)) (sym h.1) new
    field-lies s u x type c a b (inr h) new old = old h

    pub created-formed : (s : State) (c : Text) (a : ℕ) → IsClass c → a < suc s.last → s.set alloc_name a ≡ false → (0 == a) ≡ false → Formed s → Formed (created s c a)
    created-formed s c a i inside fresh nonzero f =
        let u : State = created s c a in
        let grew : Grew s u = created-sets s c a in
        let alloc : Text = codes "alloc" in
        let cases : (d : Text) → IsClass d → (b : ℕ) → u.set (named d) b ≡ true → ((d ≡ c) × (b ≡ a)) ⊎ (s.set (named d) b ≡ true) = λ d j b h. class-cases s c d a b i j (name_equal (named d) (named c)) refl h in
        let outside : (d : Text) → IsClass d → s.set (named d) a ≡ false = λ d j. not-true (s.set (named d) a) (λ h. true≢false (sym (f.in_alloc d j a inside h) ∙ fresh)) in
        record {
          of_class = λ b l h. alloc-cases s u c a b i (created-class s c a b i) (one-or-there (s.set alloc_name b) b a (sym (created-alloc s c a b i) ∙ h))
              (λ g. let r : (d : Text) × IsClass d × (s.set (named d) b ≡ true) = f.of_class b l g in (r.0, r.1, grew r.0 (names.dotless r.0 r.1) b r.2));
          in_alloc = λ d j b l h. alloc-of s u d c a b (created-alloc s c a b i) (cases d j b h) (λ g. grew alloc refl b (f.in_alloc d j b l g));
          apart = λ d e j m b l g h. apart-of s d e c a b fresh (cases d j b g) (cases e m b h) (λ q. f.in_alloc d j b l q) (λ q. f.in_alloc e m b l q) (λ q r. f.apart d e j m b l q r);
          no_null = created-alloc s c a 0 i ∙ (ap (λ (t : Bool). t || (0 == a)) f.no_null ∙ nonzero);
          statics = λ x type j g e. lies-grow type s u (s.object (named x.text)) (names.types x type j e) grew (f.statics x type j g e);
          fields = λ x type j g e b l h. field-lies s u x type c a b (cases x.class (class-of x.class (names.of_class x j)) b h)
              (default-lies type x.kind s.last (s.field (named x.text)) a u (names.kinds x type j e) (f.defaults x j g a inside (outside x.class (class-of x.class (names.of_class x j)))))
              (λ q. lies-grow type s u ((s.field (named x.text)).objects b) (names.types x type j e) grew (f.fields x type j g e b l q));
          defaults = λ x j g b l h. f.defaults x j g b l (not-true (s.set (named x.class) b) (λ q. true≢false (sym (grew x.class (names.dotless x.class (class-of x.class (names.of_class x j))) b q) ∙ h)));
        }
