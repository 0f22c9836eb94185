-- The code of an expression in which no rule is broken has values of its type.
use Rattle.std.proofs.Common.{◌≡◌, refl, sym, ap, subst, ◌∙◌, ℕ, Bool, true, false, not, ◌||◌, if◌then◌else◌, [], ◌++◌, Option, Some, None}
use Rattle.std.specs.Option.{option_map_or}
use Rattle.std.proofs.lemmas.Bool.{true≢false}
use Rattle.jh_name.specs.declared.place.Place.{Place}
use Rattle.jh_name.specs.declared.place.Kind.TheVariants as k
use Rattle.jh_ast.specs.declared.word.Word.{Word}
use Rattle.jh_ast.specs.declared.expr.Op.{Op}
use Rattle.jh_ast.specs.declared.expr.Op.TheVariants as op
use Rattle.jh_ast.specs.Exprs.{ExprTree}
use Rattle.jh_ast.specs.Exprs as e
use Rattle.jh_ast.specs.Programs.{ProgramTree}
use Rattle.jh_rules.specs.declared.types.Ty.{Ty}
use Rattle.jh_rules.specs.declared.types.Ty.TheVariants as ty
use Rattle.jh_rules.specs.declared.entries.FieldEntry.{FieldEntry}
use Rattle.jh_rules.specs.declared.entries.LocalEntry.{LocalEntry}
use Rattle.jh_rules.specs.Faults.{Judged, right, wrong, fault, needs, given, both, pair_of, ◌>>=◌}
use Rattle.jh_rules.specs.Words.{text_of}
use Rattle.jh_rules.specs.Kinds.{kind_of, class_of, is_int, is_boolean, fits}
use Rattle.jh_rules.specs.Names.{Declared, declared_in}
use Rattle.jh_rules.specs.Scopes.{Scope}
use Rattle.jh_rules.specs.Rules.{rule_13, rule_14, rule_15, rule_18, rule_19, rule_20, rule_21, is_literal}
use Rattle.jh_rules.specs.Exprs.{expr_type, field_type, receiver, class_spelled, binary_type, two, product}
use Rattle.jh_vars.specs.Resolved.{kind_of_local}
use Rattle.jh_semantics.specs.Code.{Text, ObjectCode, AnyCode, an_object, a_number, a_truth}
use Rattle.jh_semantics.specs.Code as c
use Rattle.jh_semantics.specs.Lowered.{as_object, name_code, read_code, expr_code, own_code, static_code, field_code, dotted_code, receiver_class, member_kind, member_text, field_kind, binary_code, literal}
use Rattle.jh_semantics.specs.LoweredProgram.{program_of}
use Rattle.jh_semantics.specs.Typed.{IsMember, Surroundings, Named, as_local, as_static, ObjectHas, of_null, of_this, of_name, of_read, Has}
use Rattle.jh_logic.proofs.source.Lists.{more-not-empty, left-empty, right-empty, some-same, no-none, not-true}
use Rattle.jh_logic.proofs.source.Judged.{met, met-known, then-first, then-next, then-known, both-known}
use Rattle.jh_logic.proofs.source.Environment.{FieldFits, Declares, LocalFits, Agrees}

pub int-type : (t : Ty) → is_int t ≡ true → t ≡ ty.Int
int-type ty.Int e = refl
int-type ty.Boolean e = absurd (true≢false (sym e))
int-type ty.Void e = absurd (true≢false (sym e))
int-type ty.Null e = absurd (true≢false (sym e))
int-type ty.Object e = absurd (true≢false (sym e))
int-type (ty.Class n) e = absurd (true≢false (sym e))

pub boolean-type : (t : Ty) → is_boolean t ≡ true → t ≡ ty.Boolean
boolean-type ty.Int e = absurd (true≢false (sym e))
boolean-type ty.Boolean e = refl
boolean-type ty.Void e = absurd (true≢false (sym e))
boolean-type ty.Null e = absurd (true≢false (sym e))
boolean-type ty.Object e = absurd (true≢false (sym e))
boolean-type (ty.Class n) e = absurd (true≢false (sym e))

pub class-type : (t : Ty) (n : ℕ) → class_of t ≡ Some n → t ≡ ty.Class n
class-type ty.Int n e = absurd (no-none n e)
class-type ty.Boolean n e = absurd (no-none n e)
class-type ty.Void n e = absurd (no-none n e)
class-type ty.Null n e = absurd (no-none n e)
class-type ty.Object n e = absurd (no-none n e)
class-type (ty.Class m) n e = ap ty.Class (some-same m n e)

class-not-int : (n : ℕ) → ty.Class n ≡ ty.Int → ⊥
class-not-int n e = true≢false (ap is_int (sym e))

class-not-boolean : (n : ℕ) → ty.Class n ≡ ty.Boolean → ⊥
class-not-boolean n e = true≢false (ap is_boolean (sym e))

-- two operands of a rule that leaves their types
abbrev KeepsType : (ExprTree → Ty → Judged Ty) → Type 0
KeepsType rule = (a : ExprTree) (t : Ty) → (rule a t).faults ≡ [] → (rule a t).known ≡ Some t

keeps-18 : KeepsType rule_18
keeps-18 a t h = met-known (is_int t) 18 (e.place_of a) t h

keeps-20 : KeepsType rule_20
keeps-20 a t h = met-known (is_boolean t) 20 (e.place_of a) t h

module _ (rule : ExprTree → Ty → Judged Ty) (a b : ExprTree) (j m : Judged Ty) (t : Ty) (h : (both (j >>= rule a) (m >>= rule b) >>= λ u. right t).faults ≡ []) where
  both-faultless : (j >>= rule a).faults ++ (m >>= rule b).faults ≡ []
  both-faultless = then-first (both (j >>= rule a) (m >>= rule b)) (λ u. right t) h

  left-faultless : (j >>= rule a).faults ≡ []
  left-faultless = left-empty (j >>= rule a).faults (m >>= rule b).faults both-faultless

  right-faultless : (m >>= rule b).faults ≡ []
  right-faultless = right-empty (j >>= rule a).faults (m >>= rule b).faults both-faultless

  two-left : j.faults ≡ []
  two-left = then-first j (rule a) left-faultless

  two-right : m.faults ≡ []
  two-right = then-first m (rule b) right-faultless

  two-known : KeepsType rule → (x y : Ty) → j.known ≡ Some x → m.known ≡ Some y → (both (j >>= rule a) (m >>= rule b) >>= λ u. right t).known ≡ Some t
  two-known keeps x y f g = then-known (both (j >>= rule a) (m >>= rule b)) (λ u. right t) (x, y)
      (both-known (j >>= rule a) (m >>= rule b) x y
      (then-known j (rule a) x f ∙ keeps a x (then-next j (rule a) x left-faultless f))
      (then-known m (rule b) y g ∙ keeps b y (then-next m (rule b) y right-faultless g)))

-- an equation
module _ (q : Place) (j m : Judged Ty) (h : (both j m >>= λ u. rule_21 q u.0 u.1).faults ≡ []) where
  equal-left : j.faults ≡ []
  equal-left = left-empty j.faults m.faults (then-first (both j m) (λ u. rule_21 q u.0 u.1) h)

  equal-right : m.faults ≡ []
  equal-right = right-empty j.faults m.faults (then-first (both j m) (λ u. rule_21 q u.0 u.1) h)

  equal-known : (x y : Ty) → j.known ≡ Some x → m.known ≡ Some y → (both j m >>= λ u. rule_21 q u.0 u.1).known ≡ Some ty.Boolean
  equal-known x y f g = then-known (both j m) (λ u. rule_21 q u.0 u.1) (x, y) (both-known j m x y f g)
      ∙ met-known (fits x y || fits y x) 21 q ty.Boolean (then-next (both j m) (λ u. rule_21 q u.0 u.1) (x, y) h (both-known j m x y f g))

-- a product
module _ (l : Declared) (at : Scope) (q : Place) (a b : ExprTree) (j m : Judged Ty) (h : (product l at q a j b m).faults ≡ []) where
  abbrev operands : Judged Ty
  operands = two l at rule_18 a j b m ty.Int

  abbrev literals : Judged Ty
  literals = given (pair_of j.known m.known) >>= λ u. rule_19 q a b

  product-both : operands.faults ++ literals.faults ≡ []
  product-both = then-first (both operands literals) (λ u. right ty.Int) h

  product-operands : operands.faults ≡ []
  product-operands = left-empty operands.faults literals.faults product-both

  product-known : (x y : Ty) → j.known ≡ Some x → m.known ≡ Some y → (product l at q a j b m).known ≡ Some ty.Int
  product-known x y f g =
      let pair : pair_of j.known m.known ≡ Some (x, y) = λ i. pair_of (f i) (g i) in
      then-known (both operands literals) (λ u. right ty.Int) (ty.Int, ty.Int)
      (both-known operands literals ty.Int ty.Int (two-known rule_18 a b j m ty.Int product-operands keeps-18 x y f g)
      (then-known (given (pair_of j.known m.known)) (λ u. rule_19 q a b) (x, y) pair
      ∙ met-known (is_literal a || is_literal b) 19 q ty.Int (then-next (given (pair_of j.known m.known)) (λ u. rule_19 q a b) (x, y) (right-empty operands.faults literals.faults product-both) pair)))

module _ (p : ProgramTree) (declares : Declares p) where
  module _ (s : Surroundings) where
    -- what is found of a part is known, and its code has values of that type
    pub record TypedBy (j : Judged Ty) (a : AnyCode) : Type 0 where
      pub type : Ty
      pub known : j.known ≡ Some type
      pub has : Has (program_of p) s a type

    named-has : (type : Ty) (x : Text) → Named (program_of p) s x type → Has (program_of p) s (name_code (kind_of type) x) type
    named-has ty.Int x h = refl
    named-has ty.Boolean x h = refl
    named-has ty.Void x h = of_name x ty.Void h refl
    named-has ty.Null x h = of_name x ty.Null h refl
    named-has ty.Object x h = of_name x ty.Object h refl
    named-has (ty.Class n) x h = of_name x (ty.Class n) h refl

    pub object-has : (a : AnyCode) (n : ℕ) → Has (program_of p) s a (ty.Class n) → ObjectHas (program_of p) s (as_object a) (ty.Class n)
    object-has (an_object a) n h = h
    object-has (a_number a) n h = absurd (class-not-int n h)
    object-has (a_truth a) n h = absurd (class-not-boolean n h)

    module _ (n : ℕ) (w : Word) (entry : FieldEntry) (is : (declared_in p).field_of n (text_of w) ≡ Some entry) where
      abbrev field : FieldFits p n (text_of w) entry
      field = declares.fields n (text_of w) entry is

      pub kind-is : member_kind p n (text_of w) ≡ kind_of field.type
      kind-is = ap (λ o. option_map_or field_kind o k.Obj) is ∙ ap (λ o. option_map_or kind_of o k.Obj) field.has_type

      pub static-has : entry.fixed ≡ true → Has (program_of p) s (static_code p (Some n) w) field.type
      static-has e = subst (λ kind. Has (program_of p) s (name_code kind (member_text p n (text_of w))) field.type) (sym kind-is)
          (subst (λ x. Has (program_of p) s (name_code (kind_of field.type) x) field.type) field.text
          (named-has field.type field.member.text (as_static field.member field.type (subst (λ b. IsMember (program_of p) field.member b field.type) e field.stands))))

      read-has : (type : Ty) → IsMember (program_of p) field.member false type → (r : ObjectCode) (q : Place) → ObjectHas (program_of p) s r (ty.Class n) → Has (program_of p) s (read_code (kind_of type) field.member.text r q) type
      read-has ty.Int h r q o = refl
      read-has ty.Boolean h r q o = refl
      read-has ty.Void h r q o = of_read field.member ty.Void h refl r q n o (sym field.class)
      read-has ty.Null h r q o = of_read field.member ty.Null h refl r q n o (sym field.class)
      read-has ty.Object h r q o = of_read field.member ty.Object h refl r q n o (sym field.class)
      read-has (ty.Class m) h r q o = of_read field.member (ty.Class m) h refl r q n o (sym field.class)

      pub field-has : entry.fixed ≡ false → (r : ObjectCode) (q : Place) → ObjectHas (program_of p) s r (ty.Class n) → Has (program_of p) s (field_code p (Some n) w r q) field.type
      field-has e r q o = subst (λ kind. Has (program_of p) s (read_code kind (member_text p n (text_of w)) r q) field.type) (sym kind-is)
          (subst (λ x. Has (program_of p) s (read_code (kind_of field.type) x r q) field.type) field.text
          (read-has field.type (subst (λ b. IsMember (program_of p) field.member b field.type) e field.stands) r q o))

    module _ (at : Scope) (agrees : Agrees at s) where
      local-has : (w : Word) (x : LocalEntry) → LocalFits s (text_of w) x → TypedBy (given x.ty) (name_code (kind_of_local x) (text_of w))
      local-has w x h = record {
        type = h.local.type;
        known = h.has_type;
        has = subst (λ kind. Has (program_of p) s (name_code kind (text_of w)) h.local.type) (sym (ap (λ o. option_map_or kind_of o k.Obj) h.has_type))
            (subst (λ z. Has (program_of p) s (name_code (kind_of h.local.type) z) h.local.type) h.text
            (named-has h.local.type h.local.text (as_local h.local h.stands)));
      }

      -- a member of the own class
      module _ (w : Word) (entry : FieldEntry) (is : (declared_in p).field_of at.class (text_of w) ≡ Some entry) (faultless : (field_type (declared_in p) at w entry).faults ≡ []) where
        abbrev own : FieldFits p at.class (text_of w) entry
        own = field at.class w entry is

        own-first : (rule_14 (entry.fixed || not at.fixed) w.place entry).faults ≡ []
        own-first = then-first (rule_14 (entry.fixed || not at.fixed) w.place entry) (λ y. given y.ty) faultless

        pub own-this : entry.fixed ≡ false → ObjectHas (program_of p) s c.this (ty.Class at.class)
        own-this h = of_this at.class (agrees.this (not-true at.fixed (subst (λ b. (b || not at.fixed) ≡ true) h (met (entry.fixed || not at.fixed) 14 w.place entry own-first))))

        own-by : (b : Bool) → entry.fixed ≡ b → Has (program_of p) s (if b then static_code p (Some at.class) w else field_code p (Some at.class) w c.this w.place) own.type
        own-by true h = static-has at.class w entry is h
        own-by false h = field-has at.class w entry is h c.this w.place (own-this h)

        own-has : TypedBy (field_type (declared_in p) at w entry) (own_code p at w entry)
        own-has = record {
          type = own.type;
          known = then-known (rule_14 (entry.fixed || not at.fixed) w.place entry) (λ y. given y.ty) entry (met-known (entry.fixed || not at.fixed) 14 w.place entry own-first) ∙ own.has_type;
          has = own-by entry.fixed refl;
        }

      -- a word in code
      word-by : (w : Word) (o : Option LocalEntry) → at.local (text_of w) ≡ o → (f : Option FieldEntry) → (declared_in p).field_of at.class (text_of w) ≡ f →
          (option_map_or (λ (x : LocalEntry). given x.ty) o (option_map_or (field_type (declared_in p) at w) f (rule_13 w))).faults ≡ [] →
          TypedBy (option_map_or (λ (x : LocalEntry). given x.ty) o (option_map_or (field_type (declared_in p) at w) f (rule_13 w)))
          (option_map_or (λ (x : LocalEntry). name_code (kind_of_local x) (text_of w)) o (option_map_or (own_code p at w) f (an_object c.null)))
      word-by w (Some x) e f is h = local-has w x (agrees.known (text_of w) x e)
      word-by w None e (Some entry) is h = own-has w entry is h
      word-by w None e None is h = absurd (more-not-empty (fault 13 w.place) [] h)

      -- what stands behind a dot: a member of a class, static or not
      pub record MemberIs (n : ℕ) (fixed : Bool) (place : Place) (w : Word) : Type 0 where
        pub entry : FieldEntry
        pub is : (declared_in p).field_of n (text_of w) ≡ Some entry
        pub fixed_is : entry.fixed ≡ fixed
        pub known : (rule_15 (declared_in p) (Some n) fixed place (text_of w)).known ≡ entry.ty

      asked : Bool → Bool → Bool
      asked wanted fixed = if wanted then fixed else not fixed

      asked-is : (wanted fixed : Bool) → (if wanted then fixed else not fixed) ≡ true → fixed ≡ wanted
      asked-is true b e = e
      asked-is false b e = not-true b e

      member-by : (n : ℕ) (fixed : Bool) (place : Place) (w : Word) (o : Option FieldEntry) → (declared_in p).field_of n (text_of w) ≡ o →
          (option_map_or (λ (m : FieldEntry). needs (if fixed then m.fixed else not m.fixed) 15 place m.ty) o (wrong 15 place) >>= λ t. given t).faults ≡ [] →
          (entry : FieldEntry) × (o ≡ Some entry) × (entry.fixed ≡ fixed) × ((option_map_or (λ (m : FieldEntry). needs (if fixed then m.fixed else not m.fixed) 15 place m.ty) o (wrong 15 place) >>= λ t. given t).known ≡ entry.ty)
      member-by n fixed place w (Some m) is h =
          let first : (needs (if fixed then m.fixed else not m.fixed) 15 place m.ty).faults ≡ [] = then-first (needs (if fixed then m.fixed else not m.fixed) 15 place m.ty) (λ t. given t) h in (
            m,
            refl,
            asked-is fixed m.fixed (met (if fixed then m.fixed else not m.fixed) 15 place m.ty first),
            then-known (needs (if fixed then m.fixed else not m.fixed) 15 place m.ty) (λ t. given t) m.ty (met-known (if fixed then m.fixed else not m.fixed) 15 place m.ty first),
          )
      member-by n fixed place w None is h = absurd (more-not-empty (fault 15 place) [] h)

      pub member-is : (n : ℕ) (fixed : Bool) (place : Place) (w : Word) → (rule_15 (declared_in p) (Some n) fixed place (text_of w)).faults ≡ [] → MemberIs n fixed place w
      member-is n fixed place w h = let r = member-by n fixed place w ((declared_in p).field_of n (text_of w)) refl h in record { entry = r.0; is = r.1; fixed_is = r.2; known = r.3 }

      -- a static behind the name of its class
      spelled-has : (class : Option ℕ) (place : Place) (w : Word) → (rule_15 (declared_in p) class true place (text_of w)).faults ≡ [] → TypedBy (rule_15 (declared_in p) class true place (text_of w)) (static_code p class w)
      spelled-has None place w h = absurd (more-not-empty (fault 15 place) [] h)
      spelled-has (Some n) place w h =
          let m : MemberIs n true place w = member-is n true place w h in
          record { type = (field n w m.entry m.is).type; known = m.known ∙ (field n w m.entry m.is).has_type; has = static-has n w m.entry m.is m.fixed_is }

      -- the receiver of a member is of a class
      pub record ReceiverIs (a : ExprTree) : Type 0 where
        pub class : ℕ
        pub known : (expr_type (declared_in p) at a).known ≡ Some (ty.Class class)
        pub has : ObjectHas (program_of p) s (as_object (expr_code p a at)) (ty.Class class)

      -- a field behind an object
      behind-by : (a : ExprTree) (place : Place) (w : Word) (r : ReceiverIs a) → (rule_15 (declared_in p) (Some r.class) false place (text_of w)).faults ≡ [] → (q : Place) →
          TypedBy (rule_15 (declared_in p) (Some r.class) false place (text_of w)) (field_code p (receiver_class p at a) w (as_object (expr_code p a at)) q)
      behind-by a place w r h q =
          let m : MemberIs r.class false place w = member-is r.class false place w h in
          record {
            type = (field r.class w m.entry m.is).type;
            known = m.known ∙ (field r.class w m.entry m.is).has_type;
            has = subst (λ class. Has (program_of p) s (field_code p class w (as_object (expr_code p a at)) q) (field r.class w m.entry m.is).type) (sym (ap (λ o. option_map_or class_of o None) r.known))
                (field-has r.class w m.entry m.is m.fixed_is (as_object (expr_code p a at)) q r.has);
          }

      receiver-is : (a : ExprTree) → TypedBy (expr_type (declared_in p) at a) (expr_code p a at) → (n : ℕ) → (t : Ty) → (expr_type (declared_in p) at a).known ≡ Some t → class_of t ≡ Some n → ReceiverIs a
      receiver-is a h n t k e =
          let is-class : t ≡ ty.Class n = class-type t n e in
          let same : h.type ≡ ty.Class n = some-same h.type (ty.Class n) (sym h.known ∙ k ∙ ap (λ (u : Ty). Some u) is-class) in
          record { class = n; known = k ∙ ap (λ (u : Ty). Some u) is-class; has = object-has (expr_code p a at) n (subst (λ u. Has (program_of p) s (expr_code p a at) u) same h.has) }

      pub receiver-of : (a : ExprTree) → TypedBy (expr_type (declared_in p) at a) (expr_code p a at) → (place : Place) (w : Word) → (o : Option ℕ) → (t : Ty) → (expr_type (declared_in p) at a).known ≡ Some t → class_of t ≡ o →
          (rule_15 (declared_in p) o false place (text_of w)).faults ≡ [] → (r : ReceiverIs a) × (o ≡ Some r.class)
      unfolding receiver-is
      receiver-of a h place w None t k e faultless = absurd (more-not-empty (fault 15 place) [] faultless)
      receiver-of a h place w (Some n) t k e faultless = (receiver-is a h n t k e, refl)

      member-has : (q : Place) (a : ExprTree) (w : Word) (spelled : Option (Option ℕ)) → (receiver (declared_in p) at spelled (expr_type (declared_in p) at a) >>= λ r. rule_15 (declared_in p) r.0 r.1 (e.place_of a) (text_of w)).faults ≡ [] →
          ((expr_type (declared_in p) at a).faults ≡ [] → TypedBy (expr_type (declared_in p) at a) (expr_code p a at)) →
          TypedBy (receiver (declared_in p) at spelled (expr_type (declared_in p) at a) >>= λ r. rule_15 (declared_in p) r.0 r.1 (e.place_of a) (text_of w)) (dotted_code p at spelled a (expr_code p a at) w)
      member-has q a w (Some class) h inside = let m = spelled-has class (e.place_of a) w h in record { type = m.type; known = m.known; has = m.has }
      member-has q a w None h inside =
          let j : Judged Ty = expr_type (declared_in p) at a in
          let to : Ty → Judged (Option ℕ × Bool) = λ t. right (class_of t, false) in
          let rule : Option ℕ × Bool → Judged Ty = λ r. rule_15 (declared_in p) r.0 r.1 (e.place_of a) (text_of w) in
          let typed : TypedBy j (expr_code p a at) = inside (then-first j to (then-first (j >>= to) rule h)) in
          let known : (j >>= to).known ≡ Some (class_of typed.type, false) = then-known j to typed.type typed.known in
          let asked-of : (rule (class_of typed.type, false)).faults ≡ [] = then-next (j >>= to) rule (class_of typed.type, false) h known in
          let r = receiver-of a typed (e.place_of a) w (class_of typed.type) typed.type typed.known refl asked-of in
          let m = behind-by a (e.place_of a) w r.0 (subst (λ (o : Option ℕ). (rule_15 (declared_in p) o false (e.place_of a) (text_of w)).faults ≡ []) r.1 asked-of) (e.place_of a) in
          record { type = m.type; known = then-known (j >>= to) rule (class_of typed.type, false) known ∙ ap (λ (o : Option ℕ). (rule_15 (declared_in p) o false (e.place_of a) (text_of w)).known) r.1 ∙ m.known; has = m.has }

      abbrev type-of : ExprTree → Judged Ty
      type-of a = expr_type (declared_in p) at a

      abbrev Typed : ExprTree → Type 0
      Typed a = (type-of a).faults ≡ [] → TypedBy (type-of a) (expr_code p a at)

      two-typed : (rule : ExprTree → Ty → Judged Ty) → KeepsType rule → (a b : ExprTree) (t : Ty) → Typed a → Typed b → (two (declared_in p) at rule a (type-of a) b (type-of b) t).faults ≡ [] → (code : AnyCode) → Has (program_of p) s code t → TypedBy (two (declared_in p) at rule a (type-of a) b (type-of b) t) code
      two-typed rule keeps a b t x y h code has =
          let u = x (two-left rule a b (type-of a) (type-of b) t h) in
          let v = y (two-right rule a b (type-of a) (type-of b) t h) in
          record { type = t; known = two-known rule a b (type-of a) (type-of b) t h keeps u.type v.type u.known v.known; has = has }

      equal-typed : (q : Place) (a b : ExprTree) → Typed a → Typed b → (both (type-of a) (type-of b) >>= λ u. rule_21 q u.0 u.1).faults ≡ [] → (code : AnyCode) → Has (program_of p) s code ty.Boolean → TypedBy (both (type-of a) (type-of b) >>= λ u. rule_21 q u.0 u.1) code
      equal-typed q a b x y h code has =
          let u = x (equal-left q (type-of a) (type-of b) h) in
          let v = y (equal-right q (type-of a) (type-of b) h) in
          record { type = ty.Boolean; known = equal-known q (type-of a) (type-of b) h u.type v.type u.known v.known; has = has }

      product-typed : (q : Place) (a b : ExprTree) → Typed a → Typed b → (product (declared_in p) at q a (type-of a) b (type-of b)).faults ≡ [] → (code : AnyCode) → Has (program_of p) s code ty.Int → TypedBy (product (declared_in p) at q a (type-of a) b (type-of b)) code
      product-typed q a b x y h code has =
          let o = product-operands (declared_in p) at q a b (type-of a) (type-of b) h in
          let u = x (two-left rule_18 a b (type-of a) (type-of b) ty.Int o) in
          let v = y (two-right rule_18 a b (type-of a) (type-of b) ty.Int o) in
          record { type = ty.Int; known = product-known (declared_in p) at q a b (type-of a) (type-of b) h u.type v.type u.known v.known; has = has }

      binary-typed : (q : Place) (o : Op) (a b : ExprTree) → Typed a → Typed b → (binary_type (declared_in p) at q o a (type-of a) b (type-of b)).faults ≡ [] → TypedBy (binary_type (declared_in p) at q o a (type-of a) b (type-of b)) (binary_code q o (literal a) (expr_code p a at) (literal b) (expr_code p b at))
      binary-typed q op.Or a b x y h = two-typed rule_20 keeps-20 a b ty.Boolean x y h (binary_code q op.Or (literal a) (expr_code p a at) (literal b) (expr_code p b at)) refl
      binary-typed q op.And a b x y h = two-typed rule_20 keeps-20 a b ty.Boolean x y h (binary_code q op.And (literal a) (expr_code p a at) (literal b) (expr_code p b at)) refl
      binary-typed q op.Equal a b x y h = equal-typed q a b x y h (binary_code q op.Equal (literal a) (expr_code p a at) (literal b) (expr_code p b at)) refl
      binary-typed q op.NotEqual a b x y h = equal-typed q a b x y h (binary_code q op.NotEqual (literal a) (expr_code p a at) (literal b) (expr_code p b at)) refl
      binary-typed q op.Less a b x y h = two-typed rule_18 keeps-18 a b ty.Boolean x y h (binary_code q op.Less (literal a) (expr_code p a at) (literal b) (expr_code p b at)) refl
      binary-typed q op.LessEq a b x y h = two-typed rule_18 keeps-18 a b ty.Boolean x y h (binary_code q op.LessEq (literal a) (expr_code p a at) (literal b) (expr_code p b at)) refl
      binary-typed q op.Greater a b x y h = two-typed rule_18 keeps-18 a b ty.Boolean x y h (binary_code q op.Greater (literal a) (expr_code p a at) (literal b) (expr_code p b at)) refl
      binary-typed q op.GreaterEq a b x y h = two-typed rule_18 keeps-18 a b ty.Boolean x y h (binary_code q op.GreaterEq (literal a) (expr_code p a at) (literal b) (expr_code p b at)) refl
      binary-typed q op.Add a b x y h = two-typed rule_18 keeps-18 a b ty.Int x y h (binary_code q op.Add (literal a) (expr_code p a at) (literal b) (expr_code p b at)) refl
      binary-typed q op.Sub a b x y h = two-typed rule_18 keeps-18 a b ty.Int x y h (binary_code q op.Sub (literal a) (expr_code p a at) (literal b) (expr_code p b at)) refl
      binary-typed q op.Mul a b x y h = product-typed q a b x y h (binary_code q op.Mul (literal a) (expr_code p a at) (literal b) (expr_code p b at)) refl

      -- Nothing is wrong in an expression: its code has values of its type.
      pub typed : (a : ExprTree) → (expr_type (declared_in p) at a).faults ≡ [] → TypedBy (expr_type (declared_in p) at a) (expr_code p a at)
      unfolding expr_type expr_code
      typed (e.null q) h = record { type = ty.Null; known = refl; has = of_null }
      typed (e.yes q) h = record { type = ty.Boolean; known = refl; has = refl }
      typed (e.no q) h = record { type = ty.Boolean; known = refl; has = refl }
      typed (e.number q z) h = record { type = ty.Int; known = refl; has = refl }
      typed (e.this q) h = record { type = ty.Class at.class; known = met-known (not at.fixed) 14 q (ty.Class at.class) h; has = of_this at.class (agrees.this (not-true at.fixed (met (not at.fixed) 14 q (ty.Class at.class) h))) }
      typed (e.name q w) h = word-by w (at.local (text_of w)) refl ((declared_in p).field_of at.class (text_of w)) refl h
      typed (e.member q a w) h = member-has q a w (class_spelled (declared_in p) at a) h (λ g. typed a g)
      typed (e.negation q a) h =
          let u = typed a (then-first (type-of a) (rule_20 a) h) in
          let n = then-next (type-of a) (rule_20 a) u.type h u.known in
          record { type = ty.Boolean; known = then-known (type-of a) (rule_20 a) u.type u.known ∙ met-known (is_boolean u.type) 20 (e.place_of a) u.type n ∙ ap (λ (t : Ty). Some t) (boolean-type u.type (met (is_boolean u.type) 20 (e.place_of a) u.type n)); has = refl }
      typed (e.minus q a) h =
          let u = typed a (then-first (type-of a) (rule_18 a) h) in
          let n = then-next (type-of a) (rule_18 a) u.type h u.known in
          record { type = ty.Int; known = then-known (type-of a) (rule_18 a) u.type u.known ∙ met-known (is_int u.type) 18 (e.place_of a) u.type n ∙ ap (λ (t : Ty). Some t) (int-type u.type (met (is_int u.type) 18 (e.place_of a) u.type n)); has = refl }
      typed (e.binary q o a b) h = binary-typed q o a b (λ g. typed a g) (λ g. typed b g) h
