-- Typed code has values in its types, in well-formed states.
use Rattle.std.proofs.Common.{◌≡◌, refl, sym, ap, subst, ◌∙◌, ℕ, zero, suc, ◌<◌, inl, inr, Bool, true, false, ◌++◌, Some, codes}
use Rattle.std.specs.List.{Contains}
use Rattle.std.proofs.lemmas.Bool.{true≢false, eqb-true}
use Rattle.jh_name.specs.declared.place.Place.{Place}
use Rattle.jh_form.specs.Meaning.{Datum, an_object, a_number, a_truth, a_set, a_field}
use Rattle.jh_rules.specs.declared.types.Ty.{Ty}
use Rattle.jh_rules.specs.declared.types.Ty.TheVariants as ty
use Rattle.jh_rules.specs.Kinds.{fits}
use Rattle.jh_semantics.specs.Code.{Text, ObjectCode, AnyCode, Local, Target}
use Rattle.jh_semantics.specs.Code as c
use Rattle.jh_semantics.specs.Program.{Program, Member, class_at}
use Rattle.jh_semantics.specs.State.{State, named, this_name, alloc_name}
use Rattle.jh_semantics.specs.Locals.{has_dot}
use Rattle.jh_semantics.specs.Values.{Value, value, null_at, then_value, dereferenced, object_of}
use Rattle.jh_semantics.specs.Typed.{Surroundings, IsType, NamesFit, Named, as_local, as_static, ObjectHas, of_null, of_this, of_name, of_read, IsMember}
use Rattle.jh_semantics.specs.Laws.{IsInside}
use Rattle.jh_semantics.proofs.Keeping.{IsOf}
use Rattle.jh_semantics.proofs.Inside.{Lies, Below, object-lies}
use Rattle.jh_semantics.proofs.Formed.{ObjectLies, Formed, default-lies, class-of}

module _ (p : Program) (names : NamesFit p) where
  -- the parameters, locals and `this` of a place lie in their types
  pub record ScopeLies (at : Surroundings) (s : State) : Type 0 where
    pub locals : (x : Local) → Contains (at.params ++ at.locals) x → ObjectLies p x.type s (s.object (named x.text))
    pub this : (n : ℕ) → at.this ≡ Some n → s.set (named (class_at p.classes n)) (s.object this_name) ≡ true

  -- and are told from one another and from the state
  pub record ScopeFits (at : Surroundings) : Type 0 where
    pub no_state : (x : Local) → Contains (at.params ++ at.locals) x → has_dot x.text ≡ false
    pub not_this : (x : Local) → Contains (at.params ++ at.locals) x → x.text ≡ codes "this" → ⊥
    pub one : (x y : Local) → Contains (at.params ++ at.locals) x → Contains (at.params ++ at.locals) y → x.text ≡ y.text → x.type ≡ y.type
    pub types : (x : Local) → Contains (at.params ++ at.locals) x → IsType p x.type
    pub of_class : (n : ℕ) → at.this ≡ Some n → Contains p.classes (class_at p.classes n)

  -- a value lies in a type
  abbrev pub DatumLies : Ty → State → Datum → Type 0
  DatumLies type s (an_object v) = ObjectLies p type s v
  DatumLies type s (a_number z) = type ≡ ty.Int
  DatumLies type s (a_truth b) = type ≡ ty.Boolean
  DatumLies type s (a_set v) = ⊥
  DatumLies type s (a_field f) = ⊥

  -- both in one type: what stands for a value and what fits it
  pub fits-object : (t u : Ty) (s : State) (v : ℕ) → Formed p s → v < suc s.last → IsType p t → fits t u ≡ true → ObjectLies p t s v → ObjectLies p u s v
  fits-object ty.Null ty.Null s v f l i e h = h
  fits-object ty.Null ty.Object s v f l i e h = inl h
  fits-object ty.Null (ty.Class n) s v f l i e h = inl h
  fits-object ty.Object ty.Object s v f l i e h = h
  fits-object (ty.Class n) ty.Object s v f l i e (inl h) = inl h
  fits-object (ty.Class n) ty.Object s v f l i e (inr h) = inr (f.in_alloc (class_at p.classes n) (class-of p names (class_at p.classes n) i) v l h)
  fits-object (ty.Class n) (ty.Class m) s v f l i e h = subst (λ (x : ℕ). ObjectLies p (ty.Class x) s v) (eqb-true n m e) h
  fits-object t ty.Int s v f l i e h = tt
  fits-object t ty.Boolean s v f l i e h = tt
  fits-object t ty.Void s v f l i e h = tt
  fits-object ty.Object ty.Null s v f l i e h = absurd (true≢false (sym e))
  fits-object ty.Object (ty.Class m) s v f l i e h = absurd (true≢false (sym e))
  fits-object (ty.Class n) ty.Null s v f l i e h = absurd (true≢false (sym e))
  fits-object ty.Int ty.Null s v f l i e h = absurd (true≢false (sym e))
  fits-object ty.Int ty.Object s v f l i e h = absurd (true≢false (sym e))
  fits-object ty.Int (ty.Class m) s v f l i e h = absurd (true≢false (sym e))
  fits-object ty.Boolean ty.Null s v f l i e h = absurd (true≢false (sym e))
  fits-object ty.Boolean ty.Object s v f l i e h = absurd (true≢false (sym e))
  fits-object ty.Boolean (ty.Class m) s v f l i e h = absurd (true≢false (sym e))
  fits-object ty.Void ty.Null s v f l i e h = absurd (true≢false (sym e))
  fits-object ty.Void ty.Object s v f l i e h = absurd (true≢false (sym e))
  fits-object ty.Void (ty.Class m) s v f l i e h = absurd (true≢false (sym e))

  fits-int : (u : Ty) → fits ty.Int u ≡ true → u ≡ ty.Int
  fits-int ty.Int e = refl
  fits-int ty.Boolean e = absurd (true≢false (sym e))
  fits-int ty.Void e = absurd (true≢false (sym e))
  fits-int ty.Null e = absurd (true≢false (sym e))
  fits-int ty.Object e = absurd (true≢false (sym e))
  fits-int (ty.Class m) e = absurd (true≢false (sym e))

  fits-boolean : (u : Ty) → fits ty.Boolean u ≡ true → u ≡ ty.Boolean
  fits-boolean ty.Boolean e = refl
  fits-boolean ty.Int e = absurd (true≢false (sym e))
  fits-boolean ty.Void e = absurd (true≢false (sym e))
  fits-boolean ty.Null e = absurd (true≢false (sym e))
  fits-boolean ty.Object e = absurd (true≢false (sym e))
  fits-boolean (ty.Class m) e = absurd (true≢false (sym e))

  pub fits-datum : (t u : Ty) (s : State) (d : Datum) → Formed p s → IsInside s.last d → IsType p t → fits t u ≡ true → DatumLies t s d → DatumLies u s d
  fits-datum t u s (an_object v) f l i e h = fits-object t u s v f l i e h
  fits-datum t u s (a_number z) f l i e h = fits-int u (sym (ap (λ (x : Ty). fits x u) h) ∙ e)
  fits-datum t u s (a_truth b) f l i e h = fits-boolean u (sym (ap (λ (x : Ty). fits x u) h) ∙ e)
  fits-datum t u s (a_set v) f l i e h = absurd h
  fits-datum t u s (a_field g) f l i e h = absurd h

  -- a type that code has names a class of the program
  pub has-type : (at : Surroundings) → ScopeFits at → (e : ObjectCode) (t : Ty) → ObjectHas p at e t → IsType p t
  has-type at fit _ _ of_null = tt
  has-type at fit _ _ (of_this n e) = fit.of_class n e
  has-type at fit _ _ (of_name x t h e) = named-type x t h
    where
      named-type : (x : Text) (t : Ty) → Named p at x t → IsType p t
      named-type _ _ (as_local y h) = fit.types y h
      named-type _ _ (as_static y t h) = names.types y t h.stands h.has
  has-type at fit _ _ (of_read x t h e r q n g i) = names.types x t h.stands h.has

  -- what holds of an object holds of it as a receiver
  pub dereferenced-of : (Q : ℕ → Type 0) (r : ObjectCode) (q : Place) (a : ℕ) → Q a → IsOf Q (dereferenced r q a)
  dereferenced-of Q c.this q a h = h
  dereferenced-of Q c.null q zero h = tt
  dereferenced-of Q c.null q (suc a) h = h
  dereferenced-of Q (c.object x) q zero h = tt
  dereferenced-of Q (c.object x) q (suc a) h = h
  dereferenced-of Q (c.read_object f r i) q zero h = tt
  dereferenced-of Q (c.read_object f r i) q (suc a) h = h

  then-of : {X Y : Type 0} (P : X → Type 0) (Q : Y → Type 0) (v : Value X) (next : X → Value Y) → IsOf P v → ((x : X) → P x → IsOf Q (next x)) → IsOf Q (then_value v next)
  then-of P Q (value x) next h f = f x h
  then-of P Q (null_at q) next h f = tt

  both-of : {X : Type 0} (P Q : X → Type 0) (v : Value X) → IsOf P v → IsOf Q v → IsOf (λ x. P x × Q x) v
  both-of P Q (value x) h g = (h, g)
  both-of P Q (null_at q) h g = tt

  -- the field of an object of its class, or of null
  field-typed : (x : Member) (t : Ty) (n : ℕ) (s : State) (a : ℕ) → Formed p s → IsMember p x false t → class_at p.classes n ≡ x.class → a < suc s.last → ObjectLies p (ty.Class n) s a → ObjectLies p t s ((s.field (named x.text)).objects a)
  field-typed x t n s a f h e l (inr i) = f.fields x t h.stands h.sort h.has a l (ap (λ (y : Text). s.set (named y) a) (sym e) ∙ i)
  field-typed x t n s a f h e l (inl i) =
      default-lies p names t x.kind s.last (s.field (named x.text)) a s (names.kinds x t h.stands h.has) (f.defaults x h.stands h.sort a l
      (null-nowhere (s.set (named x.class) a) (λ g. true≢false (sym (f.in_alloc x.class (class-of p names x.class (names.of_class x h.stands)) a l g) ∙ (ap (λ (y : ℕ). s.set alloc_name y) i ∙ f.no_null)))))
    where
      null-nowhere : (b : Bool) → (b ≡ true → ⊥) → b ≡ false
      null-nowhere true g = absurd (g refl)
      null-nowhere false g = refl

  pub object-typed : (at : Surroundings) (e : ObjectCode) (t : Ty) (s : State) → ObjectHas p at e t → Formed p s → Lies s.last s → ScopeLies at s → IsOf (λ v. ObjectLies p t s v) (object_of e s)
  object-typed at _ _ s of_null f l h = refl
  object-typed at _ _ s (of_this n e) f l h = inr (h.this n e)
  object-typed at _ _ s (of_name x t g e) f l h = by_name x t g
    where
      by_name : (x : Text) (t : Ty) → Named p at x t → ObjectLies p t s (s.object (named x))
      by_name _ _ (as_local y i) = h.locals y i
      by_name _ _ (as_static y t i) = f.statics y t i.stands i.sort i.has
  object-typed at _ _ s (of_read x t m e r q n i j) f l h =
      then-of (λ a. ObjectLies p (ty.Class n) s a × (a < suc s.last)) (λ v. ObjectLies p t s v) (object_of r s) (λ a. then_value (dereferenced r q a) (λ b. value ((s.field (named x.text)).objects b)))
      (both-of (λ a. ObjectLies p (ty.Class n) s a) (Below s.last) (object_of r s) (object-typed at r (ty.Class n) s i f l h) (object-lies s.last r s l)) (λ a o.
      then-of (λ b. ObjectLies p (ty.Class n) s b × (b < suc s.last)) (λ v. ObjectLies p t s v) (dereferenced r q a) (λ b. value ((s.field (named x.text)).objects b))
      (dereferenced-of (λ b. ObjectLies p (ty.Class n) s b × (b < suc s.last)) r q a o) (λ b w. field-typed x t n s b f m j w.1 w.0))
