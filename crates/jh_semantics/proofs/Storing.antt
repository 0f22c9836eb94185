-- Where typed values are stored, a well-formed state stays well formed.
use Rattle.std.proofs.Common.{◌≡◌, refl, sym, ap, subst, ◌∙◌, ℕ, zero, suc, ◌<◌, ◌⊎◌, inl, inr, Bool, true, false, if◌then◌else◌, List, [], ◌∷◌, ◌++◌, Option, Some, codes, arith, slice_index_or, length}
use Rattle.std.specs.List.{Contains}
use Rattle.std.specs.Option.{option_map_or}
use Rattle.std.proofs.lemmas.Bool.{true≢false}
use Rattle.std.proofs.lemmas.List.Elements.{Contains-append_left, Contains-append_right, Contains-append_cases}
use Rattle.jh_name.specs.declared.naming.Name.{Name}
use Rattle.jh_name.specs.declared.place.Place.{Place}
use Rattle.jh_form.specs.Passing.{name_equal}
use Rattle.jh_form.specs.Meaning.{Datum, an_object, a_number, a_truth, a_set, a_field}
use Rattle.jh_form.proofs.Names.{name_equal-true, name_equal-same}
use Rattle.jh_rules.specs.declared.types.Ty.{Ty}
use Rattle.jh_rules.specs.declared.types.Ty.TheVariants as ty
use Rattle.jh_semantics.specs.Code.{Text, ObjectCode, Local, Target}
use Rattle.jh_semantics.specs.Code as c
use Rattle.jh_semantics.specs.Program.{Program, Member, class_at}
use Rattle.jh_semantics.specs.State.{State, named, this_name, stored, stored_at}
use Rattle.jh_semantics.specs.Locals.{has_dot}
use Rattle.jh_semantics.specs.Values.{Value, value, null_at, dereferenced, object_of}
use Rattle.jh_semantics.specs.Objects.{target_of, put}
use Rattle.jh_semantics.specs.Progress.{Configuration, Progress, goes_on_in, with_value}
use Rattle.jh_semantics.specs.Typed.{Surroundings, IsType, NamesFit, ObjectHas, of_this, MayDeclare, Takes, new_local, old_local, a_static, a_field, declaring}
use Rattle.jh_semantics.specs.Laws.{Grew}
use Rattle.jh_semantics.proofs.Keeping.{Ends, IsOf}
use Rattle.jh_semantics.proofs.Inside.{Lies}
use Rattle.jh_semantics.proofs.Formed.{ObjectLies, Formed, lies-grow, names-formed, field-formed, Suits, class-of}
use Rattle.jh_semantics.proofs.Typing.{ScopeLies, ScopeFits, DatumLies, object-typed}

-- two texts are one, or not
pub same-or-not : (x y : Text) → (t : Bool) → name_equal (named x) (named y) ≡ t → (x ≡ y) ⊎ (x ≡ y → ⊥)
same-or-not x y true e = inl (ap (λ (z : Name). z.text) (name_equal-true (named x) (named y) e))
same-or-not x y false e = inr (λ h. true≢false (sym (name_equal-same (named x) (named y) (ap named h)) ∙ e))

module _ (p : Program) (names : NamesFit p) where
  -- an object under a name after another got one
  picked-lies : (type : Ty) (s : State) (v : ℕ) (x y : Text) → (x ≡ y → ObjectLies p type s v) → ((x ≡ y → ⊥) → ObjectLies p type s (s.object (named x))) →
      (t : Bool) → name_equal (named x) (named y) ≡ t → ObjectLies p type s (if t then v else s.object (named x))
  picked-lies type s v x y f g true e = f (ap (λ (z : Name). z.text) (name_equal-true (named x) (named y) e))
  picked-lies type s v x y f g false e = g (λ h. true≢false (sym (name_equal-same (named x) (named y) (ap named h)) ∙ e))

  -- what is no object stands under a name of no object type
  other-lies : (type t : Ty) (s : State) (v : ℕ) → type ≡ t → (t ≡ ty.Int) ⊎ (t ≡ ty.Boolean) → ObjectLies p type s v
  other-lies type t s v e (inl i) = subst (λ (u : Ty). ObjectLies p u s v) (sym (e ∙ i)) tt
  other-lies type t s v e (inr i) = subst (λ (u : Ty). ObjectLies p u s v) (sym (e ∙ i)) tt

  unpicked-lies : (type t : Ty) (s : State) (x y : Text) → (x ≡ y → type ≡ t) → (t ≡ ty.Int) ⊎ (t ≡ ty.Boolean) → ((x ≡ y → ⊥) → ObjectLies p type s (s.object (named x))) → (x ≡ y) ⊎ (x ≡ y → ⊥) → ObjectLies p type s (s.object (named x))
  unpicked-lies type t s x y f i g (inl e) = other-lies type t s (s.object (named x)) (f e) i
  unpicked-lies type t s x y f i g (inr e) = g e

  -- a name gets a value of a type, which is that of the static of the name, if any
  pub stored-formed : (s : State) (y : Text) (d : Datum) (t : Ty) → DatumLies p names t s d → Formed p s →
      ((x : Member) (type : Ty) → Contains p.members x → x.is_static ≡ true → x.type ≡ Some type → x.text ≡ y → type ≡ t) → Formed p (stored s y d)
  stored-formed s y (an_object v) t h f one =
      names-formed p names s (λ z. if name_equal z (named y) then v else s.object z) s.number s.truth f (λ x type i g e.
      picked-lies type s v x.text y (λ q. subst (λ (u : Ty). ObjectLies p u s v) (sym (one x type i g e q)) h) (λ q. f.statics x type i g e) (name_equal (named x.text) (named y)) refl)
  stored-formed s y (a_number v) t h f one = names-formed p names s s.object (λ z. if name_equal z (named y) then v else s.number z) s.truth f (λ x type i g e. f.statics x type i g e)
  stored-formed s y (a_truth v) t h f one = names-formed p names s s.object s.number (λ z. if name_equal z (named y) then v else s.truth z) f (λ x type i g e. f.statics x type i g e)
  stored-formed s y (a_set v) t h f one = absurd h
  stored-formed s y (a_field v) t h f one = absurd h

  -- and that of the local of the name, if any
  pub stored-scope : (at : Surroundings) (s : State) (y : Text) (d : Datum) (t : Ty) → DatumLies p names t s d → ((x : Local) → Contains (at.params ++ at.locals) x → IsType p x.type) →
      ((x : Local) → Contains (at.params ++ at.locals) x → (x.text ≡ y → ⊥) → ObjectLies p x.type s (s.object (named x.text))) →
      ((n : ℕ) → at.this ≡ Some n → s.set (named (class_at p.classes n)) (s.object this_name) ≡ true) → (codes "this" ≡ y → ⊥) →
      ((x : Local) → Contains (at.params ++ at.locals) x → x.text ≡ y → x.type ≡ t) → ScopeLies p names at (stored s y d)
  stored-scope at s y (an_object v) t h types others this apart one = record {
    locals = λ x i. lies-grow p names x.type s (stored s y (an_object v)) _ (types x i) (λ z n a m. m)
        (picked-lies x.type s v x.text y (λ q. subst (λ (u : Ty). ObjectLies p u s v) (sym (one x i q)) h) (others x i) (name_equal (named x.text) (named y)) refl);
    this = λ n e. this-kept n (name_equal this_name (named y)) refl (this n e);
  }
    where
      this-kept : (n : ℕ) (b : Bool) → name_equal this_name (named y) ≡ b → s.set (named (class_at p.classes n)) (s.object this_name) ≡ true → s.set (named (class_at p.classes n)) (if b then v else s.object this_name) ≡ true
      this-kept n true e g = absurd (apart (ap (λ (z : Name). z.text) (name_equal-true this_name (named y) e)))
      this-kept n false e g = g
  stored-scope at s y (a_number v) t h types others this apart one = record {
    locals = λ x i. lies-grow p names x.type s (stored s y (a_number v)) (s.object (named x.text)) (types x i) (λ z n a m. m)
        (unpicked-lies x.type t s x.text y (one x i) (inl h) (others x i) (same-or-not x.text y (name_equal (named x.text) (named y)) refl));
    this = λ n e. this n e;
  }
  stored-scope at s y (a_truth v) t h types others this apart one = record {
    locals = λ x i. lies-grow p names x.type s (stored s y (a_truth v)) (s.object (named x.text)) (types x i) (λ z n a m. m)
        (unpicked-lies x.type t s x.text y (one x i) (inr h) (others x i) (same-or-not x.text y (name_equal (named x.text) (named y)) refl));
    this = λ n e. this n e;
  }
  stored-scope at s y (a_set v) t h types others this apart one = absurd h
  stored-scope at s y (a_field v) t h types others this apart one = absurd h

  -- the object of a target's receiver: one of the class with the field, or null where it isn't `this`
  abbrev pub Reaches : ObjectCode → Text → State → ℕ → Type 0
  Reaches c.this class s a = s.set (named class) a ≡ true
  Reaches _ class s a = (a ≡ 0) ⊎ (s.set (named class) a ≡ true)

  abbrev pub TargetLies : Target → State → ℕ → Type 0
  TargetLies (c.to_field f r q) s a = (x : Member) → Contains p.members x → x.text ≡ f → Reaches r x.class s a
  TargetLies _ s a = Unit {0}

  -- it stays so where sets grow
  reaches-grow : (r : ObjectCode) (class : Text) (s u : State) (a : ℕ) → has_dot class ≡ false → Grew s u → Reaches r class s a → Reaches r class u a
  reaches-grow c.this class s u a d g h = g class d a h
  reaches-grow c.null class s u a d g (inl h) = inl h
  reaches-grow c.null class s u a d g (inr h) = inr (g class d a h)
  reaches-grow (c.object x) class s u a d g (inl h) = inl h
  reaches-grow (c.object x) class s u a d g (inr h) = inr (g class d a h)
  reaches-grow (c.read_object f r q) class s u a d g (inl h) = inl h
  reaches-grow (c.read_object f r q) class s u a d g (inr h) = inr (g class d a h)

  pub target-grow : (target : Target) (s u : State) (a : ℕ) → Grew s u → TargetLies target s a → TargetLies target u a
  target-grow c.nowhere s u a g h = tt
  target-grow (c.to_new x) s u a g h = tt
  target-grow (c.to_name x) s u a g h = tt
  target-grow (c.to_field f r q) s u a g h = λ x i e. reaches-grow r x.class s u a (names.dotless x.class (class-of p names x.class (names.of_class x i))) g (h x i e)

  map-of : {X : Type 0} (P Q : X → Type 0) (v : Value X) → ((x : X) → P x → Q x) → IsOf P v → IsOf Q v
  map-of P Q (value x) f h = f x h
  map-of P Q (null_at q) f h = tt

  this-class : (at : Surroundings) (n : ℕ) → ObjectHas p at c.this (ty.Class n) → at.this ≡ Some n
  this-class at _ (of_this n e) = e

  pub reaches-of : (at : Surroundings) (r : ObjectCode) (n : ℕ) (class : Text) (s : State) → class_at p.classes n ≡ class → ObjectHas p at r (ty.Class n) → Formed p s → Lies s.last s → ScopeLies p names at s → IsOf (λ a. Reaches r class s a) (object_of r s)
  reaches-of at c.this n class s e h f l g = subst (λ (x : Text). s.set (named x) (s.object this_name) ≡ true) e (g.this n (this-class at n h))
  reaches-of at c.null n class s e h f l g = inl refl
  reaches-of at (c.object x) n class s e h f l g =
      subst (λ (y : Text). IsOf (λ a. (a ≡ 0) ⊎ (s.set (named y) a ≡ true)) (object_of (c.object x) s)) e (object-typed p names at (c.object x) (ty.Class n) s h f l g)
  reaches-of at (c.read_object x r q) n class s e h f l g =
      subst (λ (y : Text). IsOf (λ a. (a ≡ 0) ⊎ (s.set (named y) a ≡ true)) (object_of (c.read_object x r q) s)) e (object-typed p names at (c.read_object x r q) (ty.Class n) s h f l g)

  pub target-typed : (at : Surroundings) (target : Target) (t : Ty) (s : State) → Takes p at target t → Formed p s → Lies s.last s → ScopeLies p names at s → IsOf (λ a. TargetLies target s a) (target_of target s)
  target-typed at _ _ s (new_local x h) f l g = tt
  target-typed at _ _ s (old_local x h) f l g = tt
  target-typed at _ _ s (a_static x t h) f l g = tt
  target-typed at _ _ s (a_field x t m r q n h e) f l g =
      map-of (λ a. Reaches r x.class s a) (λ a. TargetLies (c.to_field x.text r q) s a) (object_of r s)
      (λ a i y j d. subst (λ (z : Member). Reaches r z.class s a) (sym (names.members y x j m.stands d)) i) (reaches-of at r n x.class s e h f l g)

  not-null : (s : State) (class : Text) (a : ℕ) → (suc a ≡ 0) ⊎ (s.set (named class) (suc a) ≡ true) → s.set (named class) (suc a) ≡ true
  not-null s class a (inl h) = absurd (no-zero h)
    where
      no-zero : suc a ≡ 0 → ⊥
      no-zero e = omega (e, arith)
  not-null s class a (inr h) = h

  -- what is dereferenced is an object of the class
  pub in-class : (r : ObjectCode) (q : Place) (class : Text) (s : State) (a : ℕ) → Reaches r class s a → IsOf (λ b. s.set (named class) b ≡ true) (dereferenced r q a)
  in-class c.this q class s a h = h
  in-class c.null q class s zero h = tt
  in-class c.null q class s (suc a) h = not-null s class a h
  in-class (c.object x) q class s zero h = tt
  in-class (c.object x) q class s (suc a) h = not-null s class a h
  in-class (c.read_object f r i) q class s zero h = tt
  in-class (c.read_object f r i) q class s (suc a) h = not-null s class a h

  -- a list with one more
  only-one : (x y : Local) → Contains (x ∷ []) y → y ≡ x
  only-one x y h = at_place h.0 h.1 h.2
    where
      at_place : (k : ℕ) → k < length (x ∷ []) → slice_index_or (x ∷ []) k y ≡ y → y ≡ x
      at_place zero l e = sym e
      at_place (suc k) l e = absurd (beyond l)
        where
          beyond : suc k < 1 → ⊥
          beyond l = omega (l, arith)

  pub split-off : (before : List Local) (x : Local) (after : List Local) (y : Local) → Contains (before ++ (x ∷ after)) y → (y ≡ x) ⊎ Contains (before ++ after) y
  split-off before x after y h = first (Contains-append_cases before (x ∷ after) y h)
    where
      second : Contains (x ∷ []) y ⊎ Contains after y → (y ≡ x) ⊎ Contains (before ++ after) y
      second (inl i) = inl (only-one x y i)
      second (inr i) = inr (Contains-append_right before after y i)

      first : Contains before y ⊎ Contains (x ∷ after) y → (y ≡ x) ⊎ Contains (before ++ after) y
      first (inl i) = inr (Contains-append_left before after y i)
      first (inr i) = second (Contains-append_cases (x ∷ []) after y i)

  pub dot-or-none : {X : Type 0} (x y : Text) → has_dot x ≡ true → has_dot y ≡ false → x ≡ y → X
  dot-or-none x y h i e = absurd (true≢false (sym h ∙ (ap has_dot e ∙ i)))

  -- where it goes on, the state is well formed and what is in scope lies in its types
  abbrev pub FormedIn : Surroundings → Configuration → Type 0
  FormedIn at r = Formed p r.now × ScopeLies p names at r.now

  some-type : (t u : Ty) → ◌≡◌ {A = Option Ty} (Some t) (Some u) → t ≡ u
  some-type t u e = ap (λ (x : Option Ty). option_map_or (λ z. z) x ty.Int) e

  new-formed : (at : Surroundings) (x : Local) (d : Datum) (s : State) → MayDeclare p at x → ScopeFits p names at → Formed p s → ScopeLies p names at s → DatumLies p names x.type s d →
      Formed p (stored s x.text d) × ScopeLies p names (record at { locals = x ∷ at.locals }) (stored s x.text d)
  new-formed at x d s may fit f l h = (
    stored-formed s x.text d x.type h f (λ y t i g e q. dot-or-none y.text x.text (names.dots y i) may.no_state q),
    stored-scope (record at { locals = x ∷ at.locals }) s x.text d x.type h
        (λ y i. type-of y (split-off at.params x at.locals y i))
        (λ y i q. old y q (split-off at.params x at.locals y i))
        (λ n e. l.this n e) (λ q. may.not_this (sym q))
        (λ y i q. same y q (split-off at.params x at.locals y i)),
  )
    where
      type-of : (y : Local) → (y ≡ x) ⊎ Contains (at.params ++ at.locals) y → IsType p y.type
      type-of y (inl e) = subst (λ (z : Local). IsType p z.type) (sym e) may.type_fits
      type-of y (inr i) = fit.types y i

      old : (y : Local) → (y.text ≡ x.text → ⊥) → (y ≡ x) ⊎ Contains (at.params ++ at.locals) y → ObjectLies p y.type s (s.object (named y.text))
      old y q (inl e) = absurd (q (ap (λ (z : Local). z.text) e))
      old y q (inr i) = l.locals y i

      same : (y : Local) → y.text ≡ x.text → (y ≡ x) ⊎ Contains (at.params ++ at.locals) y → y.type ≡ x.type
      same y q (inl e) = ap (λ (z : Local). z.type) e
      same y q (inr i) = absurd (may.is_new y i q)

  suits-of : (x : Member) (t : Ty) (s : State) (d : Datum) → x.type ≡ Some t → DatumLies p names t s d → Suits p names x s d
  suits-of x t s (an_object v) e h = λ u i. subst (λ (z : Ty). ObjectLies p z s v) (some-type t u (sym e ∙ i)) h
  suits-of x t s (a_number z) e h = tt
  suits-of x t s (a_truth b) e h = tt
  suits-of x t s (a_set v) e h = tt
  suits-of x t s (a_field g) e h = tt

  -- what is in scope lies in its types where other fields are
  pub scope-of-field : (at : Surroundings) (s : State) (f : Text) (a : ℕ) (d : Datum) → ScopeFits p names at → ScopeLies p names at s → ScopeLies p names at (stored_at s f a d)
  scope-of-field at s f a d fit l = record {
    locals = λ x i. lies-grow p names x.type s (stored_at s f a d) (s.object (named x.text)) (fit.types x i) (λ z n b m. m) (l.locals x i);
    this = λ n e. l.this n e;
  }

  -- (a store never returns from the method, so anything may be asked of a return)
  pub put-formed : (R : Configuration → Option Datum → Type 0) (at : Surroundings) (target : Target) (t : Ty) (a : ℕ) (d : Datum) (r : Configuration) → Takes p at target t → ScopeFits p names at → FormedIn at r → TargetLies target r.now a → DatumLies p names t r.now d →
      Ends (FormedIn (declaring p at target)) R (put target a d r)
  put-formed R at _ _ a d r (new_local x may) fit g l h = new-formed at x d r.now may fit g.0 g.1 h
  put-formed R at _ _ a d r (old_local x i) fit g l h = (
    stored-formed r.now x.text d x.type h g.0 (λ y t j e m q. dot-or-none y.text x.text (names.dots y j) (fit.no_state x (Contains-append_right at.params at.locals x i)) q),
    stored-scope at r.now x.text d x.type h fit.types (λ y j q. (g.1).locals y j) (λ n e. (g.1).this n e) (λ q. fit.not_this x (Contains-append_right at.params at.locals x i) (sym q))
        (λ y j q. fit.one y x j (Contains-append_right at.params at.locals x i) q),
  )
  put-formed R at _ _ a d r (a_static x t m) fit g l h = (
    stored-formed r.now x.text d t h g.0 (λ y u j e i q. some-type u t (sym i ∙ (ap (λ (z : Member). z.type) (names.members y x j m.stands q) ∙ m.has))),
    stored-scope at r.now x.text d t h fit.types (λ y j q. (g.1).locals y j) (λ n e. (g.1).this n e) (λ q. dot-or-none x.text (codes "this") (names.dots x m.stands) refl (sym q))
        (λ y j q. dot-or-none x.text y.text (names.dots x m.stands) (fit.no_state y j) (sym q)),
  )
  put-formed R at _ _ a d r (a_field x t m f q n has e) fit g l h =
      value-ends (dereferenced f q a) (λ b. goes_on_in r (stored_at r.now x.text b d)) (in-class f q x.class r.now a (l x m.stands refl)) (λ b i.
      (field-formed p names r.now x b d m.stands m.sort i (suits-of x t r.now d m.has h) g.0, scope-of-field at r.now x.text b d fit g.1))
    where
      value-ends : (v : Value ℕ) (next : ℕ → Progress) → IsOf (λ b. r.now.set (named x.class) b ≡ true) v → ((b : ℕ) → r.now.set (named x.class) b ≡ true → Ends (FormedIn at) R (next b)) → Ends (FormedIn at) R (with_value v next)
      value-ends (value b) next i k = k b i
      value-ends (null_at j) next i k = tt
