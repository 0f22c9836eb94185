-- Runs of typed code keep states well formed.
use Rattle.std.proofs.Common.{◌≡◌, refl, sym, ap, subst, ◌∙◌, ℕ, zero, suc, ◌<◌, ◌⊎◌, inl, inr, ◌==◌, ◌&&◌, not, nat_lt, Bool, true, false, List, [], ◌∷◌, ◌++◌, Option, None, Some, codes, arith}
use Rattle.std.specs.List.{Contains}
use Rattle.std.specs.Option.{option_map_or}
use Rattle.std.proofs.lemmas.Bool.{true≢false}
use Rattle.std.proofs.lemmas.Bool.Decides.{nat_tests}
use Rattle.std.proofs.lemmas.List.Elements.{Contains-append_left, Contains-append_right, Contains-append_cases}
use Rattle.jh_name.specs.declared.place.Place.{Place}
use Rattle.jh_vars.specs.Written.{Callee}
use Rattle.jh_form.specs.Meaning.{Datum, an_object, a_number, a_truth, a_set, a_field, datum, term_value}
use Rattle.jh_rules.specs.declared.types.Ty.{Ty}
use Rattle.jh_rules.specs.declared.types.Ty.TheVariants as ty
use Rattle.jh_rules.specs.Kinds.{fits, kind_of}
use Rattle.jh_name.specs.declared.place.Kind.TheVariants as k
use Rattle.jh_semantics.specs.Code.{Text, ObjectCode, AnyCode, Local, Target, Stmt, Stmts}
use Rattle.jh_semantics.specs.Code as c
use Rattle.jh_semantics.specs.Program.{Program, Member, class_at}
use Rattle.jh_semantics.specs.State.{State, named, this_name, alloc_name, shown, stored, stored_at}
use Rattle.jh_semantics.specs.Locals.{has_dot}
use Rattle.jh_semantics.specs.Values.{Value, value, null_at, then_value, object_of, number_of, truth_of, value_of}
use Rattle.jh_semantics.specs.Progress.{Configuration, Progress, goes_on, returns, stops, pay, pay_from, then_run, with_value, choose, goes_on_in}
use Rattle.jh_semantics.specs.Objects.{is_free, created, pick, target_of, put}
use Rattle.jh_semantics.specs.Typed.{ObjectHas, of_null, of_this, of_name, of_read, Surroundings, IsType, NamesFit, ProgramFits, Has, Fits, Takes, new_local, old_local, a_static, TakesFit, TypeOf, plain_objects, objects_of, declaring, scope_behind, MayDeclare, AssignFits, NewFits, CallFits, ResultFits, GhostFits, GhostFieldFits, StmtFits, StmtsFit}
use Rattle.jh_semantics.specs.Typed as typed
use Rattle.jh_semantics.specs.Laws.{IsInside}
use Rattle.jh_semantics.specs.Execution.{asked, ghost_stored, loop, exec, exec_all}
use Rattle.jh_semantics.proofs.Keeping.{Ends, IsOf, keeps-value, keeps-any, keeps-if, keeps-pick, keeps-choose, keeps-turns, keeps-asked}
use Rattle.jh_semantics.proofs.Inside.{Lies, Below, object-lies, free-lies, created-lies, stored-lies, stored-at-lies, datum-lies}
use Rattle.jh_semantics.proofs.Whole.{Stands, StandsWith, put-whole, target-lies}
use Rattle.jh_semantics.proofs.Growth.{created-sets, stored-sets}
use Rattle.jh_semantics.proofs.Formed.{IsClass, ObjectLies, Formed, lies-grow, class-of, created-formed, set-formed, field-formed, Suits, created-class, created-alloc, now-there}
use Rattle.jh_semantics.proofs.Typing.{ScopeLies, ScopeFits, DatumLies, fits-datum, has-type, object-typed}
use Rattle.jh_semantics.proofs.Storing.{TargetLies, target-typed, target-grow, FormedIn, put-formed, stored-formed, stored-scope, split-off, dot-or-none, scope-of-field}

-- two things at once
pub ends-both : (P Q : Configuration → Type 0) (R S : Configuration → Option Datum → Type 0) (x : Progress) → Ends P R x → Ends Q S x → Ends (λ r. P r × Q r) (λ r v. R r v × S r v) x
ends-both P Q R S (goes_on r) h g = (h, g)
ends-both P Q R S (returns r v) h g = (h, g)
ends-both P Q R S (stops why) h g = tt

pub both-of : {X : Type 0} (P Q : X → Type 0) (v : Value X) → IsOf P v → IsOf Q v → IsOf (λ x. P x × Q x) v
both-of P Q (value x) h g = (h, g)
both-of P Q (null_at q) h g = tt

pub lies-own : (n : ℕ) (s : State) → Lies n s → Lies s.last s
lies-own n s l = subst (λ (k : ℕ). Lies k s) (sym l.last) l

module _ (p : Program) (names : NamesFit p) (n : ℕ) where
  -- an object stands in a type of objects
  abbrev pub KindFits : Ty → Datum → Type 0
  KindFits t (an_object v) = kind_of t ≡ k.Obj
  KindFits t d = Unit {0}

  pub fits-kind : (t u : Ty) → fits t u ≡ true → kind_of t ≡ kind_of u
  fits-kind ty.Int ty.Int e = refl
  fits-kind ty.Boolean ty.Boolean e = refl
  fits-kind ty.Void ty.Void e = refl
  fits-kind ty.Null ty.Null e = refl
  fits-kind ty.Null ty.Object e = refl
  fits-kind ty.Null (ty.Class c) e = refl
  fits-kind ty.Object ty.Object e = refl
  fits-kind (ty.Class c) ty.Object e = refl
  fits-kind (ty.Class c) (ty.Class d) e = refl
  fits-kind _ _ e = absurd (true≢false (sym e))

  kind-fits : (t u : Ty) (d : Datum) → fits t u ≡ true → KindFits t d → KindFits u d
  kind-fits t u (an_object v) e h = sym (fits-kind t u e) ∙ h
  kind-fits t u (a_number z) e h = tt
  kind-fits t u (a_truth b) e h = tt
  kind-fits t u (a_set v) e h = tt
  kind-fits t u (a_field f) e h = tt

  pub has-kind : (at : Surroundings) (e : ObjectCode) (t : Ty) → ObjectHas p at e t → kind_of t ≡ k.Obj
  has-kind at _ _ of_null = refl
  has-kind at _ _ (of_this m e) = refl
  has-kind at _ _ (of_name x t h e) = e
  has-kind at _ _ (of_read x t m e r q j h i) = e

  -- what is known of a result
  abbrev pub ResultLies : Ty → State → Option Datum → Type 0
  ResultLies t s None = t ≡ ty.Void
  ResultLies t s (Some d) = record { 0 : DatumLies p names t s d; 1 : KindFits t d; 2 : t ≡ ty.Void → ⊥ }

  abbrev pub FormedWith : Ty → Configuration → Option Datum → Type 0
  FormedWith t r v = Formed p r.now × ResultLies t r.now v

  abbrev pub Good : Surroundings → Configuration → Type 0
  Good at r = record { 0 : Stands n r; 1 : FormedIn p names at r }

  abbrev pub GoodWith : Ty → Configuration → Option Datum → Type 0
  GoodWith t r v = record { 0 : StandsWith n r v; 1 : FormedWith t r v }

  pub paid : (at : Surroundings) (r : Configuration) (k : ℕ) → suc k ≡ r.steps → Good at r → Good at (record r { steps = k })
  paid at r k e h = (record { now = h.0.now; entry = h.0.entry }, h.1)

  -- a value in its type, and in the universe
  abbrev pub ValueOf : Ty → State → Datum → Type 0
  ValueOf t s d = record { 0 : DatumLies p names t s d; 1 : IsInside n d; 2 : KindFits t d }

  as-datum : {X : Type 0} (P : X → Type 0) (Q : Datum → Type 0) (v : Value X) (f : X → Datum) → IsOf P v → ((x : X) → P x → Q (f x)) → IsOf Q (then_value v (λ x. value (f x)))
  as-datum P Q (value x) f h g = g x h
  as-datum P Q (null_at q) f h g = tt

  any-of : {X : Type 0} (v : Value X) → IsOf (λ x. Unit {0}) v
  any-of (value x) = tt
  any-of (null_at q) = tt

  pub value-typed : (at : Surroundings) (e : AnyCode) (t : Ty) (s : State) → Has p at e t → Formed p s → Lies n s → ScopeLies p names at s → IsOf (ValueOf t s) (value_of e s)
  value-typed at (c.an_object a) t s h f l g =
      as-datum (λ v. ObjectLies p t s v × (v < suc n)) (ValueOf t s) (object_of a s) an_object
      (both-of (λ v. ObjectLies p t s v) (Below n) (object_of a s) (object-typed p names at a t s h f (lies-own n s l) g) (object-lies n a s l)) (λ v i. (i.0, i.1, has-kind at a t h))
  value-typed at (c.a_number a) t s h f l g = as-datum (λ x. Unit {0}) (ValueOf t s) (number_of a s) a_number (any-of (number_of a s)) (λ x i. (h, tt, tt))
  value-typed at (c.a_truth a) t s h f l g = as-datum (λ x. Unit {0}) (ValueOf t s) (truth_of a s) a_truth (any-of (truth_of a s)) (λ x i. (h, tt, tt))

  pub any-type : (at : Surroundings) → ScopeFits p names at → (e : AnyCode) (t : Ty) → Has p at e t → IsType p t
  any-type at fit (c.an_object a) t h = has-type p names at fit a t h
  any-type at fit (c.a_number a) t h = subst (λ (u : Ty). IsType p u) (sym h) tt
  any-type at fit (c.a_truth a) t h = subst (λ (u : Ty). IsType p u) (sym h) tt

  pub inside-own : (s : State) (d : Datum) → s.last ≡ n → IsInside n d → IsInside s.last d
  inside-own s d e h = subst (λ (k : ℕ). IsInside k d) (sym e) h

  -- a value goes to a target that it fits
  pub put-good : (result : Ty) (at : Surroundings) (target : Target) (t : Ty) (a : ℕ) (d : Datum) (r : Configuration) → TakesFit p at target t → IsType p t → ScopeFits p names at → Good at r →
      TargetLies p names target r.now a → a < suc n → ValueOf t r.now d → Ends (Good (declaring p at target)) (GoodWith result) (put target a d r)
  put-good result at target t a d r takes type fit g l i h =
      ends-both (Stands n) (FormedIn p names (declaring p at target)) (StandsWith n) (FormedWith result) (put target a d r)
      (put-whole n target a d r g.0 i h.1)
      (put-formed p names (FormedWith result) at target takes.type a d r takes.takes fit g.1 l
      (fits-datum p names t takes.type r.now d (g.1).0 (inside-own r.now d (g.0.now).last h.1) type takes.fit h.0))

  pub target-both : (at : Surroundings) (target : Target) (t : Ty) (s : State) → Takes p at target t → Formed p s → Lies n s → ScopeLies p names at s → IsOf (λ a. TargetLies p names target s a × (a < suc n)) (target_of target s)
  target-both at target t s takes f l g = both-of (λ a. TargetLies p names target s a) (Below n) (target_of target s) (target-typed p names at target t s takes f (lies-own n s l) g) (target-lies n target s l)

  -- what is free
  not-last : (x y z : Bool) → (x && y && not z) ≡ true → z ≡ false
  not-last true true false h = refl
  not-last true true true h = absurd (true≢false (sym h))
  not-last true false z h = absurd (true≢false (sym h))
  not-last false y z h = absurd (true≢false (sym h))

  not-first : (x y z : Bool) → (not x && y && z) ≡ true → x ≡ false
  not-first false y z h = refl
  not-first true y z h = absurd (true≢false (sym h))

  other-way : (a : ℕ) → (a == 0) ≡ false → (0 == a) ≡ false
  other-way a h = grind (arith, nat_tests)

  free-fresh : (s : State) (a : ℕ) → is_free s a ≡ true → s.set alloc_name a ≡ false
  free-fresh s a h = not-last (not (a == 0)) (nat_lt a (suc s.last)) (s.set alloc_name a) h

  free-nonzero : (s : State) (a : ℕ) → is_free s a ≡ true → (0 == a) ≡ false
  free-nonzero s a h = other-way a (not-first (a == 0) (nat_lt a (suc s.last)) (not (s.set alloc_name a)) h)

  -- the class of a new object
  class-is : (class : Text) (t : Ty) → TypeOf p class t → IsClass p class
  class-is _ _ plain_objects = Contains-append_right p.classes (codes "Object" ∷ []) (codes "Object") (0, omega arith, refl)
  class-is _ _ (objects_of k h) = class-of p names (class_at p.classes k) h

  type-is : (class : Text) (t : Ty) → TypeOf p class t → IsType p t
  type-is _ _ plain_objects = tt
  type-is _ _ (objects_of k h) = h

  type-kind : (class : Text) (t : Ty) → TypeOf p class t → kind_of t ≡ k.Obj
  type-kind _ _ plain_objects = refl
  type-kind _ _ (objects_of j h) = refl

  new-lies : (class : Text) (t : Ty) (s : State) (a : ℕ) → TypeOf p class t → ObjectLies p t (created s class a) a
  new-lies _ _ s a plain_objects = inr (created-alloc p names s (codes "Object") a a (class-is (codes "Object") ty.Object plain_objects) ∙ now-there p names (s.set alloc_name a) a a refl)
  new-lies _ _ s a (objects_of k h) = inr (created-class p names s (class_at p.classes k) a a (class-of p names (class_at p.classes k) h) ∙ now-there p names (s.set (named (class_at p.classes k)) a) a a refl)

  scope-created : (at : Surroundings) (s : State) (class : Text) (a : ℕ) → ScopeFits p names at → ScopeLies p names at s → ScopeLies p names at (created s class a)
  scope-created at s class a fit l = record {
    locals = λ x i. lies-grow p names x.type s (created s class a) (s.object (named x.text)) (fit.types x i) (created-sets s class a) (l.locals x i);
    this = λ k e. created-sets s class a (class_at p.classes k) (names.dotless (class_at p.classes k) (class-of p names (class_at p.classes k) (fit.of_class k e))) (s.object this_name) (l.this k e);
  }

  -- where a new object goes
  new-good : (result : Ty) (at : Surroundings) (q : Place) (target : Target) (class : Text) (t : Ty) (r : Configuration) → TypeOf p class t → TakesFit p at target t → ScopeFits p names at → Good at r →
      (a : ℕ) → TargetLies p names target r.now a → a < suc n → (x : ℕ) (more : List ℕ) → is_free r.now x ≡ true →
      Ends (Good (declaring p at target)) (GoodWith result) (put target a (an_object x) (record r { picks = more; now = created r.now class x }))
  new-good result at q target class t r is takes fit g a l i x more e =
      let s : State = r.now in
      let inside : x < suc n = free-lies n s x g.0.now e in
      put-good result at target t a (an_object x) (record r { picks = more; now = created s class x }) takes (type-is class t is) fit (
        record { now = created-lies n s class x g.0.now inside; entry = g.0.entry },
        (
          created-formed p names s class x (class-is class t is) (free-lies s.last s x (lies-own n s g.0.now) e) (free-fresh s x e) (free-nonzero s x e) (g.1).0,
          scope-created at s class x fit (g.1).1,
        ),
      )
      (target-grow p names target s (created s class x) a (created-sets s class x) l) i (new-lies class t s x is, inside, type-kind class t is)

  abbrev pub FormedState : Surroundings → State → Type 0
  FormedState at s = Formed p s × ScopeLies p names at s

  -- ghost variables: no member with a type has the name of one
  untyped : {X : Type 0} (y x : Member) (t : Ty) → Contains p.members y → y.type ≡ None → Contains p.members x → x.type ≡ Some t → x.text ≡ y.text → X
  untyped y x t i none j some e = absurd (apart-types (sym some ∙ (ap (λ (z : Member). z.type) (names.members x y j i e) ∙ none)))
    where
      apart-types : ◌≡◌ {A = Option Ty} (Some t) None → ⊥
      apart-types h = true≢false (ap (λ (z : Option Ty). option_map_or (λ u. true) z false) h)

  ghost-formed : (at : Surroundings) (s : State) (y : Member) (d : Datum) → Contains p.members y → y.type ≡ None → ScopeFits p names at → FormedState at s → FormedState at (stored s y.text d)
  ghost-formed at s y (an_object v) i e fit g = (
    stored-formed p names s y.text (an_object v) ty.Int tt g.0 (λ x t j m some q. untyped y x t i e j some q),
    stored-scope p names at s y.text (an_object v) ty.Int tt fit.types (λ x j q. (g.1).locals x j) (λ k h. (g.1).this k h) (λ q. dot-or-none p names y.text (codes "this") (names.dots y i) refl (sym q)) (λ x j q. dot-or-none p names y.text x.text (names.dots y i) (fit.no_state x j) (sym q)),
  )
  ghost-formed at s y (a_number v) i e fit g = (
    stored-formed p names s y.text (a_number v) ty.Int refl g.0 (λ x t j m some q. untyped y x t i e j some q),
    stored-scope p names at s y.text (a_number v) ty.Int refl fit.types (λ x j q. (g.1).locals x j) (λ k h. (g.1).this k h) (λ q. dot-or-none p names y.text (codes "this") (names.dots y i) refl (sym q)) (λ x j q. dot-or-none p names y.text x.text (names.dots y i) (fit.no_state x j) (sym q)),
  )
  ghost-formed at s y (a_truth v) i e fit g = (
    stored-formed p names s y.text (a_truth v) ty.Boolean refl g.0 (λ x t j m some q. untyped y x t i e j some q),
    stored-scope p names at s y.text (a_truth v) ty.Boolean refl fit.types (λ x j q. (g.1).locals x j) (λ k h. (g.1).this k h) (λ q. dot-or-none p names y.text (codes "this") (names.dots y i) refl (sym q)) (λ x j q. dot-or-none p names y.text x.text (names.dots y i) (fit.no_state x j) (sym q)),
  )
  ghost-formed at s y (a_set v) i e fit g =
      let u : State = stored s y.text (a_set v) in (
        set-formed p names s y.text (λ a. nat_lt a (suc s.last) && v a) (names.dots y i) g.0,
        record {
          locals = λ x j. lies-grow p names x.type s u (s.object (named x.text)) (fit.types x j) (stored-sets s y.text (a_set v) (names.dots y i)) ((g.1).locals x j);
          this = λ k h. stored-sets s y.text (a_set v) (names.dots y i) (class_at p.classes k) (names.dotless (class_at p.classes k) (class-of p names (class_at p.classes k) (fit.of_class k h))) (s.object this_name) ((g.1).this k h);
        },
      )
  ghost-formed at s y (a_field v) i e fit g = g

  ghost-suits : (y : Member) (s : State) (d : Datum) → y.type ≡ None → Suits p names y s d
  ghost-suits y s (an_object v) e = λ t some. absurd (true≢false (ap (λ (z : Option Ty). option_map_or (λ u. true) z false) (sym some ∙ e)))
  ghost-suits y s (a_number v) e = tt
  ghost-suits y s (a_truth v) e = tt
  ghost-suits y s (a_set v) e = tt
  ghost-suits y s (a_field v) e = tt

  -- scopes
  takes-fits : (at : Surroundings) (target : Target) (t : Ty) → Takes p at target t → ScopeFits p names at → ScopeFits p names (declaring p at target)
  takes-fits at _ _ (new_local x may) fit = record {
    no_state = λ y i. by_split y (λ y. has_dot y.text ≡ false) may.no_state (λ j. fit.no_state y j) (split-off p names at.params x at.locals y i);
    not_this = λ y i. by_split y (λ y. y.text ≡ codes "this" → ⊥) may.not_this (λ j. fit.not_this y j) (split-off p names at.params x at.locals y i);
    one = λ y z i j e. both_split y z e (split-off p names at.params x at.locals y i) (split-off p names at.params x at.locals z j);
    types = λ y i. by_split y (λ y. IsType p y.type) may.type_fits (λ j. fit.types y j) (split-off p names at.params x at.locals y i);
    of_class = λ k e. fit.of_class k e;
  }
    where
      by_split : (y : Local) (P : Local → Type 0) → P x → (Contains (at.params ++ at.locals) y → P y) → (y ≡ x) ⊎ Contains (at.params ++ at.locals) y → P y
      by_split y P h g (inl e) = subst P (sym e) h
      by_split y P h g (inr i) = g i

      both_split : (y z : Local) → y.text ≡ z.text → (y ≡ x) ⊎ Contains (at.params ++ at.locals) y → (z ≡ x) ⊎ Contains (at.params ++ at.locals) z → y.type ≡ z.type
      both_split y z e (inl h) (inl g) = ap (λ (w : Local). w.type) (h ∙ sym g)
      both_split y z e (inl h) (inr g) = absurd (may.is_new z g (sym e ∙ ap (λ (w : Local). w.text) h))
      both_split y z e (inr h) (inl g) = absurd (may.is_new y h (e ∙ ap (λ (w : Local). w.text) g))
      both_split y z e (inr h) (inr g) = fit.one y z h g e
  takes-fits at _ _ (old_local x i) fit = fit
  takes-fits at _ _ (a_static x t m) fit = fit
  takes-fits at _ _ (typed.a_field x t m r q k has e) fit = fit

  result-scope : (at : Surroundings) (target : Target) (t : Ty) → ResultFits p at target t → ScopeFits p names at → ScopeFits p names (declaring p at target)
  result-scope at c.nowhere t h fit = fit
  result-scope at (c.to_new x) t h fit = takes-fits at (c.to_new x) h.type h.takes fit
  result-scope at (c.to_name x) t h fit = fit
  result-scope at (c.to_field x r q) t h fit = fit

  pub fits-behind : (result : Ty) (s : Stmt) (at : Surroundings) → StmtFits p result s at → ScopeFits p names at → ScopeFits p names (scope_behind p at s)
  fits-behind result (c.assign target e) at h fit = takes-fits at target (h.fit).type (h.fit).takes fit
  fits-behind result (c.new_object q target class) at h fit = takes-fits at target (h.fit).type (h.fit).takes fit
  fits-behind result (c.call q target r place m args) at h fit = result-scope at target (h.method).result h.result_fits fit
  fits-behind result c.empty at h fit = fit
  fits-behind result (c.block body) at h fit = fit
  fits-behind result (c.branch q e a b) at h fit = fit
  fits-behind result (c.loop q invariants e body) at h fit = fit
  fits-behind result c.return_nothing at h fit = fit
  fits-behind result (c.return_value e) at h fit = fit
  fits-behind result (c.assert claim) at h fit = fit
  fits-behind result (c.note claim) at h fit = fit
  fits-behind result (c.ghost x q v) at h fit = fit
  fits-behind result (c.ghost_at q class f a place v) at h fit = fit

  -- what holds with more in scope holds with less
  fewer : (at : Surroundings) (target : Target) (s : State) → ScopeLies p names (declaring p at target) s → ScopeLies p names at s
  fewer at c.nowhere s l = l
  fewer at (c.to_name x) s l = l
  fewer at (c.to_field f r q) s l = l
  fewer at (c.to_new x) s l = record { locals = λ y i. l.locals y (one-more at.params x at.locals y i); this = λ k e. l.this k e }
    where
      behind : (xs : List Local) (x : Local) (y : Local) → Contains xs y → Contains (x ∷ xs) y
      behind xs x y h = Contains-append_right (x ∷ []) xs y h

      one-more : (before : List Local) (x : Local) (after : List Local) (y : Local) → Contains (before ++ after) y → Contains (before ++ (x ∷ after)) y
      one-more before x after y h = cases (Contains-append_cases before after y h)
        where
          cases : Contains before y ⊎ Contains after y → Contains (before ++ (x ∷ after)) y
          cases (inl i) = Contains-append_left before (x ∷ after) y i
          cases (inr i) = Contains-append_right before (x ∷ after) y (Contains-append_right (x ∷ []) after y i)

  behind-fewer : (s : Stmt) (at : Surroundings) (r : Configuration) → Good (scope_behind p at s) r → Good at r
  behind-fewer (c.assign target e) at r h = (h.0, ((h.1).0, fewer at target r.now (h.1).1))
  behind-fewer (c.new_object q target class) at r h = (h.0, ((h.1).0, fewer at target r.now (h.1).1))
  behind-fewer (c.call q target receiver place m args) at r h = (h.0, ((h.1).0, fewer at target r.now (h.1).1))
  behind-fewer c.empty at r h = h
  behind-fewer (c.block body) at r h = h
  behind-fewer (c.branch q e a b) at r h = h
  behind-fewer (c.loop q invariants e body) at r h = h
  behind-fewer c.return_nothing at r h = h
  behind-fewer (c.return_value e) at r h = h
  behind-fewer (c.assert claim) at r h = h
  behind-fewer (c.note claim) at r h = h
  behind-fewer (c.ghost x q v) at r h = h
  behind-fewer (c.ghost_at q class f a place v) at r h = h

  ends-map : (P Q : Configuration → Type 0) (R : Configuration → Option Datum → Type 0) (x : Progress) → ((r : Configuration) → P r → Q r) → Ends P R x → Ends Q R x
  ends-map P Q R (goes_on r) f h = f r h
  ends-map P Q R (returns r v) f h = h
  ends-map P Q R (stops why) f h = tt

  result-inside : (result : Ty) (at : Surroundings) (d : Datum) (t : Ty) (r : Configuration) → Good at r → IsType p t → fits t result ≡ true → (result ≡ ty.Void → ⊥) → ValueOf t r.now d → GoodWith result r (Some d)
  result-inside result at d t r g type fit some h =
      ((g.0, h.1), ((g.1).0, (fits-datum p names t result r.now d (g.1).0 (inside-own r.now d (g.0.now).last h.1) type fit h.0, kind-fits t result d fit h.2, some)))

  pub pay-good : (result : Ty) (at after : Surroundings) (r : Configuration) (next : Configuration → Progress) → Good at r → ((u : Configuration) → Good at u → Ends (Good after) (GoodWith result) (next u)) → Ends (Good after) (GoodWith result) (pay r next)
  pay-good result at after r next h f = from r.steps
    where
      from : (k : ℕ) → Ends (Good after) (GoodWith result) (pay_from k r next)
      from zero = tt
      from (suc k) = f (record r { steps = k }) (record { now = h.0.now; entry = h.0.entry }, h.1)

  module _ (call : Callee → ℕ → List Datum → Configuration → Progress) (result : Ty) where
    -- what a call in the code leads to
    abbrev pub CallsGood : Type 0
    CallsGood =
        (at : Surroundings) (q : Place) (target : Target) (receiver : Option ObjectCode) (place : Place) (m : Callee) (args : List AnyCode) → CallFits p at target receiver m args → ScopeFits p names at →
        (r : Configuration) → Good at r → Ends (Good (declaring p at target)) (GoodWith result) (exec call (c.call q target receiver place m args) r)

    module _ (calls : CallsGood) where
      then-good : (at after : Surroundings) (x : Progress) (next : Configuration → Progress) → Ends (Good at) (GoodWith result) x → ((u : Configuration) → Good at u → Ends (Good after) (GoodWith result) (next u)) → Ends (Good after) (GoodWith result) (then_run x next)
      then-good at after (goes_on r) next h f = f r h
      then-good at after (returns r v) next h f = h
      then-good at after (stops why) next h f = tt

      mutual
        pub exec-good : (s : Stmt) (at : Surroundings) → StmtFits p result s at → ScopeFits p names at → (r : Configuration) → Good at r → Ends (Good (scope_behind p at s)) (GoodWith result) (exec call s r)
        exec-good c.empty at h fit r g = pay-good result at at r goes_on g (λ u i. i)
        exec-good (c.block body) at h fit r g = pay-good result at at r (λ u. exec_all call body u) g (λ u i. all-good body at h fit u i)
        exec-good (c.assign target e) at h fit r g =
            pay-good result at (declaring p at target) r (λ u. with_value (target_of target u.now) (λ a. with_value (value_of e u.now) (λ d. put target a d u))) g (λ u i.
            keeps-value (Good (declaring p at target)) (GoodWith result) (paid (declaring p at target)) (λ a. TargetLies p names target u.now a × (a < suc n)) (target_of target u.now) (λ a. with_value (value_of e u.now) (λ d. put target a d u))
            (target-both at target (h.fit).type u.now (h.fit).takes (i.1).0 i.0.now (i.1).1) (λ a l.
            keeps-value (Good (declaring p at target)) (GoodWith result) (paid (declaring p at target)) (ValueOf h.type u.now) (value_of e u.now) (λ d. put target a d u) (value-typed at e h.type u.now h.has (i.1).0 i.0.now (i.1).1) (λ d v.
            put-good result at target h.type a d u h.fit (any-type at fit e h.type h.has) fit i l.0 l.1 v)))
        exec-good (c.new_object q target class) at h fit r g =
            pay-good result at (declaring p at target) r (λ u. with_value (target_of target u.now) (λ a. pick q u.picks u (λ x v. put target a (an_object x) (record v { now = created v.now class x })))) g (λ u i.
            keeps-value (Good (declaring p at target)) (GoodWith result) (paid (declaring p at target)) (λ a. TargetLies p names target u.now a × (a < suc n)) (target_of target u.now) (λ a. pick q u.picks u (λ x v. put target a (an_object x) (record v { now = created v.now class x })))
            (target-both at target (h.fit).type u.now (h.fit).takes (i.1).0 i.0.now (i.1).1) (λ a l.
            keeps-pick (Good (declaring p at target)) (GoodWith result) (paid (declaring p at target)) q u.picks u (λ x v. put target a (an_object x) (record v { now = created v.now class x })) (λ x more e.
            new-good result at q target class h.type u h.is h.fit fit i a l.0 l.1 x more e)))
        exec-good (c.call q target receiver place m args) at h fit r g = calls at q target receiver place m args h fit r g
        exec-good (c.branch q e a b) at h fit r g =
            pay-good result at at r (λ u. with_value (truth_of e u.now) (λ t. choose t (λ v. exec call a v) (λ v. exec_all call b v) u)) g (λ u i.
            keeps-any (Good at) (GoodWith result) (paid at) (truth_of e u.now) (λ t. choose t (λ v. exec call a v) (λ v. exec_all call b v) u) (λ t.
            keeps-choose (Good at) (GoodWith result) (paid at) t (λ v. exec call a v) (λ v. exec_all call b v) u
            (ends-map (Good (scope_behind p at a)) (Good at) (GoodWith result) (exec call a u) (λ v j. behind-fewer a at v j) (exec-good a at h.0 fit u i)) (all-good b at h.1 fit u i)))
        exec-good (c.loop q invariants e body) at h fit r g =
            pay-good result at at r (λ u. loop e (λ v. exec call body v) u) g (λ u i.
            keeps-turns (Good at) (GoodWith result) (paid at) e (λ v. exec call body v) (λ v j.
            ends-map (Good (scope_behind p at body)) (Good at) (GoodWith result) (exec call body v) (λ w l. behind-fewer body at w l) (exec-good body at h.1 fit v j)) (suc u.steps) u i)
        exec-good c.return_nothing at h fit r g = pay-good result at at r (λ u. returns u None) g (λ u i. ((i.0, tt), ((i.1).0, h)))
        exec-good (c.return_value e) at h fit r g =
            pay-good result at at r (λ u. with_value (value_of e u.now) (λ d. returns u (Some d))) g (λ u i.
            keeps-value (Good at) (GoodWith result) (paid at) (ValueOf (h.0).type u.now) (value_of e u.now) (λ d. returns u (Some d)) (value-typed at e (h.0).type u.now (h.0).has (i.1).0 i.0.now (i.1).1) (λ d v.
            result-inside result at d (h.0).type u i (any-type at fit e (h.0).type (h.0).has) (h.0).fit h.1 v))
        exec-good (c.assert claim) at h fit r g = pay-good result at at r (λ u. asked claim u) g (λ u i. keeps-asked (Good at) (GoodWith result) (paid at) claim u i)
        exec-good (c.note claim) at h fit r g = pay-good result at at r (λ u. asked claim u) g (λ u i. keeps-asked (Good at) (GoodWith result) (paid at) claim u i)
        exec-good (c.ghost x q v) at h fit r g =
            pay-good result at at r (λ u. goes_on_in u (stored u.now x (datum v (shown u.now u.entry) []))) g (λ u i. (
              record { now = stored-lies n u.now x (datum v (shown u.now u.entry) []) i.0.now (datum-lies n u.now u.entry i.0.now i.0.entry v); entry = i.0.entry },
              subst (λ (y : Text). FormedState at (stored u.now y (datum v (shown u.now u.entry) []))) (h.1).text
                  (ghost-formed at u.now h.0 (datum v (shown u.now u.entry) []) (h.1).ghost.stands (h.1).ghost.has fit i.1),
            ))
        exec-good (c.ghost_at q class f a place v) at h fit r g =
            pay-good result at at r (λ u. ghost_stored q class f (term_value a (shown u.now u.entry) []) (datum v (shown u.now u.entry) []) u) g (λ u i.
            let o : ℕ = term_value a (shown u.now u.entry) [] in
            let d : Datum = datum v (shown u.now u.entry) [] in
            let y : Member = h.0 in
            let y-fits : GhostFits p false f v y = (h.1).fits in
            keeps-if (Good at) (GoodWith result) (paid at) (u.now.set (named class) o) (goes_on_in u (stored_at u.now f o d)) _ (λ e. (
              record { now = stored-at-lies n u.now f o d i.0.now (datum-lies n u.now u.entry i.0.now i.0.entry v); entry = i.0.entry },
              subst (λ (z : Text). FormedState at (stored_at u.now z o d)) y-fits.text (
                field-formed p names u.now y o d y-fits.ghost.stands y-fits.ghost.sort (ap (λ (z : Text). u.now.set (named z) o) (h.1).of_class ∙ e) (ghost-suits y u.now d y-fits.ghost.has) (i.1).0,
                scope-of-field p names at u.now y.text o d fit (i.1).1,
              ),
            )) tt)

        pub all-good : (ss : Stmts) (at : Surroundings) → StmtsFit p result ss at → ScopeFits p names at → (r : Configuration) → Good at r → Ends (Good at) (GoodWith result) (exec_all call ss r)
        all-good c.none at h fit r g = g
        all-good (c.more s ss) at h fit r g =
            then-good (scope_behind p at s) at (exec call s r) (λ u. exec_all call ss u) (exec-good s at h.0 fit r g) (λ u i.
            ends-map (Good (scope_behind p at s)) (Good at) (GoodWith result) (exec_all call ss u) (λ v j. behind-fewer s at v j) (all-good ss (scope_behind p at s) h.1 (fits-behind result s at h.0 fit) u i))
