-- A typed call passes what the method may be entered with.
use Rattle.std.proofs.Common.{◌≡◌, refl, sym, ap, ◌∙◌, subst, ℕ, suc, ◌<◌, length, true, false, List, [], ◌∷◌, Option, None, Some, arith}
use Rattle.std.specs.List.{Contains}
use Rattle.std.proofs.lemmas.Bool.{true≢false}
use Rattle.std.proofs.lemmas.List.Elements.{Contains-append_right}
use Rattle.jh_name.specs.declared.place.Kind.TheVariants as k
use Rattle.jh_name.specs.declared.place.Kind as kind
use Rattle.jh_name.specs.declared.place.Place.{Place}
use Rattle.jh_form.specs.Meaning.{Datum, an_object, a_number, a_truth, a_set, a_field}
use Rattle.jh_rules.specs.Words.{same_text}
use Rattle.jh_rules.specs.declared.types.Ty.{Ty}
use Rattle.jh_rules.specs.declared.types.Ty.TheVariants as ty
use Rattle.jh_rules.specs.Kinds.{fits, is_int, is_boolean, is_number, is_truth}
use Rattle.jh_semantics.specs.Code.{Text, ObjectCode, AnyCode, Local}
use Rattle.jh_semantics.specs.Program.{Program, class_at}
use Rattle.jh_semantics.specs.State.{State, named}
use Rattle.jh_semantics.specs.Locals.{has_dot}
use Rattle.jh_semantics.specs.Values.{Value, value, null_at, dereferenced, object_of, value_of}
use Rattle.jh_semantics.specs.Execution.{receiver_of, called_on}
use Rattle.jh_semantics.specs.Entry.{LiesIn, AllLieIn, ThisLiesIn}
use Rattle.jh_semantics.specs.Laws.{IsInside, AreInside}
use Rattle.jh_semantics.specs.Typed.{Surroundings, NamesFit, AllFit, ReceiverFits}
use Rattle.jh_semantics.proofs.Keeping.{IsOf}
use Rattle.jh_semantics.proofs.Inside.{Lies, value-lies}
use Rattle.jh_semantics.proofs.Whole.{receiver-lies}
use Rattle.jh_semantics.proofs.Formed.{Formed}
use Rattle.jh_semantics.proofs.Typing.{ScopeLies, ScopeFits, DatumLies, fits-datum}
use Rattle.jh_semantics.proofs.Storing.{Reaches, reaches-of, in-class}
use Rattle.jh_semantics.proofs.TypedRuns.{lies-own, ValueOf, KindFits, value-typed, any-type, inside-own, fits-kind}
use Rattle.jh_guard.proofs.Checking.{Has}
use Rattle.jh_logic.specs.logic.MethodContracts.{IsValueType, is_param}
use Rattle.jh_logic.proofs.logic.StateNames.{AllDotless, any-has, texts-equal, not-true}
use Rattle.jh_logic.proofs.logic.Passings.{AreValues}

pub is-of-has : {X : Type 0} (P : X → Type 0) (v : Value X) (x : X) → IsOf P v → Has v x → P x
is-of-has P (value y) x h e = subst P e h
is-of-has P (null_at q) x h e = absurd e

pub values-length : (es : List AnyCode) (s : State) (ds : List Datum) → AreValues es s ds → length es ≡ length ds
values-length [] s [] h = refl
values-length (e ∷ es) s (d ∷ ds) h = ap suc (values-length es s ds h.1)
values-length [] s (d ∷ ds) h = absurd h
values-length (e ∷ es) s [] h = absurd h

pub values-inside : (n : ℕ) (es : List AnyCode) (s : State) (ds : List Datum) → Lies n s → AreValues es s ds → AreInside n ds
values-inside n [] s [] l h = tt
values-inside n (e ∷ es) s (d ∷ ds) l h = (is-of-has (IsInside n) (value_of e s) d (value-lies n e s l) h.0, values-inside n es s ds l h.1)
values-inside n [] s (d ∷ ds) l h = absurd h
values-inside n (e ∷ es) s [] l h = absurd h

pub dotless-params : (xs : List Local) → ((y : Local) → Contains xs y → has_dot y.text ≡ false) → AllDotless xs
dotless-params [] h = tt
dotless-params (x ∷ xs) h = (h x (0, omega arith, refl), dotless-params xs (λ y i. h y (Contains-append_right (x ∷ []) xs y i)))

pub no-such-param : (xs : List Local) (t : Text) → ((y : Local) → Contains xs y → y.text ≡ t → ⊥) → is_param xs t ≡ false
no-such-param xs t h = not-true (is_param xs t) (λ e. clash (any-has (λ (x : Local). same_text x.text t) xs e))
  where
    clash : (x : Local) × Contains xs x × (same_text x.text t ≡ true) → ⊥
    clash found = h found.0 found.1 (texts-equal found.0.text t found.2)

module _ (p : Program) (names : NamesFit p) (n : ℕ) where
  -- what lies in a type of values and has its kind
  pub lies-in : (t : Ty) (s : State) (d : Datum) → IsValueType t → DatumLies p names t s d → KindFits p names n t d → LiesIn p t s d
  lies-in ty.Void s d i h e = absurd i
  lies-in ty.Null s d i h e = absurd i
  lies-in ty.Object s (an_object a) i h e = h
  lies-in (ty.Class c) s (an_object a) i h e = h
  lies-in ty.Int s (an_object a) i h e = absurd (apart e)
    where
      apart : ◌≡◌ {A = kind.Kind} k.Int k.Obj → ⊥
      apart e = true≢false (ap is_number e)
  lies-in ty.Boolean s (an_object a) i h e = absurd (apart e)
    where
      apart : ◌≡◌ {A = kind.Kind} k.Bool k.Obj → ⊥
      apart e = true≢false (ap is_truth e)
  lies-in ty.Int s (a_number z) i h e = tt
  lies-in ty.Boolean s (a_number z) i h e = absurd (true≢false (sym (ap is_int h)))
  lies-in ty.Object s (a_number z) i h e = absurd (true≢false (sym (ap is_int h)))
  lies-in (ty.Class c) s (a_number z) i h e = absurd (true≢false (sym (ap is_int h)))
  lies-in ty.Boolean s (a_truth b) i h e = tt
  lies-in ty.Int s (a_truth b) i h e = absurd (true≢false (sym (ap is_boolean h)))
  lies-in ty.Object s (a_truth b) i h e = absurd (true≢false (sym (ap is_boolean h)))
  lies-in (ty.Class c) s (a_truth b) i h e = absurd (true≢false (sym (ap is_boolean h)))
  lies-in t s (a_set v) i h e = absurd h
  lies-in t s (a_field f) i h e = absurd h

  kind-fits : (t u : Ty) (d : Datum) → fits t u ≡ true → KindFits p names n t d → KindFits p names n u d
  kind-fits t u (an_object v) e h = sym (fits-kind p names n t u e) ∙ h
  kind-fits t u (a_number z) e h = tt
  kind-fits t u (a_truth b) e h = tt
  kind-fits t u (a_set v) e h = tt
  kind-fits t u (a_field f) e h = tt

  pub args-lie-in : (at : Surroundings) (xs : List Local) (es : List AnyCode) (s : State) (ds : List Datum) → AllFit p at es xs → ScopeFits p names at → Formed p s → ScopeLies p names at s → Lies n s →
      ((y : Local) → Contains xs y → IsValueType y.type) → AreValues es s ds → AllLieIn p xs s ds
  args-lie-in at [] [] s [] h fit f g l types are = tt
  args-lie-in at (x ∷ xs) (e ∷ es) s (d ∷ ds) h fit f g l types are =
      let v : ValueOf p names n (h.0).type s d = is-of-has (ValueOf p names n (h.0).type s) (value_of e s) d (value-typed p names n at e (h.0).type s (h.0).has f l g) are.0 in (
        lies-in x.type s d (types x (0, omega arith, refl))
            (fits-datum p names (h.0).type x.type s d f (inside-own p names n s d l.last v.1) (any-type p names n at fit e (h.0).type (h.0).has) (h.0).fit v.0)
            (kind-fits (h.0).type x.type d (h.0).fit v.2),
        args-lie-in at xs es s ds h.1 fit f g l (λ y i. types y (Contains-append_right (x ∷ []) xs y i)) are.1,
      )
  args-lie-in at [] (e ∷ es) s ds h fit f g l types are = absurd h
  args-lie-in at (x ∷ xs) [] s ds h fit f g l types are = absurd h
  args-lie-in at [] [] s (d ∷ ds) h fit f g l types are = absurd are
  args-lie-in at (x ∷ xs) (e ∷ es) s [] h fit f g l types are = absurd are

  pub args-length : (at : Surroundings) (xs : List Local) (es : List AnyCode) → AllFit p at es xs → length xs ≡ length es
  args-length at [] [] h = refl
  args-length at (x ∷ xs) (e ∷ es) h = ap suc (args-length at xs es h.1)
  args-length at [] (e ∷ es) h = absurd h
  args-length at (x ∷ xs) [] h = absurd h

  -- the receiver is one of the class, and where there is none `this` is null
  pub this-lies-in : (at : Surroundings) (receiver : Option ObjectCode) (this : Option ℕ) (place : Place) (s : State) (a b : ℕ) → ReceiverFits p at receiver this → Formed p s → ScopeLies p names at s → Lies n s →
      Has (receiver_of receiver s) a → Has (called_on receiver place a) b → ThisLiesIn p this s b
  this-lies-in at None None place s a b h f g l e i = sym i ∙ sym e
  this-lies-in at (Some r) (Some j) place s a b h f g l e i =
      is-of-has (λ z. s.set (named (class_at p.classes j)) z ≡ true) (dereferenced r place a) b
      (in-class p names r place (class_at p.classes j) s a
      (is-of-has (λ z. Reaches p names r (class_at p.classes j) s z) (object_of r s) a (reaches-of p names at r j (class_at p.classes j) s refl h f (lies-own n s l) g) e)) i
  this-lies-in at None (Some j) place s a b h f g l e i = absurd h
  this-lies-in at (Some r) None place s a b h f g l e i = absurd h

  pub receiver-inside : (receiver : Option ObjectCode) (s : State) (a : ℕ) → Lies n s → Has (receiver_of receiver s) a → a < suc n
  receiver-inside receiver s a l e = is-of-has (λ z. z < suc n) (receiver_of receiver s) a (receiver-lies n receiver s l) e
