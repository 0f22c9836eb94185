-- Calls of typed code keep states well formed.
use Rattle.std.proofs.Common.{◌≡◌, refl, ap, sym, subst, ℕ, suc, ◌<◌, Bool, true, false, if◌then◌else◌, List, [], ◌∷◌, Option, None, Some, arith}
use Rattle.std.proofs.lemmas.Bool.{true≢false}
use Rattle.jh_name.specs.declared.place.Place.{Place}
use Rattle.jh_vars.specs.Written.{Callee}
use Rattle.jh_form.specs.Meaning.{Datum, an_object, a_number, a_truth, a_set, a_field}
use Rattle.jh_rules.specs.declared.types.Ty.{Ty}
use Rattle.jh_rules.specs.declared.types.Ty.TheVariants as ty
use Rattle.jh_rules.specs.Kinds.{kind_of}
use Rattle.jh_semantics.specs.Code.{Text, ObjectCode, AnyCode, Local, Target}
use Rattle.jh_semantics.specs.Code as c
use Rattle.jh_semantics.specs.Program.{Program, Method, class_at}
use Rattle.jh_semantics.specs.State.{State, named, this_name}
use Rattle.jh_semantics.specs.Locals.{has_dot, with_locals_of}
use Rattle.jh_semantics.specs.Values.{dereferenced, object_of, value_of}
use Rattle.jh_semantics.specs.Progress.{Configuration, Progress, goes_on, returns, stops, with_value}
use Rattle.jh_semantics.specs.Objects.{target_of, put}
use Rattle.jh_semantics.specs.Execution.{with_values, receiver_of, called_on, back}
use Rattle.jh_semantics.specs.Typed.{Surroundings, IsType, NamesFit, AllFit, ReceiverFits, ResultFits, declaring}
use Rattle.jh_semantics.specs.Laws.{Grew, AreInside, IsPlain, ArePlain}
use Rattle.jh_semantics.proofs.Keeping.{Ends, IsOf, keeps-value}
use Rattle.jh_semantics.proofs.Inside.{Lies, Below, object-lies, dereferenced-lies}
use Rattle.jh_semantics.proofs.Whole.{Stands, returned-to}
use Rattle.jh_semantics.proofs.Growth.{CallsAdd, Grown, GrownWith}
use Rattle.jh_semantics.proofs.Formed.{ObjectLies, Formed, lies-grow, names-formed, class-of}
use Rattle.jh_semantics.proofs.Typing.{ScopeLies, ScopeFits, DatumLies, fits-datum}
use Rattle.jh_semantics.proofs.Storing.{TargetLies, target-grow, Reaches, reaches-of, in-class}
use Rattle.jh_semantics.proofs.TypedRuns.{pay-good, lies-own, Good, GoodWith, ValueOf, value-typed, any-type, inside-own, target-both, put-good, CallsGood, both-of, paid}

module _ (p : Program) (names : NamesFit p) (n : ℕ) where
  -- `this` is one of its class
  abbrev pub ThisLies : Option ℕ → State → ℕ → Type 0
  ThisLies None s a = Unit {0}
  ThisLies (Some k) s a = s.set (named (class_at p.classes k)) a ≡ true

  abbrev pub ArgsLie : List Local → State → List Datum → Type 0
  ArgsLie [] s [] = Unit {0}
  ArgsLie (x ∷ xs) s (d ∷ ds) = DatumLies p names x.type s d × ArgsLie xs s ds
  ArgsLie _ s _ = ⊥

  plain-datum : (t : Ty) (s : State) (d : Datum) → DatumLies p names t s d → IsPlain d
  plain-datum t s (an_object v) h = tt
  plain-datum t s (a_number z) h = tt
  plain-datum t s (a_truth b) h = tt
  plain-datum t s (a_set v) h = absurd h
  plain-datum t s (a_field f) h = tt

  pub plain-args : (xs : List Local) (s : State) (ds : List Datum) → ArgsLie xs s ds → ArePlain ds
  plain-args [] s [] h = tt
  plain-args (x ∷ xs) s (d ∷ ds) h = (plain-datum x.type s d h.0, plain-args xs s ds h.1)
  plain-args [] s (d ∷ ds) h = absurd h
  plain-args (x ∷ xs) s [] h = absurd h

  -- the receiver of a call
  abbrev ReceiverOk : Option ObjectCode → Option ℕ → State → ℕ → Type 0
  ReceiverOk None None s a = Unit {0}
  ReceiverOk (Some e) (Some k) s a = Reaches p names e (class_at p.classes k) s a
  ReceiverOk _ _ s a = ⊥

  receiver-good : (at : Surroundings) (receiver : Option ObjectCode) (this : Option ℕ) (s : State) → ReceiverFits p at receiver this → Formed p s → Lies n s → ScopeLies p names at s → IsOf (λ a. ReceiverOk receiver this s a × (a < suc n)) (receiver_of receiver s)
  receiver-good at None None s h f l g = (tt, omega arith)
  receiver-good at (Some e) (Some k) s h f l g =
      both-of (λ a. Reaches p names e (class_at p.classes k) s a) (Below n) (object_of e s) (reaches-of p names at e k (class_at p.classes k) s refl h f (lies-own n s l) g) (object-lies n e s l)
  receiver-good at None (Some k) s h f l g = absurd h
  receiver-good at (Some e) None s h f l g = absurd h

  called-good : (receiver : Option ObjectCode) (this : Option ℕ) (place : Place) (s : State) (a : ℕ) → ReceiverOk receiver this s a → a < suc n → IsOf (λ b. ThisLies this s b × (b < suc n)) (called_on receiver place a)
  called-good None None place s a h l = (tt, l)
  called-good (Some e) (Some k) place s a h l =
      both-of (λ b. s.set (named (class_at p.classes k)) b ≡ true) (Below n) (dereferenced e place a) (in-class p names e place (class_at p.classes k) s a h) (dereferenced-lies n e place a l)
  called-good None (Some k) place s a h l = absurd h
  called-good (Some e) None place s a h l = absurd h

  -- the arguments of a call
  abbrev FormedAt : Surroundings → State → Type 0
  FormedAt at s = Formed p s × ScopeLies p names at s

  values-good : (at after : Surroundings) (result : Ty) (args : List AnyCode) (xs : List Local) (s : State) (next : List Datum → Progress) → AllFit p at args xs → ScopeFits p names at → FormedAt at s → Lies n s →
      ((ds : List Datum) → ArgsLie xs s ds → AreInside n ds → Ends (Good p names n after) (GoodWith p names n result) (next ds)) → Ends (Good p names n after) (GoodWith p names n result) (with_values args s next)
  values-good at after result [] [] s next h fit g l f = f [] tt tt
  values-good at after result (a ∷ rest) (x ∷ xs) s next h fit g l f =
      keeps-value (Good p names n after) (GoodWith p names n result) (paid p names n after) (ValueOf p names n (h.0).type s) (value_of a s) (λ d. with_values rest s (λ ds. next (d ∷ ds))) (value-typed p names n at a (h.0).type s (h.0).has g.0 l g.1) (λ d v.
      values-good at after result rest xs s (λ ds. next (d ∷ ds)) h.1 fit g l (λ ds i j.
      f (d ∷ ds) (fits-datum p names (h.0).type x.type s d g.0 (inside-own p names n s d l.last v.1) (any-type p names n at fit a (h.0).type (h.0).has) (h.0).fit v.0, i) (v.1, j)))
  values-good at after result [] (x ∷ xs) s next h fit g l f = absurd h
  values-good at after result (a ∷ rest) [] s next h fit g l f = absurd h

  -- back in the caller
  pub dotted : (b : Bool) (v w : ℕ) → b ≡ true → (if b then v else w) ≡ v
  dotted true v w e = refl
  dotted false v w e = absurd (true≢false (sym e))

  dotless : (b : Bool) (v w : ℕ) → b ≡ false → (if b then v else w) ≡ w
  dotless true v w e = absurd (true≢false e)
  dotless false v w e = refl

  returned-good : (at : Surroundings) (caller r : Configuration) → ScopeFits p names at → Good p names n at caller → Stands n r → Formed p r.now → Grew caller.now r.now → Good p names n at (record r { now = with_locals_of r.now caller.now; entry = caller.entry })
  returned-good at caller r fit g h f grew =
      let w : State = with_locals_of r.now caller.now in (
        returned-to n caller r g.0 h,
        (
          names-formed p names r.now (λ x. if has_dot x.text then r.now.object x else caller.now.object x) (λ x. if has_dot x.text then r.now.number x else caller.now.number x) (λ x. if has_dot x.text then r.now.truth x else caller.now.truth x) f (λ x t i m e.
              subst (λ (v : ℕ). ObjectLies p t r.now v) (sym (dotted (has_dot x.text) (r.now.object (named x.text)) (caller.now.object (named x.text)) (names.dots x i))) (f.statics x t i m e)),
          record {
            locals = λ x i. subst (λ (v : ℕ). ObjectLies p x.type w v) (sym (dotless (has_dot x.text) (r.now.object (named x.text)) (caller.now.object (named x.text)) (fit.no_state x i)))
                (lies-grow p names x.type caller.now w (caller.now.object (named x.text)) (fit.types x i) grew ((g.1).1.locals x i));
            this = λ k e. grew (class_at p.classes k) (names.dotless (class_at p.classes k) (class-of p names (class_at p.classes k) (fit.of_class k e))) (caller.now.object this_name) ((g.1).1.this k e);
          },
        ),
      )

  -- a value in a type stays there where sets grow
  pub datum-grow : (t : Ty) (s u : State) (d : Datum) → IsType p t → Grew s u → DatumLies p names t s d → DatumLies p names t u d
  datum-grow t s u (an_object v) i g h = lies-grow p names t s u v i g h
  datum-grow t s u (a_number z) i g h = h
  datum-grow t s u (a_truth b) i g h = h
  datum-grow t s u (a_set v) i g h = absurd h
  datum-grow t s u (a_field f) i g h = absurd h

  -- the result of a call goes nowhere, or where it fits
  put-result : (result : Ty) (at : Surroundings) (target : Target) (t : Ty) (a : ℕ) (d : Datum) (r : Configuration) → ResultFits p at target t → IsType p t → ScopeFits p names at → Good p names n at r →
      TargetLies p names target r.now a → a < suc n → ValueOf p names n t r.now d → Ends (Good p names n (declaring p at target)) (GoodWith p names n result) (put target a d r)
  put-result result at c.nowhere t a d r h i fit g l j v = g
  put-result result at (c.to_new x) t a d r h i fit g l j v = put-good p names n result at (c.to_new x) t a d r h i fit g l j v
  put-result result at (c.to_name x) t a d r h i fit g l j v = put-good p names n result at (c.to_name x) t a d r h i fit g l j v
  put-result result at (c.to_field f e q) t a d r h i fit g l j v = put-good p names n result at (c.to_field f e q) t a d r h i fit g l j v

  result-target : (at : Surroundings) (target : Target) (t : Ty) (s : State) → ResultFits p at target t → Formed p s → Lies n s → ScopeLies p names at s → IsOf (λ a. TargetLies p names target s a × (a < suc n)) (target_of target s)
  result-target at c.nowhere t s h f l g = (tt, omega arith)
  result-target at (c.to_new x) t s h f l g = target-both p names n at (c.to_new x) h.type s h.takes f l g
  result-target at (c.to_name x) t s h f l g = target-both p names n at (c.to_name x) h.type s h.takes f l g
  result-target at (c.to_field r e q) t s h f l g = target-both p names n at (c.to_field r e q) h.type s h.takes f l g

  -- how the run of a method ends: only a void one without `return`
  abbrev pub Continues : Ty → Configuration → Type 0
  Continues t r = record { 0 : Stands n r; 1 : Formed p r.now; 2 : t ≡ ty.Void }

  abbrev pub MethodEnds : Ty → Progress → Type 0
  MethodEnds t y = Ends (Continues t) (GoodWith p names n t) y

  nothing-of : (t : Ty) (s : State) → t ≡ ty.Void → ValueOf p names n t s (an_object 0)
  nothing-of t s e = (subst (λ (u : Ty). ObjectLies p u s 0) (sym e) tt, omega arith, ap kind_of e)

  back-good : (result : Ty) (at : Surroundings) (target : Target) (t : Ty) (a : ℕ) (caller : Configuration) (y : Progress) → ResultFits p at target t → IsType p t → ScopeFits p names at → Good p names n at caller →
      TargetLies p names target caller.now a → a < suc n → MethodEnds t y → Ends (Grown caller.now) (GrownWith caller.now) y → Ends (Good p names n (declaring p at target)) (GoodWith p names n result) (back caller target a y)
  back-good result at target t a caller (goes_on r) h i fit g l j e grew =
      let w : Configuration = record r { now = with_locals_of r.now caller.now; entry = caller.entry } in
      put-result result at target t a (an_object 0) w h i fit (returned-good at caller r fit g e.0 e.1 grew) (target-grow p names target caller.now w.now a grew l) j (nothing-of t w.now e.2)
  back-good result at target t a caller (returns r None) h i fit g l j e grew =
      let w : Configuration = record r { now = with_locals_of r.now caller.now; entry = caller.entry } in
      put-result result at target t a (an_object 0) w h i fit (returned-good at caller r fit g (e.0).0 (e.1).0 grew.0) (target-grow p names target caller.now w.now a grew.0 l) j (nothing-of t w.now (e.1).1)
  back-good result at target t a caller (returns r (Some d)) h i fit g l j e grew =
      let w : Configuration = record r { now = with_locals_of r.now caller.now; entry = caller.entry } in
      put-result result at target t a d w h i fit (returned-good at caller r fit g (e.0).0 (e.1).0 grew.0) (target-grow p names target caller.now w.now a grew.0 l) j
      (datum-grow t r.now w.now d i (λ z k b m. m) ((e.1).1).0, (e.0).1, ((e.1).1).1)
  back-good result at target t a caller (stops why) h i fit g l j e grew = tt

  -- what a call of a method leads to
  abbrev pub MethodsGood : (Callee → ℕ → List Datum → Configuration → Progress) → Type 0
  MethodsGood call =
      (m : Callee) (x : Method) → p.method m ≡ Some x → (this : ℕ) (args : List Datum) (r : Configuration) → Stands n r → Formed p r.now →
      ThisLies x.this r.now this → this < suc n → ArgsLie x.params r.now args → AreInside n args → MethodEnds x.result (call m this args r)

  pub calls-good : (call : Callee → ℕ → List Datum → Configuration → Progress) → ((m : Callee) (x : Method) → p.method m ≡ Some x → IsType p x.result) → MethodsGood call → ((first : State) → CallsAdd first call) →
      (result : Ty) → CallsGood p names n call result
  calls-good call types methods adds result at q target receiver place m args h fit r g =
      let x : Method = h.method in
      let after : Surroundings = declaring p at target in
      pay-good p names n result at after r
      (λ u. with_value (target_of target u.now) (λ a. with_value (receiver_of receiver u.now) (λ y. with_values args u.now (λ ds. with_value (called_on receiver place y) (λ this. back u target a (call m this ds u)))))) g (λ u i.
      keeps-value (Good p names n after) (GoodWith p names n result) (paid p names n after) (λ a. TargetLies p names target u.now a × (a < suc n)) (target_of target u.now)
      (λ a. with_value (receiver_of receiver u.now) (λ y. with_values args u.now (λ ds. with_value (called_on receiver place y) (λ this. back u target a (call m this ds u)))))
      (result-target at target x.result u.now h.result_fits (i.1).0 i.0.now (i.1).1) (λ a l.
      keeps-value (Good p names n after) (GoodWith p names n result) (paid p names n after) (λ y. ReceiverOk receiver x.this u.now y × (y < suc n)) (receiver_of receiver u.now)
      (λ y. with_values args u.now (λ ds. with_value (called_on receiver place y) (λ this. back u target a (call m this ds u))))
      (receiver-good at receiver x.this u.now h.receiver_fits (i.1).0 i.0.now (i.1).1) (λ y j.
      values-good at after result args x.params u.now (λ ds. with_value (called_on receiver place y) (λ this. back u target a (call m this ds u))) h.args_fit fit i.1 i.0.now (λ ds k o.
      keeps-value (Good p names n after) (GoodWith p names n result) (paid p names n after) (λ b. ThisLies x.this u.now b × (b < suc n)) (called_on receiver place y) (λ this. back u target a (call m this ds u))
      (called-good receiver x.this place u.now y j.0 j.1) (λ this v.
      back-good result at target x.result a u (call m this ds u) h.result_fits (types m x h.is) fit i l.0 l.1
      (methods m x h.is this ds u i.0 (i.1).0 v.0 v.1 k o)
      (adds u.now m this ds u (λ z e b w. w) (plain-args x.params u.now ds k)))))))
