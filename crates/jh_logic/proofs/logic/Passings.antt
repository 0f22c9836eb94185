-- What a call passes: the values of receiver, arguments and target, and the fresh names that have them.
use Rattle.std.proofs.Common.{◌≡◌, refl, sym, ap, ◌∙◌, subst, ℕ, suc, ◌+◌, ◌≤◌, length, Bool, true, false, ◌||◌, if◌then◌else◌, List, [], ◌∷◌, Option, None, Some, arith}
use Rattle.std.proofs.lemmas.Bool.{true≢false}
use Rattle.jh_name.specs.declared.naming.Name.{Name}
use Rattle.jh_name.specs.declared.place.Place.{Place}
use Rattle.jh_form.specs.Passing.{name_equal}
use Rattle.jh_form.proofs.Names.{name_equal-same}
use Rattle.jh_form.specs.Tree.{ValueTree, TermTree}
use Rattle.jh_form.specs.Tree as t
use Rattle.jh_form.specs.Meaning.{Interp, Datum, an_object, a_number, a_truth, a_set, a_field, datum, term_value}
use Rattle.jh_form.specs.Assigned.{assigned}
use Rattle.jh_rules.specs.Words.{same_text}
use Rattle.jh_semantics.specs.Code.{Text, ObjectCode, AnyCode, Local, Target}
use Rattle.jh_semantics.specs.Code as c
use Rattle.jh_semantics.specs.State.{State, named, this_name, stored}
use Rattle.jh_semantics.specs.Locals.{without_locals, with_args, entered}
use Rattle.jh_semantics.specs.Program.{Method}
use Rattle.jh_semantics.specs.Values.{value_of}
use Rattle.jh_semantics.specs.Progress.{Configuration, Progress}
use Rattle.jh_semantics.specs.Execution.{with_values, receiver_of, called_on}
use Rattle.jh_semantics.specs.Laws.{AreInside}
use Rattle.jh_semantics.proofs.Inside.{Lies, stored-lies}
use Rattle.jh_guard.specs.Terms.{object_term, value_term, value_checks}
use Rattle.jh_guard.specs.Laws.{AllPass}
use Rattle.jh_guard.specs.Steps.{fresh}
use Rattle.jh_guard.specs.Calls.{this_text, target_text, receiver_value_checks, called_checks, all_checks, keep_receiver, keep_args, keep_target, argument_name}
use Rattle.jh_guard.proofs.Checking.{Has, has-one, pass-left, pass-right}
use Rattle.jh_logic.specs.logic.MethodContracts.{is_param}
use Rattle.jh_logic.specs.logic.Histories.{viewed, Gives, Below, Inner}
use Rattle.jh_logic.specs.logic.Reached.{After}
use Rattle.jh_logic.specs.logic.Sure.{Sure}
use Rattle.jh_logic.proofs.logic.Views.{HasValue, viewed-known}
use Rattle.jh_logic.proofs.logic.Writing.{text-same, or-left}
use Rattle.jh_logic.proofs.logic.Histories.{gives-then, gives-back, below-refl, below-trans, noting, noting-below, noting-gives, noting-inner}
use Rattle.jh_logic.proofs.logic.Going.{sure-value}
use Rattle.jh_logic.proofs.logic.Stated.{object-there, value-there}
use Rattle.jh_logic.proofs.logic.Puts.{IsScalar, value-scalar, dereferenced-there, target_value}
use Rattle.jh_logic.proofs.logic.StateNames.{AllScalar, texts-equal, chosen-then, chosen-else, names-texts, not-true}

-- the receiver, as a value; null where there is none
abbrev pub receiver_value : Option ObjectCode → Interp → ℕ
receiver_value None m = 0
receiver_value (Some e) m = term_value (object_term e) m []

pub receiver-there : (receiver : Option ObjectCode) (s o m : Interp) → AllPass (receiver_value_checks receiver) (viewed s o m) → Has (receiver_of receiver s) (receiver_value receiver (viewed s o m))
receiver-there None s o m h = refl
receiver-there (Some e) s o m h = object-there s o m e h

pub called-there : (receiver : Option ObjectCode) (p : Place) (m : Interp) → AllPass (called_checks receiver p) m → Has (called_on receiver p (receiver_value receiver m)) (receiver_value receiver m)
called-there None p m h = refl
called-there (Some e) p m h = dereferenced-there e p m (receiver_value (Some e) m) h refl

-- the arguments
abbrev pub arg_values : List AnyCode → Interp → List Datum
arg_values [] m = []
arg_values (e ∷ es) m = datum (value_term e) m [] ∷ arg_values es m

pub args-scalar : (es : List AnyCode) (m : Interp) → AllScalar (arg_values es m)
args-scalar [] m = tt
args-scalar (e ∷ es) m = (value-scalar e m, args-scalar es m)

-- the expressions have these values
abbrev pub AreValues : List AnyCode → State → List Datum → Type 0
AreValues [] s [] = Unit {0}
AreValues (e ∷ es) s (d ∷ ds) = Has (value_of e s) d × AreValues es s ds
AreValues _ s _ = ⊥

pub args-there : (es : List AnyCode) (s o m : Interp) → AllPass (all_checks es) (viewed s o m) → AreValues es s (arg_values es (viewed s o m))
args-there [] s o m h = tt
args-there (e ∷ es) s o m h = (value-there s o m e (pass-left (value_checks e) (all_checks es) (viewed s o m) h), args-there es s o m (pass-right (value_checks e) (all_checks es) (viewed s o m) h))

pub sure-values : (P : Configuration → Type 0) (R : Configuration → Option Datum → Type 0) (es : List AnyCode) (s : State) (ds : List Datum) (next : List Datum → Progress) → AreValues es s ds → Sure P R (next ds) → Sure P R (with_values es s next)
sure-values P R [] s [] next h k = k
sure-values P R (e ∷ es) s (d ∷ ds) next h k = sure-value P R (value_of e s) d (λ x. with_values es s (λ xs. next (x ∷ xs))) h.0 (sure-values P R es s ds (λ xs. next (d ∷ xs)) h.1 k)
sure-values P R [] s (d ∷ ds) next h k = absurd h
sure-values P R (e ∷ es) s [] next h k = absurd h

-- a fresh name that has a value already may be assigned it
pub known-step : (s o g : Interp) (y : Name) (v : ValueTree) (d : Datum) (P : Interp → Type 0) → 2 ≤ y.turn → HasValue g y d → datum v (viewed s o g) [] ≡ d → P (assigned (viewed s o g) y (datum v (viewed s o g) [])) → P (viewed s o g)
known-step s o g y v d P le has is h = subst P (viewed-known s o g y d le has) (subst (λ (e : Datum). P (assigned (viewed s o g) y e)) is h)

-- a fresh name has the value that an object has in another interpretation
abbrev pub KnowsReceiver : Option ObjectCode → ℕ → ℕ → Interp → Type 0
KnowsReceiver None k a m = Unit {0}
KnowsReceiver (Some e) k a m = m.object (fresh this_text k) ≡ a

pub kept-receiver : (R : Interp → Type 0) (receiver : Option ObjectCode) (k a : ℕ) (s o g : Interp) (Q : Interp → Type 0) → 2 ≤ k → KnowsReceiver receiver k a g → receiver_value receiver (viewed s o g) ≡ a →
    After R (keep_receiver receiver k) Q (viewed s o g) → Q (viewed s o g)
kept-receiver R None k a s o g Q le knows is h = h
kept-receiver R (Some e) k a s o g Q le knows is h = known-step s o g (fresh this_text k) (t.of_object (object_term e)) (an_object a) Q le knows (ap (λ v. an_object v) is) h

abbrev pub KnowsTarget : Target → ℕ → ℕ → Interp → Type 0
KnowsTarget (c.to_field f e p) k a m = m.object (fresh target_text k) ≡ a
KnowsTarget _ k a m = Unit {0}

pub kept-target : (R : Interp → Type 0) (target : Target) (k a : ℕ) (s o g : Interp) (Q : Interp → Type 0) → 2 ≤ k → KnowsTarget target k a g → target_value target (viewed s o g) ≡ a →
    After R (keep_target target k) Q (viewed s o g) → Q (viewed s o g)
kept-target R c.nowhere k a s o g Q le knows is h = h
kept-target R (c.to_new x) k a s o g Q le knows is h = h
kept-target R (c.to_name x) k a s o g Q le knows is h = h
kept-target R (c.to_field f e p) k a s o g Q le knows is h = known-step s o g (fresh target_text k) (t.of_object (object_term e)) (an_object a) Q le knows (ap (λ v. an_object v) is) h

-- each argument's fresh name says what the parameter says where the method begins
abbrev pub KnowsArgs : List Local → List Datum → ℕ → State → Interp → Type 0
KnowsArgs (x ∷ xs) (d ∷ ds) k s m = Gives m (fresh x.text k) (with_args (x ∷ xs) (d ∷ ds) s) (named x.text) × KnowsArgs xs ds (suc k) s m
KnowsArgs _ _ k s m = Unit {0}

stored-value : (s : State) (x : Text) (d : Datum) (m : Interp) (y : Name) → IsScalar d → Gives m y (stored s x d) (named x) → HasValue m y d
stored-value s x (an_object v) m y i g = g.object ∙ chosen-then (name_equal (named x) (named x)) v (s.object (named x)) (name_equal-same (named x) (named x) refl)
stored-value s x (a_number v) m y i g = g.number ∙ chosen-then (name_equal (named x) (named x)) v (s.number (named x)) (name_equal-same (named x) (named x) refl)
stored-value s x (a_truth v) m y i g = g.truth ∙ chosen-then (name_equal (named x) (named x)) v (s.truth (named x)) (name_equal-same (named x) (named x) refl)
stored-value s x (a_set v) m y i g = absurd i
stored-value s x (a_field v) m y i g = absurd i

pub kept-args : (R : Interp → Type 0) (xs : List Local) (es : List AnyCode) (ds : List Datum) (k : ℕ) (s o g : Interp) (u : State) (Q : Interp → Type 0) → 2 ≤ k → AllScalar ds → KnowsArgs xs ds k u g → AreValues es s ds → AllPass (all_checks es) (viewed s o g) →
    After R (keep_args xs es k) Q (viewed s o g) → Q (viewed s o g)
kept-args R [] [] ds k s o g u Q le i knows are pass h = h
kept-args R [] (e ∷ es) ds k s o g u Q le i knows are pass h = h
kept-args R (x ∷ xs) [] ds k s o g u Q le i knows are pass h = h
kept-args R (x ∷ xs) (e ∷ es) [] k s o g u Q le i knows are pass h = absurd are
kept-args R (x ∷ xs) (e ∷ es) (d ∷ ds) k s o g u Q le i knows are pass h =
    kept-args R xs es ds (suc k) s o g u Q (omega (arith, le)) i.1 knows.1 are.1 (pass-right (value_checks e) (all_checks es) (viewed s o g) pass)
    (known-step s o g (fresh x.text k) (value_term e) d (λ n. After R (keep_args xs es (suc k)) Q n) le (stored-value (with_args xs ds u) x.text d g (fresh x.text k) i.0 knows.0)
    (has-one (value_of e s) (datum (value_term e) (viewed s o g) []) d (value-there s o g e (pass-left (value_checks e) (all_checks es) (viewed s o g) pass)) are.0) h)

-- the history in which the fresh names have these values
pub args-lie : (n : ℕ) (xs : List Local) (ds : List Datum) (s : State) → Lies n s → AreInside n ds → Lies n (with_args xs ds s)
args-lie n (x ∷ xs) (d ∷ ds) s l h = stored-lies n (with_args xs ds s) x.text d (args-lie n xs ds s l h.1) h.0
args-lie n [] ds s l h = l
args-lie n (x ∷ xs) [] s l h = l

-- a history with more turns
pub record Longer (n t u : ℕ) (h : Interp) (P : Interp → Type 0) : Type 0 where
  pub history : Interp
  pub inner : Inner n history
  pub below : Below t h history
  pub holds : (m : Interp) → Below u history m → P m

pub longer-then : (n t u w : ℕ) (h : Interp) (P Q : Interp → Type 0) (a : Longer n t u h P) → t ≤ u → u ≤ w → Longer n u w a.history Q → Longer n t w h (λ m. P m × Q m)
longer-then n t u w h P Q a le more b = record {
  history = b.history;
  inner = b.inner;
  below = below-trans t u h a.history b.history le a.below b.below;
  holds = λ m l. (a.holds m (below-trans u w a.history b.history m more b.below l), b.holds m l);
}

pub noted-name : (n : ℕ) (h : Interp) (x : Text) (k : ℕ) (r : State) (z : Name) → Inner n h → Lies n r → Longer n k (suc k) h (λ m. Gives m (fresh x k) r z)
noted-name n h x k r z inner lies = record {
  history = noting h (fresh x k) r z;
  inner = noting-inner n h (fresh x k) r z inner (lies.object z) (λ a lt. (lies.field z).objects a lt);
  below = noting-below h (fresh x k) r z;
  holds = λ m l. gives-then m (noting h (fresh x k) r z) r (fresh x k) (fresh x k) z (l (fresh x k) (omega arith)) (noting-gives h (fresh x k) r z);
}

pub same-turn : (n t u w : ℕ) (h : Interp) (P : Interp → Type 0) → u ≡ w → Longer n t u h P → Longer n t w h P
same-turn n t u w h P e l = subst (λ (z : ℕ). Longer n t z h P) e l

pub nothing-noted : (n k : ℕ) (h : Interp) (P : Interp → Type 0) → Inner n h → ((m : Interp) → P m) → Longer n k k h P
nothing-noted n k h P inner f = record { history = h; inner = inner; below = below-refl k h; holds = λ m l. f m }

pub noted-args : (n : ℕ) (xs : List Local) (ds : List Datum) (k : ℕ) (h : Interp) (s : State) → Inner n h → Lies n s → AreInside n ds → Longer n k (length xs + k) h (λ m. KnowsArgs xs ds k s m)
noted-args n [] ds k h s inner lies i = same-turn n k k (length {A = Local} [] + k) h (λ m. KnowsArgs [] ds k s m) (omega arith) (nothing-noted n k h (λ m. KnowsArgs [] ds k s m) inner (λ m. tt))
noted-args n (x ∷ xs) [] k h s inner lies i = record { history = h; inner = inner; below = below-refl k h; holds = λ m l. tt }
noted-args n (x ∷ xs) (d ∷ ds) k h s inner lies i =
    let one : Longer n k (suc k) h (λ m. Gives m (fresh x.text k) (with_args (x ∷ xs) (d ∷ ds) s) (named x.text)) =
    noted-name n h x.text k (with_args (x ∷ xs) (d ∷ ds) s) (named x.text) inner (args-lie n (x ∷ xs) (d ∷ ds) s lies i) in
    let rest : Longer n (suc k) (length xs + suc k) one.history (λ m. KnowsArgs xs ds (suc k) s m) = noted-args n xs ds (suc k) one.history s one.inner lies i.1 in
    same-turn n k (length xs + suc k) (length (x ∷ xs) + k) h (λ m. KnowsArgs (x ∷ xs) (d ∷ ds) k s m) (omega arith)
    (longer-then n k (suc k) (length xs + suc k) h (λ m. Gives m (fresh x.text k) (with_args (x ∷ xs) (d ∷ ds) s) (named x.text)) (λ m. KnowsArgs xs ds (suc k) s m) one (omega arith) (omega arith) rest)

-- a name for a parameter at a call says what the parameter says
text-other : (x y : Text) → same_text x y ≡ false → name_equal (named y) (named x) ≡ false
text-other x y h = not-true (name_equal (named y) (named x)) (λ e. true≢false (sym (text-same x) ∙ ap (λ (z : Text). same_text x z) (sym (names-texts y x e)) ∙ h))

pub stored-other : (s : State) (x : Text) (d : Datum) (y : Text) → IsScalar d → same_text x y ≡ false → Gives (stored s x d) (named y) s (named y)
stored-other s x (an_object v) y i h = record { object = chosen-else (name_equal (named y) (named x)) v (s.object (named y)) (text-other x y h); number = refl; truth = refl; set = refl; field = refl }
stored-other s x (a_number v) y i h = record { object = refl; number = chosen-else (name_equal (named y) (named x)) v (s.number (named y)) (text-other x y h); truth = refl; set = refl; field = refl }
stored-other s x (a_truth v) y i h = record { object = refl; number = refl; truth = chosen-else (name_equal (named y) (named x)) v (s.truth (named y)) (text-other x y h); set = refl; field = refl }
stored-other s x (a_set v) y i h = absurd i
stored-other s x (a_field v) y i h = absurd i

no-length : (n : ℕ) → suc n ≡ 0 → ⊥
no-length n e = omega (arith, e)

shorter : (n m : ℕ) → suc n ≡ suc m → n ≡ m
shorter n m e = omega (arith, e)

pub argument-gives : (xs : List Local) (ds : List Datum) (k : ℕ) (s : State) (m : Interp) (y : Text) → length xs ≡ length ds → AllScalar ds → KnowsArgs xs ds k s m → is_param xs y ≡ true → Gives m (argument_name xs k y) (with_args xs ds s) (named y)
argument-gives [] ds k s m y e i knows h = absurd (true≢false (sym h))
argument-gives (x ∷ xs) [] k s m y e i knows h = absurd (no-length (length xs) e)
argument-gives (x ∷ xs) (d ∷ ds) k s m y e i knows h = from (same_text x.text y) refl (argument-gives xs ds (suc k) s m y (shorter (length xs) (length ds) e) i.1 knows.1)
  where
    from : (b : Bool) → same_text x.text y ≡ b → (is_param xs y ≡ true → Gives m (argument_name xs (suc k) y) (with_args xs ds s) (named y)) →
        Gives m (if b then fresh y k else argument_name xs (suc k) y) (with_args (x ∷ xs) (d ∷ ds) s) (named y)
    from true is rest = subst (λ (z : Text). Gives m (fresh z k) (with_args (x ∷ xs) (d ∷ ds) s) (named z)) (texts-equal x.text y is) knows.0
    from false is rest = gives-then m (with_args xs ds s) (with_args (x ∷ xs) (d ∷ ds) s) (argument_name xs (suc k) y) (named y) (named y)
        (rest (subst (λ (b : Bool). (b || is_param xs y) ≡ true) is h)) (gives-back (with_args (x ∷ xs) (d ∷ ds) s) (with_args xs ds s) (named y) (named y) (stored-other (with_args xs ds s) x.text d y i.0 is))

pub argument-none : (xs : List Local) (k : ℕ) (y : Text) → is_param xs y ≡ false → argument_name xs k y ≡ named y
argument-none [] k y h = refl
argument-none (x ∷ xs) k y h = from (same_text x.text y) refl (argument-none xs (suc k) y)
  where
    from : (b : Bool) → same_text x.text y ≡ b → (is_param xs y ≡ false → argument_name xs (suc k) y ≡ named y) → (if b then fresh y k else argument_name xs (suc k) y) ≡ named y
    from true is g = absurd (true≢false (sym (or-left (same_text x.text y) (is_param xs y) is) ∙ h))
    from false is g = g (subst (λ (b : Bool). (b || is_param xs y) ≡ false) is h)

-- `this`, unless a parameter is named so
pub entered-this : (xs : List Local) (ds : List Datum) (s : State) → AllScalar ds → is_param xs this_text ≡ false → (with_args xs ds s).object this_name ≡ s.object this_name
entered-this [] ds s i h = refl
entered-this (x ∷ xs) [] s i h = refl
entered-this (x ∷ xs) (d ∷ ds) s i h = from (same_text x.text this_text) refl (entered-this xs ds s i.1)
  where
    from : (b : Bool) → same_text x.text this_text ≡ b → (is_param xs this_text ≡ false → (with_args xs ds s).object this_name ≡ s.object this_name) → (with_args (x ∷ xs) (d ∷ ds) s).object this_name ≡ s.object this_name
    from true is g = absurd (true≢false (sym (or-left (same_text x.text this_text) (is_param xs this_text) is) ∙ h))
    from false is g = (stored-other (with_args xs ds s) x.text d this_text i.0 is).object ∙ g (subst (λ (b : Bool). (b || is_param xs this_text) ≡ false) is h)

-- entering a method leaves the universe
pub entered-last : (x : Method) (this : ℕ) (ds : List Datum) (s : State) → AllScalar ds → (entered x this ds s).last ≡ s.last
entered-last x this ds s i = args-last x.params ds (assigned (without_locals s) this_name (an_object this)) i
  where
    stored-last : (u : State) (y : Text) (d : Datum) → IsScalar d → (stored u y d).last ≡ u.last
    stored-last u y (an_object v) i = refl
    stored-last u y (a_number v) i = refl
    stored-last u y (a_truth v) i = refl
    stored-last u y (a_set v) i = absurd i
    stored-last u y (a_field v) i = absurd i

    args-last : (xs : List Local) (es : List Datum) (u : State) → AllScalar es → (with_args xs es u).last ≡ u.last
    args-last [] es u i = refl
    args-last (y ∷ ys) [] u i = refl
    args-last (y ∷ ys) (d ∷ es) u i = stored-last (with_args ys es u) y.text d i.0 ∙ args-last ys es u i.1
