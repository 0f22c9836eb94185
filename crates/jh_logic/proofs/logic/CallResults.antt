-- The result of a call: in its type, under its fresh name, and to its target.
use Rattle.std.proofs.Common.{Bool, ◌≡◌, refl, sym, ap, ◌∙◌, subst, ℕ, zero, suc, ◌≤◌, ◌==◌, true, false, not, List, [], ◌∷◌, Option, None, Some, ◌⊎◌, inl, inr, ◌||◌, codes}
use Rattle.std.proofs.lemmas.Bool.{true≢false, eq-eqb}
use Rattle.jh_name.specs.declared.naming.Name.{Name}
use Rattle.jh_name.specs.declared.place.Place.{Place}
use Rattle.jh_form.specs.Passing.{name_equal}
use Rattle.jh_form.proofs.Names.{name_equal-same}
use Rattle.jh_form.specs.Tree.{ValueTree}
use Rattle.jh_form.specs.Tree as t
use Rattle.jh_form.specs.Meaning.{Interp, Datum, an_object, a_number, a_truth, a_set, a_field, datum}
use Rattle.jh_form.specs.Assigned.{assigned}
use Rattle.jh_rules.specs.declared.types.Ty.{Ty}
use Rattle.jh_rules.specs.declared.types.Ty.TheVariants as ty
use Rattle.jh_rules.specs.Kinds.{kind_of, is_void}
use Rattle.jh_vars.specs.state_names.States.{sort_of}
use Rattle.jh_semantics.specs.Code.{Text, ObjectCode, Target}
use Rattle.jh_semantics.specs.Code as c
use Rattle.jh_semantics.specs.Program.{Program, class_at}
use Rattle.jh_semantics.specs.State.{State, named, alloc_name, result_name, stored_at}
use Rattle.jh_semantics.specs.Values.{dereferenced}
use Rattle.jh_semantics.specs.Objects as run
use Rattle.jh_semantics.specs.Progress.{Configuration, goes_on_in}
use Rattle.jh_semantics.specs.Entry.{LiesIn}
use Rattle.jh_semantics.specs.Sound.{HasResult, with_result}
use Rattle.jh_semantics.specs.WellFormed.{lies_in}
use Rattle.jh_semantics.specs.Laws.{IsInside, ResultInside}
use Rattle.jh_semantics.proofs.Inside.{Lies, assigned-lies}
use Rattle.jh_semantics.proofs.Formed.{ObjectLies}
use Rattle.jh_guard.specs.Items.{free_of}
use Rattle.jh_guard.specs.Laws.{AllPass}
use Rattle.jh_guard.specs.Steps.{fresh, put_field}
use Rattle.jh_guard.specs.Calls.{target_text, kept_checks, put_result}
use Rattle.jh_guard.proofs.Checking.{Has}
use Rattle.jh_logic.specs.logic.Histories.{viewed, Gives, Below, Inner, Holds}
use Rattle.jh_logic.specs.logic.Reached.{After}
use Rattle.jh_logic.specs.logic.Sure.{Sure}
use Rattle.jh_logic.proofs.logic.Reaching.{checked}
use Rattle.jh_logic.proofs.logic.Views.{HasValue, viewed-fresh}
use Rattle.jh_logic.proofs.logic.Histories.{below-refl}
use Rattle.jh_logic.proofs.logic.Going.{sure-value}
use Rattle.jh_logic.proofs.logic.Puts.{IsScalar, Leads, Returned, put-name, put-at}
use Rattle.jh_logic.proofs.logic.StateNames.{chosen-then}
use Rattle.jh_logic.proofs.logic.WellFormed.{AllTrueIn}
use Rattle.jh_logic.proofs.logic.Writing.{or-left, or-right}
use Rattle.jh_logic.proofs.logic.Passings.{KnowsTarget}

-- a result is no set and no field
pub lies-scalar : (p : Program) (type : Ty) (s : State) (d : Datum) → LiesIn p type s d → IsScalar d
lies-scalar p type s (an_object v) h = tt
lies-scalar p type s (a_number v) h = tt
lies-scalar p type s (a_truth v) h = tt
lies-scalar p ty.Int s (a_set v) h = h
lies-scalar p ty.Boolean s (a_set v) h = h
lies-scalar p ty.Object s (a_set v) h = h
lies-scalar p (ty.Class n) s (a_set v) h = h
lies-scalar p ty.Void s (a_set v) h = h
lies-scalar p ty.Null s (a_set v) h = h
lies-scalar p ty.Int s (a_field v) h = h
lies-scalar p ty.Boolean s (a_field v) h = h
lies-scalar p ty.Object s (a_field v) h = h
lies-scalar p (ty.Class n) s (a_field v) h = h
lies-scalar p ty.Void s (a_field v) h = h
lies-scalar p ty.Null s (a_field v) h = h

-- and its name has its sort
pub result-value : (p : Program) (type : Ty) (s : State) (d : Datum) (m : Interp) (y : Name) → LiesIn p type s d → HasValue m y d → datum (free_of (sort_of (kind_of type)) y) m [] ≡ d
result-value p ty.Int s (a_number z) m y h e = ap (λ v. a_number v) e
result-value p ty.Boolean s (a_truth b) m y h e = ap (λ v. a_truth v) e
result-value p ty.Object s (an_object a) m y h e = ap (λ v. an_object v) e
result-value p (ty.Class n) s (an_object a) m y h e = ap (λ v. an_object v) e
result-value p ty.Int s (an_object a) m y h e = absurd h
result-value p ty.Int s (a_truth b) m y h e = absurd h
result-value p ty.Boolean s (an_object a) m y h e = absurd h
result-value p ty.Boolean s (a_number z) m y h e = absurd h
result-value p ty.Object s (a_number z) m y h e = absurd h
result-value p ty.Object s (a_truth b) m y h e = absurd h
result-value p (ty.Class n) s (a_number z) m y h e = absurd h
result-value p (ty.Class n) s (a_truth b) m y h e = absurd h
result-value p ty.Void s d m y h e = absurd h
result-value p ty.Null s d m y h e = absurd h
result-value p ty.Int s (a_set v) m y h e = absurd h
result-value p ty.Boolean s (a_set v) m y h e = absurd h
result-value p ty.Object s (a_set v) m y h e = absurd h
result-value p (ty.Class n) s (a_set v) m y h e = absurd h
result-value p ty.Int s (a_field f) m y h e = absurd h
result-value p ty.Boolean s (a_field f) m y h e = absurd h
result-value p ty.Object s (a_field f) m y h e = absurd h
result-value p (ty.Class n) s (a_field f) m y h e = absurd h

-- an object in a type, under its name
pub result-lies : (p : Program) (type : Ty) (s : State) (d : Datum) (m : Interp) (y : Name) → LiesIn p type s d → HasValue m y d → ObjectLies p type s (m.object y)
result-lies p ty.Object s (an_object a) m y h e = subst (λ (v : ℕ). ObjectLies p ty.Object s v) (sym e) h
result-lies p (ty.Class n) s (an_object a) m y h e = subst (λ (v : ℕ). ObjectLies p (ty.Class n) s v) (sym e) h
result-lies p ty.Int s d m y h e = tt
result-lies p ty.Boolean s d m y h e = tt
result-lies p ty.Void s d m y h e = tt
result-lies p ty.Null s d m y h e = absurd h
result-lies p ty.Object s (a_number z) m y h e = absurd h
result-lies p ty.Object s (a_truth b) m y h e = absurd h
result-lies p ty.Object s (a_set v) m y h e = absurd h
result-lies p ty.Object s (a_field f) m y h e = absurd h
result-lies p (ty.Class n) s (a_number z) m y h e = absurd h
result-lies p (ty.Class n) s (a_truth b) m y h e = absurd h
result-lies p (ty.Class n) s (a_set v) m y h e = absurd h
result-lies p (ty.Class n) s (a_field f) m y h e = absurd h

pub given-result : (s : State) (d : Datum) (m : Interp) (y : Name) → IsScalar d → Gives m y (with_result s (Some d)) result_name → HasValue m y d
given-result s (an_object v) m y i g = g.object ∙ chosen-then (name_equal result_name result_name) v (s.object result_name) (name_equal-same result_name result_name refl)
given-result s (a_number v) m y i g = g.number ∙ chosen-then (name_equal result_name result_name) v (s.number result_name) (name_equal-same result_name result_name refl)
given-result s (a_truth v) m y i g = g.truth ∙ chosen-then (name_equal result_name result_name) v (s.truth result_name) (name_equal-same result_name result_name refl)
given-result s (a_set v) m y i g = absurd i
given-result s (a_field v) m y i g = absurd i

pub result-state-lies : (n : ℕ) (p : Program) (type : Ty) (s last : State) (v : Option Datum) → Lies n s → HasResult p type last v → ResultInside n v → Lies n (with_result s v)
result-state-lies n p type s last None l h i = l
result-state-lies n p type s last (Some d) l h i = from d (lies-scalar p type last d (some-lies type d h)) i
  where
    some-lies : (type : Ty) (d : Datum) → HasResult p type last (Some d) → LiesIn p type last d
    some-lies ty.Void d h = h
    some-lies ty.Int d h = h
    some-lies ty.Boolean d h = h
    some-lies ty.Null d h = h
    some-lies ty.Object d h = h
    some-lies (ty.Class n) d h = h

    from : (d : Datum) → IsScalar d → IsInside n d → Lies n (assigned s result_name d)
    from (an_object a) j i = assigned-lies n s result_name (an_object a) l i
    from (a_number z) j i = assigned-lies n s result_name (a_number z) l tt
    from (a_truth b) j i = assigned-lies n s result_name (a_truth b) l tt
    from (a_set f) j i = absurd j
    from (a_field f) j i = absurd j

pub some-result : (p : Program) (type : Ty) (s : State) (d : Datum) → HasResult p type s (Some d) → LiesIn p type s d
some-result p ty.Void s d h = h
some-result p ty.Int s d h = h
some-result p ty.Boolean s d h = h
some-result p ty.Null s d h = h
some-result p ty.Object s d h = h
some-result p (ty.Class n) s d h = h

pub no-result : (p : Program) (type : Ty) (s : State) → HasResult p type s None → is_void type ≡ true
no-result p ty.Void s h = refl
no-result p ty.Int s h = absurd h
no-result p ty.Boolean s h = absurd h
no-result p ty.Null s h = absurd h
no-result p ty.Object s h = absurd h
no-result p (ty.Class n) s h = absurd h

pub void-result : (p : Program) (type : Ty) (s : State) (d : Datum) → HasResult p type s (Some d) → is_void type ≡ false
void-result p ty.Void s d h = absurd h
void-result p ty.Int s d h = refl
void-result p ty.Boolean s d h = refl
void-result p ty.Null s d h = refl
void-result p ty.Object s d h = refl
void-result p (ty.Class n) s d h = refl

-- what is assumed of the type of a result
or-null : (v : ℕ) (b : Bool) → (v ≡ 0) ⊎ (b ≡ true) → ((v == 0) || b) ≡ true
or-null v b (inl e) = or-left (v == 0) b (eq-eqb v 0 e)
or-null v b (inr i) = or-right (v == 0) b i

lies-true : (p : Program) (type : Ty) (s m : Interp) (x : Name) → ((c : Text) → m.set (named c) ≡ s.set (named c)) → ObjectLies p type s (m.object x) → AllTrueIn m (lies_in p.classes type (t.free_object x))
lies-true p (ty.Class n) s m x e h = (ap (λ (v : ℕ → Bool). (m.object x == 0) || v (m.object x)) (e (class_at p.classes n)) ∙ or-null (m.object x) (s.set (named (class_at p.classes n)) (m.object x)) h, tt)
lies-true p ty.Object s m x e h = (ap (λ (v : ℕ → Bool). (m.object x == 0) || v (m.object x)) (e (codes "alloc")) ∙ or-null (m.object x) (s.set alloc_name (m.object x)) h, tt)
lies-true p ty.Null s m x e h = tt
lies-true p ty.Int s m x e h = tt
lies-true p ty.Boolean s m x e h = tt
lies-true p ty.Void s m x e h = tt

void-lies : (classes : List Text) (type : Ty) (y : Name) (m : Interp) → is_void type ≡ true → AllTrueIn m (lies_in classes type (t.free_object y))
void-lies classes ty.Void y m e = tt
void-lies classes ty.Int y m e = tt
void-lies classes ty.Boolean y m e = tt
void-lies classes ty.Null y m e = tt
void-lies classes ty.Object y m e = absurd (true≢false (sym e))
void-lies classes (ty.Class n) y m e = absurd (true≢false (sym e))

pub result-types : (p : Program) (type : Ty) (last : State) (v : Option Datum) (m : Interp) (y : Name) → HasResult p type last v → (is_void type ≡ false → Gives m y (with_result last v) result_name) →
    ((c : Text) → m.set (named c) ≡ last.set (named c)) → AllTrueIn m (lies_in p.classes type (t.free_object y))
result-types p type last None m y h g e = void-lies p.classes type y m (no-result p type last h)
result-types p type last (Some d) m y h g e =
    let lies : LiesIn p type last d = some-result p type last d h in
    lies-true p type last m y e (result-lies p type last d m y lies (given-result last d m y (lies-scalar p type last d lies) (g (void-result p type last d h))))

-- the receiver of a target under its fresh name
kept-there : (e : ObjectCode) (q : Place) (k : ℕ) (m : Interp) (a : ℕ) → AllPass (kept_checks e q k) m → m.object (fresh target_text k) ≡ a → Has (dereferenced e q a) a
kept-there c.this q k m a h e = refl
kept-there c.null q k m zero h e = absurd (true≢false (sym h.0 ∙ (λ i. not (e i == 0))))
kept-there c.null q k m (suc a) h e = refl
kept-there (c.object x) q k m zero h e = absurd (true≢false (sym h.0 ∙ (λ i. not (e i == 0))))
kept-there (c.object x) q k m (suc a) h e = refl
kept-there (c.read_object f r z) q k m zero h e = absurd (true≢false (sym h.0 ∙ (λ i. not (e i == 0))))
kept-there (c.read_object f r z) q k m (suc a) h e = refl

module _ (n : ℕ) (R : Interp → Type 0) where
  pub result-safe : (t : ℕ) (h : Interp) (r : Configuration) (target : Target) (k a : ℕ) (d : Datum) (v : ValueTree) (Q : Interp → Type 0) → 2 ≤ k → Inner n h → IsScalar d →
      ((m : Interp) → Inner n m → Below t h m → datum v (viewed r.now r.entry m) [] ≡ d) → ((m : Interp) → Inner n m → Below t h m → KnowsTarget target k a m) →
      Holds n t h r.now r.entry (λ m. After R (put_result target k v) Q m) → Sure (λ u. Leads n t u.now u.entry Q) (Returned n R) (run.put target a d r)
  result-safe time h r c.nowhere k a d v Q le inner i same at H = record { history = h; inner = inner; holds = H }
  result-safe time h r (c.to_new x) k a d v Q le inner i same at H = record { history = h; inner = inner; holds = put-name n R time h r.now r.entry x.text d v Q i same H }
  result-safe time h r (c.to_name x) k a d v Q le inner i same at H = record { history = h; inner = inner; holds = put-name n R time h r.now r.entry x d v Q i same H }
  result-safe time h r (c.to_field f e q) k a d v Q le inner i same at H =
      let V : Interp → Interp = λ m. viewed r.now r.entry m in
      let split : (m : Interp) → Inner n m → Below time h m → AllPass (kept_checks e q k) (V m) × After R (put_field f (t.free_object (fresh target_text k)) v ∷ []) Q (V m) =
      λ m j b. checked R (kept_checks e q k) (put_field f (t.free_object (fresh target_text k)) v ∷ []) Q (V m) (H m j b) in
      let known : (m : Interp) → Inner n m → Below time h m → (V m).object (fresh target_text k) ≡ a = λ m j b. (viewed-fresh r.now r.entry m (fresh target_text k) le).object ∙ at m j b in
      sure-value (λ u. Leads n time u.now u.entry Q) (Returned n R) (dereferenced e q a) a (λ b. goes_on_in r (stored_at r.now f b d))
      (kept-there e q k (V h) a (split h inner (below-refl time h)).0 (known h inner (below-refl time h)))
      (record {
        history = h;
        inner = inner;
        holds = put-at n R time h r.now r.entry f a d (t.free_object (fresh target_text k)) v Q i same known (λ m j b. (split m j b).1);
      })

  -- a void method answers nothing, and nothing is done with it
  pub void-safe : (t : ℕ) (h : Interp) (r : Configuration) (target : Target) (k a : ℕ) (d : Datum) (v : ValueTree) (Q : Interp → Type 0) → target ≡ c.nowhere → Inner n h →
      Holds n t h r.now r.entry (λ m. After R (put_result target k v) Q m) → Sure (λ u. Leads n t u.now u.entry Q) (Returned n R) (run.put target a d r)
  void-safe t h r target k a d v Q e inner H =
      subst (λ (z : Target). Holds n t h r.now r.entry (λ m. After R (put_result z k v) Q m) → Sure (λ u. Leads n t u.now u.entry Q) (Returned n R) (run.put z a d r)) (sym e)
      (λ H. record { history = h; inner = inner; holds = H }) H
