-- Values that go to their targets, where a command assigns them.
use Rattle.std.proofs.Common.{◌≡◌, refl, sym, ap, ◌∙◌, subst, ℕ, zero, suc, ◌==◌, not, [], ◌∷◌, Option}
use Rattle.std.proofs.lemmas.Bool.{true≢false}
use Rattle.jh_name.specs.declared.place.Place.{Place}
use Rattle.jh_form.specs.Tree.{TermTree, ValueTree}
use Rattle.jh_form.specs.Meaning.{Interp, Datum, an_object, a_number, a_truth, a_set, a_field, updated, datum, term_value}
use Rattle.jh_form.specs.Assigned.{assigned}
use Rattle.jh_semantics.specs.Code.{Text, ObjectCode, AnyCode, Target}
use Rattle.jh_semantics.specs.Code as c
use Rattle.jh_semantics.specs.State.{State, named, stored, stored_at}
use Rattle.jh_semantics.specs.Values.{dereferenced}
use Rattle.jh_semantics.specs.Objects.{target_of}
use Rattle.jh_semantics.specs.Objects as run
use Rattle.jh_semantics.specs.Progress.{Configuration, goes_on_in}
use Rattle.jh_semantics.specs.Sound.{with_result}
use Rattle.jh_guard.specs.Terms.{object_term, value_term, receiver_checks}
use Rattle.jh_guard.specs.Laws.{AllPass}
use Rattle.jh_guard.specs.Steps.{put, put_field, target_checks}
use Rattle.jh_guard.proofs.Checking.{Has}
use Rattle.jh_logic.specs.logic.Histories.{viewed, Below, Inner, Holds}
use Rattle.jh_logic.specs.logic.Reached.{After}
use Rattle.jh_logic.specs.logic.Sure.{Sure}
use Rattle.jh_logic.proofs.logic.Reaching.{checked}
use Rattle.jh_logic.proofs.logic.Views.{viewed-assigned}
use Rattle.jh_logic.proofs.logic.Histories.{below-refl}
use Rattle.jh_logic.proofs.logic.Going.{sure-value}
use Rattle.jh_logic.proofs.logic.Stated.{object-there}

-- no set, and no field
abbrev pub IsScalar : Datum → Type 0
IsScalar (an_object v) = Unit {0}
IsScalar (a_number v) = Unit {0}
IsScalar (a_truth v) = Unit {0}
IsScalar _ = ⊥

pub value-scalar : (e : AnyCode) (m : Interp) → IsScalar (datum (value_term e) m [])
value-scalar (c.an_object a) m = tt
value-scalar (c.a_number a) m = tt
value-scalar (c.a_truth a) m = tt

pub stored-scalar : (s : State) (x : Text) (d : Datum) → IsScalar d → assigned s (named x) d ≡ stored s x d
stored-scalar s x (an_object v) i = refl
stored-scalar s x (a_number v) i = refl
stored-scalar s x (a_truth v) i = refl
stored-scalar s x (a_set v) i = absurd i
stored-scalar s x (a_field v) i = absurd i

pub stored-at-scalar : (s : State) (f : Text) (a : ℕ) (d : Datum) → IsScalar d → assigned s (named f) (a_field (updated (s.field (named f)) a d)) ≡ stored_at s f a d
stored-at-scalar s f a (an_object v) i = refl
stored-at-scalar s f a (a_number v) i = refl
stored-at-scalar s f a (a_truth v) i = refl
stored-at-scalar s f a (a_set v) i = absurd i
stored-at-scalar s f a (a_field v) i = absurd i

-- a receiver whose checks pass is dereferenced
pub dereferenced-there : (r : ObjectCode) (p : Place) (m : Interp) (a : ℕ) → AllPass (receiver_checks r p) m → term_value (object_term r) m [] ≡ a → Has (dereferenced r p a) a
dereferenced-there c.this p m a h e = refl
dereferenced-there c.null p m zero h e = absurd (true≢false (sym h.0))
dereferenced-there c.null p m (suc a) h e = refl
dereferenced-there (c.object x) p m zero h e = absurd (true≢false (sym h.0 ∙ (λ i. not (e i == 0))))
dereferenced-there (c.object x) p m (suc a) h e = refl
dereferenced-there (c.read_object f r q) p m zero h e = absurd (true≢false (sym h.0 ∙ (λ i. not (e i == 0))))
dereferenced-there (c.read_object f r q) p m (suc a) h e = refl

-- where something holds, with a history that shows it
pub record Leads (n t : ℕ) (s o : State) (P : Interp → Type 0) : Type 0 where
  pub history : Interp
  pub inner : Inner n history
  pub holds : Holds n t history s o P

-- where a method returns, with its result
abbrev pub Returned : (n : ℕ) → (Interp → Type 0) → Configuration → Option Datum → Type 0
Returned n R u v = (t : ℕ) × Leads n t (with_result u.now v) u.entry R

-- the object of a target, as a term
abbrev pub target_value : Target → Interp → ℕ
target_value (c.to_field f r p) m = term_value (object_term r) m []
target_value _ m = 0

pub target-there : (target : Target) (s o m : Interp) → AllPass (target_checks target) (viewed s o m) → Has (target_of target s) (target_value target (viewed s o m))
target-there c.nowhere s o m h = refl
target-there (c.to_new x) s o m h = refl
target-there (c.to_name x) s o m h = refl
target-there (c.to_field f r p) s o m h = object-there s o m r h

module _ (n : ℕ) (R : Interp → Type 0) where
  -- a value goes to a name
  pub put-name : (k : ℕ) (h : Interp) (s o : State) (x : Text) (d : Datum) (v : ValueTree) (Q : Interp → Type 0) → IsScalar d →
      ((m : Interp) → Inner n m → Below k h m → datum v (viewed s o m) [] ≡ d) →
      Holds n k h s o (λ m. Q (assigned m (named x) (datum v m []))) → Holds n k h (stored s x d) o Q
  put-name k h s o x d v Q i same H m inner below =
      subst (λ (u : State). Q (viewed u o m)) (stored-scalar s x d i)
      (subst Q (viewed-assigned s o m x d) (subst (λ (e : Datum). Q (assigned (viewed s o m) (named x) e)) (same m inner below) (H m inner below)))

  -- a value goes to a field at an object
  pub put-at : (k : ℕ) (h : Interp) (s o : State) (f : Text) (a : ℕ) (d : Datum) (r : TermTree) (v : ValueTree) (Q : Interp → Type 0) → IsScalar d →
      ((m : Interp) → Inner n m → Below k h m → datum v (viewed s o m) [] ≡ d) →
      ((m : Interp) → Inner n m → Below k h m → term_value r (viewed s o m) [] ≡ a) →
      Holds n k h s o (λ m. After R (put_field f r v ∷ []) Q m) → Holds n k h (stored_at s f a d) o Q
  put-at k h s o f a d r v Q i same at H m inner below =
      let whole : assigned (viewed s o m) (named f) (a_field (updated (s.field (named f)) (term_value r (viewed s o m) []) (datum v (viewed s o m) []))) ≡ viewed (stored_at s f a d) o m =
      (λ j. assigned (viewed s o m) (named f) (a_field (updated (s.field (named f)) (at m inner below j) (same m inner below j))))
      ∙ viewed-assigned s o m f (a_field (updated (s.field (named f)) a d)) ∙ ap (λ (u : State). viewed u o m) (stored-at-scalar s f a d i) in
      subst Q whole (H m inner below)

  -- a value goes to its target
  pub put-safe : (k : ℕ) (h : Interp) (r : Configuration) (target : Target) (a : ℕ) (d : Datum) (v : ValueTree) (Q : Interp → Type 0) → Inner n h → IsScalar d →
      ((m : Interp) → Inner n m → Below k h m → datum v (viewed r.now r.entry m) [] ≡ d) →
      ((m : Interp) → Inner n m → Below k h m → target_value target (viewed r.now r.entry m) ≡ a) →
      Holds n k h r.now r.entry (λ m. After R (put target v) Q m) → Sure (λ u. Leads n k u.now u.entry Q) (Returned n R) (run.put target a d r)
  put-safe k h r c.nowhere a d v Q inner i same at H = record { history = h; inner = inner; holds = H }
  put-safe k h r (c.to_new x) a d v Q inner i same at H = record { history = h; inner = inner; holds = put-name k h r.now r.entry x.text d v Q i same H }
  put-safe k h r (c.to_name x) a d v Q inner i same at H = record { history = h; inner = inner; holds = put-name k h r.now r.entry x d v Q i same H }
  put-safe k h r (c.to_field f e p) a d v Q inner i same at H =
      let pass : (m : Interp) → Inner n m → Below k h m → AllPass (receiver_checks e p) (viewed r.now r.entry m) = λ m j b. (checked R (receiver_checks e p) (put_field f (object_term e) v ∷ []) Q (viewed r.now r.entry m) (H m j b)).0 in
      sure-value (λ u. Leads n k u.now u.entry Q) (Returned n R) (dereferenced e p a) a (λ b. goes_on_in r (stored_at r.now f b d))
      (dereferenced-there e p (viewed r.now r.entry h) a (pass h inner (below-refl k h)) (at h inner (below-refl k h)))
      (record {
        history = h;
        inner = inner;
        holds = put-at k h r.now r.entry f a d (object_term e) v Q i same at
            (λ m j b. (checked R (receiver_checks e p) (put_field f (object_term e) v ∷ []) Q (viewed r.now r.entry m) (H m j b)).1);
      })
