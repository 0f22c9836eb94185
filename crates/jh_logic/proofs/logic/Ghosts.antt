-- Ghost assignments. What a state holds of a set are its members in the universe, and no formula tells the difference.
use Rattle.std.proofs.Common.{◌≡◌, refl, sym, ◌∙◌, subst, ℕ, zero, suc, ◌<◌, nat_lt, Bool, true, false, ◌&&◌, if◌then◌else◌, List, [], Option, arith}
use Rattle.std.proofs.lemmas.Bool.{true≢false}
use Rattle.std.proofs.lemmas.Bool.Decides.{nat_tests}
use Rattle.jh_name.specs.declared.place.Kind.{Kind}
use Rattle.jh_name.specs.declared.place.Kind.TheVariants as k
use Rattle.jh_name.specs.declared.place.Place.{Place}
use Rattle.jh_form.specs.Tree.{FormulaTree, ValueTree, TermTree}
use Rattle.jh_form.specs.Tree as t
use Rattle.jh_form.specs.Sorts.{tree_sort}
use Rattle.jh_form.specs.Meaning.{Interp, InUniverse, Datum, Fields, an_object, a_number, a_truth, a_set, a_field, updated, datum, term_value}
use Rattle.jh_form.specs.Assigned.{assigned}
use Rattle.jh_boxed_operations.specs.comparison.Inside.{SameMembers, SameFields, SameIn}
use Rattle.jh_rules.specs.declared.types.Ty.{Ty}
use Rattle.jh_vars.specs.Written.{Callee}
use Rattle.jh_vars.specs.state_names.States.{sort_of}
use Rattle.jh_vars.specs.Resolved.{own}
use Rattle.jh_semantics.specs.Code.{Text}
use Rattle.jh_semantics.specs.Code as c
use Rattle.jh_semantics.specs.Program.{Program}
use Rattle.jh_semantics.specs.State.{State, named, shown, held, stored, stored_at}
use Rattle.jh_semantics.specs.Progress.{Configuration, Progress, goes_on_in, stops, assert_failed}
use Rattle.jh_semantics.specs.Execution.{ghost_stored}
use Rattle.jh_semantics.specs.Typed.{NamesFit}
use Rattle.jh_semantics.proofs.Inside.{Lies}
use Rattle.jh_guard.specs.Writes.{Writes}
use Rattle.jh_logic.specs.logic.Histories.{viewed, by_turns, Inner, Alike, Respects}
use Rattle.jh_logic.specs.logic.Sure.{Sure}
use Rattle.jh_logic.proofs.logic.Views.{viewed-assigned}
use Rattle.jh_boxed_operations.proofs.comparison.Insides.{fields-same, updated-same}
use Rattle.jh_logic.proofs.logic.Histories.{below-refl}
use Rattle.jh_logic.proofs.logic.Respecting.{DatumInside, datum-inside, assigned-universe, assigned-alike}
use Rattle.jh_logic.proofs.logic.Going.{sure-pay}
use Rattle.jh_logic.proofs.logic.Stated.{datum-stated}
use Rattle.jh_logic.proofs.logic.Puts.{Leads, Returned}
use Rattle.jh_logic.proofs.logic.Statements.{SafeStmt}

-- a value that is no field
abbrev pub IsValue : Datum → Type 0
IsValue (a_field f) = ⊥
IsValue _ = Unit {0}

sorted-value : (v : ValueTree) (m : Interp) (e : List ℕ) (kind : Kind) → tree_sort v ≡ sort_of kind → IsValue (datum v m e)
sorted-value (t.of_object a) m e kind h = tt
sorted-value (t.of_number a) m e kind h = tt
sorted-value (t.of_truth a) m e kind h = tt
sorted-value (t.of_set a) m e kind h = tt
sorted-value (t.of_field a) m e k.Obj h = absurd (cc)
sorted-value (t.of_field a) m e k.Int h = absurd (cc)
sorted-value (t.of_field a) m e k.Bool h = absurd (cc)
sorted-value (t.of_field a) m e k.Set h = absurd (cc)

-- what a state holds of a value is the value in its universe
member-in : (n a : ℕ) (b : Bool) → a < suc n → b ≡ (nat_lt a (suc n) && b)
member-in n a b lt = grind (arith, nat_tests)

held-same : (s : State) (d : Datum) → IsValue d → SameIn s.last d (held s d)
held-same s (an_object v) i = refl
held-same s (a_number v) i = refl
held-same s (a_truth v) i = refl
held-same s (a_set f) i = λ a lt. member-in s.last a (f a) lt
held-same s (a_field f) i = absurd i

viewed-alike : (s u o m : Interp) → Alike s u → Alike (viewed s o m) (viewed u o m)
viewed-alike s u o m a = record {
  last = a.last;
  object = λ x. at x.turn (s.object x) (u.object x) (o.object (own x.text 0)) (m.object x) (a.object x);
  number = λ x. at x.turn (s.number x) (u.number x) (o.number (own x.text 0)) (m.number x) (a.number x);
  truth = λ x. at x.turn (s.truth x) (u.truth x) (o.truth (own x.text 0)) (m.truth x) (a.truth x);
  set = λ x. sets x.turn (s.set x) (u.set x) (o.set (own x.text 0)) (m.set x) (a.set x);
  field = λ x. fields x.turn (s.field x) (u.field x) (o.field (own x.text 0)) (m.field x) (a.field x);
}
  where
    at : {X : Type 0} (n : ℕ) (v w y z : X) → v ≡ w → by_turns n v y z ≡ by_turns n w y z
    at zero v w y z e = e
    at (suc zero) v w y z e = refl
    at (suc (suc n)) v w y z e = refl

    sets : (n : ℕ) (v w y z : ℕ → Bool) → SameMembers s.last v w → SameMembers s.last (by_turns n v y z) (by_turns n w y z)
    sets zero v w y z e = e
    sets (suc zero) v w y z e = λ b lt. refl
    sets (suc (suc n)) v w y z e = λ b lt. refl

    fields : (n : ℕ) (v w y z : Fields) → SameFields s.last v w → SameFields s.last (by_turns n v y z) (by_turns n w y z)
    fields zero v w y z e = e
    fields (suc zero) v w y z e = fields-same s.last y
    fields (suc (suc n)) v w y z e = fields-same s.last z

pub alike-itself : (m : Interp) → Alike m m
alike-itself m = record { last = refl; object = λ x. refl; number = λ x. refl; truth = λ x. refl; set = λ x a lt. refl; field = λ x. fields-same m.last (m.field x) }

-- a state with the value, and the one that holds it
pub stored-alike : (s : State) (x : Text) (d : Datum) → IsValue d → Alike (assigned s (named x) d) (stored s x d)
stored-alike s x d i = from d i (held-same s d i)
  where
    from : (d : Datum) → IsValue d → SameIn s.last d (held s d) → Alike (assigned s (named x) d) (stored s x d)
    from (an_object v) i h = assigned-alike s s (named x) (an_object v) (an_object v) (alike-itself s) h
    from (a_number v) i h = assigned-alike s s (named x) (a_number v) (a_number v) (alike-itself s) h
    from (a_truth v) i h = assigned-alike s s (named x) (a_truth v) (a_truth v) (alike-itself s) h
    from (a_set f) i h = assigned-alike s s (named x) (a_set f) (held s (a_set f)) (alike-itself s) h
    from (a_field f) i h = absurd i

pub stored-at-alike : (s : State) (f : Text) (a : ℕ) (d : Datum) → IsValue d → Alike (assigned s (named f) (a_field (updated (s.field (named f)) a d))) (stored_at s f a d)
stored-at-alike s f a d i =
    assigned-alike s s (named f) (a_field (updated (s.field (named f)) a d)) (a_field (updated (s.field (named f)) a (held s d))) (alike-itself s)
    (updated-same s.last (s.field (named f)) (s.field (named f)) a a d (held s d) (fields-same s.last (s.field (named f))) refl (held-same s d i))

-- what is in the universe of n is in that of the view
viewed-universe : (n : ℕ) (s o m : Interp) → s.last ≡ n → Inner n s → Inner n o → Inner n m → InUniverse (viewed s o m)
viewed-universe n s o m e a b d = subst (λ (k : ℕ). Inner k s → Inner k o → Inner k m → InUniverse (viewed s o m)) e (λ a b d. record {
  object = λ x. objects x.turn (s.object x) (o.object (own x.text 0)) (m.object x) (a.object x) (b.object (own x.text 0)) (d.object x);
  field = λ x. fields x.turn (s.field x) (o.field (own x.text 0)) (m.field x) (a.field x) (b.field (own x.text 0)) (d.field x);
}) a b d
  where
    objects : (i v w y : ℕ) → v < suc s.last → w < suc s.last → y < suc s.last → by_turns i v w y < suc s.last
    objects zero v w y g h l = g
    objects (suc zero) v w y g h l = h
    objects (suc (suc i)) v w y g h l = l

    fields : (i : ℕ) (v w y : Fields) → ((a : ℕ) → a < suc s.last → v.objects a < suc s.last) → ((a : ℕ) → a < suc s.last → w.objects a < suc s.last) → ((a : ℕ) → a < suc s.last → y.objects a < suc s.last) →
        (a : ℕ) → a < suc s.last → (by_turns i v w y).objects a < suc s.last
    fields zero v w y g h l = g
    fields (suc zero) v w y g h l = h
    fields (suc (suc i)) v w y g h l = l

pub lies-inner : (n : ℕ) (s : State) → Lies n s → Inner n s
lies-inner n s l = record { object = λ x. l.object x; field = λ x a lt. (l.field x).objects a lt }

module _ (p : Program) (ws : Writes) (names : NamesFit p) (n : ℕ) (result : Ty) (this : Option ℕ) (R : Interp → Type 0) (respect : Respects R) (call : Callee → ℕ → List Datum → Configuration → Progress) where
  pub ghost-safe : (x : Text) (q : Place) (v : ValueTree) → SafeStmt p ws names n result this R respect call (c.ghost x q v)
  ghost-safe x place v scope at fits k h r Q q b H =
      let s : State = r.now in
      let o : State = r.entry in
      let d : Datum = datum v (shown s o) [] in
      let y = fits.0 in
      let is : IsValue d = sorted-value v (shown s o) [] y.kind (fits.1).kind in
      let stands = b.good.0 in
      sure-pay (λ u. Leads n k u.now u.entry Q) (Returned n R) r (λ u. goes_on_in u (stored u.now x (datum v (shown u.now u.entry) []))) (λ j paid. record {
        history = h;
        inner = b.inner;
        holds = λ m i l.
            let V : Interp = viewed s o m in
            let given : Q (assigned V (named x) d) = subst (λ (e : Datum). Q (assigned V (named x) e)) (datum-stated s o m v (fits.1).states) (H m i l) in
            let seen : Q (viewed (assigned s (named x) d) o m) = subst Q (viewed-assigned s o m x d) given in
            let inside : InUniverse V = viewed-universe n s o m (stands.now).last (lies-inner n s stands.now) (lies-inner n o stands.entry) i in
            let whole : InUniverse (viewed (assigned s (named x) d) o m) = subst InUniverse (viewed-assigned s o m x d)
            (assigned-universe V (named x) d inside (subst (DatumInside V.last) (datum-stated s o m v (fits.1).states) (datum-inside v V inside))) in
            q (viewed (assigned s (named x) d) o m) (viewed (stored s x d) o m) whole (viewed-alike (assigned s (named x) d) (stored s x d) o m (stored-alike s x d is)) seen;
      })

  object-part : (a b : ℕ) → an_object a ≡ an_object b → a ≡ b
  object-part a b e = cc

  sure-stored : (P : Configuration → Type 0) (S : Configuration → Option Datum → Type 0) (b : Bool) (place : Place) (x : Progress) → b ≡ true → Sure P S x → Sure P S (if b then x else stops (assert_failed place))
  sure-stored P S true place x e h = h
  sure-stored P S false place x e h = absurd (true≢false (sym e))

  pub ghost-at-safe : (q : Place) (class : Text) (f : Text) (a : TermTree) (place : Place) (v : ValueTree) → SafeStmt p ws names n result this R respect call (c.ghost_at q class f a place v)
  ghost-at-safe place class f a right v scope at fits k h r Q q b H =
      let s : State = r.now in
      let o : State = r.entry in
      let y = fits.0 in
      let g = (fits.1).fits in
      let e : ℕ = term_value a (shown s o) [] in
      let d : Datum = datum v (shown s o) [] in
      let is : IsValue d = sorted-value v (shown s o) [] y.kind g.kind in
      let stands = b.good.0 in
      let there : (m : Interp) → term_value a (viewed s o m) [] ≡ e = λ m. object-part (term_value a (viewed s o m) []) e (datum-stated s o m (t.of_object a) (fits.1).receiver) in
      let member : s.set (named class) e ≡ true = (λ i. s.set (named class) (sym (there h) i)) ∙ (H h b.inner (below-refl k h)).0 in
      sure-pay (λ u. Leads n k u.now u.entry Q) (Returned n R) r (λ u. ghost_stored place class f (term_value a (shown u.now u.entry) []) (datum v (shown u.now u.entry) []) u) (λ j paid.
      sure-stored (λ u. Leads n k u.now u.entry Q) (Returned n R) (s.set (named class) e) place (goes_on_in (record r { steps = j }) (stored_at s f e d)) member (record {
        history = h;
        inner = b.inner;
        holds = λ m i l.
            let V : Interp = viewed s o m in
            let w : Datum = a_field (updated (s.field (named f)) e d) in
            let same : a_field (updated (s.field (named f)) (term_value a V []) (datum v V [])) ≡ w = (λ j. a_field (updated (s.field (named f)) (there m j) (datum-stated s o m v g.states j))) in
            let given : Q (assigned V (named f) w) = subst (λ (z : Datum). Q (assigned V (named f) z)) same (H m i l).1 in
            let seen : Q (viewed (assigned s (named f) w) o m) = subst Q (viewed-assigned s o m f w) given in
            let inside : InUniverse V = viewed-universe n s o m (stands.now).last (lies-inner n s stands.now) (lies-inner n o stands.entry) i in
            let whole : InUniverse (viewed (assigned s (named f) w) o m) = subst InUniverse (viewed-assigned s o m f w)
            (assigned-universe V (named f) w inside (subst (DatumInside V.last) same (datum-inside (t.of_field (t.update (t.free_field (named f)) a v)) V inside))) in
            q (viewed (assigned s (named f) w) o m) (viewed (stored_at s f e d) o m) whole (viewed-alike (assigned s (named f) w) (stored_at s f e d) o m (stored-at-alike s f e d is)) seen;
      }))
