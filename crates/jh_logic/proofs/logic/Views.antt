-- Interpretations of states, under the assignments and havocs of commands.
use Rattle.std.proofs.Common.{◌≡◌, refl, sym, ap, ◌∙◌, ℕ, zero, suc, ◌≤◌, nat_eq, arith, Bool, true, false, ◌&&◌, if◌then◌else◌}
use Rattle.std.proofs.lemmas.Bool.{true≢false}
use Rattle.std.proofs.lemmas.Bool.Decides.{nat_tests}
use Rattle.std.specs.Cmp.Lexicographic.{pointwise}
use Rattle.jh_name.specs.declared.naming.Name.{Name}
use Rattle.jh_form.specs.Passing.{name_equal}
use Rattle.jh_form.proofs.Names.{name_equal-true}
use Rattle.jh_form.specs.Meaning.{Interp, Datum, an_object, a_number, a_truth, a_set, a_field}
use Rattle.jh_form.specs.Assigned.{assigned}
use Rattle.jh_vars.specs.Resolved.{own}
use Rattle.jh_wp.specs.Renamed.{copied}
use Rattle.jh_semantics.specs.Code.{Text}
use Rattle.jh_semantics.specs.State.{State, named}
use Rattle.jh_logic.specs.logic.Histories.{by_turns, viewed, Gives}

later : (n : ℕ) → nat_eq (suc (suc n)) 0 ≡ false
later n = grind (arith, nat_tests)

passed : {X : Type 0} (c b : Bool) (v w : X) → c ≡ false → (if c && b then v else w) ≡ w
passed true b v w e = absurd (true≢false e)
passed false b v w e = refl

-- an assignment to a name at turn 0 changes the state now
chosen_at : {X : Type 0} (n : ℕ) (b : Bool) (v a o g : X) → (if nat_eq n 0 && b then v else by_turns n a o g) ≡ by_turns n (if nat_eq n 0 && b then v else a) o g
chosen_at zero b v a o g = refl
chosen_at (suc zero) b v a o g = refl
chosen_at (suc (suc n)) b v a o g = passed (nat_eq (suc (suc n)) 0) b v g (later n)

assigned_at : {X : Type 0} (y : Name) (x : Text) (v a o g : X) → (if name_equal y (named x) then v else by_turns y.turn a o g) ≡ by_turns y.turn (if name_equal y (named x) then v else a) o g
unfolding name_equal
assigned_at y x v a o g = chosen_at y.turn (pointwise nat_eq y.text x) v a o g

pub viewed-assigned : (s o g : Interp) (x : Text) (d : Datum) → assigned (viewed s o g) (named x) d ≡ viewed (assigned s (named x) d) o g
viewed-assigned s o g x (an_object v) = λ i. record (viewed s o g) { object = λ y. assigned_at y x v (s.object y) (o.object (own y.text 0)) (g.object y) i }
viewed-assigned s o g x (a_number v) = λ i. record (viewed s o g) { number = λ y. assigned_at y x v (s.number y) (o.number (own y.text 0)) (g.number y) i }
viewed-assigned s o g x (a_truth v) = λ i. record (viewed s o g) { truth = λ y. assigned_at y x v (s.truth y) (o.truth (own y.text 0)) (g.truth y) i }
viewed-assigned s o g x (a_set v) = λ i. record (viewed s o g) { set = λ y. assigned_at y x v (s.set y) (o.set (own y.text 0)) (g.set y) i }
viewed-assigned s o g x (a_field v) = λ i. record (viewed s o g) { field = λ y. assigned_at y x v (s.field y) (o.field (own y.text 0)) (g.field y) i }

-- one name of the state taken from another state
abbrev pub took : {X : Type 0} → (Name → X) → Text → X → Name → X
took s x v = λ z. if name_equal z (named x) then v else s z

abbrev pub taking : State → Text → Interp → State
taking s x r = record {
  last = s.last;
  object = took s.object x (r.object (named x));
  number = took s.number x (r.number (named x));
  truth = took s.truth x (r.truth (named x));
  set = took s.set x (r.set (named x));
  field = took s.field x (r.field (named x));
}

-- a havoc gives a name of the state the value of a fresh name
abbrev seen : {X : Type 0} → (Name → X) → (Name → X) → (Name → X) → Name → X
seen s o g = λ z. by_turns z.turn (s z) (o (own z.text 0)) (g z)

when : {X : Type 0} (s o g : Name → X) (y : Name) (v : X) (n : ℕ) (u : Text) (p : Bool) → seen s o g y ≡ v →
    seen s o g (if nat_eq n 0 && p then y else record { text = u; turn = n }) ≡ by_turns n (if nat_eq n 0 && p then v else s (record { text = u; turn = n })) (o (own u 0)) (g (record { text = u; turn = n }))
when s o g y v zero u true e = e
when s o g y v zero u false e = refl
when s o g y v (suc zero) u p e = refl
when s o g y v (suc (suc n)) u p e = ap (seen s o g) (passed (nat_eq (suc (suc n)) 0) p y (record { text = u; turn = suc (suc n) }) (later n))

copied_at : {X : Type 0} (s o g : Name → X) (x : Text) (y : Name) (v : X) (z : Name) → seen s o g y ≡ v →
    seen s o g (if name_equal z (named x) then y else z) ≡ by_turns z.turn (took s x v z) (o (own z.text 0)) (g z)
unfolding name_equal
copied_at s o g x y v z e = when s o g y v z.turn z.text (pointwise nat_eq z.text x) e

fresh_seen : {X : Type 0} (s o g : Name → X) (y : Name) (v : X) → 2 ≤ y.turn → g y ≡ v → seen s o g y ≡ v
fresh_seen s o g y v le h = at y.turn le ∙ h
  where
    at : (n : ℕ) → 2 ≤ n → by_turns n (s y) (o (own y.text 0)) (g y) ≡ g y
    at zero le = absurd (omega arith)
    at (suc zero) le = absurd (omega arith)
    at (suc (suc n)) le = refl

pub viewed-copied : (s o g : Interp) (x : Text) (y : Name) (r : Interp) → 2 ≤ y.turn → Gives g y r (named x) → copied (viewed s o g) (named x) y ≡ viewed (taking s x r) o g
viewed-copied s o g x y r le h = λ i. record {
  last = s.last;
  object = λ z. copied_at s.object o.object g.object x y (r.object (named x)) z (fresh_seen s.object o.object g.object y (r.object (named x)) le h.object) i;
  number = λ z. copied_at s.number o.number g.number x y (r.number (named x)) z (fresh_seen s.number o.number g.number y (r.number (named x)) le h.number) i;
  truth = λ z. copied_at s.truth o.truth g.truth x y (r.truth (named x)) z (fresh_seen s.truth o.truth g.truth y (r.truth (named x)) le h.truth) i;
  set = λ z. copied_at s.set o.set g.set x y (r.set (named x)) z (fresh_seen s.set o.set g.set y (r.set (named x)) le h.set) i;
  field = λ z. copied_at s.field o.field g.field x y (r.field (named x)) z (fresh_seen s.field o.field g.field y (r.field (named x)) le h.field) i;
}

-- a fresh name gets a value that it has already
same_at : {X : Type 0} (s o g : Name → X) (y : Name) (v : X) (z : Name) (b : Bool) → 2 ≤ y.turn → g y ≡ v → name_equal z y ≡ b → (if b then v else seen s o g z) ≡ seen s o g z
same_at s o g y v z true le h is = sym (fresh_seen s o g y v le h) ∙ ap (seen s o g) (sym (name_equal-true z y is))
same_at s o g y v z false le h is = refl

-- the value of a name in an interpretation, at the sort of the value
abbrev pub HasValue : Interp → Name → Datum → Type 0
HasValue m y (an_object v) = m.object y ≡ v
HasValue m y (a_number v) = m.number y ≡ v
HasValue m y (a_truth v) = m.truth y ≡ v
HasValue m y (a_set v) = m.set y ≡ v
HasValue m y (a_field v) = m.field y ≡ v

pub viewed-known : (s o g : Interp) (y : Name) (d : Datum) → 2 ≤ y.turn → HasValue g y d → assigned (viewed s o g) y d ≡ viewed s o g
viewed-known s o g y (an_object v) le h = λ i. record (viewed s o g) { object = λ z. same_at s.object o.object g.object y v z (name_equal z y) le h refl i }
viewed-known s o g y (a_number v) le h = λ i. record (viewed s o g) { number = λ z. same_at s.number o.number g.number y v z (name_equal z y) le h refl i }
viewed-known s o g y (a_truth v) le h = λ i. record (viewed s o g) { truth = λ z. same_at s.truth o.truth g.truth y v z (name_equal z y) le h refl i }
viewed-known s o g y (a_set v) le h = λ i. record (viewed s o g) { set = λ z. same_at s.set o.set g.set y v z (name_equal z y) le h refl i }
viewed-known s o g y (a_field v) le h = λ i. record (viewed s o g) { field = λ z. same_at s.field o.field g.field y v z (name_equal z y) le h refl i }

-- a havoc of a fresh name by another, where both have one value already
moved_at : {X : Type 0} (f : Name → X) (x y z : Name) (b : Bool) → name_equal z x ≡ b → f y ≡ f x → f (if b then y else z) ≡ f z
moved_at f x y z true e h = h ∙ ap f (sym (name_equal-true z x e))
moved_at f x y z false e h = refl

pub copied-known : (m : Interp) (x y : Name) → Gives m y m x → copied m x y ≡ m
copied-known m x y h = λ i. record {
  last = m.last;
  object = λ z. moved_at m.object x y z (name_equal z x) refl h.object i;
  number = λ z. moved_at m.number x y z (name_equal z x) refl h.number i;
  truth = λ z. moved_at m.truth x y z (name_equal z x) refl h.truth i;
  set = λ z. moved_at m.set x y z (name_equal z x) refl h.set i;
  field = λ z. moved_at m.field x y z (name_equal z x) refl h.field i;
}

-- what a view says of a fresh name
pub viewed-fresh : (s o g : Interp) (y : Name) → 2 ≤ y.turn → Gives (viewed s o g) y g y
viewed-fresh s o g y le = record {
  object = fresh_seen s.object o.object g.object y (g.object y) le refl;
  number = fresh_seen s.number o.number g.number y (g.number y) le refl;
  truth = fresh_seen s.truth o.truth g.truth y (g.truth y) le refl;
  set = fresh_seen s.set o.set g.set y (g.set y) le refl;
  field = fresh_seen s.field o.field g.field y (g.field y) le refl;
}
