-- How what the code finds goes together.
use Rattle.std.proofs.Common.{◌≡◌, refl, sym, ap, ◌∙◌, ℕ, Bool, true, false, List, [], ◌∷◌, ◌++◌, Option, Some, None, arith}
use Rattle.std.specs.Option.{option_map_or}
use Rattle.std.proofs.lemmas.Bool.{true≢false}
use Rattle.std.proofs.lemmas.Bool.Decides.{nat_tests}
use Rattle.jh_ast.specs.jh_name.declared.place.Place.{Place}
use Rattle.jh_rules.specs.declared.fault.Fault.{Fault}
use Rattle.jh_rules.specs.declared.found.Found.{Found}
use Rattle.jh_rules.specs.Faults.{Judged, right, wrong, needs, both, pair_of, ◌>>=◌}
use Rattle.jh_rules.specs.Found.{Finds, least, lesser, is_less}

less-trans : (x y z : Fault) → is_less x y ≡ true → is_less y z ≡ true → is_less x z ≡ true
unfolding is_less
less-trans x y z a b = grind (arith, nat_tests)

less-back : (x y z : Fault) → is_less x y ≡ false → is_less y z ≡ false → is_less x z ≡ false
unfolding is_less
less-back x y z a b = grind (arith, nat_tests)

pub lesser-none : (o : Option Fault) → lesser o None ≡ o
lesser-none None = refl
lesser-none (Some x) = refl

three : (x y z : Fault) (p q r : Bool) → is_less y x ≡ p → is_less z y ≡ q → is_less z x ≡ r → lesser (lesser (Some x) (Some y)) (Some z) ≡ lesser (Some x) (lesser (Some y) (Some z))
three x y z true true true a b c = rw (a, b, c) refl
three x y z true true false a b c = absurd (true≢false (sym (less-trans z y x b a) ∙ c))
three x y z true false r a b c = rw (a, b, a) refl
three x y z false true r a b c = rw (a, b) refl
three x y z false false true a b c = absurd (true≢false (sym c ∙ less-back z y x b a))
three x y z false false false a b c = rw (b, a, c) refl

pub lesser-assoc : (a b c : Option Fault) → lesser (lesser a b) c ≡ lesser a (lesser b c)
lesser-assoc None b c = refl
lesser-assoc (Some x) None c = refl
lesser-assoc (Some x) (Some y) None = lesser-none (lesser (Some x) (Some y))
lesser-assoc (Some x) (Some y) (Some z) = three x y z (is_less y x) (is_less z y) (is_less z x) refl refl refl

pub least-append : (xs ys : List Fault) → least (xs ++ ys) ≡ lesser (least xs) (least ys)
unfolding least
least-append [] ys = refl
least-append (x ∷ xs) ys = ap (lesser (Some x)) (least-append xs ys) ∙ sym (lesser-assoc (Some x) (least xs) (least ys))

module _ {T : Type 0} where
  pub finds-met : (test : Bool) (r : ℕ) (p : Place) (x : T) (o : Found T) → test ≡ true → Finds o (right x) → Finds o (needs test r p x)
  finds-met true r p x o e h = h
  finds-met false r p x o e h = absurd (true≢false (sym e))

  pub finds-unmet : (test : Bool) (r : ℕ) (p : Place) (x : T) (o : Found T) → test ≡ false → Finds o (wrong r p) → Finds o (needs test r p x)
  finds-unmet true r p x o e h = absurd (true≢false e)
  finds-unmet false r p x o e h = h

module _ {A B : Type 0} where
  -- what is asked of a known part
  pub finds-then : (a : Judged A) (f : A → Judged B) (u : Found A) (v o : Found B) (x : A) → Finds u a → u.known ≡ Some x → Finds v (f x) → o.known ≡ v.known → o.least ≡ lesser u.least v.least → Finds o (a >>= f)
  finds-then a f u v o x hu e hv s l = record {
    known = s ∙ hv.known ∙ ap (λ y. option_map_or (λ x. (f x).known) y None) (sym e ∙ hu.known);
    least_is = l ∙ (λ i. lesser (hu.least_is i) (hv.least_is i)) ∙ sym (least-append a.faults (f x).faults) ∙ ap (λ y. least (a.faults ++ option_map_or (λ x. (f x).faults) y [])) (sym e ∙ hu.known);
  }

  -- of a part that isn't known nothing is asked
  pub finds-stop : (a : Judged A) (f : A → Judged B) (u : Found A) (o : Found B) → Finds u a → u.known ≡ None → o.known ≡ None → o.least ≡ u.least → Finds o (a >>= f)
  unfolding least
  finds-stop a f u o hu e s l = record {
    known = s ∙ ap (λ y. option_map_or (λ x. (f x).known) y None) (sym e ∙ hu.known);
    least_is = l ∙ hu.least_is ∙ sym (lesser-none (least a.faults)) ∙ sym (least-append a.faults []) ∙ ap (λ y. least (a.faults ++ option_map_or (λ x. (f x).faults) y [])) (sym e ∙ hu.known);
  }

  -- of what a test lets through something is asked
  pub finds-through : (test : Bool) (r : ℕ) (p : Place) (x : A) (f : A → Judged B) (o : Found B) → test ≡ true → Finds o (f x) → Finds o (needs test r p x >>= f)
  finds-through true r p x f o e h = h
  finds-through false r p x f o e h = absurd (true≢false (sym e))

  pub finds-refused : (test : Bool) (r : ℕ) (p : Place) (x : A) (f : A → Judged B) (o : Found B) → test ≡ false → Finds o (wrong r p) → Finds o (needs test r p x >>= f)
  finds-refused true r p x f o e h = absurd (true≢false e)
  finds-refused false r p x f o e h = h

  -- two parts
  pub finds-both : (a : Judged A) (b : Judged B) (u : Found A) (v : Found B) (o : Found (A × B)) → Finds u a → Finds v b → o.known ≡ pair_of u.known v.known → o.least ≡ lesser u.least v.least → Finds o (both a b)
  finds-both a b u v o hu hv s l = record {
    known = s ∙ (λ i. pair_of (hu.known i) (hv.known i));
    least_is = l ∙ (λ i. lesser (hu.least_is i) (hv.least_is i)) ∙ sym (least-append a.faults b.faults);
  }

pub ruleset find_steps = (finds-met, finds-unmet, finds-through, finds-refused, finds-then, finds-stop, finds-both)
