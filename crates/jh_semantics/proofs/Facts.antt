-- The six facts as a formula, and without.
use Rattle.std.proofs.Common.{◌≡◌, refl, sym, ap, subst, ◌∙◌, ℕ, zero, suc, ◌<◌, ◌⊎◌, inl, inr, ◌==◌, ◌&&◌, ◌||◌, not, nat_lt, pos, arith, Bool, true, false, if◌then◌else◌, List, [], ◌∷◌, ◌++◌, map, Option, None, Some, length, slice_index_or}
use Rattle.std.specs.List.{Contains, list_any, flat_map}
use Rattle.std.specs.Option.{option_map_or}
use Rattle.std.proofs.lemmas.Bool.{true≢false, eqb-true, eq-eqb}
use Rattle.std.proofs.lemmas.Bool.Decides.{nat_tests, Decides-int_eq}
use Rattle.std.proofs.lemmas.List.Elements.{Contains-append_cases, Contains-append_right}
use Rattle.jh_name.specs.declared.place.Kind.{Kind}
use Rattle.jh_name.specs.declared.place.Kind.TheVariants as k
use Rattle.jh_arena.specs.makers.Joined.{joined}
use Rattle.jh_form.specs.Tree.{FormulaTree, TermTree, SetTree}
use Rattle.jh_form.specs.Tree as t
use Rattle.jh_form.specs.Meaning.{all_below, agree, truth, set_value, term_value}
use Rattle.jh_form.proofs.ClosedLemmas.{both-left, both-right}
use Rattle.jh_rules.specs.declared.types.Ty.{Ty}
use Rattle.jh_rules.specs.declared.types.Ty.TheVariants as ty
use Rattle.jh_semantics.specs.Code.{Text}
use Rattle.jh_semantics.specs.Program.{Program, Member, class_at}
use Rattle.jh_semantics.specs.State.{State, named, alloc_name, shown}
use Rattle.jh_semantics.specs.WellFormed.{set_of, alloc, all_classes, union_with, union_of, apart, lies_in, member_lies_in, each_in, each_outside, is_default, static_facts, field_facts, default_facts, well_formed_facts, well_formed}
use Rattle.jh_semantics.specs.Typed.{NamesFit, AreApart}
use Rattle.jh_semantics.proofs.Formed.{IsDefault, ObjectLies, Formed}

-- over the objects below a number
split-below : (a n : ℕ) (t : Bool) → nat_lt a n ≡ t → a < suc n → (a ≡ n) ⊎ (a < n)
split-below a n true e h = inr (grind (arith, nat_tests))
split-below a n false e h = inl (grind (arith, nat_tests))

below-true : (n : ℕ) (f : ℕ → Bool) → all_below n f ≡ true → (a : ℕ) → a < n → f a ≡ true
below-true zero f h a i = absurd (none i)
  where
    none : a < zero → ⊥
    none i = omega (i, arith)
below-true (suc n) f h a i = cases (split-below a n (nat_lt a n) refl i) (λ j. below-true n f (both-left (all_below n f) (f n) h) a j)
  where
    cases : (a ≡ n) ⊎ (a < n) → (a < n → f a ≡ true) → f a ≡ true
    cases (inl e) g = ap f e ∙ both-right (all_below n f) (f n) h
    cases (inr j) g = g j

both-true : (x y : Bool) → x ≡ true → y ≡ true → (x && y) ≡ true
both-true true y h i = i
both-true false y h i = h

true-below : (n : ℕ) (f : ℕ → Bool) → ((a : ℕ) → a < n → f a ≡ true) → all_below n f ≡ true
true-below zero f h = refl
true-below (suc n) f h = both-true (all_below n f) (f n) (true-below n f (λ a i. h a (omega arith))) (h n (omega arith))

module _ (s : State) where
  abbrev Holds : FormulaTree → Type 0
  Holds f = truth f (shown s s) [] ≡ true

  abbrev AllHold : List FormulaTree → Type 0
  AllHold [] = Unit {0}
  AllHold (f ∷ fs) = Holds f × AllHold fs

  joined-hold : (fs : List FormulaTree) → Holds (joined fs) → AllHold fs
  joined-hold [] h = tt
  joined-hold (f ∷ []) h = (h, tt)
  joined-hold (f ∷ g ∷ rest) h = (both-left (truth f (shown s s) []) (truth (joined (g ∷ rest)) (shown s s) []) h, joined-hold (g ∷ rest) (both-right (truth f (shown s s) []) (truth (joined (g ∷ rest)) (shown s s) []) h))

  hold-joined : (fs : List FormulaTree) → AllHold fs → Holds (joined fs)
  hold-joined [] h = refl
  hold-joined (f ∷ []) h = h.0
  hold-joined (f ∷ g ∷ rest) h = both-true (truth f (shown s s) []) (truth (joined (g ∷ rest)) (shown s s) []) h.0 (hold-joined (g ∷ rest) h.1)

  front-hold : (fs gs : List FormulaTree) → AllHold (fs ++ gs) → AllHold fs × AllHold gs
  front-hold [] gs h = (tt, h)
  front-hold (f ∷ fs) gs h = ((h.0, (front-hold fs gs h.1).0), (front-hold fs gs h.1).1)

  hold-front : (fs gs : List FormulaTree) → AllHold fs → AllHold gs → AllHold (fs ++ gs)
  hold-front [] gs h i = i
  hold-front (f ∷ fs) gs h i = (h.0, hold-front fs gs h.1 i)

  first-in : {X : Type 0} (x y : X) → Contains (x ∷ []) y → y ≡ x
  first-in x y h = at_place h.0 h.1 h.2
    where
      at_place : (j : ℕ) → j < length (x ∷ []) → slice_index_or (x ∷ []) j y ≡ y → y ≡ x
      at_place zero l e = sym e
      at_place (suc j) l e = absurd (beyond l)
        where
          beyond : suc j < 1 → ⊥
          beyond l = omega (l, arith)

  -- the facts of each member
  each-hold : (g : Member → List FormulaTree) (xs : List Member) → AllHold (flat_map g xs) → (x : Member) → Contains xs x → AllHold (g x)
  each-hold g [] h x i = absurd (none i)
    where
      none : Contains [] x → ⊥
      none i = omega (i.1, arith)
  each-hold g (y ∷ xs) h x i = cases (Contains-append_cases (y ∷ []) xs x i) (λ j. each-hold g xs (front-hold (g y) (flat_map g xs) h).1 x j)
    where
      cases : Contains (y ∷ []) x ⊎ Contains xs x → (Contains xs x → AllHold (g x)) → AllHold (g x)
      cases (inl j) f = subst (λ (z : Member). AllHold (g z)) (sym (first-in y x j)) (front-hold (g y) (flat_map g xs) h).0
      cases (inr j) f = f j

  hold-each : (g : Member → List FormulaTree) (xs : List Member) → ((x : Member) → Contains xs x → AllHold (g x)) → AllHold (flat_map g xs)
  hold-each g [] h = tt
  hold-each g (y ∷ xs) h = hold-front (g y) (flat_map g xs) (h y (0, omega arith, refl)) (hold-each g xs (λ x i. h x (Contains-append_right (y ∷ []) xs x i)))

  -- truths
  or-right : (x : Bool) → x ≡ (x || false)
  or-right true = refl
  or-right false = refl

  or-assoc : (x y z : Bool) → ((x || y) || z) ≡ (x || (y || z))
  or-assoc true y z = refl
  or-assoc false y z = refl

  or-cases : (x y : Bool) → (x || y) ≡ true → (x ≡ true) ⊎ (y ≡ true)
  or-cases true y h = inl refl
  or-cases false y h = inr h

  or-left : (x y : Bool) → x ≡ true → (x || y) ≡ true
  or-left true y h = refl
  or-left false y h = absurd (true≢false (sym h))

  or-else : (x y : Bool) → y ≡ true → (x || y) ≡ true
  or-else true y h = refl
  or-else false y h = h

  agree-left : (x y : Bool) → agree x y ≡ true → x ≡ true → y ≡ true
  agree-left true y h e = h
  agree-left false y h e = absurd (true≢false (sym e))

  agree-right : (x y : Bool) → agree x y ≡ true → y ≡ true → x ≡ true
  agree-right true y h e = refl
  agree-right false true h e = absurd (true≢false (sym h))
  agree-right false false h e = absurd (true≢false (sym e))

  both-agree : (x y : Bool) → (x ≡ true → y ≡ true) → (y ≡ true → x ≡ true) → agree x y ≡ true
  both-agree true y f g = f refl
  both-agree false true f g = absurd (true≢false (sym (g refl)))
  both-agree false false f g = refl

  -- the union of the classes
  union-with-value : (a : SetTree) (cs : List Text) (x : ℕ) → set_value (union_with a cs) (shown s s) [] x ≡ (set_value a (shown s s) [] x || list_any (λ c. s.set (named c) x) cs)
  union-with-value a [] x = or-right (set_value a (shown s s) [] x)
  union-with-value a (c ∷ cs) x = union-with-value (t.union a (set_of c)) cs x ∙ or-assoc (set_value a (shown s s) [] x) (s.set (named c) x) (list_any (λ d. s.set (named d) x) cs)

  union-value : (cs : List Text) (x : ℕ) → set_value (union_of cs) (shown s s) [] x ≡ list_any (λ c. s.set (named c) x) cs
  union-value [] x = refl
  union-value (c ∷ cs) x = union-with-value (set_of c) cs x

  any-of : (f : Text → Bool) (cs : List Text) → list_any f cs ≡ true → (c : Text) × Contains cs c × (f c ≡ true)
  any-of f [] h = absurd (true≢false (sym h))
  any-of f (c ∷ cs) h = cases (or-cases (f c) (list_any f cs) h) (λ i. any-of f cs i)
    where
      cases : (f c ≡ true) ⊎ (list_any f cs ≡ true) → (list_any f cs ≡ true → (d : Text) × Contains cs d × (f d ≡ true)) → (d : Text) × Contains (c ∷ cs) d × (f d ≡ true)
      cases (inl i) g = (c, (0, omega arith, refl), i)
      cases (inr i) g = ((g i).0, Contains-append_right (c ∷ []) cs (g i).0 (g i).1, (g i).2)

  first-or-rest : (c d : Text) (cs : List Text) → Contains (c ∷ cs) d → (d ≡ c) ⊎ Contains cs d
  first-or-rest c d cs h = cases (Contains-append_cases (c ∷ []) cs d h)
    where
      cases : Contains (c ∷ []) d ⊎ Contains cs d → (d ≡ c) ⊎ Contains cs d
      cases (inl i) = inl (first-in c d i)
      cases (inr i) = inr i

  of-any : (f : Text → Bool) (cs : List Text) (c : Text) → Contains cs c → f c ≡ true → list_any f cs ≡ true
  of-any f [] c h i = absurd (none h)
    where
      none : Contains [] c → ⊥
      none h = omega (h.1, arith)
  of-any f (d ∷ cs) c h i = cases (first-or-rest d c cs h) (λ j. of-any f cs c j i)
    where
      cases : (c ≡ d) ⊎ Contains cs c → (Contains cs c → list_any f cs ≡ true) → (f d || list_any f cs) ≡ true
      cases (inl e) g = or-left (f d) (list_any f cs) (ap f (sym e) ∙ i)
      cases (inr j) g = or-else (f d) (list_any f cs) (g j)

  -- no common object
  map-hold : (g : Text → FormulaTree) (cs : List Text) → AllHold (map g cs) → (c : Text) → Contains cs c → Holds (g c)
  map-hold g [] h c i = absurd (none i)
    where
      none : Contains [] c → ⊥
      none h = omega (h.1, arith)
  map-hold g (d ∷ cs) h c i = cases (first-or-rest d c cs i) (λ j. map-hold g cs h.1 c j)
    where
      cases : (c ≡ d) ⊎ Contains cs c → (Contains cs c → Holds (g c)) → Holds (g c)
      cases (inl e) f = subst (λ (x : Text). Holds (g x)) (sym e) h.0
      cases (inr j) f = f j

  hold-map : (g : Text → FormulaTree) (cs : List Text) → ((c : Text) → Contains cs c → Holds (g c)) → AllHold (map g cs)
  hold-map g [] h = tt
  hold-map g (d ∷ cs) h = (h d (0, omega arith, refl), hold-map g cs (λ c i. h c (Contains-append_right (d ∷ []) cs c i)))

  abbrev nothing-common : Text → Text → FormulaTree
  nothing-common c d = t.eq_set (t.inter (set_of c) (set_of d)) t.empty

  no-common : (c d : Text) → Holds (nothing-common c d) → (a : ℕ) → a < suc s.last → s.set (named c) a ≡ true → s.set (named d) a ≡ true → ⊥
  no-common c d h a i x y =
      true≢false (sym (agree-left (s.set (named c) a && s.set (named d) a) false (below-true (suc s.last) (λ x. agree (s.set (named c) x && s.set (named d) x) false) h a i) (both-true (s.set (named c) a) (s.set (named d) a) x y)))

  apart-facts : (cs : List Text) → AllHold (apart cs) → (c d : Text) → Contains cs c → Contains cs d → (a : ℕ) → a < suc s.last → s.set (named c) a ≡ true → s.set (named d) a ≡ true → c ≡ d
  apart-facts [] h c d i j a l x y = absurd (none i)
    where
      none : Contains [] c → ⊥
      none h = omega (h.1, arith)
  apart-facts (e ∷ es) h c d i j a l x y = cases (first-or-rest e c es i) (first-or-rest e d es j) (λ q r. apart-facts es (front-hold (map (nothing-common e) es) (apart es) h).1 c d q r a l x y)
    where
      first : (z : Text) → Contains es z → s.set (named e) a ≡ true → s.set (named z) a ≡ true → ⊥
      first z q u v = no-common e z (map-hold (nothing-common e) es (front-hold (map (nothing-common e) es) (apart es) h).0 z q) a l u v

      cases : (c ≡ e) ⊎ Contains es c → (d ≡ e) ⊎ Contains es d → (Contains es c → Contains es d → c ≡ d) → c ≡ d
      cases (inl q) (inl r) f = q ∙ sym r
      cases (inl q) (inr r) f = absurd (first d r (ap (λ (z : Text). s.set (named z) a) (sym q) ∙ x) y)
      cases (inr q) (inl r) f = absurd (first c q (ap (λ (z : Text). s.set (named z) a) (sym r) ∙ y) x)
      cases (inr q) (inr r) f = f q r

  facts-apart : (cs : List Text) → AreApart cs → ((c d : Text) → Contains cs c → Contains cs d → (a : ℕ) → a < suc s.last → s.set (named c) a ≡ true → s.set (named d) a ≡ true → c ≡ d) → AllHold (apart cs)
  facts-apart [] h f = tt
  facts-apart (e ∷ es) h f =
      hold-front (map (nothing-common e) es) (apart es)
      (hold-map (nothing-common e) es (λ d i. true-below (suc s.last) (λ x. agree (s.set (named e) x && s.set (named d) x) false) (λ a l.
      both-agree (s.set (named e) a && s.set (named d) a) false
      (λ u. absurd (h.0 d i (f e d (0, omega arith, refl) (Contains-append_right (e ∷ []) es d i) a l (both-left (s.set (named e) a) (s.set (named d) a) u) (both-right (s.set (named e) a) (s.set (named d) a) u))))
      (λ u. absurd (true≢false (sym u))))))
      (facts-apart es h.1 (λ c d i j a l x y. f c d (Contains-append_right (e ∷ []) es c i) (Contains-append_right (e ∷ []) es d j) a l x y))

  -- objects in their types, under objects for bound variables
  abbrev HoldsAt : List ℕ → FormulaTree → Type 0
  HoldsAt env f = truth f (shown s s) env ≡ true

  abbrev AllHoldAt : List ℕ → List FormulaTree → Type 0
  AllHoldAt env [] = Unit {0}
  AllHoldAt env (f ∷ fs) = HoldsAt env f × AllHoldAt env fs

  module _ (p : Program) where
    null-or : (v : ℕ) (b : Bool) → ((v == 0) || b) ≡ true → (v ≡ 0) ⊎ (b ≡ true)
    null-or v b h = cases (or-cases (v == 0) b h)
      where
        cases : ((v == 0) ≡ true) ⊎ (b ≡ true) → (v ≡ 0) ⊎ (b ≡ true)
        cases (inl i) = inl (eqb-true v 0 i)
        cases (inr i) = inr i

    or-null : (v : ℕ) (b : Bool) → (v ≡ 0) ⊎ (b ≡ true) → ((v == 0) || b) ≡ true
    or-null v b (inl e) = or-left (v == 0) b (eq-eqb v 0 e)
    or-null v b (inr i) = or-else (v == 0) b i

    lies-facts : (type : Ty) (a : TermTree) (env : List ℕ) → (type ≡ ty.Null → ⊥) → AllHoldAt env (lies_in p.classes type a) → ObjectLies p type s (term_value a (shown s s) env)
    lies-facts (ty.Class n) a env i h = null-or (term_value a (shown s s) env) (s.set (named (class_at p.classes n)) (term_value a (shown s s) env)) h.0
    lies-facts ty.Object a env i h = null-or (term_value a (shown s s) env) (s.set alloc_name (term_value a (shown s s) env)) h.0
    lies-facts ty.Null a env i h = absurd (i refl)
    lies-facts ty.Int a env i h = tt
    lies-facts ty.Boolean a env i h = tt
    lies-facts ty.Void a env i h = tt

    facts-lie : (type : Ty) (a : TermTree) (env : List ℕ) → ObjectLies p type s (term_value a (shown s s) env) → AllHoldAt env (lies_in p.classes type a)
    facts-lie (ty.Class n) a env h = (or-null (term_value a (shown s s) env) (s.set (named (class_at p.classes n)) (term_value a (shown s s) env)) h, tt)
    facts-lie ty.Object a env h = (or-null (term_value a (shown s s) env) (s.set alloc_name (term_value a (shown s s) env)) h, tt)
    facts-lie ty.Null a env h = tt
    facts-lie ty.Int a env h = tt
    facts-lie ty.Boolean a env h = tt
    facts-lie ty.Void a env h = tt

    some-facts : (o : Option Ty) (a : TermTree) (env : List ℕ) → ((type : Ty) → o ≡ Some type → ObjectLies p type s (term_value a (shown s s) env)) → AllHoldAt env (option_map_or (λ type. lies_in p.classes type a) o [])
    some-facts None a env h = tt
    some-facts (Some type) a env h = facts-lie type a env (h type refl)

    -- a static
    static-lies : (x : Member) (type : Ty) → (type ≡ ty.Null → ⊥) → AllHold (static_facts p.classes x) → x.is_static ≡ true → x.type ≡ Some type → ObjectLies p type s (s.object (named x.text))
    static-lies x type i h e o = lies-facts type (t.free_object (named x.text)) [] i (of-list (lies_in p.classes type (t.free_object (named x.text)))
        (subst (λ (z : Option Ty). AllHold (option_map_or (λ u. lies_in p.classes u (t.free_object (named x.text))) z [])) o
        (subst (λ (b : Bool). AllHold (if b then member_lies_in p.classes x (t.free_object (named x.text)) else [])) e h)))
      where
        of-list : (fs : List FormulaTree) → AllHold fs → AllHoldAt [] fs
        of-list [] h = tt
        of-list (f ∷ fs) h = (h.0, of-list fs h.1)

    lies-static : (x : Member) → ((type : Ty) → x.is_static ≡ true → x.type ≡ Some type → ObjectLies p type s (s.object (named x.text))) → AllHold (static_facts p.classes x)
    lies-static x h = by_sort x.is_static refl
      where
        to-list : (fs : List FormulaTree) → AllHoldAt [] fs → AllHold fs
        to-list [] h = tt
        to-list (f ∷ fs) h = (h.0, to-list fs h.1)

        by_sort : (b : Bool) → x.is_static ≡ b → AllHold (if b then member_lies_in p.classes x (t.free_object (named x.text)) else [])
        by_sort true e = to-list (member_lies_in p.classes x (t.free_object (named x.text))) (some-facts x.type (t.free_object (named x.text)) [] (λ type o. h type e o))
        by_sort false e = tt

    -- for each object of a set
    each-in-holds : (class : Text) (fs : List FormulaTree) → AllHold (map (each_in (set_of class)) fs) → (a : ℕ) → a < suc s.last → s.set (named class) a ≡ true → AllHoldAt (a ∷ []) fs
    each-in-holds class [] h a l i = tt
    each-in-holds class (f ∷ fs) h a l i =
        (implied (s.set (named class) a) (truth f (shown s s) (a ∷ [])) i (below-true (suc s.last) (λ x. not (s.set (named class) x) || truth f (shown s s) (x ∷ [])) h.0 a l), each-in-holds class fs h.1 a l i)
      where
        implied : (x y : Bool) → x ≡ true → (not x || y) ≡ true → y ≡ true
        implied true y e h = h
        implied false y e h = absurd (true≢false (sym e))

    holds-each-in : (class : Text) (fs : List FormulaTree) → ((a : ℕ) → a < suc s.last → s.set (named class) a ≡ true → AllHoldAt (a ∷ []) fs) → AllHold (map (each_in (set_of class)) fs)
    holds-each-in class [] h = tt
    holds-each-in class (f ∷ fs) h =
        (true-below (suc s.last) (λ x. not (s.set (named class) x) || truth f (shown s s) (x ∷ [])) (λ a l. implies (s.set (named class) a) (truth f (shown s s) (a ∷ [])) (λ e. (h a l e).0)), holds-each-in class fs (λ a l e. (h a l e).1))
      where
        implies : (x y : Bool) → (x ≡ true → y ≡ true) → (not x || y) ≡ true
        implies true y f = f refl
        implies false y f = refl

    -- a field
    abbrev at-bound : Member → TermTree
    at-bound x = t.read_object (t.free_field (named x.text)) (t.bound 0)

    field-lies : (x : Member) (type : Ty) → (type ≡ ty.Null → ⊥) → AllHold (field_facts p.classes x) → x.is_static ≡ false → x.type ≡ Some type → (a : ℕ) → a < suc s.last → s.set (named x.class) a ≡ true → ObjectLies p type s ((s.field (named x.text)).objects a)
    field-lies x type i h e o a l j = lies-facts type (at-bound x) (a ∷ []) i (each-in-holds x.class (lies_in p.classes type (at-bound x))
        (subst (λ (z : Option Ty). AllHold (map (each_in (set_of x.class)) (option_map_or (λ u. lies_in p.classes u (at-bound x)) z []))) o
        (subst (λ (b : Bool). AllHold (if b then [] else map (each_in (set_of x.class)) (member_lies_in p.classes x (at-bound x)))) e h)) a l j)

    lies-field : (x : Member) → ((type : Ty) → x.is_static ≡ false → x.type ≡ Some type → (a : ℕ) → a < suc s.last → s.set (named x.class) a ≡ true → ObjectLies p type s ((s.field (named x.text)).objects a)) → AllHold (field_facts p.classes x)
    lies-field x h = by_sort x.is_static refl
      where
        by_sort : (b : Bool) → x.is_static ≡ b → AllHold (if b then [] else map (each_in (set_of x.class)) (member_lies_in p.classes x (at-bound x)))
        by_sort true e = tt
        by_sort false e = holds-each-in x.class (member_lies_in p.classes x (at-bound x)) (λ a l j. some-facts x.type (at-bound x) (a ∷ []) (λ type o. h type e o a l j))

    -- defaults
    not-false : (x : Bool) → not x ≡ true → x ≡ false
    not-false true h = absurd (true≢false (sym h))
    not-false false h = refl

    false-not : (x : Bool) → x ≡ false → not x ≡ true
    false-not true h = absurd (true≢false h)
    false-not false h = refl

    no-member : (x : Bool) → agree x false ≡ true → x ≡ false
    no-member true h = absurd (true≢false (sym h))
    no-member false h = refl

    member-none : (x : Bool) → x ≡ false → agree x false ≡ true
    member-none true h = absurd (true≢false h)
    member-none false h = refl

    default-is : (kind : Kind) (f : Text) (a : ℕ) → HoldsAt (a ∷ []) (is_default kind f) → IsDefault s.last kind (s.field (named f)) a
    default-is k.Obj f a h = eqb-true ((s.field (named f)).objects a) 0 h
    default-is k.Int f a h = (Decides-int_eq ((s.field (named f)).numbers a) (pos 0)).0 h
    default-is k.Bool f a h = not-false ((s.field (named f)).truths a) h
    default-is k.Set f a h = λ b l. no-member ((s.field (named f)).sets a b) (below-true (suc s.last) (λ x. agree ((s.field (named f)).sets a x) false) h b l)

    is-default-holds : (kind : Kind) (f : Text) (a : ℕ) → IsDefault s.last kind (s.field (named f)) a → HoldsAt (a ∷ []) (is_default kind f)
    is-default-holds k.Obj f a h = eq-eqb ((s.field (named f)).objects a) 0 h
    is-default-holds k.Int f a h = (Decides-int_eq ((s.field (named f)).numbers a) (pos 0)).1 h
    is-default-holds k.Bool f a h = false-not ((s.field (named f)).truths a) h
    is-default-holds k.Set f a h = true-below (suc s.last) (λ x. agree ((s.field (named f)).sets a x) false) (λ b l. member-none ((s.field (named f)).sets a b) (h b l))

    outside : (x y : Bool) → x ≡ false → (not (not x) || y) ≡ true → y ≡ true
    outside true y e h = absurd (true≢false e)
    outside false y e h = h

    unless-inside : (x y : Bool) → (x ≡ false → y ≡ true) → (not (not x) || y) ≡ true
    unless-inside true y f = refl
    unless-inside false y f = f refl

    default-facts-give : (x : Member) → AllHold (default_facts x) → x.is_static ≡ false → (a : ℕ) → a < suc s.last → s.set (named x.class) a ≡ false → IsDefault s.last x.kind (s.field (named x.text)) a
    default-facts-give x h e a l i = default-is x.kind x.text a
        (outside (s.set (named x.class) a) (truth (is_default x.kind x.text) (shown s s) (a ∷ [])) i
        (below-true (suc s.last) (λ y. not (not (s.set (named x.class) y)) || truth (is_default x.kind x.text) (shown s s) (y ∷ []))
        (subst (λ (b : Bool). AllHold (if b then [] else each_outside (set_of x.class) (is_default x.kind x.text) ∷ [])) e h).0 a l))

    defaults-give-facts : (x : Member) → (x.is_static ≡ false → (a : ℕ) → a < suc s.last → s.set (named x.class) a ≡ false → IsDefault s.last x.kind (s.field (named x.text)) a) → AllHold (default_facts x)
    defaults-give-facts x h = by_sort x.is_static refl
      where
        by_sort : (b : Bool) → x.is_static ≡ b → AllHold (if b then [] else each_outside (set_of x.class) (is_default x.kind x.text) ∷ [])
        by_sort true e = tt
        by_sort false e = (
          true-below (suc s.last) (λ y. not (not (s.set (named x.class) y)) || truth (is_default x.kind x.text) (shown s s) (y ∷ [])) (λ a l.
              unless-inside (s.set (named x.class) a) (truth (is_default x.kind x.text) (shown s s) (a ∷ [])) (λ i. is-default-holds x.kind x.text a (h e a l i))),
          tt,
        )

    -- all of them
    abbrev union-fact : FormulaTree
    union-fact = t.eq_set alloc (union_of (all_classes p.classes))

    abbrev null-fact : FormulaTree
    null-fact = t.negation (t.member t.null alloc)

    abbrev apart-facts-of : List FormulaTree
    apart-facts-of = apart (all_classes p.classes)

    abbrev statics-of : List FormulaTree
    statics-of = flat_map (static_facts p.classes) p.members

    abbrev fields-of : List FormulaTree
    fields-of = flat_map (field_facts p.classes) p.members

    abbrev defaults-of : List FormulaTree
    defaults-of = flat_map default_facts p.members

    pub facts-formed : NamesFit p → Holds (well_formed p [] None) → Formed p s
    facts-formed names h =
        let all : AllHold (well_formed_facts p [] None) = joined-hold (well_formed_facts p [] None) h in
        let to-fields : AllHold (((apart-facts-of ++ (null-fact ∷ [])) ++ ((statics-of ++ []) ++ [])) ++ fields-of) × AllHold defaults-of =
        front-hold (((apart-facts-of ++ (null-fact ∷ [])) ++ ((statics-of ++ []) ++ [])) ++ fields-of) defaults-of all.1 in
        let to-statics : AllHold ((apart-facts-of ++ (null-fact ∷ [])) ++ ((statics-of ++ []) ++ [])) × AllHold fields-of =
        front-hold ((apart-facts-of ++ (null-fact ∷ [])) ++ ((statics-of ++ []) ++ [])) fields-of to-fields.0 in
        let to-null : AllHold (apart-facts-of ++ (null-fact ∷ [])) × AllHold ((statics-of ++ []) ++ []) = front-hold (apart-facts-of ++ (null-fact ∷ [])) ((statics-of ++ []) ++ []) to-statics.0 in
        let rest : AllHold apart-facts-of × AllHold (null-fact ∷ []) = front-hold apart-facts-of (null-fact ∷ []) to-null.0 in
        let statics : AllHold statics-of = (front-hold statics-of [] (front-hold (statics-of ++ []) [] to-null.1).0).0 in
        let fields : AllHold fields-of = to-statics.1 in
        let defaults : AllHold defaults-of = to-fields.1 in
        let union : (a : ℕ) → a < suc s.last → agree (s.set alloc_name a) (set_value (union_of (all_classes p.classes)) (shown s s) [] a) ≡ true = λ a l.
        below-true (suc s.last) (λ x. agree (s.set alloc_name x) (set_value (union_of (all_classes p.classes)) (shown s s) [] x)) all.0 a l in
        let not-null : (x : Member) (type : Ty) → Contains p.members x → x.type ≡ Some type → type ≡ ty.Null → ⊥ = λ x type i e q. names.not_null x i (e ∙ ap (λ (z : Ty). Some z) q) in
        record {
          of_class = λ a l i. any-of (λ c. s.set (named c) a) (all_classes p.classes) (sym (union-value (all_classes p.classes) a) ∙ agree-left (s.set alloc_name a) (set_value (union_of (all_classes p.classes)) (shown s s) [] a) (union a l) i);
          in_alloc = λ c i a l j. agree-right (s.set alloc_name a) (set_value (union_of (all_classes p.classes)) (shown s s) [] a) (union a l) (union-value (all_classes p.classes) a ∙ of-any (λ d. s.set (named d) a) (all_classes p.classes) c i j);
          apart = λ c d i j a l x y. apart-facts (all_classes p.classes) rest.0 c d i j a l x y;
          no_null = not-false (s.set alloc_name 0) (rest.1).0;
          statics = λ x type i m e. static-lies x type (not-null x type i e) (each-hold (static_facts p.classes) p.members statics x i) m e;
          fields = λ x type i m e a l j. field-lies x type (not-null x type i e) (each-hold (field_facts p.classes) p.members fields x i) m e a l j;
          defaults = λ x i m a l j. default-facts-give x (each-hold default_facts p.members defaults x i) m a l j;
        }

    pub formed-facts : NamesFit p → Formed p s → Holds (well_formed p [] None)
    formed-facts names f =
        hold-joined (well_formed_facts p [] None) (
          true-below (suc s.last) (λ x. agree (s.set alloc_name x) (set_value (union_of (all_classes p.classes)) (shown s s) [] x)) (λ a l.
              both-agree (s.set alloc_name a) (set_value (union_of (all_classes p.classes)) (shown s s) [] a)
              (λ i. union-value (all_classes p.classes) a ∙ of-any (λ d. s.set (named d) a) (all_classes p.classes) (f.of_class a l i).0 (f.of_class a l i).1 (f.of_class a l i).2)
              (λ i. in-alloc a l (any-of (λ c. s.set (named c) a) (all_classes p.classes) (sym (union-value (all_classes p.classes) a) ∙ i)))),
          hold-front (((apart-facts-of ++ (null-fact ∷ [])) ++ ((statics-of ++ []) ++ [])) ++ fields-of) defaults-of
              (hold-front ((apart-facts-of ++ (null-fact ∷ [])) ++ ((statics-of ++ []) ++ [])) fields-of
              (hold-front (apart-facts-of ++ (null-fact ∷ [])) ((statics-of ++ []) ++ [])
              (hold-front apart-facts-of (null-fact ∷ []) (facts-apart (all_classes p.classes) names.classes (λ c d i j a l x y. f.apart c d i j a l x y)) (false-not (s.set alloc_name 0) f.no_null, tt))
              (hold-front (statics-of ++ []) [] (hold-front statics-of [] (hold-each (static_facts p.classes) p.members (λ x i. lies-static x (λ type m e. f.statics x type i m e))) tt) tt))
              (hold-each (field_facts p.classes) p.members (λ x i. lies-field x (λ type m e a l j. f.fields x type i m e a l j))))
              (hold-each default_facts p.members (λ x i. defaults-give-facts x (λ m a l j. f.defaults x i m a l j))),
        )
      where
        in-alloc : (a : ℕ) → a < suc s.last → (c : Text) × Contains (all_classes p.classes) c × (s.set (named c) a ≡ true) → s.set alloc_name a ≡ true
        in-alloc a l c = f.in_alloc c.0 c.1 a l c.2
