-- Statements change only what they may write.
use Rattle.std.proofs.Common.{◌≡◌, refl, sym, ap, ◌∙◌, subst, ℕ, zero, suc, ◌<◌, ◌==◌, Bool, true, false, ◌&&◌, ◌||◌, if◌then◌else◌, List, [], ◌∷◌, Option, codes, arith, ◌⊎◌, inl, inr}
use Rattle.std.specs.List.{Contains}
use Rattle.std.proofs.lemmas.Bool.{true≢false}
use Rattle.std.proofs.lemmas.List.Elements.{Contains-append_cases}
use Rattle.std.specs.Cmp.Lexicographic.{bytes_decides}
use Rattle.jh_name.specs.declared.naming.Name.{Name}
use Rattle.jh_name.specs.declared.place.Sort.{Sort}
use Rattle.jh_name.specs.declared.place.Sort.TheVariants as sort
use Rattle.jh_form.specs.Passing.{name_equal}
use Rattle.jh_form.specs.Sorts.{same_sort}
use Rattle.jh_form.proofs.Names.{name_equal-same, name_equal-true}
use Rattle.jh_form.specs.Meaning.{Interp, Datum, an_object, a_number, a_truth, a_set, a_field, updated, datum, term_value}
use Rattle.jh_form.specs.Meaning as m
use Rattle.jh_form.specs.Assigned.{assigned}
use Rattle.jh_rules.specs.Words.{same_text}
use Rattle.jh_semantics.specs.Code.{Text, ObjectCode, NumberCode, TruthCode, AnyCode, Local, Target, Claim, Stmt, Stmts}
use Rattle.jh_semantics.specs.Code as c
use Rattle.jh_semantics.specs.State.{State, named, alloc_name, held, stored, stored_at}
use Rattle.jh_semantics.specs.Values.{Value, value, null_at, then_value, dereferenced, value_of, object_of, number_of, truth_of}
use Rattle.jh_semantics.specs.Objects.{joining, created, put}
use Rattle.jh_semantics.specs.Progress.{Configuration, goes_on_in}
use Rattle.jh_semantics.specs.Typed.{a_field}
use Rattle.jh_semantics.proofs.Keeping.{Ends, IsOf, keeps-any}
use Rattle.jh_guard.specs.Items.{Sorted}
use Rattle.jh_logic.proofs.logic.Histories.{is_named, Outside, outside-trans}

pub text-same : (x : Text) → same_text x x ≡ true
text-same x = (bytes_decides x x).1 refl

sort-same : (a : Sort) → same_sort a a ≡ true
sort-same sort.Obj = refl
sort-same sort.Int = refl
sort-same sort.Bool = refl
sort-same sort.Set = refl
sort-same sort.Field = refl

-- the one thing of a list
pub single : {X : Type 0} (y x : X) → Contains (y ∷ []) x → x ≡ y
single y x (zero, lt, e) = sym e
single y x (suc i, lt, e) = absurd (beyond lt)
  where
    beyond : suc i < 1 → ⊥
    beyond l = omega (l, arith)

-- a name of a list is named by it
both-true : (a b : Bool) → a ≡ true → b ≡ true → (a && b) ≡ true
both-true true b e f = f
both-true false b e f = absurd (true≢false (sym e))

pub or-left : (a b : Bool) → a ≡ true → (a || b) ≡ true
or-left true b e = refl
or-left false b e = absurd (true≢false (sym e))

pub or-right : (a b : Bool) → b ≡ true → (a || b) ≡ true
or-right true b e = refl
or-right false b e = e

pub named-in : (xs : List Sorted) (x : Sorted) → Contains xs x → is_named (named x.text) x.sort xs ≡ true
named-in [] x h = absurd (no-place h.0 h.1)
  where
    no-place : (i : ℕ) → i < 0 → ⊥
    no-place i lt = omega arith
named-in (y ∷ xs) x h = from (Contains-append_cases (y ∷ []) xs x h) (λ i. named-in xs x i)
  where
    from : Contains (y ∷ []) x ⊎ Contains xs x → (Contains xs x → is_named (named x.text) x.sort xs ≡ true) → is_named (named x.text) x.sort (y ∷ xs) ≡ true
    from (inl i) rest = one (single y x i)
      where
        one : x ≡ y → is_named (named x.text) x.sort (y ∷ xs) ≡ true
        one e = or-left (name_equal (named x.text) (named y.text) && same_sort x.sort y.sort) (is_named (named x.text) x.sort xs)
            (both-true (name_equal (named x.text) (named y.text)) (same_sort x.sort y.sort) (name_equal-same (named x.text) (named y.text) (ap (λ (z : Sorted). named z.text) e))
            (subst (λ (z : Sorted). same_sort x.sort z.sort ≡ true) e (sort-same x.sort)))
    from (inr i) rest = or-right (name_equal (named x.text) (named y.text) && same_sort x.sort y.sort) (is_named (named x.text) x.sort xs) (rest i)

-- the sort of a value, but that of a field
abbrev pub HasSort : Sort → Datum → Type 0
HasSort sort.Obj (an_object v) = Unit {0}
HasSort sort.Int (a_number v) = Unit {0}
HasSort sort.Bool (a_truth v) = Unit {0}
HasSort sort.Set (a_set v) = Unit {0}
HasSort _ _ = ⊥

abbrev pub code_sort : AnyCode → Sort
code_sort (c.an_object a) = sort.Obj
code_sort (c.a_number a) = sort.Int
code_sort (c.a_truth a) = sort.Bool

pub value-sort : (e : AnyCode) (s : State) → IsOf (HasSort (code_sort e)) (value_of e s)
value-sort (c.an_object a) s = from (object_of a s)
  where
    from : (v : Value ℕ) → IsOf (HasSort sort.Obj) (then_value v (λ x. value (m.an_object x)))
    from (value x) = tt
    from (null_at q) = tt
value-sort (c.a_number a) s = from (number_of a s)
  where
    from : (v : Value _) → IsOf (HasSort sort.Int) (then_value v (λ x. value (m.a_number x)))
    from (value x) = tt
    from (null_at q) = tt
value-sort (c.a_truth a) s = from (truth_of a s)
  where
    from : (v : Value Bool) → IsOf (HasSort sort.Bool) (then_value v (λ x. value (m.a_truth x)))
    from (value x) = tt
    from (null_at q) = tt

module _ (xs : List Sorted) where
  -- another name than the one that is written
  other : {X : Type 0} (a : Sort) (y : Text) (z : Name) (b : Bool) (v w : X) → is_named (named y) a xs ≡ true → name_equal z (named y) ≡ b → is_named z a xs ≡ false → w ≡ (if b then v else w)
  other a y z true v w in-xs e out = absurd (true≢false (sym in-xs ∙ (λ i. is_named (sym (name_equal-true z (named y) e) i) a xs) ∙ out))
  other a y z false v w in-xs e out = refl

  assigned-outside : (s : State) (a : Sort) (y : Text) (d : Datum) → HasSort a d → is_named (named y) a xs ≡ true → Outside xs s (assigned s (named y) d)
  assigned-outside s sort.Obj y (an_object v) h i = record { last = refl; object = λ z e out. other sort.Obj y z (name_equal z (named y)) v (s.object z) i refl out; number = λ z e out. refl; truth = λ z e out. refl; set = λ z e out. refl; field = λ z e out. refl }
  assigned-outside s sort.Int y (a_number v) h i = record { last = refl; object = λ z e out. refl; number = λ z e out. other sort.Int y z (name_equal z (named y)) v (s.number z) i refl out; truth = λ z e out. refl; set = λ z e out. refl; field = λ z e out. refl }
  assigned-outside s sort.Bool y (a_truth v) h i = record { last = refl; object = λ z e out. refl; number = λ z e out. refl; truth = λ z e out. other sort.Bool y z (name_equal z (named y)) v (s.truth z) i refl out; set = λ z e out. refl; field = λ z e out. refl }
  assigned-outside s sort.Set y (a_set v) h i = record { last = refl; object = λ z e out. refl; number = λ z e out. refl; truth = λ z e out. refl; set = λ z e out. other sort.Set y z (name_equal z (named y)) v (s.set z) i refl out; field = λ z e out. refl }
  assigned-outside s _ y _ h i = absurd h

  field-outside : (s : State) (y : Text) (f : m.Fields) → is_named (named y) sort.Field xs ≡ true → Outside xs s (assigned s (named y) (a_field f))
  field-outside s y f i = record { last = refl; object = λ z e out. refl; number = λ z e out. refl; truth = λ z e out. refl; set = λ z e out. refl; field = λ z e out. other sort.Field y z (name_equal z (named y)) f (s.field z) i refl out }

  pub stored-outside : (s : State) (a : Sort) (y : Text) (d : Datum) → HasSort a d → is_named (named y) a xs ≡ true → Outside xs s (stored s y d)
  stored-outside s sort.Obj y (an_object v) h i = assigned-outside s sort.Obj y (an_object v) h i
  stored-outside s sort.Int y (a_number v) h i = assigned-outside s sort.Int y (a_number v) h i
  stored-outside s sort.Bool y (a_truth v) h i = assigned-outside s sort.Bool y (a_truth v) h i
  stored-outside s sort.Set y (a_set v) h i = assigned-outside s sort.Set y (held s (a_set v)) tt i
  stored-outside s _ y _ h i = absurd h

  pub stored-at-outside : (s : State) (f : Text) (a : ℕ) (d : Datum) → is_named (named f) sort.Field xs ≡ true → Outside xs s (stored_at s f a d)
  stored-at-outside s f a d i = field-outside s f (updated (s.field (named f)) a (held s d)) i

  pub created-outside : (s : State) (class : Text) (a : ℕ) → is_named alloc_name sort.Set xs ≡ true → is_named (named class) sort.Set xs ≡ true → Outside xs s (created s class a)
  created-outside s class a i j =
      outside-trans xs s (joining s alloc_name a) (created s class a)
      (assigned-outside s sort.Set (codes "alloc") (a_set (λ x. s.set alloc_name x || x == a)) tt i)
      (assigned-outside (joining s alloc_name a) sort.Set class (a_set (λ x. (joining s alloc_name a).set (named class) x || x == a)) tt j)

  -- a target is written
  abbrev pub TargetNamed : Target → Sort → Type 0
  TargetNamed c.nowhere a = Unit {0}
  TargetNamed (c.to_new x) a = is_named (named x.text) a xs ≡ true
  TargetNamed (c.to_name y) a = is_named (named y) a xs ≡ true
  TargetNamed (c.to_field f r p) a = is_named (named f) sort.Field xs ≡ true

  -- what is kept of the first state
  module _ (first : State) where
    abbrev pub Kept : Configuration → Type 0
    Kept r = Outside xs first r.now

    abbrev pub KeptWith : Configuration → Option Datum → Type 0
    KeptWith r v = Outside xs first r.now

    pub paid-kept : (r : Configuration) (j : ℕ) → suc j ≡ r.steps → Kept r → Kept (record r { steps = j })
    paid-kept r j e h = h

    pub put-keeps : (target : Target) (a : ℕ) (d : Datum) (kind : Sort) (r : Configuration) → Kept r → HasSort kind d → TargetNamed target kind → Ends Kept KeptWith (put target a d r)
    put-keeps c.nowhere a d kind r h i j = h
    put-keeps (c.to_new x) a d kind r h i j = outside-trans xs first r.now (stored r.now x.text d) h (stored-outside r.now kind x.text d i j)
    put-keeps (c.to_name y) a d kind r h i j = outside-trans xs first r.now (stored r.now y d) h (stored-outside r.now kind y d i j)
    put-keeps (c.to_field f e p) a d kind r h i j =
        keeps-any Kept KeptWith paid-kept (dereferenced e p a) (λ b. goes_on_in r (stored_at r.now f b d)) (λ b.
        outside-trans xs first r.now (stored_at r.now f b d) h (stored-at-outside r.now f b d j))
