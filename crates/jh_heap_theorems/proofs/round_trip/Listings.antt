-- The sets and classes that lines give are ascending.
use Rattle.std.proofs.Common.{◌≡◌, refl, arith, ℕ, ◌<◌, ◌==◌, nat_lt, ℤ, Bool, true, false, if◌then◌else◌, List, [], ◌∷◌, drop, get_or, Option, Some, None, option_map, lt-ltb, ltb-true}
use Rattle.std.specs.Prelude.{codes}
use Rattle.std.specs.List.{list_all}
use Rattle.std.specs.Str.{is_utf8}
use Rattle.std.proofs.lemmas.Bool.{and_parts, and_from}
use Rattle.jh_semantics.specs.Heaps.{is_ascending}
use Rattle.jh_heap.specs.lines.Bytes.{Cut, cut, same_bytes, natural_of, integer_of, is_beyond, ascending_on, ascending_from, objects_of, split}
use Rattle.jh_heap.specs.lines.Lines.{Value, Line, is_plain, is_dotted, inside, set_of, scalar_of, value_of, universe_of, class_from, static_from, value_at, field_from, argument_from, line_from, line_of}
use Rattle.jh_heap.specs.lines.Lines as l
use Rattle.jh_heap_theorems.proofs.round_trip.Numbers.{Follows}

-- something holds of what there is
abbrev pub Of : {X : Type 0} → (X → Type 0) → Option X → Type 0
Of P None = Unit {0}
Of P (Some x) = P x

of-if : {X : Type 0} (P : X → Type 0) (t : Bool) (a b : Option X) → Of P a → Of P b → Of P (if t then a else b)
of-if P true a b p q = p
of-if P false a b p q = q

of-map : {X Y : Type 0} (P : Y → Type 0) (f : X → Y) (o : Option X) → Of (λ x. P (f x)) o → Of P (option_map f o)
of-map P f None h = tt
of-map P f (Some x) h = h

of-weaker : {X : Type 0} (P Q : X → Type 0) (o : Option X) → ((x : X) → P x → Q x) → Of P o → Of Q o
of-weaker P Q None f h = tt
of-weaker P Q (Some x) f h = f x h

-- objects
on-follows : (least : Option ℕ) (found : Option ℕ) (rest : Option ℕ → Option (List ℕ)) → ((a : ℕ) → Of (Follows (Some a)) (rest (Some a))) → Of (Follows least) (ascending_on least found rest)
on-follows least None rest h = tt
on-follows least (Some a) rest h = by (is_beyond least a) refl
  where
    by : (t : Bool) → is_beyond least a ≡ t → Of (Follows least) (if t then option_map (λ xs. a ∷ xs) (rest (Some a)) else None)
    by true e = of-map (Follows least) (λ xs. a ∷ xs) (rest (Some a)) (of-weaker (Follows (Some a)) (λ xs. Follows least (a ∷ xs)) (rest (Some a)) (λ xs f. (e, f)) (h a))
    by false e = tt

from-follows : (least : Option ℕ) (ws : List (List ℕ)) → Of (Follows least) (ascending_from least ws)
from-follows least [] = tt
from-follows least (w ∷ ws) = on-follows least (natural_of w) (λ last. ascending_from last ws) (λ a. from-follows (Some a) ws)

less-all : (a b : ℕ) (xs : List ℕ) → a < b → list_all (λ c. nat_lt b c) xs ≡ true → list_all (λ c. nat_lt a c) xs ≡ true
less-all a b [] lt h = refl
less-all a b (c ∷ xs) lt h =
    let parts = and_parts (nat_lt b c) (list_all (λ d. nat_lt b d) xs) h in
    let less = ltb-true b c parts.0 in
    and_from (nat_lt a c) (list_all (λ d. nat_lt a d) xs) (lt-ltb a c (omega (arith, lt, less))) (less-all a b xs lt parts.1)

ascends-some : (a : ℕ) (xs : List ℕ) → Follows (Some a) xs → (list_all (λ b. nat_lt a b) xs ≡ true) × (is_ascending xs ≡ true)
ascends-some a [] h = (refl, refl)
ascends-some a (b ∷ xs) h =
    let rest = ascends-some b xs h.1 in
    (and_from (nat_lt a b) (list_all (λ c. nat_lt a c) xs) h.0 (less-all a b xs (ltb-true a b h.0) rest.0), and_from (list_all (λ c. nat_lt b c) xs) (is_ascending xs) rest.0 rest.1)

ascends : (xs : List ℕ) → Follows None xs → is_ascending xs ≡ true
ascends [] h = refl
ascends (a ∷ xs) h = let rest = ascends-some a xs h.1 in and_from (list_all (λ b. nat_lt a b) xs) (is_ascending xs) rest.0 rest.1

objects-ascend : (w : List ℕ) → Of (λ xs. is_ascending xs ≡ true) (objects_of w)
unfolding objects_of
objects-ascend w = of-weaker (Follows None) (λ xs. is_ascending xs ≡ true) (ascending_from None (split 32 w)) ascends (from-follows None (split 32 w))

-- values
abbrev pub IsListed : Value → Type 0
IsListed (l.objects xs) = is_ascending xs ≡ true
IsListed v = Unit {0}

set-listed : (o : Option (List ℕ)) → Of IsListed (set_of o)
unfolding set_of
set-listed None = tt
set-listed (Some []) = refl
set-listed (Some (c ∷ cs)) = of-map IsListed l.objects (objects_of (c ∷ cs)) (objects-ascend (c ∷ cs))

number-listed : (o : Option ℤ) → Of IsListed (option_map l.number o)
number-listed None = tt
number-listed (Some z) = tt

scalar-listed : (w : List ℕ) → Of IsListed (scalar_of w)
unfolding scalar_of
scalar-listed w =
    of-if IsListed (same_bytes w (codes "true")) (Some (l.truth_value true)) (if same_bytes w (codes "false") then Some (l.truth_value false) else option_map l.number (integer_of w)) tt
    (of-if IsListed (same_bytes w (codes "false")) (Some (l.truth_value false)) (option_map l.number (integer_of w)) tt (number-listed (integer_of w)))

value-listed : (w : List ℕ) → Of IsListed (value_of w)
unfolding value_of
value-listed w = of-if IsListed (get_or w 0 0 == 123) (set_of (inside (drop 1 w))) (scalar_of w) (set-listed (inside (drop 1 w))) (scalar-listed w)

-- lines
abbrev pub IsLine : Line → Type 0
IsLine (l.class c xs) = is_ascending xs ≡ true
IsLine (l.static_value x v) = IsListed v
IsLine (l.field_value x a v) = IsListed v
IsLine (l.argument x v) = IsListed v
IsLine line = Unit {0}

universe-by : (w : List ℕ) (o : Option ℕ) → natural_of w ≡ o → Of IsLine (universe_of w)
unfolding universe_of
universe-by w None e = rw e tt
universe-by w (Some n) e = rw e (of-if IsLine (nat_lt n 256) (Some (l.universe n)) None tt tt)

class-lined : (o : Option Cut) → Of IsLine (class_from o)
unfolding class_from
class-lined None = tt
class-lined (Some x) = of-if IsLine (is_plain x.before) (option_map (l.class x.before) (objects_of x.behind)) None (of-map IsLine (l.class x.before) (objects_of x.behind) (objects-ascend x.behind)) tt

static-lined : (o : Option Cut) → Of IsLine (static_from o)
unfolding static_from
static-lined None = tt
static-lined (Some x) = of-if IsLine (is_dotted x.before) (option_map (l.static_value x.before) (value_of x.behind)) None (of-map IsLine (l.static_value x.before) (value_of x.behind) (value-listed x.behind)) tt

argument-lined : (o : Option Cut) → Of IsLine (argument_from o)
unfolding argument_from
argument-lined None = tt
argument-lined (Some x) = of-if IsLine (is_plain x.before) (option_map (l.argument x.before) (value_of x.behind)) None (of-map IsLine (l.argument x.before) (value_of x.behind) (value-listed x.behind)) tt

at-by : (f : List ℕ) (x : Cut) (o : Option ℕ) → natural_of x.before ≡ o → Of IsLine (value_at f (Some x))
unfolding value_at
at-by f x None e = rw e tt
at-by f x (Some a) e = rw e (of-map IsLine (l.field_value f a) (value_of x.behind) (value-listed x.behind))

at-lined : (f : List ℕ) (o : Option Cut) → Of IsLine (value_at f o)
unfolding value_at
at-lined f None = tt
at-lined f (Some x) = at-by f x (natural_of x.before) refl

field-lined : (o : Option Cut) → Of IsLine (field_from o)
unfolding field_from
field-lined None = tt
field-lined (Some x) = of-if IsLine (is_dotted x.before) (value_at x.before (cut 32 x.behind)) None (at-lined x.before (cut 32 x.behind)) tt

this-lined : (o : Option ℕ) → Of IsLine (option_map l.this o)
this-lined None = tt
this-lined (Some a) = tt

from-lined : (o : Option Cut) → Of IsLine (line_from o)
unfolding line_from
from-lined None = tt
from-lined (Some x) =
    of-if IsLine (same_bytes x.before (codes "universe")) (universe_of x.behind) _ (universe-by x.behind (natural_of x.behind) refl)
    (of-if IsLine (same_bytes x.before (codes "class")) (class_from (cut 32 x.behind)) _ (class-lined (cut 32 x.behind))
    (of-if IsLine (same_bytes x.before (codes "static")) (static_from (cut 32 x.behind)) _ (static-lined (cut 32 x.behind))
    (of-if IsLine (same_bytes x.before (codes "field")) (field_from (cut 32 x.behind)) _ (field-lined (cut 32 x.behind))
    (of-if IsLine (same_bytes x.before (codes "this")) (option_map l.this (natural_of x.behind)) _ (this-lined (natural_of x.behind))
    (of-if IsLine (same_bytes x.before (codes "arg")) (argument_from (cut 32 x.behind)) None (argument-lined (cut 32 x.behind)) tt)))))

pub lined : (w : List ℕ) → Of IsLine (line_of w)
unfolding line_of
lined w = of-if IsLine (is_utf8 w) (line_from (cut 32 w)) None (from-lined (cut 32 w)) tt
