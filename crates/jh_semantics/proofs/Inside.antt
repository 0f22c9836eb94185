-- States in which nothing but the objects 0 to n is, and what makes others of them.
use Rattle.std.proofs.Common.{◌≡◌, refl, subst, ℕ, zero, suc, ◌<◌, ◌==◌, nat_lt, not, ◌&&◌, ◌||◌, arith, Bool, true, false, if◌then◌else◌, List, [], ◌∷◌, slice_index}
use Rattle.std.proofs.lemmas.Bool.Decides.{nat_tests}
use Rattle.jh_name.specs.declared.naming.Name.{Name}
use Rattle.jh_name.specs.declared.place.Place.{Place}
use Rattle.jh_form.specs.Tree.{ValueTree, TermTree}
use Rattle.jh_form.specs.Tree as t
use Rattle.jh_form.specs.Passing.{name_equal}
use Rattle.jh_form.specs.Meaning.{InUniverse, Fields, Datum, an_object, a_number, a_truth, a_set, a_field, updated, datum, term_value}
use Rattle.jh_form.specs.Assigned.{assigned}
use Rattle.jh_form.proofs.Universes.{term_inside}
use Rattle.jh_vars.specs.Resolved.{own}
use Rattle.jh_semantics.specs.Code.{Text, ObjectCode, AnyCode, Local}
use Rattle.jh_semantics.specs.Code as c
use Rattle.jh_semantics.specs.Program.{Method}
use Rattle.jh_semantics.specs.State.{State, IsWhole, named, this_name, alloc_name, held, stored, stored_at, by_turn, shown}
use Rattle.jh_semantics.specs.Locals.{has_dot, with_locals_of, without_locals, with_args, entered}
use Rattle.jh_semantics.specs.Values.{Value, value, null_at, then_value, dereferenced, object_of, number_of, truth_of, value_of}
use Rattle.jh_semantics.specs.Objects.{is_free, joining, created}
use Rattle.jh_semantics.specs.Laws.{IsInside, AreInside}
use Rattle.jh_semantics.proofs.Keeping.{IsOf, any-value}

-- a set, and a field
abbrev pub SetLies : ℕ → (ℕ → Bool) → Type 0
SetLies n v = (a : ℕ) → v a ≡ true → a < suc n

pub record FieldLies (n : ℕ) (f : Fields) : Type 0 where
  pub objects : (a : ℕ) → a < suc n → f.objects a < suc n
  pub sets : (a : ℕ) → a < suc n → SetLies n (f.sets a)

abbrev pub DatumLies : ℕ → Datum → Type 0
DatumLies n (an_object a) = a < suc n
DatumLies n (a_number z) = Unit {0}
DatumLies n (a_truth b) = Unit {0}
DatumLies n (a_set v) = SetLies n v
DatumLies n (a_field f) = FieldLies n f

-- a whole state of the objects 0 to n
pub record Lies (n : ℕ) (s : State) : Type 0 where
  pub last : s.last ≡ n
  pub object : (x : Name) → s.object x < suc n
  pub set : (x : Name) → SetLies n (s.set x)
  pub field : (x : Name) → FieldLies n (s.field x)

pub whole-lies : (s : State) → IsWhole s → Lies s.last s
whole-lies s w = record { last = refl; object = λ x. w.objects.object x; set = λ x a h. w.sets x a h; field = λ x. record { objects = λ a h. w.objects.field x a h; sets = λ a h b g. w.members x a b h g } }

pub lies-whole : (n : ℕ) (s : State) → Lies n s → IsWhole s
lies-whole n s l = subst (λ (k : ℕ). Lies k s → IsWhole s) l.last (λ k. record {
  objects = record { object = λ x. k.object x; field = λ x a h. (k.field x).objects a h };
  sets = λ x a h. k.set x a h;
  members = λ x a b h g. (k.field x).sets a h b g;
}) l

-- one of two
object-of : (n a b : ℕ) (test : Bool) → a < suc n → b < suc n → (if test then a else b) < suc n
object-of n a b true h k = h
object-of n a b false h k = k

set-of : (n : ℕ) (v w : ℕ → Bool) (test : Bool) → SetLies n v → SetLies n w → SetLies n (if test then v else w)
set-of n v w true h k = h
set-of n v w false h k = k

field-of : (n : ℕ) (f g : Fields) (test : Bool) → FieldLies n f → FieldLies n g → FieldLies n (if test then f else g)
field-of n f g true h k = h
field-of n f g false h k = k

pub assigned-lies : (n : ℕ) (s : State) (y : Name) (d : Datum) → Lies n s → DatumLies n d → Lies n (assigned s y d)
assigned-lies n s y (an_object v) l h = record { last = l.last; object = λ z. object-of n v (s.object z) (name_equal z y) h (l.object z); set = λ z. l.set z; field = λ z. l.field z }
assigned-lies n s y (a_number v) l h = record { last = l.last; object = λ z. l.object z; set = λ z. l.set z; field = λ z. l.field z }
assigned-lies n s y (a_truth v) l h = record { last = l.last; object = λ z. l.object z; set = λ z. l.set z; field = λ z. l.field z }
assigned-lies n s y (a_set v) l h = record { last = l.last; object = λ z. l.object z; set = λ z. set-of n v (s.set z) (name_equal z y) h (l.set z); field = λ z. l.field z }
assigned-lies n s y (a_field v) l h = record { last = l.last; object = λ z. l.object z; set = λ z. l.set z; field = λ z. field-of n v (s.field z) (name_equal z y) h (l.field z) }

-- the members that a state holds of a set
held-set : (n : ℕ) (s : State) (v : ℕ → Bool) → Lies n s → SetLies n (λ a. nat_lt a (suc s.last) && v a)
held-set n s v l a h = subst (λ (k : ℕ). a < suc k) l.last (before (v a) h)
  where
    before : (z : Bool) → (nat_lt a (suc s.last) && z) ≡ true → a < suc s.last
    before z e = grind (arith, nat_tests)

pub stored-lies : (n : ℕ) (s : State) (x : Text) (d : Datum) → Lies n s → IsInside n d → Lies n (stored s x d)
stored-lies n s x (an_object v) l h = assigned-lies n s (named x) (an_object v) l h
stored-lies n s x (a_number v) l h = assigned-lies n s (named x) (a_number v) l tt
stored-lies n s x (a_truth v) l h = assigned-lies n s (named x) (a_truth v) l tt
stored-lies n s x (a_set v) l h = assigned-lies n s (named x) (held s (a_set v)) l (held-set n s v l)
stored-lies n s x (a_field v) l h = l

updated-lies : (n : ℕ) (f : Fields) (a : ℕ) (d : Datum) → FieldLies n f → DatumLies n d → FieldLies n (updated f a d)
updated-lies n f a (an_object v) l h = record { objects = λ b k. object-of n v (f.objects b) (b == a) h (l.objects b k); sets = λ b k. l.sets b k }
updated-lies n f a (a_number v) l h = record { objects = λ b k. l.objects b k; sets = λ b k. l.sets b k }
updated-lies n f a (a_truth v) l h = record { objects = λ b k. l.objects b k; sets = λ b k. l.sets b k }
updated-lies n f a (a_set v) l h = record { objects = λ b k. l.objects b k; sets = λ b k. set-of n v (f.sets b) (b == a) h (l.sets b k) }
updated-lies n f a (a_field v) l h = l

pub stored-at-lies : (n : ℕ) (s : State) (f : Text) (a : ℕ) (d : Datum) → Lies n s → IsInside n d → Lies n (stored_at s f a d)
stored-at-lies n s f a (an_object v) l h = assigned-lies n s (named f) (a_field (updated (s.field (named f)) a (an_object v))) l (updated-lies n (s.field (named f)) a (an_object v) (l.field (named f)) h)
stored-at-lies n s f a (a_number v) l h = assigned-lies n s (named f) (a_field (updated (s.field (named f)) a (a_number v))) l (updated-lies n (s.field (named f)) a (a_number v) (l.field (named f)) tt)
stored-at-lies n s f a (a_truth v) l h = assigned-lies n s (named f) (a_field (updated (s.field (named f)) a (a_truth v))) l (updated-lies n (s.field (named f)) a (a_truth v) (l.field (named f)) tt)
stored-at-lies n s f a (a_set v) l h = assigned-lies n s (named f) (a_field (updated (s.field (named f)) a (held s (a_set v)))) l (updated-lies n (s.field (named f)) a (held s (a_set v)) (l.field (named f)) (held-set n s v l))
stored-at-lies n s f a (a_field v) l h = assigned-lies n s (named f) (a_field (s.field (named f))) l (l.field (named f))

-- new objects
pub free-lies : (n : ℕ) (s : State) (a : ℕ) → Lies n s → is_free s a ≡ true → a < suc n
free-lies n s a l free = subst (λ (k : ℕ). a < suc k) l.last (middle (not (a == 0)) (not (s.set alloc_name a)) free)
  where
    middle : (x z : Bool) → (x && nat_lt a (suc s.last) && z) ≡ true → a < suc s.last
    middle x z e = grind (arith, nat_tests)

with-one : (n a x : ℕ) (b : Bool) → (b ≡ true → x < suc n) → a < suc n → (b || (x == a)) ≡ true → x < suc n
with-one n a x true h k e = h refl
with-one n a x false h k e = grind (arith, nat_tests)

joining-lies : (n : ℕ) (s : State) (set : Name) (a : ℕ) → Lies n s → a < suc n → Lies n (joining s set a)
joining-lies n s set a l h = assigned-lies n s set (a_set (λ x. s.set set x || (x == a))) l (λ x e. with-one n a x (s.set set x) (λ g. l.set set x g) h e)

pub created-lies : (n : ℕ) (s : State) (class : Text) (a : ℕ) → Lies n s → a < suc n → Lies n (created s class a)
created-lies n s class a l h = joining-lies n (joining s alloc_name a) (named class) a (joining-lies n s alloc_name a l h) h

-- locals
pub back-lies : (n : ℕ) (s u : State) → Lies n s → Lies n u → Lies n (with_locals_of s u)
back-lies n s u a b = record { last = a.last; object = λ x. object-of n (s.object x) (u.object x) (has_dot x.text) (a.object x) (b.object x); set = λ x. a.set x; field = λ x. a.field x }

without-lies : (n : ℕ) (s : State) → Lies n s → Lies n (without_locals s)
without-lies n s a = record { last = a.last; object = λ x. object-of n (s.object x) 0 (has_dot x.text) (a.object x) (omega arith); set = λ x. a.set x; field = λ x. a.field x }

args-lie : (n : ℕ) (xs : List Local) (ds : List Datum) (s : State) → Lies n s → AreInside n ds → Lies n (with_args xs ds s)
args-lie n (x ∷ xs) (d ∷ ds) s l h = stored-lies n (with_args xs ds s) x.text d (args-lie n xs ds s l h.1) h.0
args-lie n [] ds s l h = l
args-lie n (x ∷ xs) [] s l h = l

pub entered-lies : (n : ℕ) (m : Method) (this : ℕ) (args : List Datum) (s : State) → Lies n s → this < suc n → AreInside n args → Lies n (entered m this args s)
entered-lies n m this args s l h k = args-lie n m.params args (assigned (without_locals s) this_name (an_object this)) (assigned-lies n (without_locals s) this_name (an_object this) (without-lies n s l) h) k

-- what formulas say in a state
turn-object : (n k a b : ℕ) → a < suc n → b < suc n → by_turn k a b < suc n
turn-object n zero a b h i = h
turn-object n (suc k) a b h i = i

turn-field : (n k : ℕ) (f g : Fields) → FieldLies n f → FieldLies n g → FieldLies n (by_turn k f g)
turn-field n zero f g h i = h
turn-field n (suc k) f g h i = i

shown-inside : (n : ℕ) (now old : State) → Lies n now → Lies n old → InUniverse (shown now old)
shown-inside n now old a b = subst (λ (k : ℕ). Lies k now → Lies k old → InUniverse (shown now old)) a.last (λ l o. record {
  object = λ x. turn-object now.last x.turn (now.object x) (old.object (own x.text 0)) (l.object x) (o.object (own x.text 0));
  field = λ x y h. (turn-field now.last x.turn (now.field x) (old.field (own x.text 0)) (l.field x) (o.field (own x.text 0))).objects y h;
}) a b

no-objects : (n k : ℕ) → slice_index [] k < suc n
no-objects n k = omega arith

pub term-lies : (n : ℕ) (now old : State) → Lies n now → Lies n old → (a : TermTree) → term_value a (shown now old) [] < suc n
term-lies n now old l o a = subst (λ (k : ℕ). term_value a (shown now old) [] < suc k) l.last (term_inside (shown now old) (shown-inside n now old l o) [] (no-objects now.last) a)

pub datum-lies : (n : ℕ) (now old : State) → Lies n now → Lies n old → (v : ValueTree) → IsInside n (datum v (shown now old) [])
datum-lies n now old l o (t.of_object a) = term-lies n now old l o a
datum-lies n now old l o (t.of_number a) = tt
datum-lies n now old l o (t.of_truth a) = tt
datum-lies n now old l o (t.of_set a) = tt
datum-lies n now old l o (t.of_field a) = tt

-- values of expressions
abbrev pub Below : ℕ → ℕ → Type 0
Below n a = a < suc n

pub dereferenced-lies : (n : ℕ) (r : ObjectCode) (p : Place) (a : ℕ) → a < suc n → IsOf (Below n) (dereferenced r p a)
dereferenced-lies n c.this p a h = h
dereferenced-lies n c.null p zero h = tt
dereferenced-lies n c.null p (suc a) h = h
dereferenced-lies n (c.object x) p zero h = tt
dereferenced-lies n (c.object x) p (suc a) h = h
dereferenced-lies n (c.read_object f r q) p zero h = tt
dereferenced-lies n (c.read_object f r q) p (suc a) h = h

then-of : {X Y : Type 0} (P : X → Type 0) (Q : Y → Type 0) (v : Value X) (next : X → Value Y) → IsOf P v → ((x : X) → P x → IsOf Q (next x)) → IsOf Q (then_value v next)
then-of P Q (value x) next h f = f x h
then-of P Q (null_at p) next h f = tt

pub object-lies : (n : ℕ) (e : ObjectCode) (s : State) → Lies n s → IsOf (Below n) (object_of e s)
object-lies n c.null s l = omega arith
object-lies n c.this s l = l.object this_name
object-lies n (c.object x) s l = l.object (named x)
object-lies n (c.read_object f r p) s l =
    then-of (Below n) (Below n) (object_of r s) (λ a. then_value (dereferenced r p a) (λ b. value ((s.field (named f)).objects b))) (object-lies n r s l) (λ a h.
    then-of (Below n) (Below n) (dereferenced r p a) (λ b. value ((s.field (named f)).objects b)) (dereferenced-lies n r p a h) (λ b k. (l.field (named f)).objects b k))

pub value-lies : (n : ℕ) (e : AnyCode) (s : State) → Lies n s → IsOf (IsInside n) (value_of e s)
value-lies n (c.an_object a) s l = then-of (Below n) (IsInside n) (object_of a s) (λ x. value (an_object x)) (object-lies n a s l) (λ x h. h)
value-lies n (c.a_number a) s l = then-of (λ x. Unit {0}) (IsInside n) (number_of a s) (λ x. value (a_number x)) (any-value (number_of a s)) (λ x h. tt)
value-lies n (c.a_truth a) s l = then-of (λ x. Unit {0}) (IsInside n) (truth_of a s) (λ x. value (a_truth x)) (any-value (truth_of a s)) (λ x h. tt)
