-- Heaps as lists, as they are written down and as the interpreter takes and answers them.
use Rattle.std.specs.Prelude.{◌≡◌, ℕ, ℤ, pos, suc, ◌==◌, ◌&&◌, not, nat_lt, Bool, true, false, List, [], ◌∷◌, map, length, filter, Option, None, Some, option_map, slice_get}
use Rattle.std.specs.List.{list_any, list_all}
use Rattle.std.specs.Option.{option_map_or}
use Rattle.jh_name.specs.declared.place.Kind.{Kind}
use Rattle.jh_name.specs.declared.place.Kind.TheVariants as k
use Rattle.jh_form.specs.Meaning.{Fields, Datum, an_object, a_number, a_truth, a_set, a_field, truth}
use Rattle.jh_form.specs.Assigned.{assigned}
use Rattle.jh_vars.specs.Written.{Callee}
use Rattle.jh_semantics.specs.Code.{Text}
use Rattle.jh_semantics.specs.Program.{Program, Method, Member}
use Rattle.jh_semantics.specs.State.{State, named, alloc_name, stored, shown}
use Rattle.jh_semantics.specs.WellFormed.{all_classes, well_formed}
use Rattle.jh_semantics.specs.Progress.{Stop, Outcome, returned, stopped}
use Rattle.jh_semantics.specs.Objects.{below, free}
use Rattle.jh_semantics.specs.Execution.{run}
use Rattle.jh_semantics.specs.Entry.{AllLieIn, ThisLiesIn}

-- a value that is written down; a set by its members, ascending
pub data Cell : Type 0 where
  object : ℕ → Cell
  number : ℤ → Cell
  truth_value : Bool → Cell
  set : List ℕ → Cell

-- The greatest object; the objects of each class in the order of the source, with the plain objects last; the values of the statics,
-- and for each field its values at the objects 0 to N, both in the order of the state.
pub record Heap : Type 0 where
  pub greatest : ℕ
  pub classes : List (List ℕ)
  pub statics : List Cell
  pub fields : List (List Cell)

abbrev pub is_in : ℕ → List ℕ → Bool
is_in a xs = list_any (λ b. b == a) xs

abbrev pub cell_value : Cell → Datum
cell_value (object a) = an_object a
cell_value (number z) = a_number z
cell_value (truth_value b) = a_truth b
cell_value (set xs) = a_set (λ a. is_in a xs)

abbrev pub statics_of : Program → List Member
statics_of p = filter (λ (x : Member). x.is_static) p.members

abbrev pub fields_of : Program → List Member
fields_of p = filter (λ (x : Member). not x.is_static) p.members

-- the value of a field by its cells; it has the defaults where there is none of a kind
abbrev pub object_in : Option Cell → ℕ
object_in (Some (object a)) = a
object_in _ = 0

abbrev pub number_in : Option Cell → ℤ
number_in (Some (number z)) = z
number_in _ = pos 0

abbrev pub truth_in : Option Cell → Bool
truth_in (Some (truth_value b)) = b
truth_in _ = false

abbrev pub set_in : Option Cell → ℕ → Bool
set_in (Some (set xs)) = λ a. is_in a xs
set_in _ = λ a. false

abbrev pub field_value : List Cell → Fields
field_value cells = record {
  objects = λ a. object_in (slice_get cells a);
  numbers = λ a. number_in (slice_get cells a);
  truths = λ a. truth_in (slice_get cells a);
  sets = λ a. set_in (slice_get cells a);
}

-- The state that a heap lists, name by name. Other names have null, 0, false, the empty set and a field of these.
abbrev pub empty_state : ℕ → State
empty_state n = record { last = n; object = λ x. 0; number = λ x. pos 0; truth = λ x. false; set = λ x a. false; field = λ x. field_value [] }

abbrev pub with_classes : List Text → List (List ℕ) → State → State
with_classes (c ∷ cs) (xs ∷ rest) s = assigned (with_classes cs rest s) (named c) (a_set (λ a. is_in a xs))
with_classes _ _ s = s

abbrev pub with_statics : List Member → List Cell → State → State
with_statics (x ∷ xs) (cell ∷ cells) s = stored (with_statics xs cells s) x.text (cell_value cell)
with_statics _ _ s = s

abbrev pub with_fields : List Member → List (List Cell) → State → State
with_fields (x ∷ xs) (cells ∷ rest) s = assigned (with_fields xs rest s) (named x.text) (a_field (field_value cells))
with_fields _ _ s = s

abbrev pub state_of : Program → Heap → State
state_of p h =
    with_fields (fields_of p) h.fields (with_statics (statics_of p) h.statics (with_classes (all_classes p.classes) h.classes
    (assigned (empty_state h.greatest) alloc_name (a_set (λ a. list_any (is_in a) h.classes)))))

-- and the heap that a state is, of the objects 0 to N
abbrev pub members_of : State → (ℕ → Bool) → List ℕ
members_of s test = filter test (below (suc s.last))

abbrev pub static_cell : State → Member → Cell
static_cell s x = at x.kind
  where
    at : Kind → Cell
    at k.Obj = object (s.object (named x.text))
    at k.Int = number (s.number (named x.text))
    at k.Bool = truth_value (s.truth (named x.text))
    at k.Set = set (members_of s (s.set (named x.text)))

abbrev pub field_cell : State → Member → ℕ → Cell
field_cell s x a = at x.kind
  where
    at : Kind → Cell
    at k.Obj = object ((s.field (named x.text)).objects a)
    at k.Int = number ((s.field (named x.text)).numbers a)
    at k.Bool = truth_value ((s.field (named x.text)).truths a)
    at k.Set = set (members_of s ((s.field (named x.text)).sets a))

abbrev pub heap_of : Program → State → Heap
heap_of p s = record {
  greatest = s.last;
  classes = map (λ c. members_of s (s.set (named c))) (all_classes p.classes);
  statics = map (static_cell s) (statics_of p);
  fields = map (λ x. map (field_cell s x) (below (suc s.last))) (fields_of p);
}

-- no number before a smaller one, and none twice
abbrev pub is_ascending : List ℕ → Bool
is_ascending [] = true
is_ascending (a ∷ xs) = list_all (λ b. nat_lt a b) xs && is_ascending xs

-- a list of some of the objects 0 to n
abbrev pub is_listing : ℕ → List ℕ → Bool
is_listing n xs = list_all (λ a. nat_lt a (suc n)) xs && is_ascending xs

-- a cell has the kind of its member, and its objects are those from 0 to n
abbrev pub is_cell : ℕ → Kind → Cell → Bool
is_cell n k.Obj (object a) = nat_lt a (suc n)
is_cell n k.Int (number z) = true
is_cell n k.Bool (truth_value b) = true
is_cell n k.Set (set xs) = is_listing n xs
is_cell n _ _ = false

abbrev pub AreStatics : ℕ → List Member → List Cell → Type 0
AreStatics n [] [] = Unit {0}
AreStatics n (x ∷ xs) (cell ∷ cells) = (is_cell n x.kind cell ≡ true) × AreStatics n xs cells
AreStatics n _ _ = ⊥

-- one for each object from 0 to N
pub record IsField (n : ℕ) (x : Member) (cells : List Cell) : Type 0 where
  pub size : length cells ≡ suc n
  pub cells_fit : list_all (is_cell n x.kind) cells ≡ true

abbrev pub AreFields : ℕ → List Member → List (List Cell) → Type 0
AreFields n [] [] = Unit {0}
AreFields n (x ∷ xs) (cells ∷ rest) = IsField n x cells × AreFields n xs rest
AreFields n _ _ = ⊥

-- A heap of a program: its lists have the lengths that the program asks for, each cell has its kind, no object is beyond the greatest,
-- sets are ascending, and the state that it lists is well formed.
pub record IsHeap (p : Program) (h : Heap) : Type 0 where
  pub class_count : length h.classes ≡ length (all_classes p.classes)
  pub objects : list_all (is_listing h.greatest) h.classes ≡ true
  pub statics_fit : AreStatics h.greatest (statics_of p) h.statics
  pub fields_fit : AreFields h.greatest (fields_of p) h.fields
  pub is_well_formed : truth (well_formed p [] None) (shown (state_of p h) (state_of p h)) [] ≡ true

-- `this`, where there is one, and the arguments
pub record Args : Type 0 where
  pub this : Option ℕ
  pub values : List Cell

abbrev pub this_object : Args → ℕ
this_object args = option_map_or (λ a. a) args.this 0

-- `this` is there exactly where the method isn't static
abbrev pub HasThis : Option ℕ → Option ℕ → Type 0
HasThis None None = Unit {0}
HasThis (Some n) (Some a) = Unit {0}
HasThis _ _ = ⊥

pub record AreArgs (p : Program) (m : Method) (h : Heap) (args : Args) : Type 0 where
  pub has_this : HasThis m.this args.this
  pub this_lies : ThisLiesIn p m.this (state_of p h) (this_object args)
  pub values_lie : AllLieIn p m.params (state_of p h) (map cell_value args.values)

-- an outcome as it is written down
pub data Listed : Type 0 where
  answered : Heap → Option Cell → Listed
  ended : Stop → Listed

-- a value that is no set
abbrev pub value_cell : Datum → Cell
value_cell (an_object a) = object a
value_cell (a_number z) = number z
value_cell (a_truth b) = truth_value b
value_cell _ = set []

abbrev pub listed : Program → Outcome → Listed
listed p (returned s v) = answered (heap_of p s) (option_map value_cell v)
listed p (stopped why) = ended why

-- a run from a heap on its lowest free objects
abbrev pub run_of_heap : Program → Callee → Heap → Args → ℕ → Listed
run_of_heap p m h args k = listed p (run p m (state_of p h) (this_object args) (map cell_value args.values) (free (state_of p h)) k)
