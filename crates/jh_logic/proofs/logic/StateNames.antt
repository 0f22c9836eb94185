-- The names of the state, and what entering a method, coming back from it and its result leave of them.
use Rattle.std.proofs.Common.{◌≡◌, refl, sym, ap, ◌∙◌, subst, ℕ, ◌<◌, Bool, true, false, ◌||◌, if◌then◌else◌, List, [], ◌∷◌, ◌++◌, map, filter, Option, None, Some, arith, ◌⊎◌, inl, inr}
use Rattle.std.specs.List.{Contains, list_any}
use Rattle.std.proofs.lemmas.Bool.{true≢false}
use Rattle.std.proofs.lemmas.List.Elements.{Contains-append_left, Contains-append_right, Contains-append_cases}
use Rattle.std.specs.Cmp.Lexicographic.{bytes_decides}
use Rattle.jh_name.specs.declared.naming.Name.{Name}
use Rattle.jh_name.specs.declared.place.Sort.{Sort}
use Rattle.jh_name.specs.declared.place.Sort.TheVariants as sort
use Rattle.jh_form.specs.Passing.{name_equal}
use Rattle.jh_form.specs.Sorts.{same_sort}
use Rattle.jh_form.proofs.Names.{name_equal-true}
use Rattle.jh_form.proofs.ClosedLemmas.{both-left, both-right}
use Rattle.jh_form.specs.Meaning.{Interp, Datum, an_object, a_number, a_truth, a_set, a_field}
use Rattle.jh_form.specs.Assigned.{assigned}
use Rattle.jh_rules.specs.Words.{same_text}
use Rattle.jh_vars.specs.Written.{Callee}
use Rattle.jh_semantics.specs.Code.{Text, Local}
use Rattle.jh_semantics.specs.Program.{Program, Method, Member}
use Rattle.jh_semantics.specs.State.{State, named, this_name, result_name, stored}
use Rattle.jh_semantics.specs.Locals.{has_dot, with_locals_of, without_locals, with_args, entered}
use Rattle.jh_semantics.specs.WellFormed.{all_classes}
use Rattle.jh_semantics.specs.Sound.{with_result}
use Rattle.jh_semantics.specs.Typed.{NamesFit}
use Rattle.jh_guard.specs.Items.{Item, all_objects, of_member, item_text, item_sort, items, items_where, Sorted, sorted_item}
use Rattle.jh_guard.specs.Items as item
use Rattle.jh_guard.specs.Writes.{Writes}
use Rattle.jh_guard.specs.Calls.{this_text, result_text}
use Rattle.jh_logic.specs.logic.MethodContracts.{is_item, is_state, may_write, LeavesUnwritten}
use Rattle.jh_logic.proofs.logic.Histories.{is_named}
use Rattle.jh_logic.proofs.logic.Puts.{IsScalar}
use Rattle.jh_logic.proofs.logic.Renamings.{GivesAt}
use Rattle.jh_logic.proofs.logic.Writing.{single, or-left, or-right}
use Rattle.jh_logic.proofs.logic.Written.{map-has}

-- of a list that has something of a test
pub any-has : {X : Type 0} (f : X → Bool) (xs : List X) → list_any f xs ≡ true → (x : X) × Contains xs x × (f x ≡ true)
any-has f [] h = absurd (true≢false (sym h))
any-has {X = X} f (y ∷ ys) h = from (f y) refl (any-has f ys)
  where
    from : (b : Bool) → f y ≡ b → (list_any f ys ≡ true → (x : X) × Contains ys x × (f x ≡ true)) → (x : X) × Contains (y ∷ ys) x × (f x ≡ true)
    from true e g = (y, (0, omega arith, refl), e)
    from false e g = more (g (subst (λ (b : Bool). (b || list_any f ys) ≡ true) e h))
      where
        more : (x : X) × Contains ys x × (f x ≡ true) → (x : X) × Contains (y ∷ ys) x × (f x ≡ true)
        more found = (found.0, Contains-append_right (y ∷ []) ys found.0 found.1, found.2)

pub has-any : {X : Type 0} (f : X → Bool) (xs : List X) (x : X) → Contains xs x → f x ≡ true → list_any f xs ≡ true
has-any f [] x i e = absurd (no-place i.0 i.1)
  where
    no-place : (j : ℕ) → j < 0 → ⊥
    no-place j lt = omega arith
has-any f (y ∷ ys) x i e = from (Contains-append_cases (y ∷ []) ys x i) (λ j. has-any f ys x j e)
  where
    from : Contains (y ∷ []) x ⊎ Contains ys x → (Contains ys x → list_any f ys ≡ true) → (f y || list_any f ys) ≡ true
    from (inl j) g = or-left (f y) (list_any f ys) (ap f (sym (single y x j)) ∙ e)
    from (inr j) g = or-right (f y) (list_any f ys) (g j)

-- what a mapped list has, and a list with a test
pub map-from : {X Y : Type 0} (f : X → Y) (xs : List X) (y : Y) → Contains (map f xs) y → (x : X) × Contains xs x × (f x ≡ y)
map-from f [] y i = absurd (no-place i.0 i.1)
  where
    no-place : (j : ℕ) → j < 0 → ⊥
    no-place j lt = omega arith
map-from {X = X} {Y = Y} f (x ∷ xs) y i = from (Contains-append_cases (f x ∷ []) (map f xs) y i) (λ j. map-from f xs y j)
  where
    from : Contains (f x ∷ []) y ⊎ Contains (map f xs) y → (Contains (map f xs) y → (z : X) × Contains xs z × (f z ≡ y)) → (z : X) × Contains (x ∷ xs) z × (f z ≡ y)
    from (inl j) g = (x, (0, omega arith, refl), sym (single (f x) y j))
    from (inr j) g = more (g j)
      where
        more : (z : X) × Contains xs z × (f z ≡ y) → (z : X) × Contains (x ∷ xs) z × (f z ≡ y)
        more found = (found.0, Contains-append_right (x ∷ []) xs found.0 found.1, found.2)

pub filter-from : {X : Type 0} (test : X → Bool) (xs : List X) (x : X) → Contains (filter test xs) x → Contains xs x × (test x ≡ true)
filter-from test [] x i = absurd (no-place i.0 i.1)
  where
    no-place : (j : ℕ) → j < 0 → ⊥
    no-place j lt = omega arith
filter-from {X = X} test (y ∷ ys) x i = from (test y) refl i (λ j. filter-from test ys x j)
  where
    behind : Contains ys x × (test x ≡ true) → Contains (y ∷ ys) x × (test x ≡ true)
    behind found = (Contains-append_right (y ∷ []) ys x found.0, found.1)

    kept : Contains (y ∷ []) x ⊎ Contains (filter test ys) x → test y ≡ true → (Contains (filter test ys) x → Contains ys x × (test x ≡ true)) → Contains (y ∷ ys) x × (test x ≡ true)
    kept (inl j) e g = (Contains-append_left (y ∷ []) ys x j, ap test (single y x j) ∙ e)
    kept (inr j) e g = behind (g j)

    from : (b : Bool) → test y ≡ b → Contains (if b then y ∷ filter test ys else filter test ys) x → (Contains (filter test ys) x → Contains ys x × (test x ≡ true)) → Contains (y ∷ ys) x × (test x ≡ true)
    from true e j g = kept (Contains-append_cases (y ∷ []) (filter test ys) x j) e g
    from false e j g = behind (g j)

pub sorts-equal : (a b : Sort) → same_sort a b ≡ true → a ≡ b
sorts-equal sort.Obj sort.Obj h = refl
sorts-equal sort.Int sort.Int h = refl
sorts-equal sort.Bool sort.Bool h = refl
sorts-equal sort.Set sort.Set h = refl
sorts-equal sort.Field sort.Field h = refl
sorts-equal _ _ h = absurd (true≢false (sym h))

pub texts-equal : (x y : Text) → same_text x y ≡ true → x ≡ y
texts-equal x y h = (bytes_decides x y).0 h

pub names-texts : (x y : Text) → name_equal (named x) (named y) ≡ true → x ≡ y
names-texts x y h = ap (λ (z : Name). z.text) (name_equal-true (named x) (named y) h)

-- the text of a name of the state: a static has a dot in it, and sets and fields are all state
abbrev pub StateText : Text → Sort → Type 0
StateText y sort.Set = Unit {0}
StateText y sort.Field = Unit {0}
StateText y _ = has_dot y ≡ true

dotted-text : (y : Text) (a : Sort) → has_dot y ≡ true → StateText y a
dotted-text y sort.Obj h = h
dotted-text y sort.Int h = h
dotted-text y sort.Bool h = h
dotted-text y sort.Set h = tt
dotted-text y sort.Field h = tt

module _ (p : Program) (names : NamesFit p) where
  -- where a piece of state comes from
  abbrev pub ItemCase : Item → Type 0
  ItemCase all_objects = Unit {0}
  ItemCase (item.objects_of c) = Contains (all_classes p.classes) c
  ItemCase (of_member x) = Contains p.members x

  pub item-case : (x : Item) → Contains (items p) x → ItemCase x
  item-case x i = first (Contains-append_cases (all_objects ∷ []) (map (λ c. item.objects_of c) (all_classes p.classes) ++ map (λ y. of_member y) p.members) x i)
    where
      class : (c : Text) × Contains (all_classes p.classes) c × (item.objects_of c ≡ x) → ItemCase x
      class found = subst ItemCase found.2 found.1

      member : (y : Member) × Contains p.members y × (of_member y ≡ x) → ItemCase x
      member found = subst ItemCase found.2 found.1

      rest : Contains (map (λ c. item.objects_of c) (all_classes p.classes)) x ⊎ Contains (map (λ y. of_member y) p.members) x → ItemCase x
      rest (inl j) = class (map-from (λ c. item.objects_of c) (all_classes p.classes) x j)
      rest (inr j) = member (map-from (λ y. of_member y) p.members x j)

      first : Contains (all_objects ∷ []) x ⊎ Contains (map (λ c. item.objects_of c) (all_classes p.classes) ++ map (λ y. of_member y) p.members) x → ItemCase x
      first (inl j) = subst ItemCase (sym (single all_objects x j)) tt
      first (inr j) = rest (Contains-append_cases (map (λ c. item.objects_of c) (all_classes p.classes)) (map (λ y. of_member y) p.members) x j)

  pub member-item : (x : Member) → Contains p.members x → Contains (items p) (of_member x)
  member-item x i =
      Contains-append_right (all_objects ∷ []) (map (λ c. item.objects_of c) (all_classes p.classes) ++ map (λ y. of_member y) p.members) (of_member x)
      (Contains-append_right (map (λ c. item.objects_of c) (all_classes p.classes)) (map (λ y. of_member y) p.members) (of_member x) (map-has (λ y. of_member y) p.members x i))

  pub item-text : (x : Item) → Contains (items p) x → StateText (item_text x) (item_sort x)
  item-text x i = from x (item-case x i)
    where
      from : (x : Item) → ItemCase x → StateText (item_text x) (item_sort x)
      from all_objects h = tt
      from (item.objects_of c) h = tt
      from (of_member y) h = dotted-text y.text (item_sort (of_member y)) (names.dots y h)

  pub state-text : (y : Text) (a : Sort) → is_state p y a ≡ true → StateText y a
  state-text y a h = from (any-has (is_item y a) (items p) h)
    where
      from : (x : Item) × Contains (items p) x × (is_item y a x ≡ true) → StateText y a
      from found =
          let x : Item = found.0 in
          subst (λ (z : Text). StateText z a) (sym (names-texts y (item_text x) (both-left (name_equal (named y) (named (item_text x))) (same_sort a (item_sort x)) found.2)))
          (subst (λ (b : Sort). StateText (item_text x) b) (sym (sorts-equal a (item_sort x) (both-right (name_equal (named y) (named (item_text x))) (same_sort a (item_sort x)) found.2)))
          (item-text x found.1))

  -- a name of the state that a method may write is among what it writes
  pub written-item : (ws : Writes) (m : Callee) (y : Text) (a : Sort) → is_state p y a ≡ true → ws.written m y ≡ true → (x : Item) × Contains (items p) x × (y ≡ item_text x)
  written-item ws m y a h w = from (any-has (is_item y a) (items p) h)
    where
      from : (x : Item) × Contains (items p) x × (is_item y a x ≡ true) → (x : Item) × Contains (items p) x × (y ≡ item_text x)
      from found = (found.0, found.1, names-texts y (item_text found.0) (both-left (name_equal (named y) (named (item_text found.0))) (same_sort a (item_sort found.0)) found.2))

-- what a method doesn't write is none of what it may write
pub unwritten-text : (p : Program) (ws : Writes) (m : Callee) (y : Text) (a : Sort) → ws.written m y ≡ false → may_write p ws m y a ≡ false
unwritten-text p ws m y a h = from (may_write p ws m y a) refl
  where
    clash : (x : Item) × Contains (items_where p (ws.written m)) x × (is_item y a x ≡ true) → ⊥
    clash found = true≢false (sym (filter-from (λ z. ws.written m (item_text z)) (items p) found.0 found.1).1
        ∙ ap (ws.written m) (sym (names-texts y (item_text found.0) (both-left (name_equal (named y) (named (item_text found.0))) (same_sort a (item_sort found.0)) found.2))) ∙ h)

    from : (b : Bool) → may_write p ws m y a ≡ b → may_write p ws m y a ≡ false
    from true e = absurd (clash (any-has (is_item y a) (items_where p (ws.written m)) e))
    from false e = e

-- the two ways to say what is among some items
pub named-items : (xs : List Item) (y : Text) (a : Sort) → is_named (named y) a (map sorted_item xs) ≡ list_any (is_item y a) xs
named-items [] y a = refl
named-items (x ∷ xs) y a = λ i. is_item y a x || named-items xs y a i

-- values with a dot in their names stay where locals change
apart-by-dot : (x y : Text) → has_dot x ≡ true → has_dot y ≡ false → name_equal (named x) (named y) ≡ true → ⊥
apart-by-dot x y h k e = true≢false (sym h ∙ ap has_dot (names-texts x y e) ∙ k)

pub chosen-else : {X : Type 0} (b : Bool) (v w : X) → b ≡ false → (if b then v else w) ≡ w
chosen-else true v w e = absurd (true≢false e)
chosen-else false v w e = refl

pub chosen-then : {X : Type 0} (b : Bool) (v w : X) → b ≡ true → (if b then v else w) ≡ v
chosen-then true v w e = refl
chosen-then false v w e = absurd (true≢false (sym e))

pub not-true : (b : Bool) → (b ≡ true → ⊥) → b ≡ false
not-true true h = absurd (h refl)
not-true false h = refl

local-other : (x y : Text) → has_dot x ≡ true → has_dot y ≡ false → name_equal (named x) (named y) ≡ false
local-other x y h k = not-true (name_equal (named x) (named y)) (apart-by-dot x y h k)

pub stored-local : (s : State) (x : Text) (d : Datum) (y : Text) (a : Sort) → IsScalar d → has_dot x ≡ false → StateText y a → GivesAt a (stored s x d) (named y) s (named y)
stored-local s x (an_object v) y sort.Obj i e h = chosen-else (name_equal (named y) (named x)) v (s.object (named y)) (local-other y x h e)
stored-local s x (a_number v) y sort.Int i e h = chosen-else (name_equal (named y) (named x)) v (s.number (named y)) (local-other y x h e)
stored-local s x (a_truth v) y sort.Bool i e h = chosen-else (name_equal (named y) (named x)) v (s.truth (named y)) (local-other y x h e)
stored-local s x (an_object v) y sort.Int i e h = refl
stored-local s x (an_object v) y sort.Bool i e h = refl
stored-local s x (an_object v) y sort.Set i e h = refl
stored-local s x (an_object v) y sort.Field i e h = refl
stored-local s x (a_number v) y sort.Obj i e h = refl
stored-local s x (a_number v) y sort.Bool i e h = refl
stored-local s x (a_number v) y sort.Set i e h = refl
stored-local s x (a_number v) y sort.Field i e h = refl
stored-local s x (a_truth v) y sort.Obj i e h = refl
stored-local s x (a_truth v) y sort.Int i e h = refl
stored-local s x (a_truth v) y sort.Set i e h = refl
stored-local s x (a_truth v) y sort.Field i e h = refl
stored-local s x (a_set v) y a i e h = absurd i
stored-local s x (a_field v) y a i e h = absurd i

bare-local : (s : State) (y : Text) (a : Sort) → StateText y a → GivesAt a (without_locals s) (named y) s (named y)
bare-local s y sort.Obj h = chosen-then (has_dot y) (s.object (named y)) _ h
bare-local s y sort.Int h = chosen-then (has_dot y) (s.number (named y)) _ h
bare-local s y sort.Bool h = chosen-then (has_dot y) (s.truth (named y)) _ h
bare-local s y sort.Set h = refl
bare-local s y sort.Field h = refl

-- back in the caller the state is what the method left
pub back-state : (s u : State) (y : Text) (a : Sort) → StateText y a → GivesAt a (with_locals_of s u) (named y) s (named y)
back-state s u y sort.Obj h = chosen-then (has_dot y) (s.object (named y)) (u.object (named y)) h
back-state s u y sort.Int h = chosen-then (has_dot y) (s.number (named y)) (u.number (named y)) h
back-state s u y sort.Bool h = chosen-then (has_dot y) (s.truth (named y)) (u.truth (named y)) h
back-state s u y sort.Set h = refl
back-state s u y sort.Field h = refl

-- numbers, truths and objects as arguments
abbrev pub AllScalar : List Datum → Type 0
AllScalar [] = Unit {0}
AllScalar (d ∷ ds) = IsScalar d × AllScalar ds

abbrev pub AllDotless : List Local → Type 0
AllDotless [] = Unit {0}
AllDotless (x ∷ xs) = (has_dot x.text ≡ false) × AllDotless xs

args-state : (xs : List Local) (ds : List Datum) (s : State) (y : Text) (a : Sort) → AllScalar ds → AllDotless xs → StateText y a → GivesAt a (with_args xs ds s) (named y) s (named y)
args-state (x ∷ xs) (d ∷ ds) s y a i e h = joined-at a (with_args (x ∷ xs) (d ∷ ds) s) (with_args xs ds s) s (named y) (named y) (named y) (stored-local (with_args xs ds s) x.text d y a i.0 e.0 h) (args-state xs ds s y a i.1 e.1 h)
  where
    joined-at : (a : Sort) (m w u : Interp) (x y z : Name) → GivesAt a m x w y → GivesAt a w y u z → GivesAt a m x u z
    joined-at sort.Obj m w u x y z g h = g ∙ h
    joined-at sort.Int m w u x y z g h = g ∙ h
    joined-at sort.Bool m w u x y z g h = g ∙ h
    joined-at sort.Set m w u x y z g h = g ∙ h
    joined-at sort.Field m w u x y z g h = g ∙ h
args-state [] ds s y sort.Obj i e h = refl
args-state [] ds s y sort.Int i e h = refl
args-state [] ds s y sort.Bool i e h = refl
args-state [] ds s y sort.Set i e h = refl
args-state [] ds s y sort.Field i e h = refl
args-state (x ∷ xs) [] s y sort.Obj i e h = refl
args-state (x ∷ xs) [] s y sort.Int i e h = refl
args-state (x ∷ xs) [] s y sort.Bool i e h = refl
args-state (x ∷ xs) [] s y sort.Set i e h = refl
args-state (x ∷ xs) [] s y sort.Field i e h = refl

-- the result of a method has a name of its own
result-other : (s : State) (d : Datum) (y : Text) (a : Sort) → name_equal (named y) result_name ≡ false → GivesAt a (assigned s result_name d) (named y) s (named y)
result-other s (an_object v) y sort.Obj e = chosen-else (name_equal (named y) result_name) v (s.object (named y)) e
result-other s (a_number v) y sort.Int e = chosen-else (name_equal (named y) result_name) v (s.number (named y)) e
result-other s (a_truth v) y sort.Bool e = chosen-else (name_equal (named y) result_name) v (s.truth (named y)) e
result-other s (a_set v) y sort.Set e = chosen-else (name_equal (named y) result_name) v (s.set (named y)) e
result-other s (a_field v) y sort.Field e = chosen-else (name_equal (named y) result_name) v (s.field (named y)) e
result-other s (an_object v) y sort.Int e = refl
result-other s (an_object v) y sort.Bool e = refl
result-other s (an_object v) y sort.Set e = refl
result-other s (an_object v) y sort.Field e = refl
result-other s (a_number v) y sort.Obj e = refl
result-other s (a_number v) y sort.Bool e = refl
result-other s (a_number v) y sort.Set e = refl
result-other s (a_number v) y sort.Field e = refl
result-other s (a_truth v) y sort.Obj e = refl
result-other s (a_truth v) y sort.Int e = refl
result-other s (a_truth v) y sort.Set e = refl
result-other s (a_truth v) y sort.Field e = refl
result-other s (a_set v) y sort.Obj e = refl
result-other s (a_set v) y sort.Int e = refl
result-other s (a_set v) y sort.Bool e = refl
result-other s (a_set v) y sort.Field e = refl
result-other s (a_field v) y sort.Obj e = refl
result-other s (a_field v) y sort.Int e = refl
result-other s (a_field v) y sort.Bool e = refl
result-other s (a_field v) y sort.Set e = refl

result-apart : (y : Text) → same_text y result_text ≡ false → name_equal (named y) result_name ≡ false
unfolding name_equal
result-apart y e = e

pub with-result-other : (s : State) (v : Option Datum) (y : Text) (a : Sort) → same_text y result_text ≡ false → GivesAt a (with_result s v) (named y) s (named y)
with-result-other s None y sort.Obj e = refl
with-result-other s None y sort.Int e = refl
with-result-other s None y sort.Bool e = refl
with-result-other s None y sort.Set e = refl
with-result-other s None y sort.Field e = refl
with-result-other s (Some d) y a e = result-other s d y a (result-apart y e)

pub with-result-last : (s : State) (v : Option Datum) → (with_result s v).last ≡ s.last
with-result-last s None = refl
with-result-last s (Some (an_object v)) = refl
with-result-last s (Some (a_number v)) = refl
with-result-last s (Some (a_truth v)) = refl
with-result-last s (Some (a_set v)) = refl
with-result-last s (Some (a_field v)) = refl

-- the state at entry is that of the caller
pub entered-state : (x : Method) (this : ℕ) (ds : List Datum) (s : State) (y : Text) (a : Sort) → AllScalar ds → AllDotless x.params → StateText y a → GivesAt a (entered x this ds s) (named y) s (named y)
entered-state x this ds s y a i e h = by-sort a h (args-state x.params ds (assigned (without_locals s) this_name (an_object this)) y a i e h) (bare-local s y a h)
  where
    other : has_dot y ≡ true → name_equal (named y) this_name ≡ false
    other h = local-other y this_text h refl

    by-sort : (a : Sort) → StateText y a → GivesAt a (entered x this ds s) (named y) (assigned (without_locals s) this_name (an_object this)) (named y) → GivesAt a (without_locals s) (named y) s (named y) → GivesAt a (entered x this ds s) (named y) s (named y)
    by-sort sort.Obj h g k = g ∙ chosen-else (name_equal (named y) this_name) this ((without_locals s).object (named y)) (other h) ∙ k
    by-sort sort.Int h g k = g ∙ k
    by-sort sort.Bool h g k = g ∙ k
    by-sort sort.Set h g k = g ∙ k
    by-sort sort.Field h g k = g ∙ k

-- what a method leaves unwritten is what it was
pub unwritten-state : (p : Program) (ws : Writes) (m : Callee) (first last : State) (y : Text) (a : Sort) → LeavesUnwritten p ws m first last → StateText y a → may_write p ws m y a ≡ false → GivesAt a last (named y) first (named y)
unwritten-state p ws m first last y sort.Obj l h e = l.object y h e
unwritten-state p ws m first last y sort.Int l h e = l.number y h e
unwritten-state p ws m first last y sort.Bool l h e = l.truth y h e
unwritten-state p ws m first last y sort.Set l h e = l.set y e
unwritten-state p ws m first last y sort.Field l h e = l.field y e
