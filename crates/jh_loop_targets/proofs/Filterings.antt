-- The state that was noted, in the order of the state.
use Rattle.std.proofs.Common.{◌≡◌, refl, sym, ap, ◌∙◌, ℕ, zero, suc, Bool, true, false, if◌then◌else◌, List, [], ◌∷◌, ◌++◌, map, filter, take, length}
use Rattle.jh_semantics.specs.Code.{Text}
use Rattle.jh_semantics.specs.Program.{Program, Member}
use Rattle.jh_semantics.specs.WellFormed.{all_classes}
use Rattle.jh_guard.specs.Items.{Item, Sorted, all_objects, objects_of, of_member, item_text, is_of_objects, items, items_where, sorted_item}
use Rattle.jh_state_facts.specs.changes.Added.{sorted_in, sorted_of}
use Rattle.jh_state_facts.specs.declared.changes.names.SortedName.{SortedName}

nothing : {X : Type 0} (xs : List X) → xs ++ [] ≡ xs
nothing [] = refl
nothing (x ∷ xs) = ap (λ ys. x ∷ ys) (nothing xs)

filter-append : {X : Type 0} (f : X → Bool) (xs ys : List X) → filter f (xs ++ ys) ≡ filter f xs ++ filter f ys
filter-append f [] ys = refl
filter-append f (x ∷ xs) ys = by (f x) (filter-append f xs ys)
  where
    by : (b : Bool) → filter f (xs ++ ys) ≡ filter f xs ++ filter f ys → (if b then x ∷ filter f (xs ++ ys) else filter f (xs ++ ys)) ≡ (if b then x ∷ filter f xs else filter f xs) ++ filter f ys
    by true e = ap (λ zs. x ∷ zs) e
    by false e = e

filter-same : {X : Type 0} (f g : X → Bool) → ((x : X) → f x ≡ g x) → (xs : List X) → filter f xs ≡ filter g xs
filter-same f g h [] = refl
filter-same f g h (x ∷ xs) = λ i. if h x i then x ∷ filter-same f g h xs i else filter-same f g h xs i

filter-map : {X Y : Type 0} (f : Y → Bool) (g : X → Y) (xs : List X) → filter f (map g xs) ≡ map g (filter (λ x. f (g x)) xs)
filter-map f g [] = refl
filter-map f g (x ∷ xs) = by (f (g x)) (filter-map f g xs)
  where
    by : (b : Bool) → filter f (map g xs) ≡ map g (filter (λ z. f (g z)) xs) → (if b then g x ∷ filter f (map g xs) else filter f (map g xs)) ≡ map g (if b then x ∷ filter (λ z. f (g z)) xs else filter (λ z. f (g z)) xs)
    by true r = ap (λ zs. g x ∷ zs) r
    by false r = r

-- what was noted of the state of a program is what a test holds of
pub noted-state : (program : Program) (holds test : Text → Bool) (names : List Sorted) → ((x : Text) → holds x ≡ test x) → names ≡ map sorted_item (items program) →
    filter (λ (s : Sorted). holds s.text) names ≡ map sorted_item (items_where program test)
noted-state program holds test names same e =
    ap (filter (λ (s : Sorted). holds s.text)) e
    ∙ filter-map (λ (s : Sorted). holds s.text) sorted_item (items program)
    ∙ ap (map sorted_item) (filter-same (λ x. holds (item_text x)) (λ x. test (item_text x)) (λ x. same (item_text x)) (items program))

-- the sets of objects among the state, and the members
abbrev sets-of : Program → List Item
sets-of program = all_objects ∷ map (λ x. objects_of x) (all_classes program.classes)

abbrev members-of : Program → List Item
members-of program = map (λ x. of_member x) program.members

classes-kept : (cs : List Text) → filter is_of_objects (map (λ x. objects_of x) cs) ≡ map (λ x. objects_of x) cs
classes-kept [] = refl
classes-kept (x ∷ cs) = ap (λ zs. objects_of x ∷ zs) (classes-kept cs)

members-left : (xs : List Member) → filter is_of_objects (map (λ x. of_member x) xs) ≡ []
members-left [] = refl
members-left (x ∷ xs) = members-left xs

objects-are : (program : Program) → filter is_of_objects (items program) ≡ sets-of program
objects-are program =
    filter-append is_of_objects (sets-of program) (members-of program)
    ∙ (λ i. (all_objects ∷ classes-kept (all_classes program.classes) i) ++ members-left program.members i)
    ∙ nothing (sets-of program)

filter-turned : {X : Type 0} (f g : X → Bool) (xs : List X) → filter f (filter g xs) ≡ filter g (filter f xs)
filter-turned f g [] = refl
filter-turned f g (x ∷ xs) = by (f x) refl (g x) refl (filter-turned f g xs)
  where
    by : (a : Bool) → f x ≡ a → (b : Bool) → g x ≡ b → filter f (filter g xs) ≡ filter g (filter f xs) → filter f (if b then x ∷ filter g xs else filter g xs) ≡ filter g (if a then x ∷ filter f xs else filter f xs)
    by true e true k r = ap (λ t. if t then x ∷ filter f (filter g xs) else filter f (filter g xs)) e ∙ ap (λ zs. x ∷ zs) (r) ∙ sym (ap (λ t. if t then x ∷ filter g (filter f xs) else filter g (filter f xs)) k)
    by true e false k r = r ∙ sym (ap (λ t. if t then x ∷ filter g (filter f xs) else filter g (filter f xs)) k)
    by false e true k r = ap (λ t. if t then x ∷ filter f (filter g xs) else filter f (filter g xs)) e ∙ r
    by false e false k r = r

length-append : {X : Type 0} (xs : List X) (x : X) → length (xs ++ x ∷ []) ≡ suc (length xs)
length-append [] x = refl
length-append (y ∷ xs) x = ap suc (length-append xs x)

length-map : {X Y : Type 0} (f : X → Y) (xs : List X) → length (map f xs) ≡ length xs
length-map f [] = refl
length-map f (x ∷ xs) = ap suc (length-map f xs)

take-front : {X : Type 0} (xs ys : List X) → take (length xs) (xs ++ ys) ≡ xs
take-front [] ys = refl
take-front (x ∷ xs) ys = ap (λ zs. x ∷ zs) (take-front xs ys)

take-map : {X Y : Type 0} (f : X → Y) (n : ℕ) (xs : List X) → map f (take n xs) ≡ take n (map f xs)
take-map f zero [] = refl
take-map f zero (x ∷ xs) = refl
take-map f (suc n) [] = refl
take-map f (suc n) (x ∷ xs) = ap (λ zs. f x ∷ zs) (take-map f n xs)

map-append : {X Y : Type 0} (f : X → Y) (xs ys : List X) → map f (xs ++ ys) ≡ map f xs ++ map f ys
map-append f [] ys = refl
map-append f (x ∷ xs) ys = ap (λ zs. f x ∷ zs) (map-append f xs ys)

sets-count : (program : Program) → length (map sorted_item (sets-of program)) ≡ suc (suc (length program.classes))
sets-count program =
    ap suc (length-map sorted_item (map (λ x. objects_of x) (all_classes program.classes)) ∙ length-map (λ x. objects_of x) (all_classes program.classes) ∙ length-append program.classes _)

-- the first names of the state are those of the sets of objects
front-sets : (program : Program) (states : List SortedName) (n : ℕ) → sorted_in states ≡ map sorted_item (items program) → n ≡ suc (suc (length program.classes)) → sorted_in (take n states) ≡ map sorted_item (sets-of program)
front-sets program states n e k =
    take-map sorted_of n states
    ∙ (λ i. take ((k ∙ sym (sets-count program)) i) ((e ∙ map-append sorted_item (sets-of program) (members-of program)) i))
    ∙ take-front (map sorted_item (sets-of program)) (map sorted_item (members-of program))

-- of the first names those that were noted are the sets of objects among the state of a test
pub noted-sets : (program : Program) (holds test : Text → Bool) (states : List SortedName) (n : ℕ) → ((x : Text) → holds x ≡ test x) → sorted_in states ≡ map sorted_item (items program) → n ≡ suc (suc (length program.classes)) →
    filter (λ (s : Sorted). holds s.text) (sorted_in (take n states)) ≡ map sorted_item (filter is_of_objects (items_where program test))
noted-sets program holds test states n same e k =
    ap (filter (λ (s : Sorted). holds s.text)) (front-sets program states n e k)
    ∙ filter-map (λ (s : Sorted). holds s.text) sorted_item (sets-of program)
    ∙ ap (map sorted_item)
    (filter-same (λ x. holds (item_text x)) (λ x. test (item_text x)) (λ x. same (item_text x)) (sets-of program)
    ∙ ap (filter (λ x. test (item_text x))) (sym (objects-are program))
    ∙ filter-turned (λ x. test (item_text x)) is_of_objects (items program))
