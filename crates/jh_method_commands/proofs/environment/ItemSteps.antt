-- Pieces of state at places, and the sets of objects among them.
use Rattle.std.proofs.Common.{◌≡◌, refl, sym, ap, ◌∙◌, ℕ, zero, suc, ◌+◌, ◌<◌, ◌≤◌, Bool, true, false, List, [], ◌∷◌, ◌++◌, map, filter, take, length, get_or, Option, Some, None, slice_get, codes, arith}
use Rattle.std.specs.Option.{option_map_or}
use Rattle.std.proofs.lemmas.Option.{slice_get-get_or}
use Rattle.std.proofs.lemmas.List.{length-map, length-append, take_at, take-map}
use Rattle.jh_arena.specs.table.Entries.{Listing}
use Rattle.jh_semantics.specs.Code.{Text}
use Rattle.jh_semantics.specs.Program.{Program, Member}
use Rattle.jh_semantics.specs.WellFormed.{all_classes}
use Rattle.jh_guard.specs.Items.{Item, all_objects, objects_of, of_member, items, items_where, sorted_item, is_of_objects}
use Rattle.jh_state_facts.specs.declared.changes.names.SortedName.{SortedName}
use Rattle.jh_state_facts.specs.changes.Added.{sorted_of, sorted_in}
use Rattle.jh_method_commands.specs.declared.environment.outline.Outline.{Outline}
use Rattle.jh_method_commands.specs.declared.environment.outline.Callable.{Callable}
use Rattle.jh_method_commands.specs.environment.Outlines.{IsOutline, IsCallable, callee_of, program_in, writes_in, standing_at, standing}
use Rattle.jh_method_commands.proofs.environment.OutlineSteps.{program-classes}

-- what stands at a place of a list, in its range and outside
pub none-standing : {X : Type 0} (xs : List X) (i : ℕ) → length xs ≤ i → standing_at xs i ≡ []
none-standing [] i le = refl
none-standing (x ∷ xs) zero le = absurd (omega arith)
none-standing (x ∷ xs) (suc i) le = none-standing xs i (omega arith)

pub some-standing : {X : Type 0} (xs : List X) (i : ℕ) (x : X) → i < length xs → x ≡ get_or xs i x → standing_at xs i ≡ x ∷ []
some-standing xs i x lt e = ap (λ o. option_map_or (λ y. y ∷ []) o []) (slice_get-get_or xs i x lt ∙ ap (λ z. Some z) (sym e))

-- what stands at a place of a list that is looked at by a view
view-at : {X Y : Type 0} (f : X → Y) (xs : List X) (i : ℕ) → map f (standing_at xs i) ≡ standing_at (map f xs) i
view-at f [] i = refl
view-at f (x ∷ xs) zero = refl
view-at f (x ∷ xs) (suc i) = view-at f xs i

map-two : {X Y : Type 0} (f : X → Y) (xs ys : List X) → map f (xs ++ ys) ≡ map f xs ++ map f ys
map-two f [] ys = refl
map-two f (x ∷ xs) ys = ap (λ zs. f x ∷ zs) (map-two f xs ys)

pub view-standing : {X Y : Type 0} (f : X → Y) (xs : List X) (places : List ℕ) → map f (standing xs places) ≡ standing (map f xs) places
view-standing f xs [] = refl
view-standing f xs (i ∷ is) = map-two f (standing_at xs i) (standing xs is) ∙ (λ k. view-at f xs i k ++ view-standing f xs is k)

-- of what stands at a place of two lists, what a test holds of that holds of all of the first and of none of the second
none-at : {X : Type 0} (test : X → Bool) (ys : List X) (i : ℕ) → ((y : X) (k : ℕ) → slice_get ys k ≡ Some y → test y ≡ false) → filter test (standing_at ys i) ≡ []
none-at test [] i h = refl
none-at test (y ∷ ys) zero h = rw (h y zero refl) refl
none-at test (y ∷ ys) (suc i) h = none-at test ys i (λ z k e. h z (suc k) e)

tested-at : {X : Type 0} (test : X → Bool) (xs ys : List X) (i : ℕ) → ((x : X) (k : ℕ) → slice_get xs k ≡ Some x → test x ≡ true) → ((y : X) (k : ℕ) → slice_get ys k ≡ Some y → test y ≡ false) →
    filter test (standing_at (xs ++ ys) i) ≡ standing_at xs i
tested-at test [] ys i h others = none-at test ys i others
tested-at test (x ∷ xs) ys zero h others = rw (h x zero refl) refl
tested-at test (x ∷ xs) ys (suc i) h others = tested-at test xs ys i (λ z k e. h z (suc k) e) others

filter-more : {X : Type 0} (test : X → Bool) (x : X) (xs ys : List X) (b : Bool) → test x ≡ b → filter test (xs ++ ys) ≡ filter test xs ++ filter test ys → filter test (x ∷ xs ++ ys) ≡ filter test (x ∷ xs) ++ filter test ys
filter-more test x xs ys true e h = rw e (ap (λ zs. x ∷ zs) h)
filter-more test x xs ys false e h = rw e h

filter-two : {X : Type 0} (test : X → Bool) (xs ys : List X) → filter test (xs ++ ys) ≡ filter test xs ++ filter test ys
filter-two test [] ys = refl
filter-two test (x ∷ xs) ys = filter-more test x xs ys (test x) refl (filter-two test xs ys)

tested : {X : Type 0} (test : X → Bool) (xs ys : List X) (places : List ℕ) → ((x : X) (k : ℕ) → slice_get xs k ≡ Some x → test x ≡ true) → ((y : X) (k : ℕ) → slice_get ys k ≡ Some y → test y ≡ false) →
    filter test (standing (xs ++ ys) places) ≡ standing xs places
tested test xs ys [] h others = refl
tested test xs ys (i ∷ is) h others = filter-two test (standing_at (xs ++ ys) i) (standing (xs ++ ys) is) ∙ (λ k. tested-at test xs ys i h others k ++ tested test xs ys is h others k)

are-sets : (cs : List Text) (x : Item) (k : ℕ) → slice_get (map (λ c. objects_of c) cs) k ≡ Some x → is_of_objects x ≡ true
are-sets [] x k e = absurd (cc)
are-sets (c ∷ cs) x zero e = let same : objects_of c ≡ x = cc in ap is_of_objects (sym same)
are-sets (c ∷ cs) x (suc k) e = are-sets cs x k e

are-first : (cs : List Text) (x : Item) (k : ℕ) → slice_get (all_objects ∷ map (λ c. objects_of c) cs) k ≡ Some x → is_of_objects x ≡ true
are-first cs x zero e = let same : all_objects ≡ x = cc in ap is_of_objects (sym same)
are-first cs x (suc k) e = are-sets cs x k e

no-sets : (ms : List Member) (x : Item) (k : ℕ) → slice_get (map (λ m. of_member m) ms) k ≡ Some x → is_of_objects x ≡ false
no-sets [] x k e = absurd (cc)
no-sets (m ∷ ms) x zero e = let same : of_member m ≡ x = cc in ap is_of_objects (sym same)
no-sets (m ∷ ms) x (suc k) e = no-sets ms x k e

-- the sets of objects, which come first among all state
abbrev sets : Program → List Item
sets p = all_objects ∷ map (λ c. objects_of c) (all_classes p.classes)

count-sets : (p : Program) → length (sets p) ≡ length p.classes + 2
count-sets p =
    ap suc (length-map (all_classes p.classes) (λ c. objects_of c) ∙ length-append p.classes (codes "Object" ∷ []))
    ∙ (omega arith)

first-sets : (p : Program) → take (length p.classes + 2) (items p) ≡ sets p
first-sets p = take_at (sets p) (map (λ m. of_member m) p.members) (length p.classes + 2) (count-sets p)

-- the names at the places of what a method may write
pub written-are : (o : Outline) (x : Callable) (made : List SortedName) (t : Listing) → made ≡ standing o.state.now x.written.now → IsOutline t o → IsCallable o x →
    sorted_in made ≡ map sorted_item (items_where (program_in o) ((writes_in o).written (callee_of x)))
written-are o x made t e h at =
    ap sorted_in e ∙ view-standing sorted_of o.state.now x.written.now ∙ ap (λ xs. standing xs x.written.now) h.names ∙ sym (view-standing sorted_item (items (program_in o)) x.written.now)
    ∙ ap (map sorted_item) (ap (standing (items (program_in o))) at.written ∙ sym (h.writes (callee_of x)))

-- and of those that are sets of objects
pub sets-are : (o : Outline) (x : Callable) (first made : List SortedName) (t : Listing) → first ≡ take (length o.classes.now + 2) o.state.now → made ≡ standing first x.written.now → IsOutline t o → IsCallable o x →
    sorted_in made ≡ map sorted_item (filter is_of_objects (items_where (program_in o) ((writes_in o).written (callee_of x))))
sets-are o x first made t f e h at =
    let p = program_in o in
    let n = length o.classes.now + 2 in
    let named : sorted_in first ≡ map sorted_item (sets p) =
    ap sorted_in f ∙ sym (take-map sorted_of n o.state.now) ∙ ap (take n) h.names ∙ take-map sorted_item n (items p) ∙ ap (map sorted_item) (ap (λ cs. take (length cs + 2) (items p)) (sym (program-classes o)) ∙ first-sets p) in
    ap sorted_in e ∙ view-standing sorted_of first x.written.now ∙ ap (λ xs. standing xs x.written.now) named ∙ sym (view-standing sorted_item (sets p) x.written.now)
    ∙ ap (map sorted_item) (sym (tested is_of_objects (sets p) (map (λ z. of_member z) p.members) x.written.now (are-first (all_classes p.classes)) (no-sets p.members)) ∙ ap (filter is_of_objects) (ap (standing (items p)) at.written ∙ sym (h.writes (callee_of x))))

pub ruleset item_steps = (written-are, sets-are)
