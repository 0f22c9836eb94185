-- Nodes, names, labels and lists of fields stand in a table, and lists of fields are below a node.
use Rattle.std.proofs.Common.{◌≡◌, sym, ap, ◌∙◌, ℕ, zero, suc, ◌+◌, ◌<◌, true, List, [], ◌∷◌, ◌++◌, length, slice_get, Some, is_some, arith}
use Rattle.std.specs.Prelude.{Option}
use Rattle.jh_name.specs.declared.naming.Name.{Name}
use Rattle.jh_form.specs.declared.mark.Mark.{Mark}
use Rattle.jh_form.specs.Tree.{ValueTree}
use Rattle.jh_arena.specs.table.Entries.{the_name, the_mark, the_list, is_object, is_number, is_set, is_field, is_truth}
use Rattle.jh_arena.proofs.table.Below.{inside}
use Rattle.jh_arena.proofs.table.Growing.{object-some, number-some, set-some, field-some, truth-some}
use Rattle.jh_export.specs.Standing.{AreBelow}

pub term-inside : (ts : List ValueTree) (n : ℕ) → is_object (slice_get ts n) ≡ true → n < length ts
term-inside ts n h = inside ts n (object-some (slice_get ts n) h)

pub int-inside : (ts : List ValueTree) (n : ℕ) → is_number (slice_get ts n) ≡ true → n < length ts
int-inside ts n h = inside ts n (number-some (slice_get ts n) h)

pub set-inside : (ts : List ValueTree) (n : ℕ) → is_set (slice_get ts n) ≡ true → n < length ts
set-inside ts n h = inside ts n (set-some (slice_get ts n) h)

pub field-inside : (ts : List ValueTree) (n : ℕ) → is_field (slice_get ts n) ≡ true → n < length ts
field-inside ts n h = inside ts n (field-some (slice_get ts n) h)

pub formula-inside : (ts : List ValueTree) (n : ℕ) → is_truth (slice_get ts n) ≡ true → n < length ts
formula-inside ts n h = inside ts n (truth-some (slice_get ts n) h)

pub ruleset inside_steps = (term-inside, int-inside, set-inside, field-inside, formula-inside)

pub pool-inside : {X : Type 0} (xs : List X) (n : ℕ) → is_some (slice_get xs n) ≡ true → n < length xs
pool-inside {X} xs n h = inside xs n h

pub name-there : (o : Option Name) (x : Name) → o ≡ Some x → x ≡ the_name o
unfolding the_name
name-there o x e = sym (ap the_name e)

pub mark-there : (o : Option Mark) (x : Mark) → o ≡ Some x → x ≡ the_mark o
unfolding the_mark
mark-there o x e = sym (ap the_mark e)

pub list-there : (o : Option (List ℕ)) (x : List ℕ) → o ≡ Some x → x ≡ the_list o
unfolding the_list
list-there o x e = sym (ap the_list e)

pub ruleset pool_steps = (pool-inside, name-there, mark-there, list-there)

-- an item of a list stands there also where others follow
first-at : (xs ys : List ℕ) (j k : ℕ) → slice_get xs j ≡ Some k → slice_get (xs ++ ys) j ≡ Some k
first-at [] ys j k h = absurd (cc)
first-at (x ∷ xs) ys zero k h = h
first-at (x ∷ xs) ys (suc j) k h = first-at xs ys j k h

-- an item of a list stands behind those before it
later-at : (xs ys : List ℕ) (j k : ℕ) → slice_get ys j ≡ Some k → slice_get (xs ++ ys) (length xs + j) ≡ Some k
later-at [] ys j k h = let e : 0 + j ≡ j = omega arith in ap (λ m. slice_get ys m) e ∙ h
later-at (x ∷ xs) ys j k h =
    let e : length (x ∷ xs) + j ≡ suc (length xs + j) = omega arith in
    ap (λ m. slice_get (x ∷ (xs ++ ys)) m) e ∙ later-at xs ys j k h

pub fields-below : (i : ℕ) (xs ys : List ℕ) → ((j k : ℕ) → slice_get (xs ++ ys) j ≡ Some k → k < i) → AreBelow i xs
fields-below i xs ys h = record { below = λ j k e. h j k (first-at xs ys j k e) }

pub own-below : (i : ℕ) (xs ys : List ℕ) (j k : ℕ) → ((j k : ℕ) → slice_get (xs ++ ys) j ≡ Some k → k < i) → slice_get ys j ≡ Some k → k < i
own-below i xs ys j k h e = h (length xs + j) k (later-at xs ys j k e)
