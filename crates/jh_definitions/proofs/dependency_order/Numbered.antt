-- Definitions by their numbers: what reads what, and what reads itself.
use Rattle.std.proofs.Common.{◌≡◌, refl, sym, ap, subst, ◌∙◌, ◌⊎◌, inl, inr, ℕ, zero, suc, ◌<◌, List, [], ◌∷◌, ◌++◌, map, length, slice_get, Option, Some, None, option_map}
use Rattle.std.specs.List.{Contains}
use Rattle.std.specs.Option.{option_map_or}
use Rattle.std.proofs.lemmas.List.{length-map}
use Rattle.std.proofs.lemmas.Option.{slice_get_within, slice_get-get_or, slice_get-map, get_or_from_slice_get}
use Rattle.jh_ast.specs.Bare.{form_tree}
use Rattle.jh_ast.specs.Programs.{ProgramTree, DefPart}
use Rattle.jh_rules.specs.Names.{declared_in, def_of}
use Rattle.jh_rules.specs.Words.{text_of}
use Rattle.jh_symbols.specs.declared.member_numbers.numbers.Numbers.{Numbers}
use Rattle.jh_symbols.specs.member_numbers.Numbering.{number_in}
use Rattle.jh_containers.specs.topological_order.Orders.{reads_of, Reaches, directly, through, AreThingsRead}
use Rattle.jh_containers.specs.transitive_closure.Spreads.{IsIn}
use Rattle.jh_vars.specs.States.{State, Variable, variable_of}
use Rattle.jh_vars.specs.Reading.{reads, definition_reads, Reads, IsCyclic, IsFirst}
use Rattle.jh_vars.specs.Reading as reading
use Rattle.jh_definitions.specs.declared.expansion.opening.Definition.{Definition}
use Rattle.jh_definitions.specs.expansion.Opening.{AreDefinitions, defined_by}
use Rattle.jh_definitions.specs.dependency_order.Defining.{AreNumbered, AreAll, number_of, numbers_of, row_of, ReadsItself}

some-is : {X : Type 0} (a b : X) → Some a ≡ Some b → a ≡ b
some-is a b e = cc

none-some : {X : Type 0} (a : X) → None ≡ Some a → ⊥
none-some a e = cc

none-in : {X : Type 0} (x : X) → IsIn [] x → ⊥
none-in x (zero, e) = cc
none-in x (suc i, e) = cc

pub contains-get : {X : Type 0} (xs : List X) (x : X) → Contains xs x → (j : ℕ) × (slice_get xs j ≡ Some x)
contains-get xs x h = (h.0, slice_get-get_or xs h.0 x h.1 ∙ ap Some h.2)

pub get-contains : {X : Type 0} (xs : List X) (j : ℕ) (x : X) → slice_get xs j ≡ Some x → Contains xs x
get-contains xs j x e = (j, slice_get_within xs j x e, get_or_from_slice_get xs j x x e)

pub in-front : {X : Type 0} (xs ys : List X) (x : X) → IsIn xs x → IsIn (xs ++ ys) x
in-front [] ys x h = absurd (none-in x h)
in-front (z ∷ xs) ys x (zero, e) = (0, e)
in-front (z ∷ xs) ys x (suc i, e) = let k = in-front xs ys x (i, e) in (suc k.0, k.1)

pub in-back : {X : Type 0} (xs ys : List X) (x : X) → IsIn ys x → IsIn (xs ++ ys) x
in-back [] ys x h = h
in-back (z ∷ xs) ys x h = let k = in-back xs ys x h in (suc k.0, k.1)

in-either : {X : Type 0} (xs ys : List X) (x : X) → IsIn (xs ++ ys) x → IsIn xs x ⊎ IsIn ys x
in-either [] ys x h = inr h
in-either (z ∷ xs) ys x (zero, e) = inl (0, e)
in-either (z ∷ xs) ys x (suc i, e) = next (in-either xs ys x (i, e))
  where
    next : IsIn xs x ⊎ IsIn ys x → IsIn (z ∷ xs) x ⊎ IsIn ys x
    next (inl k) = inl (suc k.0, k.1)
    next (inr k) = inr k

-- the numbers of what is read
module _ (numbers : Numbers) where
  number-to : (y : State) (m : ℕ) → number_in numbers y.entry.class y.name ≡ Some m → IsIn (number_of numbers y) m
  number-to y m e = subst (λ (o : Option ℕ). IsIn (option_map_or (λ k. k ∷ []) o []) m) (sym e) (0, refl)

  number-from : (y : State) (m : ℕ) → IsIn (number_of numbers y) m → number_in numbers y.entry.class y.name ≡ Some m
  number-from y m h = by (number_in numbers y.entry.class y.name) h
    where
      by : (o : Option ℕ) → IsIn (option_map_or (λ k. k ∷ []) o []) m → o ≡ Some m
      by None k = absurd (none-in m k)
      by (Some n) (zero, e) = e
      by (Some n) (suc i, e) = cc

  pub numbers-to : (ys : List State) (j : ℕ) (y : State) (m : ℕ) → slice_get ys j ≡ Some y → number_in numbers y.entry.class y.name ≡ Some m → IsIn (numbers_of numbers ys) m
  numbers-to [] zero y m e n = cc
  numbers-to [] (suc j) y m e n = cc
  numbers-to (z ∷ ys) zero y m e n = in-front (number_of numbers z) (numbers_of numbers ys) m (subst (λ (w : State). IsIn (number_of numbers w) m) (sym (some-is z y e)) (number-to y m n))
  numbers-to (z ∷ ys) (suc j) y m e n = in-back (number_of numbers z) (numbers_of numbers ys) m (numbers-to ys j y m e n)

  numbers-from : (ys : List State) (m : ℕ) → IsIn (numbers_of numbers ys) m → (j : ℕ) × (y : State) × (slice_get ys j ≡ Some y) × (number_in numbers y.entry.class y.name ≡ Some m)
  numbers-from [] m h = absurd (none-in m h)
  numbers-from (z ∷ ys) m h = by (in-either (number_of numbers z) (numbers_of numbers ys) m h) (λ k. numbers-from ys m k)
    where
      by : IsIn (number_of numbers z) m ⊎ IsIn (numbers_of numbers ys) m → (IsIn (numbers_of numbers ys) m → (j : ℕ) × (y : State) × (slice_get ys j ≡ Some y) × (number_in numbers y.entry.class y.name ≡ Some m)) → (j : ℕ) × (y : State) × (slice_get (z ∷ ys) j ≡ Some y) × (number_in numbers y.entry.class y.name ≡ Some m)
      by (inl k) rest = (0, z, refl, number-from z m k)
      by (inr k) rest = let w = rest k in (suc w.0, w.1, w.2, w.3)

module _ (p : ProgramTree) (numbers : Numbers) (ds : List Definition) (rows : List (List ℕ)) (numbered : AreNumbered numbers ds) (sound : AreDefinitions p ds) (all : AreAll p numbers) (is : rows ≡ map (row_of (declared_in p) numbers) ds) where
  -- what a definition of the list reads is what the definition of its variable reads
  pub reads-of : (k : ℕ) (d : Definition) → slice_get ds k ≡ Some d → definition_reads p (defined_by d) ≡ reads (declared_in p) (form_tree d.body.now) d.class []
  reads-of k d e =
      let w = sound k d e in
      ap (λ o. option_map_or (λ (c : DefPart). reads (declared_in p) c.spec.form d.class []) o []) w.found ∙ ap (λ a. reads (declared_in p) a d.class []) w.form

  pub row-at : (k : ℕ) (d : Definition) → slice_get ds k ≡ Some d → reads_of rows k ≡ numbers_of numbers (definition_reads p (defined_by d))
  row-at k d e =
      ap (λ rs. option_map_or (λ ms. ms) (slice_get rs k) []) is ∙ ap (λ o. option_map_or (λ ms. ms) o []) (slice_get-map (row_of (declared_in p) numbers) ds k ∙ ap (option_map (row_of (declared_in p) numbers)) e)
      ∙ ap (numbers_of numbers) (sym (reads-of k d e))

  pub row-of : (v : Variable) (k : ℕ) → number_in numbers v.class v.name ≡ Some k → reads_of rows k ≡ numbers_of numbers (definition_reads p v)
  row-of v k e =
      let w = numbered.there v.class v.name k e in
      row-at k w.0 w.1 ∙ (λ i. numbers_of numbers (definition_reads p (record { class = w.2 i; name = w.3 i })))

  -- what has a row is in the list
  row-inside : (r m : ℕ) → IsIn (reads_of rows r) m → (d : Definition) × (slice_get ds r ≡ Some d)
  row-inside r m h = by (slice_get ds r) refl
    where
      by : (o : Option Definition) → slice_get ds r ≡ o → (d : Definition) × (slice_get ds r ≡ Some d)
      by (Some d) e = (d, e)
      by None e = absurd (none-in m (subst (λ (ms : List ℕ). IsIn ms m) (ap (λ rs. option_map_or (λ ms. ms) (slice_get rs r) []) is ∙ ap (λ o. option_map_or (λ ms. ms) o []) (slice_get-map (row_of (declared_in p) numbers) ds r ∙ ap (option_map (row_of (declared_in p) numbers)) e)) h))

  pub things-read : AreThingsRead rows
  things-read r m h =
      let d = row-inside r m h in
      let w = numbers-from numbers (definition_reads p (defined_by d.0)) m (subst (λ (ms : List ℕ). IsIn ms m) (row-at r d.0 d.1) h) in
      let t = numbered.there w.1.entry.class w.1.name m w.3 in
      subst (λ (n : ℕ). m < n) (sym (ap length is ∙ length-map ds (row_of (declared_in p) numbers))) (slice_get_within ds m t.0 t.1)

  -- a variable without a definition reads nothing
  no-reads : (v : Variable) (y : State) → def_of p v.class v.name ≡ None → Contains (definition_reads p v) y → ⊥
  no-reads v y e h =
      let w = contains-get (definition_reads p v) y h in
      none-in y (w.0, ap (λ ys. slice_get ys w.0) (sym (ap (λ o. option_map_or (λ (c : DefPart). reads (declared_in p) c.spec.form v.class []) o []) e)) ∙ w.1)

  pub reads-none : (v : Variable) (y : State) → def_of p v.class v.name ≡ None → Reads p v y → ⊥
  reads-none v y e (reading.directly _ _ c) = no-reads v y e c
  reads-none v y e (reading.through _ z _ c r) = no-reads v z e c

  -- what is reached is read
  pub reach-to : (a b : ℕ) → Reaches rows a b → (v : Variable) → number_in numbers v.class v.name ≡ Some a → (y : State) × Reads p v y × (number_in numbers y.entry.class y.name ≡ Some b)
  reach-to a b (directly _ _ k) v e =
      let w = numbers-from numbers (definition_reads p v) b (subst (λ (ms : List ℕ). IsIn ms b) (row-of v a e) k) in
      (w.1, reading.directly v w.1 (get-contains (definition_reads p v) w.0 w.1 w.2), w.3)
  reach-to a b (through _ c _ k r) v e =
      let w = numbers-from numbers (definition_reads p v) c (subst (λ (ms : List ℕ). IsIn ms c) (row-of v a e) k) in
      let z = reach-to c b r (variable_of w.1) w.3 in
      (z.0, reading.through v w.1 z.0 (get-contains (definition_reads p v) w.0 w.1 w.2) z.1, z.2)

  -- what is read is reached
  pub reach-from : (v : Variable) (y : State) → Reads p v y → (a b : ℕ) → number_in numbers v.class v.name ≡ Some a → number_in numbers y.entry.class y.name ≡ Some b → Reaches rows a b
  reach-from v y (reading.directly _ _ c) a b e f =
      let w = contains-get (definition_reads p v) y c in
      directly a b (subst (λ (ms : List ℕ). IsIn ms b) (sym (row-of v a e)) (numbers-to numbers (definition_reads p v) w.0 y b w.1 f))
  reach-from v y (reading.through _ z _ c r) a b e f = by (number_in numbers z.entry.class z.name) refl (λ m h. reach-from (variable_of z) y r m b h f)
    where
      by : (o : Option ℕ) → number_in numbers z.entry.class z.name ≡ o → ((m : ℕ) → number_in numbers z.entry.class z.name ≡ Some m → Reaches rows m b) → Reaches rows a b
      by None h rest = absurd (reads-none (variable_of z) y (all z.entry.class z.name h) r)
      by (Some m) h rest =
          let w = contains-get (definition_reads p v) z c in
          through a m b (subst (λ (ms : List ℕ). IsIn ms m) (sym (row-of v a e)) (numbers-to numbers (definition_reads p v) w.0 z m w.1 h)) (rest m h)

  same-key : (v w : Variable) (k : ℕ) → number_in numbers v.class v.name ≡ Some k → number_in numbers w.class w.name ≡ Some k → v ≡ w
  same-key v w k e f =
      let a = numbered.there v.class v.name k e in
      let b = numbered.there w.class w.name k f in
      let same : a.0 ≡ b.0 = some-is a.0 b.0 (sym a.1 ∙ b.1) in
      (λ i. record { class = sym a.2 i; name = sym a.3 i }) ∙ ap defined_by same ∙ (λ i. record { class = b.2 i; name = b.3 i })

  pub cyclic-to : (v : Variable) → ReadsItself numbers rows v → IsCyclic p v
  cyclic-to v h = let w = reach-to h.0 h.0 h.2 v h.1 in record { read = w.0; itself = same-key (variable_of w.0) v h.0 w.2 h.1; reads = w.1 }

  pub cyclic-from : (v : Variable) → IsCyclic p v → ReadsItself numbers rows v
  cyclic-from v h = by (number_in numbers v.class v.name) refl
    where
      by : (o : Option ℕ) → number_in numbers v.class v.name ≡ o → ReadsItself numbers rows v
      by None e = absurd (reads-none v h.read (all v.class v.name e) h.reads)
      by (Some k) e = (k, e, reach-from v h.read h.reads k k e ((λ i. number_in numbers (h.itself i).class (h.itself i).name) ∙ e))

  -- a thing that reads itself is the definition of a cyclic variable
  pub thing-cyclic : (k : ℕ) (d : Definition) → slice_get ds k ≡ Some d → Reaches rows k k → IsCyclic p (defined_by d)
  thing-cyclic k d at r = by (number_in numbers d.class (text_of d.word.now)) refl
    where
      v : Variable
      v = defined_by d

      by : (o : Option ℕ) → number_in numbers d.class (text_of d.word.now) ≡ o → IsCyclic p v
      by None e = absurd (none-some (sound k d at).part (sym (all d.class (text_of d.word.now) e) ∙ (sound k d at).found))
      by (Some j) e = again (reached r)
        where
          reached : Reaches rows k k → (y : State) × Reads p v y × (number_in numbers y.entry.class y.name ≡ Some k)
          reached (directly _ _ h) =
              let w = numbers-from numbers (definition_reads p v) k (subst (λ (ms : List ℕ). IsIn ms k) (row-at k d at) h) in
              (w.1, reading.directly v w.1 (get-contains (definition_reads p v) w.0 w.1 w.2), w.3)
          reached (through _ c _ h s) =
              let w = numbers-from numbers (definition_reads p v) c (subst (λ (ms : List ℕ). IsIn ms c) (row-at k d at) h) in
              let z = reach-to c k s (variable_of w.1) w.3 in
              (z.0, reading.through v w.1 z.0 (get-contains (definition_reads p v) w.0 w.1 w.2) z.1, z.2)

          again : ((y : State) × Reads p v y × (number_in numbers y.entry.class y.name ≡ Some k)) → IsCyclic p v
          again w =
              let t = numbered.there w.0.entry.class w.0.name k w.2 in
              let same : t.0 ≡ d = some-is t.0 d (sym t.1 ∙ at) in
              record { read = w.0; itself = (λ i. record { class = sym t.2 i; name = sym t.3 i }) ∙ ap defined_by same; reads = w.1 }

-- the first of which something is so is the first of which the same is said otherwise
pub first-other : {X : Type 0} (H K : X → Type 0) (xs : List X) (x : X) → ((y : X) → H y → K y) → ((y : X) → K y → H y) → IsFirst H xs x → IsFirst K xs x
first-other H K xs x to from f = record { before = f.before; behind = f.behind; stands = f.stands; here = to x f.here; none_before = λ y c k. f.none_before y c (from y k) }
