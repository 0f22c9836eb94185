-- The order of definitions, from that of their numbers.
use Rattle.std.proofs.Common.{◌≡◌, refl, sym, ap, subst, ◌∙◌, ℕ, zero, suc, ◌<◌, ◌≤◌, nat_eq, Bool, true, false, List, [], ◌∷◌, map, length, slice_get, Option, Some, None, option_map, is_some, arith}
use Rattle.std.specs.List.{list_any}
use Rattle.std.specs.Option.{option_map_or}
use Rattle.std.proofs.lemmas.Bool.{true≢false}
use Rattle.std.proofs.lemmas.List.{length-map}
use Rattle.std.proofs.lemmas.Option.{slice_get_within, slice_get-map}
use Rattle.jh_ast.specs.Programs.{ProgramTree, DefPart}
use Rattle.jh_rules.specs.Names.{declared_in, def_of}
use Rattle.jh_symbols.specs.declared.member_numbers.numbers.Numbers.{Numbers}
use Rattle.jh_symbols.specs.member_numbers.Numbering.{number_in}
use Rattle.jh_containers.specs.topological_order.Orders.{reads_of, Reaches, directly, through, IsOrdered}
use Rattle.jh_containers.proofs.topological_order.Orderings.{any-in, none-in}
use Rattle.jh_containers.specs.transitive_closure.Spreads.{IsIn}
use Rattle.jh_vars.specs.States.{State, Variable, variable_of}
use Rattle.jh_vars.specs.Reading.{reads, definition_reads, IsCyclic, variables}
use Rattle.jh_vars.specs.Following.{AreBefore}
use Rattle.jh_vars.specs.Opened.{all_definitions}
use Rattle.jh_definitions.specs.declared.expansion.opening.Definition.{Definition}
use Rattle.jh_definitions.specs.expansion.Opening.{AreDefinitions, AreInOrder, defined_by}
use Rattle.jh_definitions.specs.dependency_order.Answered.{AreOrdered}
use Rattle.jh_definitions.specs.dependency_order.Defining.{AreNumbered, AreAll, AreTaken, row_of, ReadsItself, IsOfNone}
use Rattle.jh_definitions.proofs.dependency_order.Entries.{said}
use Rattle.jh_definitions.proofs.dependency_order.Numbered.{row-at, reads-none, cyclic-from, thing-cyclic, numbers-to}

some-is : {X : Type 0} (a b : X) → Some a ≡ Some b → a ≡ b
some-is a b e = cc

none-some : {X : Type 0} (a : X) → None ≡ Some a → ⊥
none-some a e = cc

get-at : {X : Type 0} (xs : List X) (i : ℕ) → i < length xs → (x : X) × (slice_get xs i ≡ Some x)
get-at [] i lt = absurd (omega arith)
get-at (x ∷ xs) zero lt = (x, refl)
get-at (x ∷ xs) (suc i) lt = get-at xs i (omega arith)

map-at : (ds : List Definition) (k : ℕ) (v : Variable) → slice_get (map defined_by ds) k ≡ Some v → (d : Definition) × (slice_get ds k ≡ Some d) × (defined_by d ≡ v)
map-at [] zero v e = cc
map-at [] (suc k) v e = cc
map-at (d ∷ ds) zero v e = (d, refl, some-is (defined_by d) v e)
map-at (d ∷ ds) (suc k) v e = map-at ds k v e

-- the conditions of `AreBefore`, one by one
before-all : (p : ProgramTree) (order : List Variable) (k : ℕ) (ys : List State) → ((j : ℕ) (y : State) → slice_get ys j ≡ Some y → y.entry.is_defined ≡ true → (i : ℕ) × (i < k) × (slice_get order i ≡ Some (variable_of y))) → AreBefore p order k ys
before-all p order k [] h = tt
before-all p order k (y ∷ ys) h = (h 0 y refl, before-all p order k ys (λ j z. h (suc j) z))

module _ (p : ProgramTree) (numbers : Numbers) (ds : List Definition) (rows : List (List ℕ)) (numbered : AreNumbered numbers ds) (sound : AreDefinitions p ds) (all : AreAll p numbers) (is : rows ≡ map (row_of (declared_in p) numbers) ds)
    (of_variables : (v : Variable) (d : DefPart) → def_of p v.class v.name ≡ Some d → (j : ℕ) × (slice_get (variables p) j ≡ Some v)) (none : IsOfNone (ReadsItself numbers rows) (variables p))
    (done : List ℕ) (ordered : IsOrdered rows done) (inside : (i r : ℕ) → slice_get done i ≡ Some r → r < length rows) (few : length done ≤ length rows) (enough : length ds ≤ all_definitions p)
    (cycle : (r : ℕ) → r < length rows → (IsIn done r → ⊥) → (x : ℕ) × Reaches rows x x) (made : List Definition) (taken : AreTaken ds done made) where
  long : length rows ≡ length ds
  long = ap length is ∙ length-map ds (row_of (declared_in p) numbers)

  not-cyclic : (v : Variable) → IsCyclic p v → ⊥
  not-cyclic v h = by (def_of p v.class v.name) refl
    where
      by : (o : Option DefPart) → def_of p v.class v.name ≡ o → ⊥
      by None e = reads-none p numbers ds rows numbered sound all is v h.read e h.reads
      by (Some d) e = let w = of_variables v d e in none w.0 v w.1 (cyclic-from p numbers ds rows numbered sound all is v h)

  not-itself : (x : ℕ) → Reaches rows x x → x < length ds → ⊥
  not-itself x r lt = let d = get-at ds x lt in not-cyclic (defined_by d.0) (thing-cyclic p numbers ds rows numbered sound all is x d.0 d.1 r)

  first-thing : (x y : ℕ) → Reaches rows x y → x < length ds
  first-thing x y r = by (slice_get ds x) refl r
    where
      empty : slice_get ds x ≡ None → (m : ℕ) → IsIn (reads_of rows x) m → ⊥
      empty e m h = none-here (subst (λ (ms : List ℕ). IsIn ms m) (ap (λ rs. option_map_or (λ ms. ms) (slice_get rs x) []) is ∙ ap (λ o. option_map_or (λ ms. ms) o []) (slice_get-map (row_of (declared_in p) numbers) ds x ∙ ap (option_map (row_of (declared_in p) numbers)) e)) h)
        where
          none-here : IsIn [] m → ⊥
          none-here (zero, q) = cc
          none-here (suc i, q) = cc

      by : (o : Option Definition) → slice_get ds x ≡ o → Reaches rows x y → x < length ds
      by (Some d) e s = slice_get_within ds x d e
      by None e (directly _ m h) = absurd (empty e m h)
      by None e (through _ m _ h s) = absurd (empty e m h)

  all-done : (r : ℕ) → r < length ds → IsIn done r
  all-done r lt = by (list_any (nat_eq r) done) refl
    where
      missing : list_any (nat_eq r) done ≡ false → ⊥
      missing e = let w = cycle r (subst (λ (n : ℕ). r < n) (sym long) lt) (none-in r done e) in not-itself w.0 w.1 (first-thing w.0 w.0 w.1)

      by : (b : Bool) → list_any (nat_eq r) done ≡ b → IsIn done r
      by true e = any-in r done e
      by false e = absurd (missing e)

  -- what stands at a place of the order
  at-place : (k : ℕ) (e : Definition) → slice_get made k ≡ Some e → (r : ℕ) × (slice_get done k ≡ Some r) × (slice_get ds r ≡ Some e)
  at-place k e q =
      let r = get-at done k (subst (λ (n : ℕ). k < n) taken.long (slice_get_within made k e q)) in
      let w = taken.taken k r.0 r.1 in
      (r.0, r.1, w.1 ∙ sym w.2 ∙ q)

  definitions : AreDefinitions p made
  definitions k e q = let w = at-place k e q in sound w.0 e w.2

  -- the place of a variable that has a number
  place-of : (v : Variable) (m i : ℕ) → number_in numbers v.class v.name ≡ Some m → slice_get done i ≡ Some m → (e : Definition) × (slice_get made i ≡ Some e) × (defined_by e ≡ v)
  place-of v m i e q =
      let w = taken.taken i m q in
      let t = numbered.there v.class v.name m e in
      let same : t.0 ≡ w.0 = some-is t.0 w.0 (sym t.1 ∙ w.1) in
      (w.0, w.2, ap defined_by (sym same) ∙ (λ i. record { class = t.2 i; name = t.3 i }))

  follows : AreInOrder p made
  follows k v q =
      let e = map-at made k v q in
      let w = at-place k e.0 e.1 in
      let d = sound w.0 e.0 w.2 in
      let found : def_of p v.class v.name ≡ Some d.part = (λ i. def_of p (sym e.2 i).class (sym e.2 i).name) ∙ d.found in
      let same : reads (declared_in p) d.part.spec.form v.class [] ≡ definition_reads p (defined_by e.0) = (λ i. reads (declared_in p) d.part.spec.form (sym e.2 i).class []) ∙ sym (ap (λ o. option_map_or (λ (c : DefPart). reads (declared_in p) c.spec.form e.0.class []) o []) d.found) in
      (d.part, found, before-all p (map defined_by made) k (reads (declared_in p) d.part.spec.form v.class []) (before w.0 e.0 w.1 w.2 d.part v.class same))
    where
      before : (r : ℕ) (e : Definition) → slice_get done k ≡ Some r → slice_get ds r ≡ Some e → (c : DefPart) (n : ℕ) → reads (declared_in p) c.spec.form n [] ≡ definition_reads p (defined_by e) →
          (j : ℕ) (y : State) → slice_get (reads (declared_in p) c.spec.form n []) j ≡ Some y → y.entry.is_defined ≡ true → (i : ℕ) × (i < k) × (slice_get (map defined_by made) i ≡ Some (variable_of y))
      before r e at-done at c n same j y z defined = by (number_in numbers y.entry.class y.name) refl
        where
          by : (o : Option ℕ) → number_in numbers y.entry.class y.name ≡ o → (i : ℕ) × (i < k) × (slice_get (map defined_by made) i ≡ Some (variable_of y))
          by None h = absurd (true≢false (sym (said p c.spec.form n [] j y z defined) ∙ ap is_some (all y.entry.class y.name h)))
          by (Some m) h =
              let row = subst (λ (ms : List ℕ). IsIn ms m) (sym (row-at p numbers ds rows numbered sound all is r e at)) (numbers-to numbers (definition_reads p (defined_by e)) j y m (ap (λ ys. slice_get ys j) (sym same) ∙ z) h) in
              let o = ordered k r m at-done row in
              let w = place-of (variable_of y) m o.0 h o.2 in
              (o.0, o.1, slice_get-map defined_by made o.0 ∙ ap (option_map defined_by) w.1 ∙ ap Some w.2)

  pub are-ordered : AreOrdered p made
  are-ordered = record {
    definitions = definitions;
    ordered = follows;
    few = let a : length made ≡ length done = taken.long in let b : length rows ≡ length ds = long in omega arith;
    all = λ v d e. by v d e (number_in numbers v.class v.name) refl;
    none = not-cyclic;
  }
    where
      by : (v : Variable) (d : DefPart) → def_of p v.class v.name ≡ Some d → (o : Option ℕ) → number_in numbers v.class v.name ≡ o → (k : ℕ) × (e : Definition) × (slice_get made k ≡ Some e) × (defined_by e ≡ v)
      by v d e None h = absurd (none-some d (sym (all v.class v.name h) ∙ e))
      by v d e (Some m) h =
          let t = numbered.there v.class v.name m h in
          let i = all-done m (slice_get_within ds m t.0 t.1) in
          let w = place-of v m i.0 h i.1 in
          (i.0, w.0, w.1, w.2)
