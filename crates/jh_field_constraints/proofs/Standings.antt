-- Nodes one by one: as the table grows, one more, at a place; and what stands at a node of a sort.
use Rattle.std.proofs.Common.{◌≡◌, refl, sym, ap, subst, ◌∙◌, ℕ, zero, suc, ◌+◌, ◌<◌, ◌≤◌, Bool, true, false, ◌||◌, if◌then◌else◌, List, [], ◌∷◌, ◌++◌, map, take, length, slice_get, Option, Some, None, is_some, nat_eq, add-one, arith}
use Rattle.std.specs.List.{list_any}
use Rattle.std.proofs.lemmas.Bool.{true≢false, eqb-true, eq-eqb}
use Rattle.std.proofs.lemmas.List.{take_all}
use Rattle.std.proofs.lemmas.Option.{slice_get_within}
use Rattle.indexmap.specs.IndexSet.{insert_key, insert_all}
use Rattle.jh_name.specs.declared.naming.Name.{Name}
use Rattle.jh_form.specs.Tree.{TermTree, FieldTree, ValueTree, FormulaTree, of_object, of_field, of_truth, free_field, read_object}
use Rattle.jh_name.specs.declared.place.Sort.{Sort}
use Rattle.jh_form.specs.Closed.{is_closed_value, is_closed_formula}
use Rattle.jh_form.specs.Passing.{name_equal, value_passes, formula_passes}
use Rattle.jh_form.proofs.Names.{name_equal-same, name_equal-true}
use Rattle.jh_arena.specs.table.Entries.{Listing, is_object, is_field, is_truth, the_object, the_field, the_truth, the_value}
use Rattle.jh_arena.specs.table.Growth.{Extends, AreDifferent}
use Rattle.jh_arena.specs.table.Nodes.{nodes}
use Rattle.jh_arena.proofs.table.Children.{it-is-object, it-is-field, it-is-truth}
use Rattle.jh_boxed.specs.Mapped.{mapped_term, mapped_value}
use Rattle.jh_substitution.specs.simultaneous.Lifted.{lifting}
use Rattle.jh_normal_forms.specs.parts.Standing.{value_parts, formula_parts}
use Rattle.jh_normal_forms.specs.declared.parts.order.Order.TheVariants as order
use Rattle.jh_reach.proofs.Standings.{map-more}
use Rattle.jh_field_constraints.specs.Standing.{Are, IsFormula, IsTerm, IsField, IsNamed, IsRead, AreTerms, AreNames}
use Rattle.jh_field_constraints.proofs.Onces.{equal_terms, terms-sound, terms-whole}

-- ---- what stands at a node

pub truth-of : (o : Option ValueTree) → is_truth o ≡ true → o ≡ Some (of_truth (the_truth o))
truth-of o h = it-is-truth o h

pub truth-there : (o : Option ValueTree) (a : FormulaTree) → o ≡ Some (of_truth a) → is_truth o ≡ true
unfolding is_truth
truth-there o a e = ap is_truth e

pub truth-at : (o : Option ValueTree) (a : FormulaTree) → o ≡ Some (of_truth a) → the_truth o ≡ a
unfolding the_truth
truth-at o a e = ap the_truth e

pub truth-inside : (ts : List ValueTree) (n : ℕ) → is_truth (slice_get ts n) ≡ true → n < length ts
truth-inside ts n h = slice_get_within ts n (of_truth (the_truth (slice_get ts n))) (truth-of (slice_get ts n) h)

-- a formula stays where it is while the table grows
pub truth-stays : (v w : Listing) (n : ℕ) → Extends v w → is_truth (slice_get (nodes v) n) ≡ true → slice_get (nodes w) n ≡ Some (of_truth (the_truth (slice_get (nodes v) n)))
truth-stays v w n g h = g.nodes.keeps n (of_truth (the_truth (slice_get (nodes v) n))) (truth-of (slice_get (nodes v) n) h)

pub object-of : (o : Option ValueTree) → is_object o ≡ true → o ≡ Some (of_object (the_object o))
object-of o h = it-is-object o h

pub object-there : (o : Option ValueTree) (a : TermTree) → o ≡ Some (of_object a) → is_object o ≡ true
unfolding is_object
object-there o a e = ap is_object e

pub object-at : (o : Option ValueTree) (a : TermTree) → o ≡ Some (of_object a) → the_object o ≡ a
unfolding the_object
object-at o a e = ap the_object e

pub field-of : (o : Option ValueTree) → is_field o ≡ true → o ≡ Some (of_field (the_field o))
field-of o h = it-is-field o h

pub field-there : (o : Option ValueTree) (a : FieldTree) → o ≡ Some (of_field a) → is_field o ≡ true
unfolding is_field
field-there o a e = ap is_field e

pub field-at : (o : Option ValueTree) (a : FieldTree) → o ≡ Some (of_field a) → the_field o ≡ a
unfolding the_field
field-at o a e = ap the_field e

pub formula-same : (o : Option ValueTree) (a b : FormulaTree) → o ≡ Some (of_truth a) → o ≡ Some (of_truth b) → a ≡ b
formula-same o a b e f = cc

pub term-same : (o : Option ValueTree) (a b : TermTree) → o ≡ Some (of_object a) → o ≡ Some (of_object b) → a ≡ b
term-same o a b e f = cc

pub field-same : (o : Option ValueTree) (a b : FieldTree) → o ≡ Some (of_field a) → o ≡ Some (of_field b) → a ≡ b
field-same o a b e f = cc

pub name-same : (o : Option ValueTree) (x y : Name) → o ≡ Some (of_field (free_field x)) → o ≡ Some (of_field (free_field y)) → x ≡ y
name-same o x y e f = cc

pub value-inside : (ts : List ValueTree) (n : ℕ) (v : ValueTree) → slice_get ts n ≡ Some v → n < length ts
value-inside ts n v e = slice_get_within ts n v e

-- ---- one by one

-- in another table, or by another relation
pub are-as : {X : Type 0} (R S : ℕ → X → Type 0) → ((n : ℕ) (x : X) → R n x → S n x) → (ns : List ℕ) (xs : List X) → Are R ns xs → Are S ns xs
unfolding Are
are-as R S f [] [] h = tt
are-as R S f [] (x ∷ xs) h = h
are-as R S f (n ∷ ns) [] h = h
are-as R S f (n ∷ ns) (x ∷ xs) h = (f n x h.0, are-as R S f ns xs h.1)

pub are-append : {X : Type 0} (R : ℕ → X → Type 0) (ns ms : List ℕ) (xs ys : List X) → Are R ns xs → Are R ms ys → Are R (ns ++ ms) (xs ++ ys)
unfolding Are
are-append R [] ms [] ys h k = k
are-append R [] ms (x ∷ xs) ys h k = absurd h
are-append R (n ∷ ns) ms [] ys h k = absurd h
are-append R (n ∷ ns) ms (x ∷ xs) ys h k = (h.0, are-append R ns ms xs ys h.1 k)

pub are-push : {X : Type 0} (R : ℕ → X → Type 0) (ns : List ℕ) (n : ℕ) (xs : List X) (x : X) → Are R ns xs → R n x → Are R (ns ++ n ∷ []) (xs ++ x ∷ [])
unfolding Are
are-push R ns n xs x h k = are-append R ns (n ∷ []) xs (x ∷ []) h (k, tt)

pub are-none : {X : Type 0} (R : ℕ → X → Type 0) (ns : List ℕ) → ns ≡ [] → Are R ns []
unfolding Are
are-none R ns e = subst (λ (ms : List ℕ). Are R ms []) (sym e) tt

pub are-length : {X : Type 0} (R : ℕ → X → Type 0) (ns : List ℕ) (xs : List X) → Are R ns xs → length xs ≡ length ns
unfolding Are
are-length R [] [] h = refl
are-length R [] (x ∷ xs) h = absurd h
are-length R (n ∷ ns) [] h = absurd h
are-length R (n ∷ ns) (x ∷ xs) h = ap suc (are-length R ns xs h.1)

pub are-at : {X : Type 0} (R : ℕ → X → Type 0) (ns : List ℕ) (xs : List X) (i n : ℕ) → Are R ns xs → slice_get ns i ≡ Some n → (x : X) × (slice_get xs i ≡ Some x) × R n x
unfolding Are
are-at R [] xs i n h at = absurd (cc)
are-at R (m ∷ ns) [] i n h at = absurd h
are-at R (m ∷ ns) (x ∷ xs) zero n h at = let one : m ≡ n = cc in (x, refl, subst (λ (k : ℕ). R k x) one h.0)
are-at R (m ∷ ns) (x ∷ xs) (suc i) n h at = are-at R ns xs i n h.1 at

pub are-lent : {X : Type 0} (R : ℕ → X → Type 0) (ns ms : List ℕ) (xs : List X) → ms ≡ ns → Are R ns xs → Are R ms xs
are-lent R ns ms xs e h = subst (λ (ks : List ℕ). Are R ks xs) (sym e) h

pub are-said : {X : Type 0} (R : ℕ → X → Type 0) (ns : List ℕ) (xs ys : List X) → xs ≡ ys → Are R ns xs → Are R ns ys
are-said {X = X} R ns xs ys e h = subst (λ (zs : List X). Are R ns zs) e h

pub terms-grow : (t u : Listing) (ns : List ℕ) (more : List TermTree) → Extends t u → AreTerms t ns more → AreTerms u ns more
terms-grow t u ns more g h = are-as (IsTerm t) (IsTerm u) (λ n a at. g.nodes.keeps n (of_object a) at) ns more h

pub names-grow : (t u : Listing) (ns : List ℕ) (xs : List Name) → Extends t u → AreNames t ns xs → AreNames u ns xs
names-grow t u ns xs g h = are-as (IsNamed t) (IsNamed u) (λ n x at. g.nodes.keeps n (of_field (free_field x)) at) ns xs h

-- ---- each once

module _ {X : Type 0} (R : ℕ → X → Type 0) (eq : X → X → Bool) (tells : (n m : ℕ) (v w : X) → R n v → R m w → nat_eq n m ≡ eq v w) where
  has-node : (ks : List ℕ) (vs : List X) (n : ℕ) (v : X) → Are R ks vs → R n v → list_any (nat_eq n) ks ≡ list_any (eq v) vs
  unfolding Are
  has-node [] [] n v h k = refl
  has-node [] (w ∷ vs) n v h k = absurd h
  has-node (m ∷ ks) [] n v h k = absurd h
  has-node (m ∷ ks) (w ∷ vs) n v h k = λ i. tells n m v w k h.0 i || has-node ks vs n v h.1 k i

  inserted-if : (b : Bool) (ks : List ℕ) (vs : List X) (n : ℕ) (v : X) → Are R ks vs → R n v → Are R (if b then ks else ks ++ n ∷ []) (if b then vs else vs ++ v ∷ [])
  inserted-if true ks vs n v h k = h
  inserted-if false ks vs n v h k = are-push R ks n vs v h k

  pub inserted : (ks : List ℕ) (vs : List X) (n : ℕ) (v : X) → Are R ks vs → R n v → Are R (insert_key nat_eq ks n) (insert_key eq vs v)
  inserted ks vs n v h k = subst (λ (b : Bool). Are R (insert_key nat_eq ks n) (if b then vs else vs ++ v ∷ [])) (has-node ks vs n v h k) (inserted-if (list_any (nat_eq n) ks) ks vs n v h k)

  pub all-inserted : (ns ks : List ℕ) (ws vs : List X) → Are R ks vs → Are R ns ws → Are R (insert_all nat_eq ks ns) (insert_all eq vs ws)
  unfolding Are
  all-inserted [] ks [] vs h k = h
  all-inserted [] ks (w ∷ ws) vs h k = absurd k
  all-inserted (n ∷ ns) ks [] vs h k = absurd k
  all-inserted (n ∷ ns) ks (w ∷ ws) vs h k = all-inserted ns (insert_key nat_eq ks n) ws (insert_key eq vs w) (inserted ks vs n w h k.0) k.1

both-ways : (p q : Bool) → (p ≡ true → q ≡ true) → (q ≡ true → p ≡ true) → p ≡ q
both-ways true q h k = sym (h refl)
both-ways false true h k = k refl
both-ways false false h k = refl

pub read-same : (f : Name) (o : Option ValueTree) (a b : TermTree) → o ≡ Some (of_object (read_object (free_field f) a)) → o ≡ Some (of_object (read_object (free_field f) b)) → a ≡ b
read-same f o a b e k = cc

-- two nodes of names are one where the names are, and two reads are where their terms are
pub names-tell : (t : Listing) → AreDifferent (nodes t) → (n m : ℕ) (x y : Name) → IsNamed t n x → IsNamed t m y → nat_eq n m ≡ name_equal x y
names-tell t different n m x y h k =
    both-ways (nat_eq n m) (name_equal x y) (λ e. name_equal-same x y (name-same (slice_get (nodes t) n) x y h (ap (slice_get (nodes t)) (eqb-true n m e) ∙ k)))
    (λ e. eq-eqb n m (different n m (of_field (free_field y)) (h ∙ ap (λ z. Some (of_field (free_field z))) (name_equal-true x y e)) k))

pub reads-tell : (t : Listing) (f : Name) → AreDifferent (nodes t) → (n m : ℕ) (a b : TermTree) → IsRead t f n a → IsRead t f m b → nat_eq n m ≡ equal_terms a b
reads-tell t f different n m a b h k =
    both-ways (nat_eq n m) (equal_terms a b) (λ e. terms-whole a b (read-same f (slice_get (nodes t) n) a b h (ap (slice_get (nodes t)) (eqb-true n m e) ∙ k)))
    (λ e. eq-eqb n m (different n m (of_object (read_object (free_field f) b)) (h ∙ ap (λ z. Some (of_object (read_object (free_field f) z))) (terms-sound a b e)) k))

-- ---- along a list

take-next : {X : Type 0} (xs : List X) (i : ℕ) (x : X) → slice_get xs i ≡ Some x → take (suc i) xs ≡ take i xs ++ x ∷ []
take-next [] i x at = absurd (cc)
take-next (y ∷ xs) zero x at = let one : y ≡ x = cc in ap (λ z. z ∷ []) one
take-next (y ∷ xs) (suc i) x at = ap (λ zs. y ∷ zs) (take-next xs i x at)

-- one more
pub are-next : {X : Type 0} (R : ℕ → X → Type 0) (xs : List X) (i m : ℕ) (x : X) (made now : List ℕ) → Are R made (take i xs) → slice_get xs i ≡ Some x → R m x → now ≡ made ++ m ∷ [] → Are R now (take (i + 1) xs)
are-next R xs i m x made now h at r e =
    are-lent R (made ++ m ∷ []) now (take (i + 1) xs) e
    (are-said R (made ++ m ∷ []) (take i xs ++ x ∷ []) (take (i + 1) xs) (sym (take-next xs i x at) ∙ ap (λ k. take k xs) (sym (add-one i))) (are-push R made m (take i xs) x h r))

pub are-all : {X : Type 0} (R : ℕ → X → Type 0) (xs : List X) (i : ℕ) (made : List ℕ) → length xs ≤ i → Are R made (take i xs) → Are R made xs
are-all R xs i made past h = are-said R made (take i xs) xs (take_all i xs past) h

-- one more, by a function
pub are-map-next : {X Y : Type 0} (R : ℕ → X → Type 0) (f : Y → X) (ys : List Y) (i m : ℕ) (y : Y) (made now : List ℕ) → Are R made (map f (take i ys)) → slice_get ys i ≡ Some y → R m (f y) → now ≡ made ++ m ∷ [] → Are R now (map f (take (i + 1) ys))
are-map-next R f ys i m y made now h at r e =
    are-lent R (made ++ m ∷ []) now (map f (take (i + 1) ys)) e
    (are-said R (made ++ m ∷ []) (map f (take i ys) ++ f y ∷ []) (map f (take (i + 1) ys)) (sym (map-more f ys i y at) ∙ ap (λ k. map f (take k ys)) (sym (add-one i))) (are-push R made m (map f (take i ys)) (f y) h r))

pub are-map-all : {X Y : Type 0} (R : ℕ → X → Type 0) (f : Y → X) (ys : List Y) (i : ℕ) (made : List ℕ) → length ys ≤ i → Are R made (map f (take i ys)) → Are R made (map f ys)
are-map-all R f ys i made past h = are-said R made (map f (take i ys)) (map f ys) (ap (map f) (take_all i ys past)) h

-- ---- of a sort

pub value-same : (o : Option ValueTree) (v w : ValueTree) → o ≡ Some v → o ≡ Some w → v ≡ w
value-same o v w h k = cc

pub object-inside : (ts : List ValueTree) (n : ℕ) → is_object (slice_get ts n) ≡ true → n < length ts
object-inside ts n h = slice_get_within ts n (of_object (the_object (slice_get ts n))) (object-of (slice_get ts n) h)

pub field-inside : (ts : List ValueTree) (n : ℕ) → is_field (slice_get ts n) ≡ true → n < length ts
field-inside ts n h = slice_get_within ts n (of_field (the_field (slice_get ts n))) (field-of (slice_get ts n) h)

some-of : {X : Type 0} (o : Option X) → is_some o ≡ true → (x : X) × (o ≡ Some x)
some-of (Some x) h = (x, refl)
some-of None h = absurd (true≢false (sym h))

pub some-inside : {X : Type 0} (xs : List X) (n : ℕ) → is_some (slice_get xs n) ≡ true → n < length xs
some-inside xs n h = let x = some-of (slice_get xs n) h in slice_get_within xs n x.0 x.1

-- what is asked of the value at a node is asked of the formula there
pub parts-same : (o : Option ValueTree) → is_truth o ≡ true → value_parts (the_value o) order.InnerFirst ≡ formula_parts (the_truth o) order.InnerFirst
unfolding is_truth the_truth the_value value_parts
parts-same (Some (of_truth a)) h = refl
parts-same _ h = absurd (true≢false (sym h))

pub passes-same : (o : Option ValueTree) (test : Name → Sort → Bool) → is_truth o ≡ true → value_passes (the_value o) test ≡ formula_passes (the_truth o) test
unfolding is_truth the_truth the_value value_passes
passes-same (Some (of_truth a)) test h = refl
passes-same _ test h = absurd (true≢false (sym h))

pub closed-same : (o : Option ValueTree) (d : ℕ) → is_truth o ≡ true → is_closed_value (the_value o) d ≡ is_closed_formula (the_truth o) d
unfolding is_truth the_truth the_value is_closed_value
closed-same (Some (of_truth a)) d h = refl
closed-same _ d h = absurd (true≢false (sym h))

-- what is asked of nodes while the table grows
pub truth-grows : (t u : Listing) (n : ℕ) → Extends t u → is_truth (slice_get (nodes t) n) ≡ true → is_truth (slice_get (nodes u) n) ≡ true
truth-grows t u n g h = truth-there (slice_get (nodes u) n) (the_truth (slice_get (nodes t) n)) (truth-stays t u n g h)

pub object-grows : (t u : Listing) (n : ℕ) → Extends t u → is_object (slice_get (nodes t) n) ≡ true → is_object (slice_get (nodes u) n) ≡ true
object-grows t u n g h = object-there (slice_get (nodes u) n) (the_object (slice_get (nodes t) n)) (g.nodes.keeps n (of_object (the_object (slice_get (nodes t) n))) (object-of (slice_get (nodes t) n) h))

-- a term under one more binder
pub risen-object : (o r : Option ValueTree) (a : TermTree) → o ≡ Some (of_object a) → r ≡ Some (mapped_value (the_value o) (lifting 1) 0) → r ≡ Some (of_object (mapped_term a (lifting 1) 0))
unfolding the_value mapped_value
risen-object o r a e h = h ∙ ap (λ z. Some (mapped_value (the_value z) (lifting 1) 0)) e
