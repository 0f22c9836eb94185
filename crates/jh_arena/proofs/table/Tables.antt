-- What is known of a table by its invariant, and that it stays.
use Rattle.std.proofs.Common.{◌≡◌, refl, sym, ap, ◌∙◌, subst, ℕ, zero, suc, ◌+◌, ◌-◌, ◌^◌, ◌<◌, ◌≤◌, ◌⊎◌, inl, inr, min, max, Bool, true, false, if◌then◌else◌, List, [], ◌∷◌, ◌++◌, length, length-append, take, slice_get, Some, None, is_some, arith}
use Rattle.std.specs.Prelude.{Option}
use Rattle.std.specs.List.{list_any}
use Rattle.std.specs.Option.{option_map}
use Rattle.std.specs.Map.{keys_of, values_of}
use Rattle.std.proofs.lemmas.Option.{slice_get-map, slice_get_within}
use Rattle.std.proofs.lemmas.Bool.{true≢false}
use Rattle.indexmap.specs.IndexSet.{insert_key}
use Rattle.jh_form.specs.Tree.{ValueTree}
use Rattle.jh_boxed.specs.Sizes.{value_size, value_depth}
use Rattle.jh_arena.specs.declared.table.shapes.Shape.{Shape}
use Rattle.jh_arena.specs.table.Entries.{Pools, Listing, the_value}
use Rattle.jh_arena.specs.table.Nodes.{fits, shape_tree, listed, well, nodes, fits_in, tree_in}
use Rattle.jh_arena.specs.table.Growth.{Grows, Extends, AreDifferent}
use Rattle.jh_boxed.specs.Parts.{IsChild}
use Rattle.jh_arena.proofs.table.Children.{EachPart, Stands, part-of, each-part}
use Rattle.jh_arena.proofs.table.Unique.{AreApart, nodes-different, shape-known, at-within}
use Rattle.jh_arena.specs.table.Measures.{extent_of, IsTable, AreFacts, AllFacts}
use Rattle.jh_arena.specs.declared.table.facts.Facts.{Facts}
use Rattle.jh_arena.proofs.table.Faces.{facts-at, facts-push, facts-grow, loose-shape, names-shape, turn-shape}
use Rattle.jh_arena.specs.table.Facing.{IsLeast, all_closed, all_pass, marked, own_bits, loose_over, own_turn, turn_below}
use Rattle.std.specs.Int.Bits.{bit_or}
use Rattle.jh_form.specs.Closed.{is_closed_value}
use Rattle.jh_form.specs.Passing.{value_passes}
use Rattle.jh_arena.specs.table.Parts.{parts, ArePartsBelow}
use Rattle.jh_arena.proofs.table.Below.{parts-below}
use Rattle.jh_arena.proofs.table.Extents.{size_at, depth_at, size_sum, depth_max, size_sum-append, depth_max-append, size-parts, depth-parts}
use Rattle.jh_arena.proofs.table.Listed.{grows-refl, grows-append, slice_get-last, PoolsGrow, Placed, listed-push, well-push, length-listed, listed-at, listed-stays, well-stays, placed-tree, placed-fits, placed-below}

-- a pool after a key was inserted
pub grows-insert : {K : Type 0} (eq : K → K → Bool) (ks new : List K) (k : K) → new ≡ insert_key eq ks k → Grows ks new
grows-insert {K} eq ks new k e = subst (λ (l : List K). Grows ks l) (sym e) (by (list_any (eq k) ks))
  where
    by : (b : Bool) → Grows ks (if b then ks else ks ++ k ∷ [])
    by true = grows-refl ks
    by false = grows-append ks (k ∷ [])

-- the invariant, of the table as contracts see it
pub seen : (p : Pools) (xs : List Shape) (es : List Facts) (t : Listing) → record { pools = p; shapes = xs } ≡ t → IsTable p xs es → IsTable t.pools t.shapes es
seen p xs es t e is = subst (λ (u : Listing). IsTable u.pools u.shapes es) e is

module _ (p q : Pools) (xs : List Shape) (es : List Facts) (t : Listing) (view : record { pools = p; shapes = xs } ≡ t) (is : IsTable p xs es) (g : PoolsGrow p q) where
  pub pooled-table : IsTable q xs es
  pooled-table = record {
    well = well-stays p q g [] xs is.well;
    counted = is.counted ∙ ap length (sym (listed-stays p q g [] xs is.well));
    facts = subst (λ (l : List ValueTree). AllFacts q l es) (sym (listed-stays p q g [] xs is.well)) (facts-grow p q g.names (listed p [] xs) es is.facts);
  }

  pub pooled-nodes : listed q [] xs ≡ nodes t
  pooled-nodes = listed-stays p q g [] xs is.well ∙ ap nodes view

  pub pooled-extends : Extends t (record { pools = q; shapes = xs })
  pooled-extends = subst (λ (u : Listing). Extends u (record { pools = q; shapes = xs })) view (record {
    nodes = subst (λ (l : List ValueTree). Grows (listed p [] xs) l) (sym (listed-stays p q g [] xs is.well)) (grows-refl (listed p [] xs));
    names = g.names;
    marks = g.marks;
    lists = g.lists;
  })

pub key-at : {K X : Type 0} (es : List (K × X)) (n : ℕ) (k : K) (v : X) → Some (k, v) ≡ slice_get es n → slice_get (keys_of es) n ≡ Some k
key-at es n k v h = slice_get-map (λ e. e.0) es n ∙ ap (option_map (λ e. e.0)) (sym h)

module _ (t : Listing) (es : List Facts) (is : IsTable t.pools t.shapes es) where
  pub node-placed : (n : ℕ) (x : Shape) → slice_get t.shapes n ≡ Some x → Placed t.pools n x (nodes t)
  node-placed n x h = listed-at t.pools [] t.shapes n n x (omega arith) is.well h

  pub node-tree : (n : ℕ) (x : Shape) → slice_get t.shapes n ≡ Some x → slice_get (nodes t) n ≡ Some (tree_in t x)
  node-tree n x h = placed-tree t.pools n x (nodes t) (node-placed n x h)

  pub node-fits : (n : ℕ) (x : Shape) → slice_get t.shapes n ≡ Some x → fits_in t x ≡ true
  node-fits n x h = placed-fits t.pools n x (nodes t) (node-placed n x h)

  pub node-below : (n : ℕ) (x : Shape) → slice_get t.shapes n ≡ Some x → ArePartsBelow n t.pools.lists x
  node-below n x h = placed-below t.pools n x (nodes t) (node-placed n x h)

  pub facts-of : (n : ℕ) (e : Facts) → slice_get es n ≡ Some e → AreFacts t.pools (the_value (slice_get (nodes t) n)) e
  facts-of n e h = facts-at t.pools (nodes t) es n e is.facts h

  pub size-is : (n : ℕ) (e : Facts) → slice_get es n ≡ Some e → e.extent.nodes ≡ min (size_at (nodes t) n) (2 ^ 64 - 1)
  unfolding extent_of
  size-is n e h = ap (λ z. z.nodes) (facts-of n e h).extent

  pub depth-is : (n : ℕ) (e : Facts) → slice_get es n ≡ Some e → e.extent.depth ≡ min (depth_at (nodes t) n) (2 ^ 64 - 1)
  unfolding extent_of
  depth-is n e h = ap (λ z. z.depth) (facts-of n e h).extent

-- a table with one more node
module _ (p : Pools) (xs : List Shape) (es : List Facts) (is : IsTable p xs es) (x : Shape) (f : fits p (listed p [] xs) x ≡ true) where
  pub pushed-tree : slice_get (listed p [] (xs ++ x ∷ [])) (length xs) ≡ Some (shape_tree p (listed p [] xs) x)
  pushed-tree =
      let all = listed p [] xs in
      let count : length all ≡ length xs = omega (arith, length-listed p [] xs) in
      ap (λ l. slice_get l (length xs)) (listed-push p [] xs x)
      ∙ ap (λ n. slice_get (all ++ shape_tree p all x ∷ []) n) (sym count)
      ∙ slice_get-last all (shape_tree p all x)

  pub pushed-grows : Extends (record { pools = p; shapes = xs }) (record { pools = p; shapes = xs ++ x ∷ [] })
  pushed-grows = record {
    nodes = subst (λ (l : List ValueTree). Grows (listed p [] xs) l) (sym (listed-push p [] xs x)) (grows-append (listed p [] xs) (shape_tree p (listed p [] xs) x ∷ []));
    names = grows-refl p.names;
    marks = grows-refl p.marks;
    lists = grows-refl p.lists;
  }

  pub pushed-table : (e : Facts) → AreFacts p (shape_tree p (listed p [] xs) x) e → IsTable p (xs ++ x ∷ []) (es ++ e ∷ [])
  pushed-table e h = record {
    well = well-push p [] xs x is.well f;
    counted = omega (arith, is.counted, length-append es (e ∷ []), length-append (listed p [] xs) (shape_tree p (listed p [] xs) x ∷ []), ap length (listed-push p [] xs x));
    facts = subst (λ (l : List ValueTree). AllFacts p l (es ++ e ∷ [])) (sym (listed-push p [] xs x)) (facts-push p (listed p [] xs) es (shape_tree p (listed p [] xs) x) e is.facts h);
  }

-- the parts of a shape are among the table's nodes
pub part-inside : (t : Listing) (x : Shape) (i k : ℕ) → fits_in t x ≡ true → slice_get (parts t.pools.lists x) i ≡ Some k → k < length t.shapes
part-inside t x i k f h = omega (arith, parts-below t.pools (nodes t) x f i k h, length-listed t.pools [] t.shapes)

pub take-one : (ns : List ℕ) (i k : ℕ) → slice_get ns i ≡ Some k → take (i + 1) ns ≡ take i ns ++ k ∷ []
take-one ns i k h = let e : i + 1 ≡ suc i = omega arith in ap (λ j. take j ns) e ∙ by ns i h
  where
    by : (xs : List ℕ) (j : ℕ) → slice_get xs j ≡ Some k → take (suc j) xs ≡ take j xs ++ k ∷ []
    by [] j g = cc
    by (y ∷ ys) zero g = cc
    by (y ∷ ys) (suc j) g = ap (λ l. y ∷ l) (by ys j g)

pub take-whole : (ns : List ℕ) (i : ℕ) → i ≡ length ns → take i ns ≡ ns
take-whole [] i h = ap (λ j. take j []) h
take-whole (y ∷ ys) i h = ap (λ j. take j (y ∷ ys)) h ∙ ap (λ l. y ∷ l) (take-whole ys (length ys) refl)

module _ (ts : List ValueTree) (ns : List ℕ) (i k : ℕ) (at : slice_get ns i ≡ Some k) where
  pub size-step : (s e r : ℕ) → s ≡ min (size_sum ts (take i ns)) (2 ^ 64 - 1) → e ≡ min (size_at ts k) (2 ^ 64 - 1) → r ≡ min (s + e) (2 ^ 64 - 1) → r ≡ min (size_sum ts (take (i + 1) ns)) (2 ^ 64 - 1)
  size-step s e r hs he hr =
      let sums : size_sum ts (take (i + 1) ns) ≡ size_sum ts (take i ns) + (size_at ts k + 0) = ap (size_sum ts) (take-one ns i k at) ∙ size_sum-append ts (take i ns) (k ∷ []) in
      omega arith

  pub depth-step : (s e r : ℕ) → s ≡ min (depth_max ts (take i ns)) (2 ^ 64 - 1) → e ≡ min (depth_at ts k) (2 ^ 64 - 1) → r ≡ max s e → r ≡ min (depth_max ts (take (i + 1) ns)) (2 ^ 64 - 1)
  depth-step s e r hs he hr =
      let sums : depth_max ts (take (i + 1) ns) ≡ max (depth_max ts (take i ns)) (max (depth_at ts k) 0) = ap (depth_max ts) (take-one ns i k at) ∙ depth_max-append ts (take i ns) (k ∷ []) in
      omega arith

-- the extent over all parts is that of the shape
pub extent-over : (t : Listing) (x : Shape) (i : ℕ) (s : Facts) (r : Facts) → fits_in t x ≡ true → i ≡ length (parts t.pools.lists x)
    → s.extent.nodes ≡ min (size_sum (nodes t) (take i (parts t.pools.lists x))) (2 ^ 64 - 1)
    → s.extent.depth ≡ min (depth_max (nodes t) (take i (parts t.pools.lists x))) (2 ^ 64 - 1)
    → r.extent.nodes ≡ min (1 + s.extent.nodes) (2 ^ 64 - 1) → r.extent.depth ≡ min (1 + s.extent.depth) (2 ^ 64 - 1)
    → IsLeast (λ d. all_closed d (nodes t) (take i (parts t.pools.lists x))) s.loose → all_pass (marked t.pools.names s.names) (nodes t) (take i (parts t.pools.lists x)) ≡ true
    → r.loose ≡ loose_over x s.loose → r.names ≡ bit_or (own_bits x) s.names
    → IsLeast (λ m. all_pass (turn_below m) (nodes t) (take i (parts t.pools.lists x))) s.turn → r.turn ≡ max (own_turn t.pools.names x) s.turn
    → AreFacts t.pools (tree_in t x) r
unfolding extent_of
extent-over t x i s r f e hn hd rn rd hl hb rl rb ht rt =
    let ns = parts t.pools.lists x in
    let whole : take i ns ≡ ns = take-whole ns i e in
    let sn : s.extent.nodes ≡ min (size_sum (nodes t) ns) (2 ^ 64 - 1) = hn ∙ ap (λ l. min (size_sum (nodes t) l) (2 ^ 64 - 1)) whole in
    let sd : s.extent.depth ≡ min (depth_max (nodes t) ns) (2 ^ 64 - 1) = hd ∙ ap (λ l. min (depth_max (nodes t) l) (2 ^ 64 - 1)) whole in
    let en : r.extent.nodes ≡ min (value_size (tree_in t x)) (2 ^ 64 - 1) = omega (arith, size-parts t.pools (nodes t) x f) in
    let ed : r.extent.depth ≡ min (value_depth (tree_in t x)) (2 ^ 64 - 1) = omega (arith, depth-parts t.pools (nodes t) x f) in
    let ll : IsLeast (λ d. all_closed d (nodes t) ns) s.loose = subst (λ (l : List ℕ). IsLeast (λ d. all_closed d (nodes t) l) s.loose) whole hl in
    let bb : all_pass (marked t.pools.names s.names) (nodes t) ns ≡ true = subst (λ (l : List ℕ). all_pass (marked t.pools.names s.names) (nodes t) l ≡ true) whole hb in
    record {
      extent = λ j. record { nodes = en j; depth = ed j };
      loose = subst (λ (n : ℕ). IsLeast (λ d. is_closed_value (tree_in t x) d) n) (sym rl) (loose-shape t.pools (nodes t) x s.loose f ll);
      names = subst (λ (n : ℕ). value_passes (tree_in t x) (marked t.pools.names n) ≡ true) (sym rb) (names-shape t.pools (nodes t) x s.names f bb);
      turn = turn-shape t.pools (nodes t) x s.turn r.turn f (subst (λ (l : List ℕ). IsLeast (λ m. all_pass (turn_below m) (nodes t) l) s.turn) whole ht) rt;
    }

pub empty-nodes : (p : Pools) (es : List (Shape × Facts)) → es ≡ [] → listed p [] (keys_of es) ≡ []
unfolding listed
empty-nodes p es e = ap (λ l. listed p [] (keys_of l)) e

pub empty-table : (p : Pools) (es : List (Shape × Facts)) → es ≡ [] → IsTable p (keys_of es) (values_of es)
unfolding listed well
empty-table p es e = subst (λ (l : List (Shape × Facts)). IsTable p (keys_of l) (values_of l)) (sym e) (record { well = refl; counted = refl; facts = tt })

module _ (p : Pools) (xs : List Shape) (es : List Facts) (t : Listing) (view : record { pools = p; shapes = xs } ≡ t) (is : IsTable p xs es) (apart : AreApart p xs) where
  pub differ : AreDifferent (nodes t)
  differ = subst (λ (u : Listing). AreDifferent (nodes u)) view (nodes-different p xs apart is.well)

  pub known : (n : ℕ) (x : Shape) → fits_in t x ≡ true → slice_get (nodes t) n ≡ Some (tree_in t x) → slice_get t.shapes n ≡ Some x
  known = subst (λ (u : Listing). (n : ℕ) (x : Shape) → fits_in u x ≡ true → slice_get (nodes u) n ≡ Some (tree_in u x) → slice_get u.shapes n ≡ Some x) view (shape-known p xs apart is.well)

keys-push : {K X : Type 0} (es : List (K × X)) (k : K) (v : X) → keys_of (es ++ (k, v) ∷ []) ≡ keys_of es ++ k ∷ []
keys-push [] k v = refl
keys-push (e ∷ es) k v = ap (λ l. e.0 ∷ l) (keys-push es k v)

values-push : {K X : Type 0} (es : List (K × X)) (k : K) (v : X) → values_of (es ++ (k, v) ∷ []) ≡ values_of es ++ v ∷ []
values-push [] k v = refl
values-push (e ∷ es) k v = ap (λ l. e.1 ∷ l) (values-push es k v)

push-only : {X : Type 0} (xs : List X) (x : X) (n : ℕ) (v : X) → slice_get (xs ++ x ∷ []) n ≡ Some v → (slice_get xs n ≡ Some v) ⊎ (v ≡ x)
push-only [] x zero v h = inr (cc)
push-only [] x (suc n) v h = inl h
push-only (y ∷ xs) x zero v h = inl h
push-only (y ∷ xs) x (suc n) v h = push-only xs x n v h

-- a table to which a new shape was added
module _ (p : Pools) (es new : List (Shape × Facts)) (t : Listing) (view : record { pools = p; shapes = keys_of es } ≡ t) (is : IsTable p (keys_of es) (values_of es))
    (x : Shape) (e : Facts) (after : new ≡ es ++ (x, e) ∷ []) (f : fits_in t x ≡ true) where
  fits-before : fits p (listed p [] (keys_of es)) x ≡ true
  fits-before = subst (λ (u : Listing). fits_in u x ≡ true) (sym view) f

  new-keys : keys_of new ≡ keys_of es ++ x ∷ []
  new-keys = ap keys_of after ∙ keys-push es x e

  pub made-table : AreFacts t.pools (tree_in t x) e → IsTable p (keys_of new) (values_of new)
  made-table h =
      let are : AreFacts p (shape_tree p (listed p [] (keys_of es)) x) e = subst (λ (u : Listing). AreFacts u.pools (tree_in u x) e) (sym view) h in
      let whole : IsTable p (keys_of es ++ x ∷ []) (values_of es ++ e ∷ []) = pushed-table p (keys_of es) (values_of es) is x fits-before e are in
      let keyed : IsTable p (keys_of new) (values_of es ++ e ∷ []) = subst (λ (l : List Shape). IsTable p l (values_of es ++ e ∷ [])) (sym new-keys) whole in
      subst (λ (l : List Facts). IsTable p (keys_of new) l) (sym (ap values_of after ∙ values-push es x e)) keyed

  pub made-extends : Extends t (record { pools = p; shapes = keys_of new })
  made-extends =
      let grown : Extends (record { pools = p; shapes = keys_of es }) (record { pools = p; shapes = keys_of new }) =
      subst (λ (l : List Shape). Extends (record { pools = p; shapes = keys_of es }) (record { pools = p; shapes = l })) (sym new-keys) (pushed-grows p (keys_of es) (values_of es) is x fits-before) in
      subst (λ (u : Listing). Extends u (record { pools = p; shapes = keys_of new })) view grown

  pub made-tree : (n : ℕ) → n ≡ length (keys_of es) → slice_get (listed p [] (keys_of new)) n ≡ Some (tree_in t x)
  made-tree n h =
      ap (λ k. slice_get (listed p [] (keys_of new)) k) h
      ∙ ap (λ l. slice_get (listed p [] l) (length (keys_of es))) new-keys
      ∙ pushed-tree p (keys_of es) (values_of es) is x fits-before
      ∙ ap (λ u. Some (tree_in u x)) view

  pub made-only : (n : ℕ) (v : ValueTree) → slice_get (listed p [] (keys_of new)) n ≡ Some v → (slice_get (nodes t) n ≡ Some v) ⊎ (v ≡ tree_in t x)
  made-only n v h =
      let all = listed p [] (keys_of es) in
      let whole : listed p [] (keys_of new) ≡ all ++ shape_tree p all x ∷ [] = ap (λ l. listed p [] l) new-keys ∙ listed-push p [] (keys_of es) x in
      subst (λ (u : Listing). (slice_get (nodes u) n ≡ Some v) ⊎ (v ≡ tree_in u x)) view (push-only all (shape_tree p all x) n v (ap (λ l. slice_get l n) (sym whole) ∙ h))

  pub made-one : length (listed p [] (keys_of new)) ≤ length (nodes t) + 1
  made-one =
      omega (arith, length-listed p [] (keys_of new), length-listed p [] (keys_of es), ap length new-keys, length-append (keys_of es) (x ∷ []), ap (λ u. length (nodes u)) view)

pub none-found : {X : Type 0} (o : Option X) → false ≡ is_some o → o ≡ None
none-found None h = refl
none-found (Some x) h = absurd (true≢false (sym h))

-- the parts of a node stand before it
pub parts-first : (t : Listing) (es : List Facts) → IsTable t.pools t.shapes es → (n : ℕ) (v w : ValueTree) → slice_get (nodes t) n ≡ Some v → IsChild w v → (m : ℕ) × (m < n) × (slice_get (nodes t) m ≡ Some w)
parts-first t es is n v w h child =
    let s = at-within t.shapes n (omega (arith, slice_get_within (nodes t) n v h, length-listed t.pools [] t.shapes)) in
    let at : Placed t.pools n s.0 (nodes t) = node-placed t es is n s.0 s.1 in
    let same : v ≡ shape_tree t.pools at.before s.0 = cc (at.tree) in
    let each = each-part t.pools at.before s.0 at.fits in
    let found = part-of (Stands at.before) w v child (subst (λ (z : ValueTree). EachPart (Stands at.before) z) (sym same) each) in
    (found.0, omega (arith, slice_get_within at.before found.0 w found.1, at.counted), at.grows.keeps found.0 w found.1)
