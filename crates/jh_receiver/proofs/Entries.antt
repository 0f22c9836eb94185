-- State at the method's entry in the place of state.
use Rattle.std.proofs.Common.{◌≡◌, refl, sym, ap, ◌∙◌, ℕ, ◌<◌, ◌==◌, if◌then◌else◌, Bool, true, false, List, length, slice_get, Option, Some, None, is_some}
use Rattle.std.proofs.lemmas.Bool.{true≢false}
use Rattle.std.specs.List.{list_any}
use Rattle.std.proofs.lemmas.Option.{slice_get_within}
use Rattle.jh_name.specs.declared.naming.Name.{Name}
use Rattle.jh_form.specs.Tree.{ValueTree, of_object, of_number, of_truth, of_set, of_field}
use Rattle.jh_form.specs.Tree as t
use Rattle.jh_arena.specs.table.Entries.{Listing, the_name}
use Rattle.jh_arena.specs.table.Growth.{Extends}
use Rattle.jh_arena.specs.table.Nodes.{nodes, shape_tree, tree_in, fits, fits_in}
use Rattle.jh_arena.specs.declared.table.shapes.Shape.{Shape}
use Rattle.jh_arena.specs.declared.table.shapes.Shape.TheVariants as s
use Rattle.jh_substitution.specs.rewriting.Leaf.{is_leaf}
use Rattle.jh_substitution.specs.rewriting.Rewritten.{leaves_alone, rewritten_value, rewritten_term, rewritten_int, rewritten_set, rewritten_field, rewritten_formula}
use Rattle.jh_substitution.specs.rewriting.Walks.{IsRewritten}
use Rattle.jh_substitution.proofs.rewriting.Sorted.{stays-rewritten, exchanged-rewritten}
use Rattle.jh_vars.specs.Resolved.{at_entry, turned, own}

pub name-is : (o : Option Name) (x : Name) → o ≡ Some x → the_name o ≡ x
unfolding the_name
name-is o x e = ap the_name e

-- the name of state with a dot, and another name
pub turned-dotted : (o : Option Name) (x : Name) (b : Bool) → o ≡ Some x → b ≡ list_any (λ c. c == 46) x.text → b ≡ true → turned (the_name o) ≡ own (the_name o).text 1
turned-dotted o x b e h is =
    let dotted : list_any (λ c. c == 46) (the_name o).text ≡ true = ap (λ (y : Name). list_any (λ c. c == 46) y.text) (name-is o x e) ∙ sym h ∙ is in
    ap (λ d. if d then own (the_name o).text 1 else the_name o) dotted

pub turned-plain : (o : Option Name) (x : Name) (b : Bool) → o ≡ Some x → b ≡ list_any (λ c. c == 46) x.text → b ≡ false → turned (the_name o) ≡ x
turned-plain o x b e h is =
    let plain : list_any (λ c. c == 46) (the_name o).text ≡ false = ap (λ (y : Name). list_any (λ c. c == 46) y.text) (name-is o x e) ∙ sym h ∙ is in
    ap (λ d. if d then own (the_name o).text 1 else the_name o) plain ∙ name-is o x e

-- the name of a free name's shape stands in the pool
within : (xs : List Name) (n : ℕ) (o : Option Name) → slice_get xs n ≡ o → is_some o ≡ true → n < length xs
within xs n (Some x) e h = slice_get_within xs n x e
within xs n None e h = absurd (true≢false (sym h))

module _ (l : Listing) (n : ℕ) (x : Shape) (fit : fits_in l x ≡ true) where
  inside : fits_in l x ≡ is_some (slice_get l.pools.names n) → n < length l.pools.names
  inside e = within l.pools.names n (slice_get l.pools.names n) refl (sym e ∙ fit)

  pub inside-object : x ≡ s.FreeObject n → n < length l.pools.names
  unfolding fits
  inside-object e = inside (ap (fits_in l) e)

  pub inside-number : x ≡ s.FreeNumber n → n < length l.pools.names
  unfolding fits
  inside-number e = inside (ap (fits_in l) e)

  pub inside-truth : x ≡ s.FreeTruth n → n < length l.pools.names
  unfolding fits
  inside-truth e = inside (ap (fits_in l) e)

  pub inside-set : x ≡ s.FreeSet n → n < length l.pools.names
  unfolding fits
  inside-set e = inside (ap (fits_in l) e)

  pub inside-field : x ≡ s.FreeField n → n < length l.pools.names
  unfolding fits
  inside-field e = inside (ap (fits_in l) e)

-- the node made for a free name stands for it at the method's entry
module _ (old mid new : Listing) (g : Extends old new) (node n m made d : ℕ) where
  entered : (x y : Shape) → slice_get (nodes old) node ≡ Some (tree_in old x) → slice_get (nodes new) made ≡ Some (tree_in mid y) → rewritten_value (tree_in old x) (leaves_alone at_entry) d ≡ tree_in mid y → IsRewritten (leaves_alone at_entry) (nodes new) node d made
  entered x y at f same = exchanged-rewritten (nodes new) (leaves_alone at_entry) node d made (tree_in old x) (tree_in mid y) (g.nodes.keeps node (tree_in old x) at) f same

  pub enters-object : slice_get (nodes old) node ≡ Some (tree_in old (s.FreeObject n)) → slice_get mid.pools.names m ≡ Some (turned (the_name (slice_get old.pools.names n))) → slice_get (nodes new) made ≡ Some (tree_in mid (s.FreeObject m)) → IsRewritten (leaves_alone at_entry) (nodes new) node d made
  unfolding shape_tree rewritten_value rewritten_term the_name
  enters-object at named f = entered (s.FreeObject n) (s.FreeObject m) at f (λ i. of_object (t.free_object (the_name (sym named i))))

  pub enters-number : slice_get (nodes old) node ≡ Some (tree_in old (s.FreeNumber n)) → slice_get mid.pools.names m ≡ Some (turned (the_name (slice_get old.pools.names n))) → slice_get (nodes new) made ≡ Some (tree_in mid (s.FreeNumber m)) → IsRewritten (leaves_alone at_entry) (nodes new) node d made
  unfolding shape_tree rewritten_value rewritten_int the_name
  enters-number at named f = entered (s.FreeNumber n) (s.FreeNumber m) at f (λ i. of_number (t.free_number (the_name (sym named i))))

  pub enters-truth : slice_get (nodes old) node ≡ Some (tree_in old (s.FreeTruth n)) → slice_get mid.pools.names m ≡ Some (turned (the_name (slice_get old.pools.names n))) → slice_get (nodes new) made ≡ Some (tree_in mid (s.FreeTruth m)) → IsRewritten (leaves_alone at_entry) (nodes new) node d made
  unfolding shape_tree rewritten_value rewritten_formula the_name
  enters-truth at named f = entered (s.FreeTruth n) (s.FreeTruth m) at f (λ i. of_truth (t.free_truth (the_name (sym named i))))

  pub enters-set : slice_get (nodes old) node ≡ Some (tree_in old (s.FreeSet n)) → slice_get mid.pools.names m ≡ Some (own (the_name (slice_get old.pools.names n)).text 1) → slice_get (nodes new) made ≡ Some (tree_in mid (s.FreeSet m)) → IsRewritten (leaves_alone at_entry) (nodes new) node d made
  unfolding shape_tree rewritten_value rewritten_set the_name
  enters-set at named f = entered (s.FreeSet n) (s.FreeSet m) at f (λ i. of_set (t.free_set (the_name (sym named i))))

  pub enters-field : slice_get (nodes old) node ≡ Some (tree_in old (s.FreeField n)) → slice_get mid.pools.names m ≡ Some (own (the_name (slice_get old.pools.names n)).text 1) → slice_get (nodes new) made ≡ Some (tree_in mid (s.FreeField m)) → IsRewritten (leaves_alone at_entry) (nodes new) node d made
  unfolding shape_tree rewritten_value rewritten_field the_name
  enters-field at named f = entered (s.FreeField n) (s.FreeField m) at f (λ i. of_field (t.free_field (the_name (sym named i))))

-- a bound variable stays
module _ (l : Listing) (node d : ℕ) where
  bound-stays : (x : Shape) → is_leaf x ≡ true → ((n : ℕ) → x ≡ s.FreeObject n → ⊥) → ((n : ℕ) → x ≡ s.FreeNumber n → ⊥) → ((n : ℕ) → x ≡ s.FreeTruth n → ⊥) → ((n : ℕ) → x ≡ s.FreeSet n → ⊥) → ((n : ℕ) → x ≡ s.FreeField n → ⊥) → rewritten_value (tree_in l x) (leaves_alone at_entry) d ≡ tree_in l x
  unfolding is_leaf shape_tree rewritten_value rewritten_term
  bound-stays (s.Bound k) leaf a b c e f = refl
  bound-stays (s.FreeObject n) leaf a b c e f = absurd (a n refl)
  bound-stays (s.FreeNumber n) leaf a b c e f = absurd (b n refl)
  bound-stays (s.FreeTruth n) leaf a b c e f = absurd (c n refl)
  bound-stays (s.FreeSet n) leaf a b c e f = absurd (e n refl)
  bound-stays (s.FreeField n) leaf a b c e f = absurd (f n refl)
  bound-stays _ leaf a b c e f = absurd (true≢false (sym leaf))

  pub enters-bound : (x : Shape) → is_leaf x ≡ true → ((n : ℕ) → x ≡ s.FreeObject n → ⊥) → ((n : ℕ) → x ≡ s.FreeNumber n → ⊥) → ((n : ℕ) → x ≡ s.FreeTruth n → ⊥) → ((n : ℕ) → x ≡ s.FreeSet n → ⊥) → ((n : ℕ) → x ≡ s.FreeField n → ⊥) → slice_get (nodes l) node ≡ Some (tree_in l x) → IsRewritten (leaves_alone at_entry) (nodes l) node d node
  enters-bound x leaf a b c e f at = stays-rewritten (nodes l) (leaves_alone at_entry) node d (tree_in l x) at (bound-stays x leaf a b c e f)
