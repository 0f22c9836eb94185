-- Left sides of ghost assignments, by the shapes of nodes.
use Rattle.std.proofs.Common.{◌≡◌, refl, sym, ap, ◌∙◌, ℕ, zero, suc, ◌<◌, arith, true, List, [], ◌∷◌, length, Some, is_some, slice_get}
use Rattle.std.proofs.lemmas.Bool.{true≢false}
use Rattle.jh_name.specs.declared.naming.Name.{Name}
use Rattle.jh_name.specs.declared.place.Kind.{Kind}
use Rattle.jh_name.specs.declared.place.Kind.TheVariants as k
use Rattle.jh_form.specs.Tree.{TermTree, FieldTree, ValueTree, of_object}
use Rattle.jh_form.specs.Tree as tree
use Rattle.jh_arena.proofs.table.Children.{it-is-object}
use Rattle.jh_arena.specs.table.Entries.{Listing, Pools, is_field, is_object, the_name, the_field, the_object, the_value}
use Rattle.jh_arena.specs.table.Nodes.{nodes, shape_tree, tree_in}
use Rattle.jh_arena.specs.declared.table.shapes.Shape.{Shape}
use Rattle.jh_arena.specs.declared.table.shapes.Shape.TheVariants as s
use Rattle.jh_semantics.specs.LoweredStmts.{GhostTarget, a_name, a_read, no_target, ghost_target}
use Rattle.jh_command_statements.specs.simple_statements.Ghosts.{read_target}

-- the name of a number that has one
pub name-there : (names : List Name) (n : ℕ) (x : Name) → slice_get names n ≡ Some x → x ≡ the_name (slice_get names n)
unfolding the_name
name-there names n x e = ap the_name (sym e)

pub some-within : {X : Type 0} (xs : List X) (n : ℕ) → is_some (slice_get xs n) ≡ true → n < length xs
some-within [] n h = absurd (true≢false (sym h))
some-within (x ∷ xs) zero h = omega arith
some-within (x ∷ xs) (suc n) h = let lt = some-within xs n h in omega (arith, lt)

-- a field that is no name is no left side
field-other : (p : Pools) (ts : List ValueTree) (x : Shape) (kind : Kind) (a : TermTree) → is_field (Some (shape_tree p ts x)) ≡ true → ((n : ℕ) → x ≡ s.FreeField n → ⊥) → no_target ≡ read_target kind (the_field (Some (shape_tree p ts x))) a
unfolding the_field is_field shape_tree
field-other p ts (s.FreeField n) kind a h other = absurd (other n refl)
field-other p ts (s.Update b c d) kind a h other = refl
field-other p ts _ kind a h other = absurd (true≢false (sym h))

pub no-field : (t : Listing) (node : ℕ) (x : Shape) (kind : Kind) (a : TermTree) → slice_get (nodes t) node ≡ Some (tree_in t x) → is_field (slice_get (nodes t) node) ≡ true → ((n : ℕ) → x ≡ s.FreeField n → ⊥) → no_target ≡ read_target kind (the_field (slice_get (nodes t) node)) a
no-field t node x kind a e h other = field-other t.pools (nodes t) x kind a (ap is_field (sym e) ∙ h) other ∙ ap (λ o. read_target kind (the_field o) a) (sym e)

-- a field that is a name
pub named-field : (t : Listing) (node n : ℕ) (x : Shape) (kind : Kind) (a : TermTree) → slice_get (nodes t) node ≡ Some (tree_in t x) → x ≡ s.FreeField n → a_read kind (the_name (slice_get t.pools.names n)) a ≡ read_target kind (the_field (slice_get (nodes t) node)) a
unfolding the_field shape_tree
named-field t node n x kind a e is = sym (ap (λ o. read_target kind (the_field o) a) (e ∙ ap (λ y. Some (tree_in t y)) is))

-- what is no name and no read is no left side
target-other : (p : Pools) (ts : List ValueTree) (x : Shape) →
    ((n : ℕ) → x ≡ s.FreeObject n → ⊥) →
    ((n : ℕ) → x ≡ s.FreeNumber n → ⊥) →
    ((n : ℕ) → x ≡ s.FreeTruth n → ⊥) →
    ((n : ℕ) → x ≡ s.FreeSet n → ⊥) →
    ((a b : ℕ) → x ≡ s.ReadObject a b → ⊥) →
    ((a b : ℕ) → x ≡ s.ReadNumber a b → ⊥) →
    ((a b : ℕ) → x ≡ s.ReadTruth a b → ⊥) →
    ((a b : ℕ) → x ≡ s.ReadSet a b → ⊥) →
    no_target ≡ ghost_target (the_value (Some (shape_tree p ts x)))
unfolding the_value shape_tree
target-other p ts (s.FreeObject n) h0 h1 h2 h3 h4 h5 h6 h7 = absurd (h0 n refl)
target-other p ts (s.FreeNumber n) h0 h1 h2 h3 h4 h5 h6 h7 = absurd (h1 n refl)
target-other p ts (s.FreeTruth n) h0 h1 h2 h3 h4 h5 h6 h7 = absurd (h2 n refl)
target-other p ts (s.FreeSet n) h0 h1 h2 h3 h4 h5 h6 h7 = absurd (h3 n refl)
target-other p ts (s.ReadObject a b) h0 h1 h2 h3 h4 h5 h6 h7 = absurd (h4 a b refl)
target-other p ts (s.ReadNumber a b) h0 h1 h2 h3 h4 h5 h6 h7 = absurd (h5 a b refl)
target-other p ts (s.ReadTruth a b) h0 h1 h2 h3 h4 h5 h6 h7 = absurd (h6 a b refl)
target-other p ts (s.ReadSet a b) h0 h1 h2 h3 h4 h5 h6 h7 = absurd (h7 a b refl)
target-other p ts _ h0 h1 h2 h3 h4 h5 h6 h7 = refl

pub no-target : (t : Listing) (node : ℕ) (x : Shape) → slice_get (nodes t) node ≡ Some (tree_in t x) →
    ((n : ℕ) → x ≡ s.FreeObject n → ⊥) →
    ((n : ℕ) → x ≡ s.FreeNumber n → ⊥) →
    ((n : ℕ) → x ≡ s.FreeTruth n → ⊥) →
    ((n : ℕ) → x ≡ s.FreeSet n → ⊥) →
    ((a b : ℕ) → x ≡ s.ReadObject a b → ⊥) →
    ((a b : ℕ) → x ≡ s.ReadNumber a b → ⊥) →
    ((a b : ℕ) → x ≡ s.ReadTruth a b → ⊥) →
    ((a b : ℕ) → x ≡ s.ReadSet a b → ⊥) →
    no_target ≡ ghost_target (the_value (slice_get (nodes t) node))
no-target t node x e h0 h1 h2 h3 h4 h5 h6 h7 = target-other t.pools (nodes t) x h0 h1 h2 h3 h4 h5 h6 h7 ∙ ap (λ o. ghost_target (the_value o)) (sym e)

-- names and reads, by the shape of the node
pub target-FreeObject : (t : Listing) (node n : ℕ) (x : Shape) → slice_get (nodes t) node ≡ Some (tree_in t x) → x ≡ s.FreeObject n → a_name k.Obj (the_name (slice_get t.pools.names n)) ≡ ghost_target (the_value (slice_get (nodes t) node))
unfolding the_value shape_tree
target-FreeObject t node n x e is = sym (ap (λ o. ghost_target (the_value o)) (e ∙ ap (λ y. Some (tree_in t y)) is))

pub target-FreeNumber : (t : Listing) (node n : ℕ) (x : Shape) → slice_get (nodes t) node ≡ Some (tree_in t x) → x ≡ s.FreeNumber n → a_name k.Int (the_name (slice_get t.pools.names n)) ≡ ghost_target (the_value (slice_get (nodes t) node))
unfolding the_value shape_tree
target-FreeNumber t node n x e is = sym (ap (λ o. ghost_target (the_value o)) (e ∙ ap (λ y. Some (tree_in t y)) is))

pub target-FreeTruth : (t : Listing) (node n : ℕ) (x : Shape) → slice_get (nodes t) node ≡ Some (tree_in t x) → x ≡ s.FreeTruth n → a_name k.Bool (the_name (slice_get t.pools.names n)) ≡ ghost_target (the_value (slice_get (nodes t) node))
unfolding the_value shape_tree
target-FreeTruth t node n x e is = sym (ap (λ o. ghost_target (the_value o)) (e ∙ ap (λ y. Some (tree_in t y)) is))

pub target-FreeSet : (t : Listing) (node n : ℕ) (x : Shape) → slice_get (nodes t) node ≡ Some (tree_in t x) → x ≡ s.FreeSet n → a_name k.Set (the_name (slice_get t.pools.names n)) ≡ ghost_target (the_value (slice_get (nodes t) node))
unfolding the_value shape_tree
target-FreeSet t node n x e is = sym (ap (λ o. ghost_target (the_value o)) (e ∙ ap (λ y. Some (tree_in t y)) is))

read-of : (f : FieldTree) (kind : Kind) (v : FieldTree → ValueTree) (a : TermTree) → ((y : Name) → ghost_target (v (tree.free_field y)) ≡ a_read kind y a) → ((g : FieldTree) (b : TermTree) (w : ValueTree) → ghost_target (v (tree.update g b w)) ≡ no_target) → read_target kind f a ≡ ghost_target (v f)
read-of (tree.free_field y) kind v a h other = sym (h y)
read-of (tree.update g b w) kind v a h other = sym (other g b w)

pub target-ReadObject : (t : Listing) (node a b : ℕ) (x : Shape) → slice_get (nodes t) node ≡ Some (tree_in t x) → x ≡ s.ReadObject a b → read_target k.Obj (the_field (slice_get (nodes t) a)) (the_object (slice_get (nodes t) b)) ≡ ghost_target (the_value (slice_get (nodes t) node))
unfolding the_value shape_tree
target-ReadObject t node a b x e is =
    read-of (the_field (slice_get (nodes t) a)) k.Obj (λ f. tree.of_object (tree.read_object f (the_object (slice_get (nodes t) b)))) (the_object (slice_get (nodes t) b)) (λ y. refl) (λ g c w. refl)
    ∙ sym (ap (λ o. ghost_target (the_value o)) (e ∙ ap (λ y. Some (tree_in t y)) is))

pub target-ReadNumber : (t : Listing) (node a b : ℕ) (x : Shape) → slice_get (nodes t) node ≡ Some (tree_in t x) → x ≡ s.ReadNumber a b → read_target k.Int (the_field (slice_get (nodes t) a)) (the_object (slice_get (nodes t) b)) ≡ ghost_target (the_value (slice_get (nodes t) node))
unfolding the_value shape_tree
target-ReadNumber t node a b x e is =
    read-of (the_field (slice_get (nodes t) a)) k.Int (λ f. tree.of_number (tree.read_number f (the_object (slice_get (nodes t) b)))) (the_object (slice_get (nodes t) b)) (λ y. refl) (λ g c w. refl)
    ∙ sym (ap (λ o. ghost_target (the_value o)) (e ∙ ap (λ y. Some (tree_in t y)) is))

pub target-ReadTruth : (t : Listing) (node a b : ℕ) (x : Shape) → slice_get (nodes t) node ≡ Some (tree_in t x) → x ≡ s.ReadTruth a b → read_target k.Bool (the_field (slice_get (nodes t) a)) (the_object (slice_get (nodes t) b)) ≡ ghost_target (the_value (slice_get (nodes t) node))
unfolding the_value shape_tree
target-ReadTruth t node a b x e is =
    read-of (the_field (slice_get (nodes t) a)) k.Bool (λ f. tree.of_truth (tree.read_truth f (the_object (slice_get (nodes t) b)))) (the_object (slice_get (nodes t) b)) (λ y. refl) (λ g c w. refl)
    ∙ sym (ap (λ o. ghost_target (the_value o)) (e ∙ ap (λ y. Some (tree_in t y)) is))

pub target-ReadSet : (t : Listing) (node a b : ℕ) (x : Shape) → slice_get (nodes t) node ≡ Some (tree_in t x) → x ≡ s.ReadSet a b → read_target k.Set (the_field (slice_get (nodes t) a)) (the_object (slice_get (nodes t) b)) ≡ ghost_target (the_value (slice_get (nodes t) node))
unfolding the_value shape_tree
target-ReadSet t node a b x e is =
    read-of (the_field (slice_get (nodes t) a)) k.Set (λ f. tree.of_set (tree.read_set f (the_object (slice_get (nodes t) b)))) (the_object (slice_get (nodes t) b)) (λ y. refl) (λ g c w. refl)
    ∙ sym (ap (λ o. ghost_target (the_value o)) (e ∙ ap (λ y. Some (tree_in t y)) is))

-- the object of a left side stays while the table grows
pub object-listed : (t : Listing) (n : ℕ) → is_object (slice_get (nodes t) n) ≡ true → slice_get (nodes t) n ≡ Some (of_object (the_object (slice_get (nodes t) n)))
object-listed t n h = it-is-object (slice_get (nodes t) n) h

pub ruleset left_steps = (no-field, named-field, no-target, target-FreeObject, target-FreeNumber, target-FreeTruth, target-FreeSet, target-ReadObject, target-ReadNumber, target-ReadTruth, target-ReadSet)
