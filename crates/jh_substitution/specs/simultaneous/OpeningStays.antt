-- The terms of an opening stay while the table grows.
use Rattle.std.specs.Prelude.{◌≡◌, ℕ, Bool, true, false, ◌&&◌, List, [], ◌∷◌, slice_get, Option, Some, None, is_some}
use Rattle.std.proofs.Common.{refl, sym, ap, ◌∙◌}
use Rattle.std.proofs.lemmas.Bool.{true≢false}
use Rattle.jh_form.specs.Tree.{ValueTree}
use Rattle.jh_arena.specs.table.Entries.{Listing, is_object, the_object}
use Rattle.jh_arena.specs.table.Growth.{Extends}
use Rattle.jh_arena.specs.table.Nodes.{nodes}
use Rattle.jh_substitution.specs.rewriting.Rewritten.{leaves_alone}
use Rattle.jh_substitution.specs.rewriting.Staying.{grown}
use Rattle.jh_substitution.specs.rewriting.Walks.{Stays}
use Rattle.jh_substitution.specs.simultaneous.OpenedAll.{opening_all, are_objects, objects_at}

first-true : (p q : Bool) → (p && q) ≡ true → p ≡ true
first-true true q h = refl
first-true false q h = h

rest-true : (p q : Bool) → (p && q) ≡ true → q ≡ true
rest-true true q h = h
rest-true false q h = absurd (true≢false (sym h))

object-there : (o : Option ValueTree) → is_object o ≡ true → is_some o ≡ true
unfolding is_object
object-there (Some v) h = refl
object-there None h = h

module _ (old new : Listing) (g : Extends old new) where
  object-grows : (n : ℕ) → is_object (slice_get (nodes old) n) ≡ true → slice_get (nodes new) n ≡ slice_get (nodes old) n
  object-grows n h = grown (nodes old) (nodes new) n g.nodes (object-there (slice_get (nodes old) n) h)

  pub objects-ready : (ns : List ℕ) → are_objects (nodes old) ns ≡ true → are_objects (nodes new) ns ≡ true
  objects-ready [] h = refl
  objects-ready (n ∷ ns) h = λ i.
      (ap is_object (object-grows n (first-true (is_object (slice_get (nodes old) n)) (are_objects (nodes old) ns) h)) ∙ first-true (is_object (slice_get (nodes old) n)) (are_objects (nodes old) ns) h) i
      && objects-ready ns (rest-true (is_object (slice_get (nodes old) n)) (are_objects (nodes old) ns) h) i

  pub objects-grow : (ns : List ℕ) → are_objects (nodes old) ns ≡ true → objects_at (nodes new) ns ≡ objects_at (nodes old) ns
  objects-grow [] h = refl
  objects-grow (n ∷ ns) h = λ i.
      the_object (object-grows n (first-true (is_object (slice_get (nodes old) n)) (are_objects (nodes old) ns) h) i)
      ∷ objects-grow ns (rest-true (is_object (slice_get (nodes old) n)) (are_objects (nodes old) ns) h) i

pub opening_all-stays : (ns : List ℕ) → Stays (λ t. are_objects (nodes t) ns ≡ true) (λ t. leaves_alone (opening_all (objects_at (nodes t) ns)))
opening_all-stays ns = record {
  ready = λ old new g h. objects-ready old new g ns h;
  same = λ old new g h. ap (λ ws. leaves_alone (opening_all ws)) (objects-grow old new g ns h);
}
