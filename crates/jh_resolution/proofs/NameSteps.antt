-- What names cite.
use Rattle.std.proofs.Common.{◌≡◌, refl, sym, ℕ, true, slice_get, Option, Some}
use Rattle.std.proofs.lemmas.Bool.{true≢false}
use Rattle.jh_form.specs.Tree.{ValueTree, of_object}
use Rattle.jh_arena.specs.table.Entries.{Listing, is_object, the_object}
use Rattle.jh_arena.specs.table.Growth.{Extends}
use Rattle.jh_arena.specs.table.Nodes.{nodes}
use Rattle.jh_arena.proofs.table.NodeSteps.{fits-FreeObject, tree-FreeObject, fits-FreeNumber, tree-FreeNumber, fits-FreeTruth, tree-FreeTruth, fits-FreeSet, tree-FreeSet, fits-FreeField, tree-FreeField, fits-ReadObject, tree-ReadObject, fits-ReadNumber, tree-ReadNumber, fits-ReadTruth, tree-ReadTruth, fits-ReadSet, tree-ReadSet}

object-at : (o : Option ValueTree) → is_object o ≡ true → o ≡ Some (of_object (the_object o))
unfolding is_object the_object
object-at (Some (of_object a)) h = refl
object-at _ h = absurd (true≢false (sym h))

-- an object stays where it stands
pub object-on : (l m : Listing) (n : ℕ) → Extends l m → is_object (slice_get (nodes l) n) ≡ true → slice_get (nodes m) n ≡ Some (of_object (the_object (slice_get (nodes l) n)))
object-on l m n g h = g.nodes.keeps n (of_object (the_object (slice_get (nodes l) n))) (object-at (slice_get (nodes l) n) h)

pub ruleset name_steps = (object-on, fits-FreeObject, tree-FreeObject, fits-FreeNumber, tree-FreeNumber, fits-FreeTruth, tree-FreeTruth, fits-FreeSet, tree-FreeSet, fits-FreeField, tree-FreeField, fits-ReadObject, tree-ReadObject, fits-ReadNumber, tree-ReadNumber, fits-ReadTruth, tree-ReadTruth, fits-ReadSet, tree-ReadSet)
