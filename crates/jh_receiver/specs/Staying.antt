-- The rewritings of the rules here stay while the table grows.
use Rattle.std.specs.Prelude.{◌≡◌, ℕ, true, slice_get, Option, Some, None, is_some}
use Rattle.std.proofs.Common.{refl, ap, ◌∙◌}
use Rattle.jh_form.specs.Tree.{ValueTree}
use Rattle.jh_arena.specs.table.Entries.{is_object, the_object}
use Rattle.jh_arena.specs.table.Nodes.{nodes}
use Rattle.jh_substitution.specs.rewriting.Rewritten.{leaves_alone}
use Rattle.jh_substitution.specs.rewriting.Staying.{grown}
use Rattle.jh_substitution.specs.rewriting.Walks.{Stays}
use Rattle.jh_vars.specs.Resolved.{receiving, at_entry}

object-some : (o : Option ValueTree) → is_object o ≡ true → is_some o ≡ true
unfolding is_object
object-some (Some v) h = refl
object-some None h = h

pub receiving-stays : (w : ℕ) → Stays (λ t. is_object (slice_get (nodes t) w) ≡ true) (λ t. leaves_alone (receiving (the_object (slice_get (nodes t) w))))
receiving-stays w = record {
  ready = λ old new g h. ap is_object (grown (nodes old) (nodes new) w g.nodes (object-some (slice_get (nodes old) w) h)) ∙ h;
  same = λ old new g h. ap (λ o. leaves_alone (receiving (the_object o))) (grown (nodes old) (nodes new) w g.nodes (object-some (slice_get (nodes old) w) h));
}

-- state at the method's entry hangs on no table
pub entry-stays : Stays (λ t. Unit {0}) (λ t. leaves_alone at_entry)
entry-stays = record { ready = λ old new g h. h; same = λ old new g h. refl }
