-- The rewritings of the rules here stay while the table grows.
use Rattle.std.specs.Prelude.{◌≡◌, ℕ, true, List, slice_get, Option, Some, None, is_some}
use Rattle.std.proofs.Common.{refl, sym, ap, ◌∙◌}
use Rattle.std.proofs.lemmas.Bool.{true≢false}
use Rattle.jh_form.specs.Tree.{ValueTree}
use Rattle.jh_boxed_operations.specs.substitution.Opened.{opening}
use Rattle.jh_boxed_operations.specs.substitution.Substituted.{substituting}
use Rattle.jh_arena.specs.table.Entries.{is_object, the_object, the_name, the_value}
use Rattle.jh_arena.specs.table.Growth.{Grows}
use Rattle.jh_arena.specs.table.Nodes.{nodes}
use Rattle.jh_substitution.specs.rewriting.Leaf.{free_value}
use Rattle.jh_substitution.specs.rewriting.Rewritten.{leaves_alone}
use Rattle.jh_substitution.specs.rewriting.Walks.{Stays}
use Rattle.jh_form.specs.Closed.{is_closed_value}
use Rattle.jh_form.specs.Sorts.{tree_sort}
use Rattle.jh_substitution.specs.rewriting.Exchanging.{CanExchange, exchanging}
use Rattle.jh_substitution.specs.rewriting.Substitution.{IsReady}

grown_of : {X : Type 0} (old new : List X) (k : ℕ) (o : Option X) → Grows old new → slice_get old k ≡ o → is_some o ≡ true → slice_get new k ≡ slice_get old k
grown_of old new k (Some v) g e h = g.keeps k v e ∙ sym e
grown_of old new k None g e h = absurd (true≢false (sym h))

-- what is listed stays where it is
pub grown : {X : Type 0} (old new : List X) (k : ℕ) → Grows old new → is_some (slice_get old k) ≡ true → slice_get new k ≡ slice_get old k
grown old new k g h = grown_of old new k (slice_get old k) g refl h

object-some : (o : Option ValueTree) → is_object o ≡ true → is_some o ≡ true
unfolding is_object
object-some (Some v) h = refl
object-some None h = h

pub opening-stays : (w : ℕ) → Stays (λ t. is_object (slice_get (nodes t) w) ≡ true) (λ t. leaves_alone (opening (the_object (slice_get (nodes t) w))))
opening-stays w = record {
  ready = λ old new g h. ap is_object (grown (nodes old) (nodes new) w g.nodes (object-some (slice_get (nodes old) w) h)) ∙ h;
  same = λ old new g h. ap (λ o. leaves_alone (opening (the_object o))) (grown (nodes old) (nodes new) w g.nodes (object-some (slice_get (nodes old) w) h));
}

pub substituting-stays : (name leaf value : ℕ) →
    Stays (IsReady name leaf value) (λ t. leaves_alone (substituting (the_name (slice_get t.pools.names name)) (the_value (slice_get (nodes t) value))))
substituting-stays name leaf value = record {
  ready = λ old new g h.
      let x : slice_get new.pools.names name ≡ slice_get old.pools.names name = grown old.pools.names new.pools.names name g.names h.named in
      let v : slice_get (nodes new) value ≡ slice_get (nodes old) value = grown (nodes old) (nodes new) value g.nodes h.valued in
      record {
        named = ap is_some x ∙ h.named;
        valued = ap is_some v ∙ h.valued;
        free = g.nodes.keeps leaf (free_value (the_name (slice_get old.pools.names name)) (the_value (slice_get (nodes old) value))) h.free
            ∙ (λ i. Some (free_value (the_name (sym x i)) (the_value (sym v i))));
      };
  same = λ old new g h.
      let x : slice_get new.pools.names name ≡ slice_get old.pools.names name = grown old.pools.names new.pools.names name g.names h.named in
      let v : slice_get (nodes new) value ≡ slice_get (nodes old) value = grown (nodes old) (nodes new) value g.nodes h.valued in
      λ i. leaves_alone (substituting (the_name (x i)) (the_value (v i)));
}

pub exchanging-stays : (from to : ℕ) →
    Stays (CanExchange from to) (λ t. exchanging (the_value (slice_get (nodes t) from)) (the_value (slice_get (nodes t) to)))
exchanging-stays from to = record {
  ready = λ old new g h.
      let o : slice_get (nodes new) from ≡ slice_get (nodes old) from = grown (nodes old) (nodes new) from g.nodes h.old in
      let v : slice_get (nodes new) to ≡ slice_get (nodes old) to = grown (nodes old) (nodes new) to g.nodes h.new in
      record {
        old = ap is_some o ∙ h.old;
        new = ap is_some v ∙ h.new;
        sort = ap (λ x. tree_sort (the_value x)) v ∙ h.sort ∙ sym (ap (λ x. tree_sort (the_value x)) o);
        closed = ap (λ x. is_closed_value (the_value x) 0) o ∙ h.closed;
      };
  same = λ old new g h.
      let o : slice_get (nodes new) from ≡ slice_get (nodes old) from = grown (nodes old) (nodes new) from g.nodes h.old in
      let v : slice_get (nodes new) to ≡ slice_get (nodes old) to = grown (nodes old) (nodes new) to g.nodes h.new in
      λ i. exchanging (the_value (o i)) (the_value (v i));
}
