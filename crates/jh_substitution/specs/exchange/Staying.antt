-- An exchange stays while the table grows.
use Rattle.std.specs.Prelude.{◌≡◌, ℕ, slice_get, is_some}
use Rattle.std.proofs.Common.{sym, ap, ◌∙◌}
use Rattle.jh_form.specs.Sorts.{tree_sort}
use Rattle.jh_arena.specs.table.Entries.{the_value}
use Rattle.jh_arena.specs.table.Nodes.{nodes}
use Rattle.jh_substitution.specs.rewriting.Staying.{grown}
use Rattle.jh_substitution.specs.rewriting.Walks.{Stays}
use Rattle.jh_substitution.specs.exchange.Under.{CanExchangeUnder, exchanging_under}

pub exchanging_under-stays : (from to : ℕ) →
    Stays (CanExchangeUnder from to) (λ t. exchanging_under (the_value (slice_get (nodes t) from)) (the_value (slice_get (nodes t) to)))
exchanging_under-stays from to = record {
  ready = λ old new g h.
      let o : slice_get (nodes new) from ≡ slice_get (nodes old) from = grown (nodes old) (nodes new) from g.nodes h.old in
      let v : slice_get (nodes new) to ≡ slice_get (nodes old) to = grown (nodes old) (nodes new) to g.nodes h.new in
      record {
        old = ap is_some o ∙ h.old;
        new = ap is_some v ∙ h.new;
        sort = ap (λ x. tree_sort (the_value x)) v ∙ h.sort ∙ sym (ap (λ x. tree_sort (the_value x)) o);
      };
  same = λ old new g h.
      let o : slice_get (nodes new) from ≡ slice_get (nodes old) from = grown (nodes old) (nodes new) from g.nodes h.old in
      let v : slice_get (nodes new) to ≡ slice_get (nodes old) to = grown (nodes old) (nodes new) to g.nodes h.new in
      λ i. exchanging_under (the_value (o i)) (the_value (v i));
}
