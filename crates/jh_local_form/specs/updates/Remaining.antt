-- Updates and their names stand where they do while a table grows.
use Rattle.std.specs.Prelude.{◌≡◌, ℕ, List, [], ◌∷◌, Some, slice_get}
use Rattle.std.proofs.Common.{refl, sym, ap, ◌∙◌}
use Rattle.jh_form.specs.Tree.{ValueTree}
use Rattle.jh_arena.specs.table.Entries.{Listing, the_value}
use Rattle.jh_arena.specs.table.Growth.{Grows, Extends}
use Rattle.jh_arena.specs.table.Nodes.{nodes}
use Rattle.jh_substitution.specs.rewriting.Walks.{Stays}
use Rattle.jh_fca.specs.local_form.Named.{naming}
use Rattle.jh_local_form.specs.updates.Updating.{AreValues, AreUpdates, values_in, Names, IsNaming, HasNames}

pub values-grow : (ts us : List ValueTree) → Grows ts us → (ns : List ℕ) (vs : List ValueTree) → AreValues ts ns vs → AreValues us ns vs
unfolding AreValues
values-grow ts us g [] [] h = h
values-grow ts us g [] (v ∷ vs) h = h
values-grow ts us g (n ∷ ns) [] h = h
values-grow ts us g (n ∷ ns) (v ∷ vs) h = (g.keeps n v h.0, values-grow ts us g ns vs h.1)

-- the values that stand at nodes are what stands there
pub values-are : (ts : List ValueTree) (ns : List ℕ) (vs : List ValueTree) → AreValues ts ns vs → values_in ts ns ≡ vs
unfolding AreValues the_value
values-are ts [] [] h = refl
values-are ts [] (v ∷ vs) h = absurd h
values-are ts (n ∷ ns) [] h = absurd h
values-are ts (n ∷ ns) (v ∷ vs) h = λ i. the_value (h.0 i) ∷ values-are ts ns vs h.1 i

pub updates-grow : (ts us : List ValueTree) → Grows ts us → (ns : List ℕ) (vs : List ValueTree) → AreUpdates ts ns vs → AreUpdates us ns vs
updates-grow ts us g ns vs h = record { are = values-grow ts us g ns vs h.are; whole = h.whole; differ = h.differ }

pub naming-grows : (t u : Listing) → Extends t u → (n : Names) (us : List ValueTree) → IsNaming t n us → IsNaming u n us
naming-grows t u g n us h = record {
  updates = updates-grow (nodes t) (nodes u) g.nodes n.updates us h.updates;
  names = values-grow (nodes t) (nodes u) g.nodes n.names _ h.names;
}

pub naming-stays : (n : Names) → Stays (HasNames n) (λ t. naming (values_in (nodes t) n.updates) n.first)
naming-stays n = record {
  ready = λ old new g h. (h.0, naming-grows old new g n h.0 h.1);
  same = λ old new g h. ap (λ us. naming us n.first)
      (values-are (nodes new) n.updates h.0 (naming-grows old new g n h.0 h.1).updates.are ∙ sym (values-are (nodes old) n.updates h.0 h.1.updates.are));
}
