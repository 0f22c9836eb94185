-- Names of a table with the nodes that are put for them.
use Rattle.std.specs.Prelude.{◌≡◌, ℕ, ◌==◌, if◌then◌else◌, List, [], ◌∷◌, slice_get}
use Rattle.std.proofs.Common.{ap}
use Rattle.jh_name.specs.declared.naming.Name.{Name}
use Rattle.jh_form.specs.Tree.{ValueTree}
use Rattle.jh_arena.specs.table.Entries.{Listing, the_name, the_value}
use Rattle.jh_arena.specs.table.Growth.{Extends}
use Rattle.jh_arena.specs.table.Nodes.{nodes}
use Rattle.jh_substitution.specs.rewriting.Rewritten.{leaves_alone}
use Rattle.jh_substitution.specs.rewriting.Substitution.{IsReady}
use Rattle.jh_substitution.specs.rewriting.Staying.{grown, substituting-stays}
use Rattle.jh_substitution.specs.rewriting.Walks.{Stays}
use Rattle.jh_substitution.specs.declared.simultaneous.pairs.Instead.{Instead}
use Rattle.jh_substitution.specs.simultaneous.Several.{instead}

-- the names and the trees of the values
abbrev pub pairs_in : Listing → List Instead → List (Name × ValueTree)
pairs_in t [] = []
pairs_in t (p ∷ ps) = (the_name (slice_get t.pools.names p.name), the_value (slice_get (nodes t) p.value)) ∷ pairs_in t ps

-- each name, its node at the sort of its value, and the value stand in the table
abbrev pub AreReady : Listing → List Instead → Type 0
AreReady t [] = Unit {0}
AreReady t (p ∷ ps) = IsReady p.name p.leaf p.value t × AreReady t ps

-- the value of the first pair whose leaf is the node, and else the node
abbrev pub chosen_of : List Instead → ℕ → ℕ
chosen_of [] n = n
chosen_of (p ∷ ps) n = if p.leaf == n then p.value else chosen_of ps n

-- all that stands there stays
pub ready-grows : (old new : Listing) → Extends old new → (ps : List Instead) → AreReady old ps → AreReady new ps
ready-grows old new g [] h = tt
ready-grows old new g (p ∷ ps) h = ((substituting-stays p.name p.leaf p.value).ready old new g h.0, ready-grows old new g ps h.1)

pub pairs-grow : (old new : Listing) → Extends old new → (ps : List Instead) → AreReady old ps → pairs_in new ps ≡ pairs_in old ps
pairs-grow old new g [] h = λ i. []
pairs-grow old new g (p ∷ ps) h = λ i.
    (the_name (grown old.pools.names new.pools.names p.name g.names h.0.named i), the_value (grown (nodes old) (nodes new) p.value g.nodes h.0.valued i)) ∷ pairs-grow old new g ps h.1 i

pub several-stays : (ps : List Instead) → Stays (λ t. AreReady t ps) (λ t. leaves_alone (instead (pairs_in t ps)))
several-stays ps = record {
  ready = λ old new g h. ready-grows old new g ps h;
  same = λ old new g h. ap (λ qs. leaves_alone (instead qs)) (pairs-grow old new g ps h);
}
