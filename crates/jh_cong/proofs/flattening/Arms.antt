-- What the arms of the code have at hand: the parts of a shape, by what is made of it.
use Rattle.std.proofs.Common.{◌≡◌, ap, subst, ◌∙◌, ℕ, ◌+◌, ◌<◌, List, ◌++◌, slice_get, Some}
use Rattle.jh_name.specs.declared.place.Sort as place
use Rattle.jh_closure.specs.congruence_closure.Nodes.{Has}
use Rattle.jh_closure.specs.declared.congruence_closure.node.Node.{Node}
use Rattle.jh_closure.proofs.congruence_closure.Having.{has-left, has-right, has-at, place-of}
use Rattle.jh_arena.specs.table.Parts.{ArePartsBelow, list_parts, own_parts}
use Rattle.jh_arena.specs.declared.table.shapes.Shape.{Shape}
use Rattle.jh_cong.specs.flattening.Plain.{flat, IsPlain}
use Rattle.jh_cong.specs.declared.flattening.flat.Flat.{Flat}
use Rattle.jh_cong.proofs.flattening.Helping.{flat_parts, parts-flat}

pub as-plain : (count : ℕ) (made helpers : List Node) (sorts : ℕ → place.Sort) (fs : List ℕ) (k : ℕ) (y z : Flat) (x : Node) → y ≡ z → IsPlain count made helpers sorts fs k y x → IsPlain count made helpers sorts fs k z x
as-plain count made helpers sorts fs k y z x e h = subst (λ u. IsPlain count made helpers sorts fs k u x) e h

-- parts are nodes before the shape's place
pub part-below : (ls : List (List ℕ)) (x : Shape) (k : ℕ) → ArePartsBelow k ls x → (y : Flat) → y ≡ flat x → (a : ℕ) → Has (flat_parts y) a → a < k
part-below ls x k b y e a h =
    let own : Has (own_parts x) a = subst (λ (ps : List ℕ). Has ps a) (ap flat_parts e ∙ parts-flat x) h in
    let here = place-of (list_parts ls x ++ own_parts x) a (has-right (list_parts ls x) (own_parts x) a own) in
    b.below here.0 a here.1

-- and so are the fields of its list
pub fields-below : (ls : List (List ℕ)) (x : Shape) (k : ℕ) → ArePartsBelow k ls x → (i a : ℕ) → slice_get (list_parts ls x) i ≡ Some a → a < k
fields-below ls x k b i a e =
    let here = place-of (list_parts ls x ++ own_parts x) a (has-left (list_parts ls x) (own_parts x) a (has-at (list_parts ls x) i a e)) in
    b.below here.0 a here.1
