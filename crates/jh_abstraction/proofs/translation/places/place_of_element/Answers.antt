use Rattle.std.proofs.Common.{◌≡◌, ap, ◌∙◌, ℕ, slice_get}
use Rattle.std.proofs.lemmas.Result.{IfOk-weaker}
use Rattle.jh_arena.specs.table.Nodes.{nodes}
use Rattle.jh_approx.specs.definition.Names.{place_in}
use Rattle.jh_query_names.specs.query_names.Kinds.{value_at}
use Rattle.jh_query_names.specs.query_names.Finding.{values_at}
use Rattle.jh_abstraction.specs.translation.Telling.{element_place}
use Rattle.jh_abstraction.proofs.translation.Numbering.{object-there}
use Rattle.jh_abstraction.proofs.translation.places.place_of_element.Goals as goal

pub returns : goal.returns
returns c =
    let ts = nodes c.args.table.now in
    let names = values_at ts c.args.names.now.elements.keys in
    IfOk-weaker c.place_of.result (λ (made : ℕ). made ≡ place_in names (value_at ts c.args.node)) (λ (made : ℕ). made ≡ element_place ts c.args.names.now c.args.node)
    (λ made e. e ∙ ap (place_in names) (object-there (slice_get ts c.args.node) c.requires.object))
    c.place_of.ensures
