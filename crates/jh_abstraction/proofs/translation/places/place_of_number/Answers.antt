use Rattle.std.proofs.Common.{◌≡◌, ap, ◌∙◌, ℕ, slice_get}
use Rattle.std.proofs.lemmas.Result.{IfOk-weaker}
use Rattle.jh_arena.specs.table.Nodes.{nodes}
use Rattle.jh_approx.specs.definition.Names.{place_in}
use Rattle.jh_query_names.specs.query_names.Kinds.{value_at}
use Rattle.jh_query_names.specs.query_names.Finding.{values_at}
use Rattle.jh_abstraction.specs.translation.Telling.{number_place}
use Rattle.jh_abstraction.proofs.translation.Numbering.{number-there}
use Rattle.jh_abstraction.proofs.translation.places.place_of_number.Goals as goal

pub returns : goal.returns
returns c =
    let ts = nodes c.args.table.now in
    let names = values_at ts c.args.names.now.numbers.keys in
    IfOk-weaker c.place_of.result (λ (made : ℕ). made ≡ place_in names (value_at ts c.args.node)) (λ (made : ℕ). made ≡ number_place ts c.args.names.now c.args.node)
    (λ made e. e ∙ ap (place_in names) (number-there (slice_get ts c.args.node) c.requires.number))
    c.place_of.ensures
