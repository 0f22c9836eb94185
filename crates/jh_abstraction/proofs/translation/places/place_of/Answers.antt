use Rattle.std.proofs.Common.{◌≡◌, sym, ◌∙◌, ℕ}
use Rattle.std.proofs.lemmas.Result.{IfOk-weaker}
use Rattle.jh_arena.specs.table.Nodes.{nodes}
use Rattle.jh_approx.specs.definition.Names.{place_in}
use Rattle.jh_query_names.specs.query_names.Kinds.{value_at}
use Rattle.jh_query_names.specs.query_names.Finding.{values_at}
use Rattle.jh_abstraction.proofs.translation.Numbering.{place-is}
use Rattle.jh_abstraction.proofs.translation.places.place_of.Goals as goal

pub returns : goal.returns
returns c =
    let ts = nodes c.args.table.now in
    IfOk-weaker c.small.result (λ (made : ℕ). made ≡ c.place_or_len.result) (λ (made : ℕ). made ≡ place_in (values_at ts c.args.list.now.keys) (value_at ts c.args.node))
    (λ made e. e ∙ c.place_or_len.ensures ∙ sym (place-is ts c.nodes_differ.ensures.different c.args.list.now.keys c.args.node c.requires.node c.requires.list))
    c.small.ensures
