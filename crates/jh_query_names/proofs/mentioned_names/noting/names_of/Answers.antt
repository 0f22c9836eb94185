use Rattle.std.proofs.Common.{◌≡◌, sym, subst, ◌∙◌, List, ℕ}
use Rattle.std.proofs.lemmas.Result.{IfOk-weaker}
use Rattle.jh_arena.specs.table.Nodes.{nodes}
use Rattle.jh_approx.specs.definition.Names.{without_repeats}
use Rattle.jh_query_names.specs.query_names.Gathered.{value_names}
use Rattle.jh_query_names.specs.query_names.Kinds.{value_at}
use Rattle.jh_query_names.specs.mentioned_names.Notes.{AreTrees}
use Rattle.jh_query_names.proofs.mentioned_names.Gatherings.{gathered}
use Rattle.jh_query_names.proofs.mentioned_names.noting.names_of.Goals as goal

pub gather-requires-clause-found : goal.gather-requires-clause-found
gather-requires-clause-found c = c.new-found.ensures.found (nodes c.args.table.now)

pub returns : goal.returns
returns c =
    let ts = nodes c.args.table.now in
    let vs = value_names (value_at ts c.args.node) in
    IfOk-weaker
    c.row_of.result
    (λ made. made ≡ c.as_slice.result.now)
    (λ made. AreTrees ts made (without_repeats vs))
    (λ made e. subst (λ (ns : List ℕ). AreTrees ts ns (without_repeats vs)) (sym (e ∙ c.as_slice.ensures.keys))
    (gathered ts c.new-found.result.names.keys c.gather.new.found.names.keys c.gather.new.found.seen.keys vs c.new-found.ensures.names c.in_ok-gather.ensures.names c.in_ok-gather.ensures.found))
    c.row_of.ensures
