use Rattle.std.proofs.Common.{◌≡◌, sym, subst, List, ℕ}
use Rattle.std.proofs.lemmas.Result.{IfOk-weaker}
use Rattle.jh_arena.specs.table.Nodes.{nodes}
use Rattle.jh_query_names.specs.query_names.Kinds.{value_at}
use Rattle.jh_query_names.specs.mentioned_names.Notes.{AreFree}
use Rattle.jh_query_names.proofs.mentioned_names.noting.free_row.Goals as goal

pub returns : goal.returns
returns c =
    let ts = nodes c.args.table.now in
    IfOk-weaker
    c.row_of_list.result
    (λ made. made ≡ c.in_ok-list.list)
    (λ made. AreFree ts (value_at ts c.args.node) made)
    (λ made e. subst (λ (ns : List ℕ). AreFree ts (value_at ts c.args.node) ns) (sym e) c.in_ok-list.ensures)
    c.row_of_list.ensures
