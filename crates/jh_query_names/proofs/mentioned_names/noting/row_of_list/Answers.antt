use Rattle.std.proofs.Common.{sym, ap, ◌∙◌, List, [], ◌∷◌, ◌++◌, ℕ}
use Rattle.jh_arena.proofs.table.Tables.{take-one}
use Rattle.jh_query_names.proofs.mentioned_names.noting.row_of_list.Goals as goal

pub loop-place-preserved : goal.loop-place-preserved
loop-place-preserved c = c.in_ok-push.ensures.items ∙ ap (λ (ns : List ℕ). ns ++ c.at.result ∷ []) c.loop-place.invariant ∙ sym (take-one c.args.list.now c.loop-place.place c.at.result c.at.ensures)
