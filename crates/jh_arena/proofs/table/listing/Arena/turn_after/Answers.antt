use Rattle.std.proofs.Common.{ap, sym, ◌∙◌, ◌+◌}
use Rattle.jh_arena.specs.table.Entries.{the_name}
use Rattle.jh_arena.proofs.table.listing.Arena.turn_after.Goals as goal

pub returns : goal.returns
unfolding the_name
returns c = ap (λ n. n + 1) c.turn.ensures ∙ ap (λ o. (the_name o).turn + 1) (sym c.name_at.ensures)
