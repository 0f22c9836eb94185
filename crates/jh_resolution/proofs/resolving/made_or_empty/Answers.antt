use Rattle.std.proofs.Common.{ap, sym, ◌∙◌, Some}
use Rattle.std.specs.Option.{option_map_or}
use Rattle.jh_form.specs.Tree.{of_set}
use Rattle.jh_form.specs.Tree as t
use Rattle.jh_arena.specs.table.Nodes.{nodes}
use Rattle.jh_resolution.specs.Spots.{set_at}
use Rattle.jh_resolution.proofs.Loops.{sets-stand}
use Rattle.jh_resolution.proofs.resolving.made_or_empty.Goals as goal

pub returns-in-Some-clause-node : goal.returns-in-Some-clause-node
returns-in-Some-clause-node c =
    sets-stand (nodes c.args.table.now) c.args.made c.in-Some.made c.in-Some.is c.requires.made
    ∙ ap (λ o. Some (of_set (option_map_or (λ s. s) (set_at (nodes c.args.table.now) o) t.empty))) (sym c.in-Some.is)
