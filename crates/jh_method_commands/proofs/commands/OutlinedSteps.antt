-- That an outline is right, as one fact, while the table grows.
use Rattle.jh_arena.specs.table.Entries.{Listing}
use Rattle.jh_arena.specs.table.Growth.{Extends}
use Rattle.jh_method_commands.specs.declared.environment.outline.Outline.{Outline}
use Rattle.jh_method_commands.specs.environment.Outlines.{IsOutline}
use Rattle.jh_method_commands.proofs.environment.OutlineSteps.{outline_grows}
use Rattle.jh_method_commands.specs.commands.Made.{Outlined}

pub outlined_grows : (t u : Listing) (o : Outline) → Outlined t o → Extends t u → Outlined u o
unfolding Outlined
outlined_grows t u o h g = outline_grows t u o h g

pub the-outline : (t : Listing) (o : Outline) → Outlined t o → IsOutline t o
unfolding Outlined
the-outline t o h = h

pub outlined : (t : Listing) (o : Outline) → IsOutline t o → Outlined t o
unfolding Outlined
outlined t o h = h

pub ruleset outlined_steps = (outlined_grows)
