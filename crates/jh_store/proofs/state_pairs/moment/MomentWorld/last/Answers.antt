use Rattle.std.proofs.Common.{◌≡◌, sym, ap, subst, ◌∙◌, ℕ, suc, ◌<◌, slice_get}
use Rattle.jh_name.specs.declared.naming.Name.{Name}
use Rattle.jh_form.specs.Meaning.{Fields}
use Rattle.jh_semantics.specs.jh_vars.Resolved.{own}
use Rattle.jh_arena.specs.table.Entries.{the_name}
use Rattle.jh_semantics.specs.State.{State}
use Rattle.jh_store.specs.memory.Held.{state_in}
use Rattle.jh_store.proofs.state_pairs.Sides.{there, reads}
use Rattle.jh_store.proofs.state_pairs.moment.MomentWorld.last.Goals as goal

pub returns : goal.returns
unfolding state_in
returns c = c.last.ensures
