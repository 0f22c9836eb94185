use Rattle.std.proofs.Common.{sym, subst, suc, ◌<◌, slice_get}
use Rattle.jh_arena.specs.table.Entries.{the_name}
use Rattle.jh_boxed_calls.proofs.interpretations.listed.ListedWorld.object.Goals as goal

pub returns-clause-value : goal.returns-clause-value
returns-clause-value c = c.slot.ensures.object

pub returns-clause-inside : goal.returns-clause-inside
returns-clause-inside c =
    let x = the_name (slice_get c.args.self.now.table.now.pools.names c.args.name) in
    subst (λ v. v < suc c.args.self.now.interp.now.greatest) (sym c.slot.ensures.object) (c.args.self.now.inside.object x)
