use Rattle.std.proofs.Common.{ap, sym, subst, ◌∙◌, suc, ◌<◌, get_or, slice_get}
use Rattle.jh_arena.specs.table.Entries.{the_name}
use Rattle.jh_boxed_calls.proofs.interpretations.listed.ListedWorld.object_at.Goals as goal

pub returns-clause-value : goal.returns-clause-value
returns-clause-value c = c.value_at.ensures ∙ ap (λ values. get_or values c.args.at 0) c.slot.ensures.objects

pub returns-clause-inside : goal.returns-clause-inside
returns-clause-inside c =
    let x = the_name (slice_get c.args.self.now.table.now.pools.names c.args.name) in
    subst (λ v. v < suc c.args.self.now.interp.now.greatest) (sym (c.value_at.ensures ∙ ap (λ values. get_or values c.args.at 0) c.slot.ensures.objects)) (c.args.self.now.inside.field x c.args.at c.requires.inside)
