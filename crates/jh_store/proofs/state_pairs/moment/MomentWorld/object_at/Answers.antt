use Rattle.std.proofs.Common.{◌≡◌, sym, ap, subst, ◌∙◌, ℕ, suc, ◌<◌, slice_get}
use Rattle.jh_name.specs.declared.naming.Name.{Name}
use Rattle.jh_form.specs.Meaning.{Fields}
use Rattle.jh_semantics.specs.jh_vars.Resolved.{own}
use Rattle.jh_arena.specs.table.Entries.{the_name}
use Rattle.jh_semantics.specs.State.{State}
use Rattle.jh_store.specs.memory.Held.{state_in}
use Rattle.jh_store.proofs.state_pairs.Sides.{there, reads}
use Rattle.jh_store.proofs.state_pairs.moment.MomentWorld.object_at.Goals as goal

pub returns-clause-value : goal.returns-clause-value
returns-clause-value c =
    let names = c.args.self.now.current.now.names in
    let x = the_name (slice_get c.args.self.now.table.now.pools.names c.args.name) in
    let now = c.args.self.now.current.now in
    let old = c.args.self.now.entry.now in
    let h = c.home-home.result in
    let side = c.side.result.now in
    let named = there names x h c.home-home.ensures.home now old side c.side.ensures.memory c.side.ensures.names in
    c.object_at.ensures.value (own x.text 0) named ∙ ap (λ (g : Fields). g.objects c.args.at) (reads names x h c.home-home.ensures.home now old side c.side.ensures.memory c.side.ensures.names (λ (s : State) (y : Name). s.field y))

pub returns-clause-inside : goal.returns-clause-inside
unfolding state_in
returns-clause-inside c = subst (λ l. c.object_at.result < suc l) c.side.ensures.last c.object_at.ensures.inside
