use Rattle.std.proofs.Common.{rules, ◌≡◌, sym, ap, subst, ◌∙◌, ℕ, suc, ◌<◌, slice_get}
use Rattle.jh_name.specs.declared.naming.Name.{Name}
use Rattle.jh_form.specs.Meaning.{Fields}
use Rattle.jh_semantics.specs.jh_vars.Resolved.{own}
use Rattle.jh_arena.specs.table.Entries.{the_name}
use Rattle.jh_semantics.specs.State.{State}
use Rattle.jh_store.specs.memory.Held.{state_in}
use Rattle.jh_store.proofs.state_pairs.Sides.{there, reads}
use Rattle.jh_store.proofs.state_pairs.moment.MomentWorld.number.Goals as goal

pub returns : goal.returns
returns c =
    let names = c.args.self.now.current.now.names in
    let x = the_name (slice_get c.args.self.now.table.now.pools.names c.args.name) in
    let now = c.args.self.now.current.now in
    let old = c.args.self.now.entry.now in
    let h = c.home-home.result in
    let side = c.side.result.now in
    let named = there names x h c.home-home.ensures.home now old side c.side.ensures.memory c.side.ensures.names in
    let whole = c.number.ensures (own x.text 0) named ∙ reads names x h c.home-home.ensures.home now old side c.side.ensures.memory c.side.ensures.names (λ (s : State) (y : Name). s.number y) in
    search rules
