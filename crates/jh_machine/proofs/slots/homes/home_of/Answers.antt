use Rattle.std.proofs.Common.{◌≡◌, sym, ap, ◌∙◌, ◌==◌, not, Some, slice_get}
use Rattle.jh_name.specs.declared.naming.Name.{Name}
use Rattle.jh_arena.specs.table.Entries.{the_name}
use Rattle.jh_vars.specs.Resolved.{own}
use Rattle.jh_machine_code.proofs.numbering.Standing.{grows_same}
use Rattle.jh_machine.proofs.slots.homes.home_of.Goals as goal

pub returns-clause-home : goal.returns-clause-home
unfolding the_name
returns-clause-home c =
    let named : the_name (slice_get c.args.table.now.pools.names c.args.number) ≡ c.name_at-name.result.now = ap the_name c.name_at-name.ensures in
    let is = c.in_ok-number.ensures.is in
    let names = c.name_number.new.names in
    (is.fits names grows_same ∙ ap (λ t. Some (own t 0)) (is.same names grows_same ∙ ap (λ (x : Name). x.text) (sym named)), ap (λ t. not (t == 0)) (c.turn-is_old.ensures ∙ ap (λ (x : Name). x.turn) (sym named)))
