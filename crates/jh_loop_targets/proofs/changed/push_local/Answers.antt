use Rattle.std.proofs.Common.{sym, ap, ◌∙◌, option_map, Some, None}
use Rattle.std.specs.Option.{option_map_or}
use Rattle.jh_state_facts.specs.changes.Added.{sorted_in}
use Rattle.jh_loop_targets.specs.Noted.{names_in, entry_in}
use Rattle.jh_loop_targets.proofs.Enterings.{entry-at}
use Rattle.jh_loop_targets.proofs.Orders.{nothing-more, push-more}
use Rattle.jh_loop_targets.proofs.changed.push_local.Goals as goal

pub returns-in-None : goal.returns-in-None
returns-in-None c =
    nothing-more (names_in c.args.locals.now) (sorted_in c.args.names.now.items) c.args.place
    (entry-at c.args.locals.now.sorts.entries c.args.place ∙ ap (λ o. option_map_or (λ e. Some (entry_in e)) o None) (sym c.get_index.ensures.entry ∙ ap (option_map (λ p. (p.0.now, p.1.now))) c.in-None.is))

pub returns-in_ok-push-in-Some : goal.returns-in_ok-push-in-Some
returns-in_ok-push-in-Some c =
    push-more (names_in c.args.locals.now) c.args.names.now.items c.push.new.self.items c.args.place (record { text = c.in-Some.text.now; sort = c.in-Some.sort.now })
    (entry-at c.args.locals.now.sorts.entries c.args.place ∙ ap (λ o. option_map_or (λ e. Some (entry_in e)) o None) (sym c.get_index.ensures.entry ∙ ap (option_map (λ p. (p.0.now, p.1.now))) c.in-Some.is))
    c.in_ok-push-in-Some.ensures.items
