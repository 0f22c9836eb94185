use Rattle.std.proofs.Common.{sym, ap, ◌∙◌, slice_get}
use Rattle.jh_arena.specs.table.Entries.{the_name}
use Rattle.jh_boxed_calls.proofs.interpretations.Listings.{there-name}
use Rattle.jh_boxed_calls.proofs.interpretations.listed.Listed.slot.Goals as goal

pub returns-in-Some : goal.returns-in-Some
returns-in-Some c =
    let names = c.args.self.now.table.now.pools.names in
    c.args.self.now.known c.args.name (the_name (slice_get names c.args.name)) c.in-Some.slot (there-name names c.args.name c.requires) (ap (λ ss. slice_get ss c.args.name) (sym c.as_slice.ensures.value) ∙ sym c.slot_at.ensures ∙ c.in-Some.is)
