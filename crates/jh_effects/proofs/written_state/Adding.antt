-- What is given and linked, as more is added.
use Rattle.std.proofs.Common.{sym, ap, ◌∙◌, List, [], ◌++◌, append_assoc, append-nil}
use Rattle.jh_effects.specs.declared.written_state.flow.Flow.{Flow}
use Rattle.jh_effects.specs.declared.written_state.flow.Given.{Given}
use Rattle.jh_effects.specs.declared.written_state.flow.Link.{Link}
use Rattle.jh_effects.specs.written_state.Methods.{Adds}

pub adds-none : (a : Flow) → Adds a a [] []
adds-none a = record { given = sym (append-nil a.given.items); links = sym (append-nil a.links.items) }

pub adds-two : (a b c : Flow) (gs hs : List Given) (ls ks : List Link) → Adds a b gs ls → Adds b c hs ks → Adds a c (gs ++ hs) (ls ++ ks)
adds-two a b c gs hs ls ks f g = record {
  given = g.given ∙ ap (λ us. us ++ hs) f.given ∙ append_assoc a.given.items gs hs;
  links = g.links ∙ ap (λ us. us ++ ks) f.links ∙ append_assoc a.links.items ls ks;
}

-- what is given first, and what is linked then
pub adds-both : (a b c : Flow) (gs : List Given) (ls : List Link) → Adds a b gs [] → Adds b c [] ls → Adds a c gs ls
adds-both a b c gs ls f g = record {
  given = g.given ∙ append-nil b.given.items ∙ f.given;
  links = g.links ∙ ap (λ us. us ++ ls) (f.links ∙ append-nil a.links.items);
}

pub ruleset adds_steps = (adds-none, adds-both)
