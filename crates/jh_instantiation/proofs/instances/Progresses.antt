-- Progress stays while the table grows.
use Rattle.jh_arena.specs.table.Entries.{Listing}
use Rattle.jh_arena.specs.table.Growth.{Extends}
use Rattle.jh_arena.proofs.table.Listed.{grows-refl}
use Rattle.jh_inst.specs.instances.Rounds as rounds
use Rattle.jh_instantiation.specs.declared.instances.making.Progress.{Progress}
use Rattle.jh_instantiation.specs.instances.Progressing.{IsProgress}
use Rattle.jh_instantiation.proofs.instances.Growing.{entries-grow, terms-grow}
use Rattle.jh_instantiation.proofs.instances.Universals.{hands-grow}

pub progress-grows : (t u : Listing) → Extends t u → (x : Progress) (p : rounds.Progress) → IsProgress t x p → IsProgress u x p
progress-grows t u g x p h = record {
  entries = entries-grow t u g x.entries.terms.items x.entries.terms.items (grows-refl x.entries.terms.items) x.entries.items.items p.entries h.entries;
  at_hand = hands-grow t u g p.terms x.at_hand.items p.at_hand h.at_hand;
  terms = terms-grow t u g x.terms.nodes.keys p.terms h.terms;
  closed = h.closed;
  next = h.next;
}
