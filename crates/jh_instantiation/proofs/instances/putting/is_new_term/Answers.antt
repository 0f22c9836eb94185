use Rattle.std.proofs.Common.{◌≤◌, sym, ap, arith, not, true, false}
use Rattle.jh_instantiation.proofs.instances.Lists.{item-there}
use Rattle.jh_instantiation.proofs.instances.Telling.{new-term, old-there, old-none}
use Rattle.jh_instantiation.proofs.instances.putting.is_new_term.Goals as goal

pub returns-then-place-old : goal.returns-then-place-old
returns-then-place-old c = λ ts w ht hs.
    let ns = c.args.terms.now.nodes.keys in
    let n = item-there ns c.args.place c.requires in
    ap not (sym (new-term c.args.table.now c.nodes_differ.ensures.different ns ts c.args.place c.args.old n.0 w true ht n.1 hs (old-there ns c.args.place c.args.old n.0 n.1 c.if-place-old.true)))

pub returns : goal.returns
returns c = λ ts w ht hs.
    let ns = c.args.terms.now.nodes.keys in
    let n = item-there ns c.args.place c.requires in
    let new : c.args.old ≤ c.args.place = omega (arith, c.if-place-old.false) in
    ap not (sym (new-term c.args.table.now c.nodes_differ.ensures.different ns ts c.args.place c.args.old n.0 w false ht n.1 hs (old-none ns c.args.place c.args.old n.0 c.differ.ensures n.1 new)))
