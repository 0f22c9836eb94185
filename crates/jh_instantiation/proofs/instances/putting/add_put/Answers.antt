use Rattle.std.proofs.Common.{◌≡◌, sym, ap, arith}
use Rattle.jh_arena.specs.table.Nodes.{nodes}
use Rattle.jh_arena.proofs.table.Listed.{grows-refl}
use Rattle.jh_inst.specs.instances.Entries.{of_entry}
use Rattle.jh_inst.specs.instances.Rounds.{put_at, put}
use Rattle.jh_inst.specs.instances.Witnesses.{witnesses, constants_from}
use Rattle.jh_instantiation.proofs.skolem_constants.Shapes.{formula-at}
use Rattle.jh_instantiation.proofs.instances.Growing.{entries-grow, terms-grow}
use Rattle.jh_instantiation.proofs.instances.Placing.{terms-length}
use Rattle.jh_instantiation.proofs.instances.Sequences.{put-constants}
use Rattle.jh_instantiation.proofs.instances.putting.add_put.Goals as goal

pub between-requires : goal.between-requires
between-requires c = let next = c.in_ok-made.ensures.next _ (formula-at (nodes c.args.table.now) c.args.node c.requires.there) in omega (arith, next)

pub returns-clause-made : goal.returns-clause-made
returns-clause-made c = λ es ts h w hm hh hw hf.
    let t = c.args.table.now in
    let u = c.settle.new.table in
    let g = c.settle.ensures.grows in
    let pool = c.args.entries.now.terms.items in
    let now = terms-grow t u g c.args.chosen.now w hw in
    let fresh : c.between.result ≡ witnesses (put_at h.formula w) = let next = c.in_ok-made.ensures.next (put_at h.formula w) hf in omega (arith, next, c.between.ensures) in
    let made = c.in_ok-terms.ensures.kept u es (entries-grow t u g pool pool (grows-refl pool) c.args.entries.now.items.items es hm) in
    c.in_ok-add.ensures u es (put h w c.args.next) made
    (record {
      formula = c.in_ok-made.ensures.node (put_at h.formula w) hf;
      source = ap of_entry hh.place;
      counted = terms-length t c.args.chosen.now w hw;
      terms = c.in_ok-terms.ensures.there u w now;
      fresh = ap (constants_from c.args.next) (sym fresh);
    })

pub returns-clause-next : goal.returns-clause-next
returns-clause-next c = λ h w hf.
    let next = c.in_ok-made.ensures.next (put_at h.formula w) hf in
    let here = put-constants h w c.args.next in
    omega (arith, next, here)
