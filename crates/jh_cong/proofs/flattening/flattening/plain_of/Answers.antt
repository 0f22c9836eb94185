use Rattle.std.proofs.Common.{◌<◌, sym, subst}
use Rattle.std.specs.Prelude.{OnOk}
use Rattle.jh_arena.specs.table.Parts.{list_parts}
use Rattle.jh_cong.specs.flattening.Plain.{AddsHelpers, IsPlain, flat, sort_at}
use Rattle.jh_cong.proofs.flattening.Oks.{ok-weaker}
use Rattle.jh_cong.proofs.flattening.flattening.plain_of.Goals as goal

pub plain_of_shape-requires-clause-number : goal.plain_of_shape-requires-clause-number
plain_of_shape-requires-clause-number c = subst (λ k. c.args.number < k) (sym c.len-count.ensures) c.requires.number

pub returns-clause-made : goal.returns-clause-made
returns-clause-made c =
    ok-weaker c.plain_of_shape.result (λ x h. record {
      shape = c.shape-shape.result;
      tree = c.shape-shape.ensures.tree;
      fits = c.shape-shape.ensures.fits;
      below = c.shape-shape.ensures.below;
      plain = subst (λ k. IsPlain k c.args.made.now c.plain_of_shape.new.helpers.items (sort_at c.args.table.now) (list_parts c.args.table.now.pools.lists c.shape-shape.result) c.args.number (flat c.shape-shape.result) x) c.len-count.ensures h;
    }) c.plain_of_shape.ensures.plain

pub returns-clause-adds : goal.returns-clause-adds
returns-clause-adds c = subst (λ k. OnOk c.plain_of_shape.result (AddsHelpers k c.args.helpers.now.items c.plain_of_shape.new.helpers.items)) c.len-count.ensures c.plain_of_shape.ensures.adds
