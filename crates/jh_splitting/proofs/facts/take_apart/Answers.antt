use Rattle.std.proofs.Common.{refl, ap, ◌∙◌, Some, [], ◌∷◌, ◌++◌}
use Rattle.jh_arena.specs.table.Nodes.{nodes}
use Rattle.jh_arena.specs.declared.table.shapes.Shape.TheVariants as s
use Rattle.jh_splitting.proofs.Shapes.{truth-inside, shaped, and-parts, ex-part, mark-part}
use Rattle.jh_splitting.proofs.FactSteps.{facts-there, facts-and, facts-ex, facts-mark, facts-else, one-fact, no-constant}
use Rattle.jh_splitting.proofs.facts.take_apart.Goals as goal

pub shape-requires : goal.shape-requires
shape-requires c = truth-inside (nodes c.args.table.now) c.args.assumed.node c.requires.there

pub returns-in_ok-push-in-And-2-clause-left : goal.returns-in_ok-push-in-And-2-clause-left
returns-in_ok-push-in-And-2-clause-left c = λ total next h.
    let p = and-parts c.args.table.now c.args.assumed.node c.in-And.left c.in-And.right (shaped c.args.table.now c.args.assumed.node c.shape.result (s.And c.in-And.left c.in-And.right) c.shape.ensures.tree c.shape.ensures.fits c.in-And.is) in
    facts-and c.args.table.now c.args.lists.now c.args.waiting.now.items c.args.assumed c.args.found.now total next h c.push-in-And.new.self.items c.in-And.left c.in-And.right p.0 p.1 p.4 p.2 p.3
    (c.in_ok-push-in-And-2.ensures.items ∙ ap (λ z. z ++ c.part-in-And.result ∷ []) c.in_ok-push-in-And.ensures.items ∙ (λ i. (c.args.waiting.now.items ++ c.part.ensures i ∷ []) ++ c.part-in-And.ensures i ∷ []))

pub returns-in_ok-push-in-Ex-clause-left : goal.returns-in_ok-push-in-Ex-clause-left
returns-in_ok-push-in-Ex-clause-left c = λ total next h.
    let p = ex-part c.args.table.now c.args.assumed.node c.in-Ex.body (shaped c.args.table.now c.args.assumed.node c.shape.result (s.Ex c.in-Ex.body) c.shape.ensures.tree c.shape.ensures.fits c.in-Ex.is) in
    facts-ex c.args.table.now c.args.lists.now c.args.waiting.now.items c.args.assumed c.args.found.now total next h (record { hyps = c.args.lists.now.hyps; binders = c.extend.new.self }) c.push-in-Ex.new.self.items
    (record { hyps = c.args.found.now.hyps; next = c.in_ok-found-in-Ex.field-0 }) c.in-Ex.body c.in_ok-binders-in-Ex.binders p.0 p.2 p.1 (record { hyps = λ n xs k. k; binders = c.extend.ensures.keeps })
    c.in_ok-binders-in-Ex.ensures.made refl c.in_ok-found-in-Ex.ensures c.in_ok-push-in-Ex.ensures.items

pub returns-in_ok-push-in-Mark-clause-left : goal.returns-in_ok-push-in-Mark-clause-left
returns-in_ok-push-in-Mark-clause-left c = λ total next h.
    let p = mark-part c.args.table.now c.args.assumed.node c.in-Mark.mark c.in-Mark.inside (shaped c.args.table.now c.args.assumed.node c.shape.result (s.Mark c.in-Mark.mark c.in-Mark.inside) c.shape.ensures.tree c.shape.ensures.fits c.in-Mark.is) in
    facts-mark c.args.table.now c.args.lists.now c.args.waiting.now.items c.args.assumed c.args.found.now total next h c.push-in-Mark.new.self.items c.in-Mark.mark c.in-Mark.inside p.0 p.1 p.4 p.3 p.2 c.in_ok-push-in-Mark.ensures.items

pub returns-in_ok-hyps-in_default : goal.returns-in_ok-hyps-in_default
returns-in_ok-hyps-in_default c =
    record {
      left = λ total next h.
          let a = facts-there c.args.table.now c.args.lists.now c.args.waiting.now.items c.args.assumed c.args.found.now total next h in
          facts-else c.args.table.now c.args.lists.now c.args.waiting.now.items c.args.assumed c.args.found.now total next h c.closed.new.table (record { hyps = c.extend-in_default.new.self; binders = c.args.lists.now.binders })
          (record { hyps = Some c.in_ok-hyps-in_default.hyps; next = c.args.found.now.next }) c.in_ok-fact-in_default.fact c.in_ok-hyps-in_default.hyps a.0 a.1 c.closed.ensures.grows (record { hyps = c.extend-in_default.ensures.keeps; binders = λ n xs k. k })
          (one-fact c.args.table.now c.args.assumed.node c.shape.result a.0 c.shape.ensures.tree a.1 c.in_default.not-And c.in_default.not-Ex c.in_default.not-Mark)
          (no-constant c.args.table.now c.args.assumed.node c.shape.result a.0 c.shape.ensures.tree a.1 c.in_default.not-And c.in_default.not-Ex c.in_default.not-Mark)
          (λ ws k. c.in_ok-fact-in_default.ensures.node a.0 ws a.1 k) c.in_ok-hyps-in_default.ensures.made refl refl;
      grows = c.closed.ensures.grows;
      kept = record { hyps = c.extend-in_default.ensures.keeps; binders = λ n xs k. k };
    }
