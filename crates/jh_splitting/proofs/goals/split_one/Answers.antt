use Rattle.std.proofs.Common.{◌≡◌, refl, sym, ap, ◌∙◌, subst, suc, Some, None, [], ◌∷◌, ◌++◌, List, slice_get, add-one, map}
use Rattle.jh_form.specs.Tree.{FormulaTree, of_truth}
use Rattle.jh_form.specs.Tree as t
use Rattle.jh_arena.specs.table.Entries.{Listing, fields_at, the_list}
use Rattle.jh_arena.specs.table.Nodes.{nodes}
use Rattle.jh_arena.specs.declared.table.shapes.Shape.TheVariants as s
use Rattle.jh_arena.proofs.table.Listed.{extends-refl, extends-trans}
use Rattle.jh_boxed.specs.Mapped.{mapped_fields}
use Rattle.jh_seq.specs.splitting.Split.{constant, closing, closed_by, facts_of, facts_next}
use Rattle.jh_seq.specs.splitting.Forests.{forest_goals}
use Rattle.jh_splitting.specs.declared.goals.Goal.{Goal}
use Rattle.jh_splitting.specs.declared.lists.Lists.{Lists}
use Rattle.jh_splitting.specs.Left.{GoalTree, IsReady, Kept, IsGoal, closed_goals}
use Rattle.jh_splitting.specs.Standing.{IsFormula}
use Rattle.jh_splitting.specs.Pairs.{AreReversed}
use Rattle.jh_splitting.proofs.Shapes.{truth-inside, formula-there, shaped, and-parts, implies-parts, iff-parts, all-part, mark-part, true-is, tree-is}
use Rattle.jh_splitting.proofs.Standings.{kept-refl, kept-trans, label-grows, formula-grows, hyps-grow, constants-grow}
use Rattle.jh_splitting.proofs.GoalSteps.{goals-there, next-goal, go-one, go-two, go-many, go-out, go-none, label-none, label-some, one-sequent, like_it, forest-split, goals-wait, tree-closed}
use Rattle.jh_splitting.proofs.goals.split_one.Goals as goal

pub shape-requires : goal.shape-requires
shape-requires c = truth-inside (nodes c.args.table.now) c.args.goal.node c.requires.there

-- the lists of a goal are there
ready : (u : Listing) (l : Lists) (x : Goal) (g : GoalTree) → IsGoal u l x g → IsReady u l x.binders x.facts
ready u l x g h = (g.constants, g.hyps, h.constants, h.hyps)

pub with_facts-requires-clause-there : goal.with_facts-requires-clause-there
with_facts-requires-clause-there c =
    let t0 = c.args.table.now in
    let p = implies-parts t0 c.args.goal.node c.in-Implies.left c.in-Implies.right (shaped t0 c.args.goal.node c.shape.result (s.Implies c.in-Implies.left c.in-Implies.right) c.shape.ensures.tree c.shape.ensures.fits c.in-Implies.is) in
    formula-there (nodes t0) c.in-Implies.left p.0 p.2

pub with_facts-requires-clause-ready : goal.with_facts-requires-clause-ready
with_facts-requires-clause-ready c =
    let r = c.requires.some in
    let g = goals-there c.args.table.now c.args.lists.now r.0 c.args.waiting.now.items c.args.goal c.args.made.now.items r.1 r.2 in
    ready c.args.table.now c.args.lists.now c.args.goal g.0 g.1

pub with_facts-requires-in-Iff-clause-there : goal.with_facts-requires-in-Iff-clause-there
with_facts-requires-in-Iff-clause-there c =
    let t0 = c.args.table.now in
    let p = iff-parts t0 c.args.goal.node c.in-Iff.left c.in-Iff.right (shaped t0 c.args.goal.node c.shape.result (s.Iff c.in-Iff.left c.in-Iff.right) c.shape.ensures.tree c.shape.ensures.fits c.in-Iff.is) in
    formula-there (nodes t0) c.in-Iff.left p.0 p.2

pub with_facts-requires-in-Iff-clause-ready : goal.with_facts-requires-in-Iff-clause-ready
with_facts-requires-in-Iff-clause-ready c =
    let r = c.requires.some in
    let g = goals-there c.args.table.now c.args.lists.now r.0 c.args.waiting.now.items c.args.goal c.args.made.now.items r.1 r.2 in
    ready c.args.table.now c.args.lists.now c.args.goal g.0 g.1

pub with_facts-requires-in-Iff-2-clause-there : goal.with_facts-requires-in-Iff-2-clause-there
with_facts-requires-in-Iff-2-clause-there c =
    let t0 = c.args.table.now in
    let t1 = c.with_facts-in-Iff.new.table in
    let p = iff-parts t0 c.args.goal.node c.in-Iff.left c.in-Iff.right (shaped t0 c.args.goal.node c.shape.result (s.Iff c.in-Iff.left c.in-Iff.right) c.shape.ensures.tree c.shape.ensures.fits c.in-Iff.is) in
    formula-there (nodes t1) c.in-Iff.right p.1 (formula-grows t0 t1 c.with_facts-in-Iff.ensures.grows c.in-Iff.right p.1 p.3)

pub with_facts-requires-in-Iff-2-clause-ready : goal.with_facts-requires-in-Iff-2-clause-ready
with_facts-requires-in-Iff-2-clause-ready c =
    let r = c.requires.some in
    let t0 = c.args.table.now in
    let l0 = c.args.lists.now in
    let t1 = c.with_facts-in-Iff.new.table in
    let l1 = c.with_facts-in-Iff.new.lists in
    let g = goals-there t0 l0 r.0 c.args.waiting.now.items c.args.goal c.args.made.now.items r.1 r.2 in (
      g.0.constants,
      g.0.hyps,
      constants-grow l0.binders l1.binders c.args.goal.binders g.0.constants c.with_facts-in-Iff.ensures.kept.binders g.1.constants,
      hyps-grow t0 t1 c.with_facts-in-Iff.ensures.grows l0.hyps l1.hyps c.args.goal.facts.hyps g.0.hyps c.with_facts-in-Iff.ensures.kept.hyps g.1.hyps,
    )

pub forest_goals-requires : goal.forest_goals-requires
forest_goals-requires c =
    let r = c.requires.some in
    let g = goals-there c.args.table.now c.args.lists.now r.0 c.args.waiting.now.items c.args.goal c.args.made.now.items r.1 r.2 in
    record { there = formula-there (nodes c.closed.new.table) c.in_ok-forest-in-Tree.forest (closed_by g.0.formula g.0.constants) (c.in_ok-forest-in-Tree.ensures.node g.0.formula g.0.constants g.1.formula g.1.constants) }

pub returns-in_ok-push-in-Mark-clause-left : goal.returns-in_ok-push-in-Mark-clause-left
returns-in_ok-push-in-Mark-clause-left c = λ method total h.
    let t0 = c.args.table.now in
    let l0 = c.args.lists.now in
    let w = c.args.waiting.now.items in
    let x = c.args.goal in
    let made = c.args.made.now.items in
    let p = mark-part t0 x.node c.in-Mark.mark c.in-Mark.inside (shaped t0 x.node c.shape.result (s.Mark c.in-Mark.mark c.in-Mark.inside) c.shape.ensures.tree c.shape.ensures.fits c.in-Mark.is) in
    let n = next-goal t0 l0 method w x made total h (t.mark p.0 p.1) p.4 in
    go-one t0 l0 method w x made total h t0 l0 (extends-refl t0) (kept-refl l0) (t.mark p.0 p.1) n c.push.new.self.items (record { node = c.in-Mark.inside; mark = Some c.in-Mark.mark; binders = x.binders; facts = x.facts })
    (record { formula = p.1; mark = Some p.0; hyps = n.hyps; constants = n.constants; next = x.facts.next }) (record { formula = p.3; label = p.2; hyps = n.there; constants = n.closes; next = refl }) refl c.in_ok-push-in-Mark.ensures.items

pub returns-in_ok-push-in-And-2-clause-left : goal.returns-in_ok-push-in-And-2-clause-left
returns-in_ok-push-in-And-2-clause-left c = λ method total h.
    let t0 = c.args.table.now in
    let l0 = c.args.lists.now in
    let w = c.args.waiting.now.items in
    let x = c.args.goal in
    let made = c.args.made.now.items in
    let p = and-parts t0 x.node c.in-And.left c.in-And.right (shaped t0 x.node c.shape.result (s.And c.in-And.left c.in-And.right) c.shape.ensures.tree c.shape.ensures.fits c.in-And.is) in
    let n = next-goal t0 l0 method w x made total h (t.and p.0 p.1) p.4 in
    go-two t0 l0 method w x made total h t0 l0 (extends-refl t0) (kept-refl l0) (t.and p.0 p.1) n c.push-in-And-2.new.self.items
    (record { node = c.in-And.left; mark = x.mark; binders = x.binders; facts = x.facts }) (record { node = c.in-And.right; mark = x.mark; binders = x.binders; facts = x.facts })
    (record { formula = p.0; mark = n.mark; hyps = n.hyps; constants = n.constants; next = x.facts.next }) (record { formula = p.1; mark = n.mark; hyps = n.hyps; constants = n.constants; next = x.facts.next })
    (record { formula = p.2; label = n.label; hyps = n.there; constants = n.closes; next = refl }) (record { formula = p.3; label = n.label; hyps = n.there; constants = n.closes; next = refl }) refl
    (c.in_ok-push-in-And-2.ensures.items ∙ ap (λ (q : List Goal). q ++ c.instead-in-And.result ∷ []) c.in_ok-push-in-And.ensures.items ∙ (λ i. (w ++ c.instead.ensures i ∷ []) ++ c.instead-in-And.ensures i ∷ []))

pub returns-in_ok-push-in-Implies-clause-left : goal.returns-in_ok-push-in-Implies-clause-left
returns-in_ok-push-in-Implies-clause-left c = λ method total h.
    let t0 = c.args.table.now in
    let l0 = c.args.lists.now in
    let w = c.args.waiting.now.items in
    let x = c.args.goal in
    let made = c.args.made.now.items in
    let t1 = c.with_facts.new.table in
    let l1 = c.with_facts.new.lists in
    let p = implies-parts t0 x.node c.in-Implies.left c.in-Implies.right (shaped t0 x.node c.shape.result (s.Implies c.in-Implies.left c.in-Implies.right) c.shape.ensures.tree c.shape.ensures.fits c.in-Implies.is) in
    let n = next-goal t0 l0 method w x made total h (t.implies p.0 p.1) p.4 in
    go-one t0 l0 method w x made total h t1 l1 c.with_facts.ensures.grows c.with_facts.ensures.kept (t.implies p.0 p.1) n c.push-in-Implies.new.self.items
    (record { node = c.in-Implies.right; mark = x.mark; binders = x.binders; facts = c.in_ok-facts-in-Implies.facts })
    (record { formula = p.1; mark = n.mark; hyps = n.hyps ++ facts_of p.0 None n.constants x.facts.next; constants = n.constants; next = facts_next p.0 x.facts.next })
    (record {
      formula = formula-grows t0 t1 c.with_facts.ensures.grows c.in-Implies.right p.1 p.3;
      label = label-grows t0 t1 c.with_facts.ensures.grows x.mark n.mark n.label;
      hyps = c.in_ok-facts-in-Implies.ensures.hyps p.0 n.constants n.hyps p.2 n.closes n.there;
      constants = constants-grow l0.binders l1.binders x.binders n.constants c.with_facts.ensures.kept.binders n.closes;
      next = sym (c.in_ok-facts-in-Implies.ensures.next p.0 p.2);
    })
    refl (c.in_ok-push-in-Implies.ensures.items ∙ (λ i. w ++ c.instead-in-Implies.ensures i ∷ []))

pub returns-in_ok-push-in-Iff-2-clause-left : goal.returns-in_ok-push-in-Iff-2-clause-left
returns-in_ok-push-in-Iff-2-clause-left c = λ method total h.
    let t0 = c.args.table.now in
    let l0 = c.args.lists.now in
    let w = c.args.waiting.now.items in
    let x = c.args.goal in
    let made = c.args.made.now.items in
    let t1 = c.with_facts-in-Iff.new.table in
    let l1 = c.with_facts-in-Iff.new.lists in
    let g1 = c.with_facts-in-Iff.ensures.grows in
    let k1 = c.with_facts-in-Iff.ensures.kept in
    let t2 = c.with_facts-in-Iff-2.new.table in
    let l2 = c.with_facts-in-Iff-2.new.lists in
    let g2 = c.with_facts-in-Iff-2.ensures.grows in
    let k2 = c.with_facts-in-Iff-2.ensures.kept in
    let g = extends-trans t0 t1 t2 g1 g2 in
    let k = kept-trans l0 l1 l2 k1 k2 in
    let p = iff-parts t0 x.node c.in-Iff.left c.in-Iff.right (shaped t0 x.node c.shape.result (s.Iff c.in-Iff.left c.in-Iff.right) c.shape.ensures.tree c.shape.ensures.fits c.in-Iff.is) in
    let n = next-goal t0 l0 method w x made total h (t.iff p.0 p.1) p.4 in
    let right = formula-grows t0 t1 g1 c.in-Iff.right p.1 p.3 in
    let closes = constants-grow l0.binders l1.binders x.binders n.constants k1.binders n.closes in
    let known = hyps-grow t0 t1 g1 l0.hyps l1.hyps x.facts.hyps n.hyps k1.hyps n.there in
    let first = c.in_ok-first-in-Iff.ensures.hyps p.0 n.constants n.hyps p.2 n.closes n.there in
    go-two t0 l0 method w x made total h t2 l2 g k (t.iff p.0 p.1) n c.push-in-Iff-2.new.self.items
    (record { node = c.in-Iff.right; mark = x.mark; binders = x.binders; facts = c.in_ok-first-in-Iff.first }) (record { node = c.in-Iff.left; mark = x.mark; binders = x.binders; facts = c.in_ok-second-in-Iff.second })
    (record { formula = p.1; mark = n.mark; hyps = n.hyps ++ facts_of p.0 None n.constants x.facts.next; constants = n.constants; next = facts_next p.0 x.facts.next })
    (record { formula = p.0; mark = n.mark; hyps = n.hyps ++ facts_of p.1 None n.constants x.facts.next; constants = n.constants; next = facts_next p.1 x.facts.next })
    (record {
      formula = formula-grows t1 t2 g2 c.in-Iff.right p.1 right;
      label = label-grows t0 t2 g x.mark n.mark n.label;
      hyps = hyps-grow t1 t2 g2 l1.hyps l2.hyps c.in_ok-first-in-Iff.first.hyps (n.hyps ++ facts_of p.0 None n.constants x.facts.next) k2.hyps first;
      constants = constants-grow l0.binders l2.binders x.binders n.constants k.binders n.closes;
      next = sym (c.in_ok-first-in-Iff.ensures.next p.0 p.2);
    })
    (record {
      formula = formula-grows t0 t2 g c.in-Iff.left p.0 p.2;
      label = label-grows t0 t2 g x.mark n.mark n.label;
      hyps = c.in_ok-second-in-Iff.ensures.hyps p.1 n.constants n.hyps right closes known;
      constants = constants-grow l0.binders l2.binders x.binders n.constants k.binders n.closes;
      next = sym (c.in_ok-second-in-Iff.ensures.next p.1 right);
    })
    refl
    (c.in_ok-push-in-Iff-2.ensures.items ∙ ap (λ (q : List Goal). q ++ c.instead-in-Iff-2.result ∷ []) c.in_ok-push-in-Iff.ensures.items ∙ (λ i. (w ++ c.instead-in-Iff.ensures i ∷ []) ++ c.instead-in-Iff-2.ensures i ∷ []))

pub returns-in_ok-push-in-All-clause-left : goal.returns-in_ok-push-in-All-clause-left
returns-in_ok-push-in-All-clause-left c = λ method total h.
    let t0 = c.args.table.now in
    let l0 = c.args.lists.now in
    let w = c.args.waiting.now.items in
    let x = c.args.goal in
    let made = c.args.made.now.items in
    let l1 : Lists = record { hyps = l0.hyps; binders = c.extend.new.self } in
    let k1 : Kept l0 l1 = record { hyps = λ i xs q. q; binders = c.extend.ensures.keeps } in
    let p = all-part t0 x.node c.in-All.body (shaped t0 x.node c.shape.result (s.All c.in-All.body) c.shape.ensures.tree c.shape.ensures.fits c.in-All.is) in
    let n = next-goal t0 l0 method w x made total h (t.all p.0) p.2 in
    go-one t0 l0 method w x made total h t0 l1 (extends-refl t0) k1 (t.all p.0) n c.push-in-All.new.self.items
    (record { node = c.in-All.body; mark = x.mark; binders = Some c.in_ok-binders-in-All.binders; facts = record { hyps = x.facts.hyps; next = c.in_ok-next-in-All.next } })
    (record { formula = p.0; mark = n.mark; hyps = n.hyps; constants = constant x.facts.next ∷ n.constants; next = suc x.facts.next })
    (record {
      formula = p.1;
      label = n.label;
      hyps = hyps-grow t0 t0 (extends-refl t0) l0.hyps l1.hyps x.facts.hyps n.hyps k1.hyps n.there;
      constants = (x.facts.next ∷ n.closes.0, c.in_ok-binders-in-All.ensures.made n.closes.0 n.closes.1, ap (λ ws. constant x.facts.next ∷ ws) n.closes.2);
      next = sym (c.in_ok-next-in-All.ensures ∙ add-one x.facts.next);
    })
    refl c.in_ok-push-in-All.ensures.items

pub returns-in_ok-wait_for_all-in-Tree-clause-left : goal.returns-in_ok-wait_for_all-in-Tree-clause-left
returns-in_ok-wait_for_all-in-Tree-clause-left c = λ method total h.
    let t0 = c.args.table.now in
    let l0 = c.args.lists.now in
    let w = c.args.waiting.now.items in
    let x = c.args.goal in
    let made = c.args.made.now.items in
    let t1 = c.closed.new.table in
    let t2 = c.forest_goals.new.table in
    let g = extends-trans t0 t1 t2 c.closed.ensures.grows c.forest_goals.ensures.grows in
    let fs = fields_at (nodes t0) (the_list (slice_get t0.pools.lists c.in-Tree.field-0)) in
    let e = tree-is t0 x.node c.in-Tree.field-0 (shaped t0 x.node c.shape.result (s.Tree c.in-Tree.field-0) c.shape.ensures.tree c.shape.ensures.fits c.in-Tree.is) in
    let n = next-goal t0 l0 method w x made total h (t.tree fs) e in
    let all = mapped_fields fs (closing n.constants) 0 in
    let forest : IsFormula t1 c.in_ok-forest-in-Tree.forest (t.tree all) = subst (λ (a : FormulaTree). IsFormula t1 c.in_ok-forest-in-Tree.forest a) (tree-closed fs n.constants) (c.in_ok-forest-in-Tree.ensures.node (t.tree fs) n.constants e n.closes) in
    let paired = c.in_ok-goals-in-Tree.ensures.goals all forest in
    let label = label-grows t0 t2 g x.mark n.mark n.label in
    let known = hyps-grow t0 t2 g l0.hyps l0.hyps x.facts.hyps n.hyps (λ i xs q. q) n.there in
    let put : c.wait_for_all.new.waiting.items ≡ w ++ closed_goals x c.in_ok-goals-in-Tree.goals.items = c.in_ok-wait_for_all-in-Tree.ensures ∙ ap (λ ns. w ++ closed_goals x ns) c.as_slice.ensures.value in
    go-many t0 l0 method w x made total h t2 l0 g (kept-refl l0) (t.tree fs) n c.wait_for_all.new.waiting.items (map (like_it method n.mark n.hyps x.facts.next) (forest_goals all))
    (λ k. subst (λ (z : List Goal). AreReversed (IsGoal t2 l0) z (map (like_it method n.mark n.hyps x.facts.next) (forest_goals all) ++ n.rest)) (sym put)
    (goals-wait method n.mark n.hyps x.facts.next t2 l0 w x c.in_ok-goals-in-Tree.goals.items (forest_goals all) n.rest label known refl paired k))
    (forest-split method n.mark n.hyps x.facts.next all)

pub returns-in-None-clause-left : goal.returns-in-None-clause-left
returns-in-None-clause-left c = λ method total h.
    let t0 = c.args.table.now in
    let l0 = c.args.lists.now in
    let w = c.args.waiting.now.items in
    let x = c.args.goal in
    let made = c.args.made.now.items in
    let n = next-goal t0 l0 method w x made total h t.true_formula (true-is t0 x.node (shaped t0 x.node c.shape.result s.True c.shape.ensures.tree c.shape.ensures.fits c.in-True.is)) in
    go-none t0 l0 method w x made total h t0 l0 (extends-refl t0) (kept-refl l0) t.true_formula n (label-none t0 x.mark n.mark method n.hyps c.in-None.is n.label)

pub returns-in_ok-sequent-in-Some-clause-left : goal.returns-in_ok-sequent-in-Some-clause-left
returns-in_ok-sequent-in-Some-clause-left c = λ method total h.
    let t0 = c.args.table.now in
    let l0 = c.args.lists.now in
    let w = c.args.waiting.now.items in
    let x = c.args.goal in
    let made = c.args.made.now.items in
    let e = true-is t0 x.node (shaped t0 x.node c.shape.result s.True c.shape.ensures.tree c.shape.ensures.fits c.in-True.is) in
    let n = next-goal t0 l0 method w x made total h t.true_formula e in
    go-out t0 l0 method w x made total h t0 l0 (extends-refl t0) (kept-refl l0) t.true_formula n c.sequent.new.made.items (record { mark = x.mark; hyps = x.facts.hyps; goal = x.node }) t.true_formula refl refl e
    (label-some t0 x.mark c.in-Some.field-0 n.mark method n.hyps c.in-Some.is n.label) c.in_ok-sequent-in-Some.ensures

pub returns-in_ok-sequent-in_default : goal.returns-in_ok-sequent-in_default
returns-in_ok-sequent-in_default c = record {
  left = λ method total h.
      let t0 = c.args.table.now in
      let l0 = c.args.lists.now in
      let w = c.args.waiting.now.items in
      let x = c.args.goal in
      let made = c.args.made.now.items in
      let t1 = c.closed-in_default.new.table in
      let r = goals-there t0 l0 method w x made total h in
      let a = r.0.formula in
      let n = next-goal t0 l0 method w x made total h a r.1.formula in
      go-out t0 l0 method w x made total h t1 l0 c.closed-in_default.ensures.grows (kept-refl l0) a n c.sequent-in_default.new.made.items (record { mark = x.mark; hyps = x.facts.hyps; goal = c.in_ok-node-in_default.node }) (closed_by a n.constants) refl refl
      (c.in_ok-node-in_default.ensures.node a n.constants r.1.formula n.closes)
      (one-sequent t0 x.node c.shape.result a c.shape.ensures.tree r.1.formula c.in_default.not-Mark c.in_default.not-And c.in_default.not-Implies c.in_default.not-Iff c.in_default.not-All c.in_default.not-Tree c.in_default.not-True method n.mark n.hyps n.constants x.facts.next)
      c.in_ok-sequent-in_default.ensures;
  grows = c.closed-in_default.ensures.grows;
  kept = kept-refl c.args.lists.now;
}
