use Rattle.std.proofs.Common.{◌≡◌, ◌∙◌, refl, sym, ap, Some, [], ◌∷◌, ◌++◌, replicate, arith, add-one}
use Rattle.std.proofs.lemmas.List.{append-nil}
use Rattle.jh_form.specs.Tree.{TermTree, of_truth, of_object}
use Rattle.jh_form.specs.Tree as tree
use Rattle.jh_arena.specs.table.Nodes.{nodes}
use Rattle.jh_arena.proofs.table.Listed.{extends-refl, extends-trans}
use Rattle.jh_inst.specs.instances.Rounds.{put_at}
use Rattle.jh_instantiation.proofs.skolem_constants.Shapes.{formula-at, formula-there, truth-grows}
use Rattle.jh_instantiation.proofs.instance_count.Nulls.{null-behind, null-usable, null-closed}
use Rattle.jh_instantiation.proofs.instance_count.groups.put_at_null.Goals as goal

pub loop-turn-init : goal.loop-turn-init
loop-turn-init c = record {
  grows = extends-refl c.null.new.table;
  there = truth-grows c.args.table.now c.null.new.table c.args.node c.null.ensures.grows c.requires.there;
  null = c.in_ok-null.ensures.node;
  put = λ a e. (a, e, λ ws. refl);
}

pub put_one-requires-clause-with : goal.put_one-requires-clause-with
put_one-requires-clause-with c = null-usable (nodes c.loop-turn.table) c.in_ok-null.null c.loop-turn.invariant.null

pub put_one-requires-clause-closed : goal.put_one-requires-clause-closed
put_one-requires-clause-closed c = null-closed (nodes c.loop-turn.table) c.in_ok-null.null c.loop-turn.invariant.null

pub loop-turn-preserved : goal.loop-turn-preserved
loop-turn-preserved c =
    let u = c.loop-turn.table in
    let v = c.put_one.new.table in
    let some = c.in_ok-made.ensures.put _ tree.null (formula-at (nodes u) c.loop-turn.made c.loop-turn.invariant.there) c.loop-turn.invariant.null in
    record {
      grows = extends-trans c.null.new.table u v c.loop-turn.invariant.grows c.put_one.ensures.grows;
      there = formula-there (nodes v) c.in_ok-made.made some.0 some.1;
      null = c.put_one.ensures.grows.nodes.keeps c.in_ok-null.null (of_object tree.null) c.loop-turn.invariant.null;
      put = λ a e.
          let before = c.loop-turn.invariant.put a e in
          let next = c.in_ok-made.ensures.put before.0 tree.null before.1 c.loop-turn.invariant.null in (
            next.0,
            next.1,
            λ ws. ap (λ n. put_at a (replicate n tree.null ++ ws)) (add-one c.loop-turn._turn) ∙ ap (put_at a) (sym (null-behind c.loop-turn._turn tree.null ws)) ∙ before.2 (tree.null ∷ ws) ∙ next.2 ws,
          );
    }

pub returns-clause-node : goal.returns-clause-node
returns-clause-node c = λ a e.
    let end : c.loop-turn._turn ≡ c.args.variables = search arith in
    let put = c.loop-turn.invariant.put a (c.null.ensures.grows.nodes.keeps c.args.node (of_truth a) e) in
    let is : put.0 ≡ put_at a (replicate c.args.variables tree.null) = sym (put.2 []) ∙ ap (put_at a) (append-nil (replicate c.loop-turn._turn tree.null)) ∙ ap (λ n. put_at a (replicate n tree.null)) end in
    put.1 ∙ ap (λ b. Some (of_truth b)) is
