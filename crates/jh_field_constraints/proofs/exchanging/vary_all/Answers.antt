use Rattle.std.proofs.Common.{◌≡◌, refl, sym, ap, subst, ◌∙◌, ◌<◌, ◌-◌, length, take, drop, ◌∷◌, List, map, Some, slice_get, arith}
use Rattle.std.proofs.lemmas.Result.{IfOk-weaker}
use Rattle.jh_form.specs.Tree.{TermTree, FormulaTree, of_object, of_truth, of_field, free_field, read_object}
use Rattle.jh_arena.specs.table.Entries.{the_field, the_object, the_truth}
use Rattle.jh_arena.specs.table.Growth.{Extends}
use Rattle.jh_arena.specs.table.Nodes.{nodes}
use Rattle.jh_arena.proofs.table.Listed.{extends-refl, extends-trans}
use Rattle.jh_substitution.specs.exchange.Under.{varied}
use Rattle.jh_fca.specs.elimination.Constraints.{Constraint}
use Rattle.jh_fca.specs.elimination.Reads.{formula_reads}
use Rattle.jh_fca.specs.elimination.Exchanged.{varied_term, said, read_at, terms_once, exchanged, atom_exchanged}
use Rattle.jh_field_constraints.specs.Standing.{IsConstraint, IsFormula, IsTerm, AreTerms}
use Rattle.jh_field_constraints.specs.Walking.{said_of, around}
use Rattle.jh_field_constraints.proofs.Arms.{constraint-grows}
use Rattle.jh_field_constraints.proofs.Exchanges.{varied-terms, one-exchanged, none-left, first-left, some-left, map-same}
use Rattle.jh_field_constraints.proofs.Standings.{truth-of, truth-there, truth-at, truth-grows, field-there, field-at, object-there, object-at, object-of, object-grows, terms-grow, are-at, are-none, are-map-next, are-map-all, are-length, are-lent, are-said, are-as}
use Rattle.jh_field_constraints.proofs.exchanging.vary_all.Goals as goal

pub loop-place-init : goal.loop-place-init
loop-place-init c = record {
  made = λ all b are at. are-none (IsTerm c.args.table.now) c.new-made.result.items c.new-made.ensures.items;
  grows = extends-refl c.args.table.now;
}

pub vary_term-requires : goal.vary_term-requires
vary_term-requires c =
    let there = are-at (IsTerm c.args.table.now) c.args.terms.now c.requires.terms.0 c.loop-place.place c.node_at.result c.requires.terms.1 c.node_at.ensures in
    record {
      term = object-there (slice_get (nodes c.loop-place.table) c.node_at.result) there.0 (c.loop-place.invariant.grows.nodes.keeps c.node_at.result (of_object there.0) there.2);
      read = object-grows c.args.table.now c.loop-place.table c.args.read c.loop-place.invariant.grows c.requires.read;
    }

pub loop-place-preserved : goal.loop-place-preserved
loop-place-preserved c = record {
  made = λ all b are at.
      let there = are-at (IsTerm c.args.table.now) c.args.terms.now all c.loop-place.place c.node_at.result are c.node_at.ensures in
      are-map-next (IsTerm c.vary_term.new.table) (λ a. varied_term a b) all c.loop-place.place c.in_ok-node.node there.0 c.loop-place.made.items c.push.new.self.items
      (terms-grow c.loop-place.table c.vary_term.new.table c.loop-place.made.items (map (λ a. varied_term a b) (take c.loop-place.place all)) c.vary_term.ensures.grows (c.loop-place.invariant.made all b are at)) there.1
      (c.in_ok-node.ensures.node there.0 b (c.loop-place.invariant.grows.nodes.keeps c.node_at.result (of_object there.0) there.2) (c.loop-place.invariant.grows.nodes.keeps c.args.read (of_object b) at))
      c.in_ok-push.ensures.items;
  grows = extends-trans c.args.table.now c.loop-place.table c.vary_term.new.table c.loop-place.invariant.grows c.vary_term.ensures.grows;
}

pub returns-clause-nodes : goal.returns-clause-nodes
returns-clause-nodes c = λ all b are at.
    let long = are-length (IsTerm c.args.table.now) c.args.terms.now all are in
    are-map-all (IsTerm c.loop-place.table) (λ a. varied_term a b) all c.loop-place.place c.loop-place.made.items (search (arith, long)) (c.loop-place.invariant.made all b are at)
