use Rattle.std.proofs.Common.{◌≡◌, refl, sym, ap, subst, ◌∙◌, ◌<◌, ◌-◌, length, take, drop, ◌∷◌, List, map, Some, slice_get, arith}
use Rattle.std.proofs.lemmas.Result.{IfOk-weaker}
use Rattle.jh_form.specs.Tree.{TermTree, FormulaTree, of_object, of_truth, of_field, free_field, read_object}
use Rattle.jh_arena.specs.table.Entries.{the_field, the_object, the_truth}
use Rattle.jh_arena.specs.table.Growth.{Extends}
use Rattle.jh_arena.specs.table.Nodes.{nodes}
use Rattle.jh_arena.proofs.table.Listed.{extends-refl, extends-trans}
use Rattle.jh_substitution.specs.exchange.Under.{varied}
use Rattle.jh_fca.specs.elimination.Constraints.{Constraint}
use Rattle.jh_fca.specs.elimination.Reads.{formula_reads}
use Rattle.jh_fca.specs.elimination.Exchanged.{varied_term, said, read_at, terms_once, exchanged, atom_exchanged}
use Rattle.jh_field_constraints.specs.Standing.{IsConstraint, IsFormula, IsTerm, AreTerms}
use Rattle.jh_field_constraints.specs.Walking.{said_of, around}
use Rattle.jh_field_constraints.proofs.Arms.{constraint-grows}
use Rattle.jh_field_constraints.proofs.Exchanges.{varied-terms, one-exchanged, none-left, first-left, some-left, map-same}
use Rattle.jh_field_constraints.proofs.Standings.{truth-of, truth-there, truth-at, truth-grows, field-there, field-at, object-there, object-at, object-of, object-grows, terms-grow, are-at, are-none, are-map-next, are-map-all, are-length, are-lent, are-said, are-as}
use Rattle.jh_field_constraints.proofs.exchanging.atom_exchanged.Goals as goal

pub name_of-requires : goal.name_of-requires
name_of-requires c = record { field = (c.requires.of.0.field, c.requires.of.1.field) }

pub exchanged-requires : goal.exchanged-requires
exchanged-requires c = record {
  of = c.requires.of;
  reads = (
    terms_once (formula_reads (the_truth (slice_get (nodes c.args.table.now) c.args.atom)) c.name_of.result.now),
    are-lent (IsTerm c.args.table.now) c.in_ok-reads.reads.items c.as_slice.result.now (terms_once (formula_reads (the_truth (slice_get (nodes c.args.table.now) c.args.atom)) c.name_of.result.now)) c.as_slice.ensures.value c.in_ok-reads.ensures,
  );
  atom = c.requires.atom.local.there;
}

pub returns-clause-node : goal.returns-clause-node
unfolding atom_exchanged
returns-clause-node c =
    let p = the_truth (slice_get (nodes c.args.table.now) c.args.atom) in
    let t1 = c.exchanged.new.table in
    IfOk-weaker
    c.exchanged.result
    (λ made. (d : Constraint) (more : List TermTree) (now : TermTree → TermTree) (q : FormulaTree) → IsConstraint c.args.table.now c.args.of d → AreTerms c.args.table.now c.as_slice.result.now (map now more) → IsFormula c.args.table.now c.args.atom q → IsFormula t1 made (exchanged d more now q c.args.positive))
    (λ made. (d : Constraint) → IsConstraint c.args.table.now c.args.of d → IsFormula t1 made (atom_exchanged d p c.args.positive))
    (λ made h d k.
    let name = c.name_of.ensures d.field k.field in
    let more = terms_once (formula_reads p d.field) in
    h d more (λ a. a) p k
    (are-said (IsTerm c.args.table.now) c.as_slice.result.now more (map (λ a. a) more) (sym (map-same more))
    (are-said (IsTerm c.args.table.now) c.as_slice.result.now (terms_once (formula_reads p c.name_of.result.now)) more (ap (λ f. terms_once (formula_reads p f)) name)
    (are-lent (IsTerm c.args.table.now) c.in_ok-reads.reads.items c.as_slice.result.now (terms_once (formula_reads p c.name_of.result.now)) c.as_slice.ensures.value c.in_ok-reads.ensures)))
    (truth-of (slice_get (nodes c.args.table.now) c.args.atom) c.requires.atom.local.there))
    c.exchanged.ensures.node
