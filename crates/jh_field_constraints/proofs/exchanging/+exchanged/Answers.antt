use Rattle.std.proofs.Common.{◌≡◌, refl, sym, ap, subst, ◌∙◌, ◌<◌, ◌-◌, length, take, drop, ◌∷◌, List, map, Some, slice_get, arith}
use Rattle.std.proofs.lemmas.List.{length-map}
use Rattle.std.proofs.lemmas.Result.{IfOk-weaker}
use Rattle.jh_form.specs.Tree.{TermTree, FormulaTree, of_object, of_truth, of_field, free_field, read_object}
use Rattle.jh_arena.specs.table.Entries.{the_field, the_object, the_truth}
use Rattle.jh_arena.specs.table.Growth.{Extends}
use Rattle.jh_arena.specs.table.Nodes.{nodes}
use Rattle.jh_arena.proofs.table.Listed.{extends-refl, extends-trans}
use Rattle.jh_substitution.specs.exchange.Under.{varied}
use Rattle.jh_fca.specs.elimination.Constraints.{Constraint}
use Rattle.jh_fca.specs.elimination.Reads.{formula_reads}
use Rattle.jh_fca.specs.elimination.Exchanged.{varied_term, said, read_at, terms_once, exchanged, atom_exchanged}
use Rattle.jh_field_constraints.specs.Standing.{IsConstraint, IsFormula, IsTerm, AreTerms}
use Rattle.jh_field_constraints.specs.Walking.{said_of, around}
use Rattle.jh_field_constraints.proofs.Arms.{constraint-grows}
use Rattle.jh_field_constraints.proofs.Exchanges.{varied-terms, one-exchanged, none-left, first-left, some-left, rest-length, map-same}
use Rattle.jh_field_constraints.proofs.Standings.{truth-of, truth-there, truth-at, truth-grows, field-there, field-at, object-there, object-at, object-of, object-grows, terms-grow, are-at, are-none, are-map-next, are-map-all, are-length, are-lent, are-said, are-as}
use Rattle.jh_field_constraints.proofs.exchanging.+exchanged.Goals as goal

pub exchanged-returns-in-empty-clause-node : goal.exchanged-returns-in-empty-clause-node
exchanged-returns-in-empty-clause-node τ c = λ d more now p k are at. at ∙ ap (λ q. Some (of_truth q)) (none-left c.args.table.now c.args.reads.now d more now p c.args.positive c.in-empty.len_below are)

pub exchanged-first_exchanged-requires : goal.exchanged-first_exchanged-requires
exchanged-first_exchanged-requires τ c =
    let all = some-left c.args.table.now c.args.reads.now c.node_at.result c.requires.reads.0 c.in-len1-up.len_at_least c.node_at.ensures c.requires.reads.1 in
    let short = rest-length c.args.reads.now c.in-len1-up.len_at_least in (
      omega (arith, c.decreases, short),
      (c.requires.of, (object-there (slice_get (nodes c.args.table.now) c.node_at.result) all.a all.first, ((all.others, all.left), c.requires.atom))),
    )

pub exchanged-returns-in-len1-up-clause-node : goal.exchanged-returns-in-len1-up-clause-node
exchanged-returns-in-len1-up-clause-node τ c =
    let t1 = c.first_exchanged.new.table in
    IfOk-weaker
    c.first_exchanged.result
    (λ made. (d : Constraint) (a : TermTree) (more : List TermTree) (now : TermTree → TermTree) (p : FormulaTree) → IsConstraint c.args.table.now c.args.of d → IsTerm c.args.table.now c.node_at.result (now a) → AreTerms c.args.table.now (take (length c.args.reads.now - 1) (drop 1 c.args.reads.now)) (map now more) → IsFormula c.args.table.now c.args.atom p → IsFormula t1 made (exchanged d (a ∷ more) now p c.args.positive))
    (λ made. (d : Constraint) (more : List TermTree) (now : TermTree → TermTree) (p : FormulaTree) → IsConstraint c.args.table.now c.args.of d → AreTerms c.args.table.now c.args.reads.now (map now more) → IsFormula c.args.table.now c.args.atom p → IsFormula t1 made (exchanged d more now p c.args.positive))
    (λ made h d more now p k are at.
    let first = first-left c.args.table.now c.args.reads.now c.node_at.result more now c.in-len1-up.len_at_least c.node_at.ensures are in
    h d first.a first.others now p k first.first first.left at ∙ ap (λ xs. Some (of_truth (exchanged d xs now p c.args.positive))) first.whole)
    c.first_exchanged.ensures.node

pub first_exchanged-said-requires : goal.first_exchanged-said-requires
first_exchanged-said-requires τ c = record { says = truth-there (slice_get (nodes c.args.table.now) c.args.of.says) c.requires.of.0.says c.requires.of.1.says; term = c.requires.first }

pub first_exchanged-read_object-requires : goal.first_exchanged-read_object-requires
first_exchanged-read_object-requires τ c = record {
  a = field-there (slice_get (nodes c.said.new.table) c.args.of.field) (free_field c.requires.of.0.field) (constraint-grows c.args.table.now c.said.new.table c.args.of c.requires.of.0 c.said.ensures.grows c.requires.of.1).field;
  b = object-grows c.args.table.now c.said.new.table c.args.first c.said.ensures.grows c.requires.first;
}

pub first_exchanged-vary-requires : goal.first_exchanged-vary-requires
first_exchanged-vary-requires τ c = record {
  formula = truth-grows c.args.table.now c.read_object.new.table c.args.atom (extends-trans c.args.table.now c.said.new.table c.read_object.new.table c.said.ensures.grows c.read_object.ensures.grows) c.requires.atom;
  term = object-there (slice_get (nodes c.read_object.new.table) c.in_ok-read.read) _ c.in_ok-read.ensures.node;
}

pub first_exchanged-vary_all-requires : goal.first_exchanged-vary_all-requires
first_exchanged-vary_all-requires τ c =
    let grows : Extends c.args.table.now c.vary.new.table = extends-trans c.args.table.now c.read_object.new.table c.vary.new.table (extends-trans c.args.table.now c.said.new.table c.read_object.new.table c.said.ensures.grows c.read_object.ensures.grows) c.vary.ensures.grows in
    record {
      terms = (c.requires.rest.0, terms-grow c.args.table.now c.vary.new.table c.args.rest.now c.requires.rest.0 grows c.requires.rest.1);
      read = object-there (slice_get (nodes c.vary.new.table) c.in_ok-read.read) _ (c.vary.ensures.grows.nodes.keeps c.in_ok-read.read _ c.in_ok-read.ensures.node);
    }

pub first_exchanged-exchanged-requires : goal.first_exchanged-exchanged-requires
first_exchanged-exchanged-requires τ c =
    let three : Extends c.args.table.now c.vary.new.table = extends-trans c.args.table.now c.read_object.new.table c.vary.new.table (extends-trans c.args.table.now c.said.new.table c.read_object.new.table c.said.ensures.grows c.read_object.ensures.grows) c.vary.ensures.grows in
    let four : Extends c.args.table.now c.vary_all.new.table = extends-trans c.args.table.now c.vary.new.table c.vary_all.new.table three c.vary_all.ensures.grows in
    let d = c.requires.of.0 in
    let f = free_field d.field in
    let a = the_object (slice_get (nodes c.args.table.now) c.args.first) in
    let read : IsTerm c.vary.new.table c.in_ok-read.read (read_object (the_field (slice_get (nodes c.said.new.table) c.args.of.field)) (the_object (slice_get (nodes c.said.new.table) c.args.first))) = c.vary.ensures.grows.nodes.keeps c.in_ok-read.read _ c.in_ok-read.ensures.node in
    let b = read_object (the_field (slice_get (nodes c.said.new.table) c.args.of.field)) (the_object (slice_get (nodes c.said.new.table) c.args.first)) in
    let left : AreTerms c.vary_all.new.table c.in_ok-left.left.items (map (λ x. varied_term x b) c.requires.rest.0) = c.in_ok-left.ensures.nodes c.requires.rest.0 b (terms-grow c.args.table.now c.vary.new.table c.args.rest.now c.requires.rest.0 three c.requires.rest.1) read in
    let now : AreTerms c.vary_all.new.table c.as_slice.result.now (map (λ x. varied_term x b) c.requires.rest.0) = are-lent (IsTerm c.vary_all.new.table) c.in_ok-left.left.items c.as_slice.result.now (map (λ x. varied_term x b) c.requires.rest.0) c.as_slice.ensures.value left in
    let long = are-length (IsTerm c.vary_all.new.table) c.as_slice.result.now (map (λ x. varied_term x b) c.requires.rest.0) now in
    let before = are-length (IsTerm c.args.table.now) c.args.rest.now c.requires.rest.0 c.requires.rest.1 in
    let same = length-map c.requires.rest.0 (λ x. varied_term x b) in (
      omega (arith, c.decreases, long, before, same),
      (
        (d, constraint-grows c.args.table.now c.vary_all.new.table c.args.of d four c.requires.of.1),
        (
          (map (λ x. varied_term x b) c.requires.rest.0, now),
          truth-there (slice_get (nodes c.vary_all.new.table) c.in_ok-varied.varied) _ (c.vary_all.ensures.grows.nodes.keeps c.in_ok-varied.varied _ c.in_ok-varied.ensures.tree),
        ),
      ),
    )

pub first_exchanged-around-requires : goal.first_exchanged-around-requires
first_exchanged-around-requires τ c =
    let d = c.requires.of.0 in
    let two : Extends c.said.new.table c.vary.new.table = extends-trans c.said.new.table c.read_object.new.table c.vary.new.table c.read_object.ensures.grows c.vary.ensures.grows in
    let four : Extends c.said.new.table c.exchanged.new.table = extends-trans c.said.new.table c.vary_all.new.table c.exchanged.new.table (extends-trans c.said.new.table c.vary.new.table c.vary_all.new.table two c.vary_all.ensures.grows) c.exchanged.ensures.grows in
    let a = the_object (slice_get (nodes c.args.table.now) c.args.first) in
    let told : IsFormula c.said.new.table c.in_ok-told.told (said_of d.says a) = c.in_ok-told.ensures.node d.says a c.requires.of.1.says (object-of (slice_get (nodes c.args.table.now) c.args.first) c.requires.first) in
    let b = read_object (the_field (slice_get (nodes c.said.new.table) c.args.of.field)) (the_object (slice_get (nodes c.said.new.table) c.args.first)) in
    let zero : Extends c.args.table.now c.vary.new.table = extends-trans c.args.table.now c.said.new.table c.vary.new.table c.said.ensures.grows two in
    let all : Extends c.args.table.now c.vary_all.new.table = extends-trans c.args.table.now c.vary.new.table c.vary_all.new.table zero c.vary_all.ensures.grows in
    let read : IsTerm c.vary.new.table c.in_ok-read.read b = c.vary.ensures.grows.nodes.keeps c.in_ok-read.read _ c.in_ok-read.ensures.node in
    let left : AreTerms c.vary_all.new.table c.in_ok-left.left.items (map (λ x. varied_term x b) c.requires.rest.0) = c.in_ok-left.ensures.nodes c.requires.rest.0 b (terms-grow c.args.table.now c.vary.new.table c.args.rest.now c.requires.rest.0 zero c.requires.rest.1) read in
    let now : AreTerms c.vary_all.new.table c.as_slice.result.now (map (λ x. varied_term x b) c.requires.rest.0) = are-lent (IsTerm c.vary_all.new.table) c.in_ok-left.left.items c.as_slice.result.now (map (λ x. varied_term x b) c.requires.rest.0) c.as_slice.ensures.value left in
    record {
      told = truth-there (slice_get (nodes c.exchanged.new.table) c.in_ok-told.told) (said_of d.says a) (four.nodes.keeps c.in_ok-told.told (of_truth (said_of d.says a)) told);
      inner = truth-there (slice_get (nodes c.exchanged.new.table) c.in_ok-inner.inner) _
          (c.in_ok-inner.ensures.node d c.requires.rest.0 (λ x. varied_term x b) _ (constraint-grows c.args.table.now c.vary_all.new.table c.args.of d all c.requires.of.1) now
          (c.vary_all.ensures.grows.nodes.keeps c.in_ok-varied.varied _ c.in_ok-varied.ensures.tree));
    }

pub first_exchanged-returns-clause-node : goal.first_exchanged-returns-clause-node
first_exchanged-returns-clause-node τ c =
    let t6 = c.around.new.table in
    let two : Extends c.said.new.table c.vary.new.table = extends-trans c.said.new.table c.read_object.new.table c.vary.new.table c.read_object.ensures.grows c.vary.ensures.grows in
    let zero : Extends c.args.table.now c.vary.new.table = extends-trans c.args.table.now c.said.new.table c.vary.new.table c.said.ensures.grows two in
    let all : Extends c.args.table.now c.vary_all.new.table = extends-trans c.args.table.now c.vary.new.table c.vary_all.new.table zero c.vary_all.ensures.grows in
    let four : Extends c.said.new.table c.exchanged.new.table = extends-trans c.said.new.table c.vary_all.new.table c.exchanged.new.table (extends-trans c.said.new.table c.vary.new.table c.vary_all.new.table two c.vary_all.ensures.grows) c.exchanged.ensures.grows in
    IfOk-weaker
    c.around.result
    (λ made. (q p : FormulaTree) → IsFormula c.exchanged.new.table c.in_ok-told.told q → IsFormula c.exchanged.new.table c.in_ok-inner.inner p → IsFormula t6 made (around c.args.positive q p))
    (λ made. (d : Constraint) (a : TermTree) (more : List TermTree) (now : TermTree → TermTree) (p : FormulaTree) → IsConstraint c.args.table.now c.args.of d → IsTerm c.args.table.now c.args.first (now a) → AreTerms c.args.table.now c.args.rest.now (map now more) → IsFormula c.args.table.now c.args.atom p → IsFormula t6 made (exchanged d (a ∷ more) now p c.args.positive))
    (λ made h d a more now p k first rest atom.
    let b = read_at d (now a) in
    let at : the_object (slice_get (nodes c.said.new.table) c.args.first) ≡ now a = object-at (slice_get (nodes c.said.new.table) c.args.first) (now a) (c.said.ensures.grows.nodes.keeps c.args.first (of_object (now a)) first) in
    let field : the_field (slice_get (nodes c.said.new.table) c.args.of.field) ≡ free_field d.field = field-at (slice_get (nodes c.said.new.table) c.args.of.field) (free_field d.field) (constraint-grows c.args.table.now c.said.new.table c.args.of d c.said.ensures.grows k).field in
    let told : IsFormula c.said.new.table c.in_ok-told.told (said_of d.says (now a)) = c.in_ok-told.ensures.node d.says (now a) k.says first in
    let read2 : IsTerm c.read_object.new.table c.in_ok-read.read b = c.in_ok-read.ensures.node ∙ (λ i. Some (of_object (read_object (field i) (at i)))) in
    let read3 : IsTerm c.vary.new.table c.in_ok-read.read b = c.vary.ensures.grows.nodes.keeps c.in_ok-read.read (of_object b) read2 in
    let before : Extends c.args.table.now c.read_object.new.table = extends-trans c.args.table.now c.said.new.table c.read_object.new.table c.said.ensures.grows c.read_object.ensures.grows in
    let formula : the_truth (slice_get (nodes c.read_object.new.table) c.args.atom) ≡ p = truth-at (slice_get (nodes c.read_object.new.table) c.args.atom) p (before.nodes.keeps c.args.atom (of_truth p) atom) in
    let term : the_object (slice_get (nodes c.read_object.new.table) c.in_ok-read.read) ≡ b = object-at (slice_get (nodes c.read_object.new.table) c.in_ok-read.read) b read2 in
    let changed3 : IsFormula c.vary.new.table c.in_ok-varied.varied (varied p b) = c.in_ok-varied.ensures.tree ∙ (λ i. Some (of_truth (varied (formula i) (term i)))) in
    let changed4 : IsFormula c.vary_all.new.table c.in_ok-varied.varied (varied p b) = c.vary_all.ensures.grows.nodes.keeps c.in_ok-varied.varied (of_truth (varied p b)) changed3 in
    let left : AreTerms c.vary_all.new.table c.in_ok-left.left.items (map (λ x. varied_term x b) (map now more)) = c.in_ok-left.ensures.nodes (map now more) b (terms-grow c.args.table.now c.vary.new.table c.args.rest.now (map now more) zero rest) read3 in
    let lent : AreTerms c.vary_all.new.table c.as_slice.result.now (map (λ x. varied_term (now x) b) more) =
    are-said (IsTerm c.vary_all.new.table) c.as_slice.result.now (map (λ x. varied_term x b) (map now more)) (map (λ x. varied_term (now x) b) more) (varied-terms now more b)
    (are-lent (IsTerm c.vary_all.new.table) c.in_ok-left.left.items c.as_slice.result.now (map (λ x. varied_term x b) (map now more)) c.as_slice.ensures.value left) in
    let inner : IsFormula c.exchanged.new.table c.in_ok-inner.inner (exchanged d more (λ x. varied_term (now x) b) (varied p b) c.args.positive) =
    c.in_ok-inner.ensures.node d more (λ x. varied_term (now x) b) (varied p b) (constraint-grows c.args.table.now c.vary_all.new.table c.args.of d all k) lent changed4 in
    h (said_of d.says (now a)) (exchanged d more (λ x. varied_term (now x) b) (varied p b) c.args.positive) (four.nodes.keeps c.in_ok-told.told (of_truth (said_of d.says (now a))) told) inner
    ∙ ap (λ q. Some (of_truth q)) (one-exchanged d a more now p c.args.positive))
    c.around.ensures.node

pub first_exchanged-returns-clause-grows : goal.first_exchanged-returns-clause-grows
first_exchanged-returns-clause-grows τ c =
    let zero : Extends c.args.table.now c.vary.new.table = extends-trans c.args.table.now c.read_object.new.table c.vary.new.table (extends-trans c.args.table.now c.said.new.table c.read_object.new.table c.said.ensures.grows c.read_object.ensures.grows) c.vary.ensures.grows in
    extends-trans c.args.table.now c.exchanged.new.table c.around.new.table (extends-trans c.args.table.now c.vary_all.new.table c.exchanged.new.table (extends-trans c.args.table.now c.vary.new.table c.vary_all.new.table zero c.vary_all.ensures.grows) c.exchanged.ensures.grows) c.around.ensures.grows
