use Rattle.std.proofs.Common.{◌<◌, ◌∙◌, sym, subst, ℕ, List, length, take_all, arith, inl, inr, refl}
use Rattle.jh_closure.specs.congruence_closure.Nodes.{Has}
use Rattle.jh_closure.proofs.congruence_closure.Having.{has-at}
use Rattle.jh_propagation.specs.propagation.Problems.{IsNamed}
use Rattle.jh_propagation.proofs.propagation.Quieting.{take-has}
use Rattle.jh_propagation.proofs.propagation.Names.{named-here, named-too}
use Rattle.jh_propagation.proofs.propagation.problem.give_all.Goals as goal

pub loop-index-init : goal.loop-index-init
loop-index-init c = record { long = refl; named = λ us ts each k h. absurd h }

pub atom_at-name-requires : goal.atom_at-name-requires
atom_at-name-requires c = subst (λ n. c.loop-index.index < n) (sym c.requires.long) c.loop-index-test.true

pub give_name-requires : goal.give_name-requires
give_name-requires c = subst (λ n. c.atom_at-atom.result < n) (sym c.loop-index.invariant.long) (c.requires.inside c.atom_at-atom.result (has-at c.args.atoms.now c.loop-index.index c.atom_at-atom.result c.atom_at-atom.ensures))

pub loop-index-preserved : goal.loop-index-preserved
loop-index-preserved c =
    let before = c.loop-index.names.items in
    let after = c.give_name.new.names.items in
    let atom = c.atom_at-atom.result in
    let name = c.atom_at-name.result in
    let inside : atom < length before = subst (λ n. atom < n) (sym c.loop-index.invariant.long) (c.requires.inside atom (has-at c.args.atoms.now c.loop-index.index atom c.atom_at-atom.ensures)) in
    record {
      long = c.give_name.ensures.long ∙ c.loop-index.invariant.long;
      named = λ us ts each k h. elim (take-has c.args.atoms.now c.loop-index.index atom k c.atom_at-atom.ensures h) [
        | inl old ↦ named-too us ts before after atom name k c.give_name.ensures.named inside (each c.loop-index.index atom name c.atom_at-atom.ensures c.atom_at-name.ensures) (c.loop-index.invariant.named us ts each k old)
        | inr e ↦ subst (IsNamed us ts after) e (named-here us ts before after atom name c.give_name.ensures.named inside (each c.loop-index.index atom name c.atom_at-atom.ensures c.atom_at-name.ensures))
      ];
    }

pub returns : goal.returns
returns c = λ us ts each k h. c.loop-index.invariant.named us ts each k (subst (λ (xs : List ℕ). Has xs k) (sym (take_all c.loop-index.index c.args.atoms.now (omega (arith, c.loop-index-test.false)))) h)
