use Rattle.std.proofs.Common.{◌≡◌, ap, ◌∙◌, Some, slice_get}
use Rattle.std.proofs.lemmas.Result.{IfOk-weaker}
use Rattle.jh_arena.specs.table.Growth.{Extends}
use Rattle.jh_arena.specs.table.Nodes.{nodes, tree_in}
use Rattle.jh_arena.specs.declared.table.shapes.Shape.TheVariants as s
use Rattle.jh_arena.proofs.table.Listed.{extends-refl, extends-trans}
use Rattle.jh_arena.proofs.table.NodeSteps.{fits-FreeObject, fits-FreeNumber, fits-FreeTruth, fits-FreeSet, fits-FreeField}
use Rattle.jh_substitution.specs.rewriting.Rewritten.{leaves_alone}
use Rattle.jh_substitution.specs.rewriting.Walks.{IsRewritten}
use Rattle.jh_vars.specs.Resolved.{at_entry}
use Rattle.jh_receiver.proofs.Entries.{inside-object, inside-number, inside-truth, inside-set, inside-field, enters-object, enters-number, enters-truth, enters-set, enters-field, enters-bound}
use Rattle.jh_receiver.proofs.entry.EntryLeafRules.leaf.Goals as goal

pub turned_state-requires : goal.turned_state-requires
turned_state-requires c = inside-object c.args.table.now c.in-FreeObject.number c.args.shape c.requires.fits c.in-FreeObject.is

pub make-requires : goal.make-requires
make-requires c = fits-FreeObject c.turned_state.new.table.pools (nodes c.turned_state.new.table) c.in_ok-turned-in-FreeObject.turned _ c.in_ok-turned-in-FreeObject.ensures.name

pub returns-in_ok-turned-in-FreeObject-clause-node : goal.returns-in_ok-turned-in-FreeObject-clause-node
returns-in_ok-turned-in-FreeObject-clause-node c =
    let old = c.args.table.now in
    let mid = c.turned_state.new.table in
    let new = c.make.new.self in
    let grows : Extends old new = extends-trans old mid new c.in_ok-turned-in-FreeObject.ensures.grows c.make.ensures.grows in
    IfOk-weaker
    c.make.result
    (λ made. slice_get (nodes new) made ≡ Some (tree_in mid (s.FreeObject c.in_ok-turned-in-FreeObject.turned)))
    (λ made. IsRewritten (leaves_alone at_entry) (nodes new) c.args.node c.args._depth made)
    (λ r e. enters-object old mid new grows c.args.node c.in-FreeObject.number c.in_ok-turned-in-FreeObject.turned r c.args._depth (c.requires.there ∙ ap (λ x. Some (tree_in old x)) c.in-FreeObject.is) c.in_ok-turned-in-FreeObject.ensures.name e)
    c.make.ensures.node

pub turned_state-requires-in-FreeNumber : goal.turned_state-requires-in-FreeNumber
turned_state-requires-in-FreeNumber c = inside-number c.args.table.now c.in-FreeNumber.number c.args.shape c.requires.fits c.in-FreeNumber.is

pub make-requires-in-FreeNumber : goal.make-requires-in-FreeNumber
make-requires-in-FreeNumber c = fits-FreeNumber c.turned_state-in-FreeNumber.new.table.pools (nodes c.turned_state-in-FreeNumber.new.table) c.in_ok-turned-in-FreeNumber.turned _ c.in_ok-turned-in-FreeNumber.ensures.name

pub returns-in_ok-turned-in-FreeNumber-clause-node : goal.returns-in_ok-turned-in-FreeNumber-clause-node
returns-in_ok-turned-in-FreeNumber-clause-node c =
    let old = c.args.table.now in
    let mid = c.turned_state-in-FreeNumber.new.table in
    let new = c.make-in-FreeNumber.new.self in
    let grows : Extends old new = extends-trans old mid new c.in_ok-turned-in-FreeNumber.ensures.grows c.make-in-FreeNumber.ensures.grows in
    IfOk-weaker
    c.make-in-FreeNumber.result
    (λ made. slice_get (nodes new) made ≡ Some (tree_in mid (s.FreeNumber c.in_ok-turned-in-FreeNumber.turned)))
    (λ made. IsRewritten (leaves_alone at_entry) (nodes new) c.args.node c.args._depth made)
    (λ r e. enters-number old mid new grows c.args.node c.in-FreeNumber.number c.in_ok-turned-in-FreeNumber.turned r c.args._depth (c.requires.there ∙ ap (λ x. Some (tree_in old x)) c.in-FreeNumber.is) c.in_ok-turned-in-FreeNumber.ensures.name e)
    c.make-in-FreeNumber.ensures.node

pub turned_state-requires-in-FreeTruth : goal.turned_state-requires-in-FreeTruth
turned_state-requires-in-FreeTruth c = inside-truth c.args.table.now c.in-FreeTruth.number c.args.shape c.requires.fits c.in-FreeTruth.is

pub make-requires-in-FreeTruth : goal.make-requires-in-FreeTruth
make-requires-in-FreeTruth c = fits-FreeTruth c.turned_state-in-FreeTruth.new.table.pools (nodes c.turned_state-in-FreeTruth.new.table) c.in_ok-turned-in-FreeTruth.turned _ c.in_ok-turned-in-FreeTruth.ensures.name

pub returns-in_ok-turned-in-FreeTruth-clause-node : goal.returns-in_ok-turned-in-FreeTruth-clause-node
returns-in_ok-turned-in-FreeTruth-clause-node c =
    let old = c.args.table.now in
    let mid = c.turned_state-in-FreeTruth.new.table in
    let new = c.make-in-FreeTruth.new.self in
    let grows : Extends old new = extends-trans old mid new c.in_ok-turned-in-FreeTruth.ensures.grows c.make-in-FreeTruth.ensures.grows in
    IfOk-weaker
    c.make-in-FreeTruth.result
    (λ made. slice_get (nodes new) made ≡ Some (tree_in mid (s.FreeTruth c.in_ok-turned-in-FreeTruth.turned)))
    (λ made. IsRewritten (leaves_alone at_entry) (nodes new) c.args.node c.args._depth made)
    (λ r e. enters-truth old mid new grows c.args.node c.in-FreeTruth.number c.in_ok-turned-in-FreeTruth.turned r c.args._depth (c.requires.there ∙ ap (λ x. Some (tree_in old x)) c.in-FreeTruth.is) c.in_ok-turned-in-FreeTruth.ensures.name e)
    c.make-in-FreeTruth.ensures.node

pub at_turn_one-requires : goal.at_turn_one-requires
at_turn_one-requires c = inside-set c.args.table.now c.in-FreeSet.number c.args.shape c.requires.fits c.in-FreeSet.is

pub make-requires-in-FreeSet : goal.make-requires-in-FreeSet
make-requires-in-FreeSet c = fits-FreeSet c.at_turn_one.new.table.pools (nodes c.at_turn_one.new.table) c.in_ok-turned-in-FreeSet.turned _ c.in_ok-turned-in-FreeSet.ensures.name

pub returns-in_ok-turned-in-FreeSet-clause-node : goal.returns-in_ok-turned-in-FreeSet-clause-node
returns-in_ok-turned-in-FreeSet-clause-node c =
    let old = c.args.table.now in
    let mid = c.at_turn_one.new.table in
    let new = c.make-in-FreeSet.new.self in
    let grows : Extends old new = extends-trans old mid new c.in_ok-turned-in-FreeSet.ensures.grows c.make-in-FreeSet.ensures.grows in
    IfOk-weaker
    c.make-in-FreeSet.result
    (λ made. slice_get (nodes new) made ≡ Some (tree_in mid (s.FreeSet c.in_ok-turned-in-FreeSet.turned)))
    (λ made. IsRewritten (leaves_alone at_entry) (nodes new) c.args.node c.args._depth made)
    (λ r e. enters-set old mid new grows c.args.node c.in-FreeSet.number c.in_ok-turned-in-FreeSet.turned r c.args._depth (c.requires.there ∙ ap (λ x. Some (tree_in old x)) c.in-FreeSet.is) c.in_ok-turned-in-FreeSet.ensures.name e)
    c.make-in-FreeSet.ensures.node

pub at_turn_one-requires-in-FreeField : goal.at_turn_one-requires-in-FreeField
at_turn_one-requires-in-FreeField c = inside-field c.args.table.now c.in-FreeField.number c.args.shape c.requires.fits c.in-FreeField.is

pub make-requires-in-FreeField : goal.make-requires-in-FreeField
make-requires-in-FreeField c = fits-FreeField c.at_turn_one-in-FreeField.new.table.pools (nodes c.at_turn_one-in-FreeField.new.table) c.in_ok-turned-in-FreeField.turned _ c.in_ok-turned-in-FreeField.ensures.name

pub returns-in_ok-turned-in-FreeField-clause-node : goal.returns-in_ok-turned-in-FreeField-clause-node
returns-in_ok-turned-in-FreeField-clause-node c =
    let old = c.args.table.now in
    let mid = c.at_turn_one-in-FreeField.new.table in
    let new = c.make-in-FreeField.new.self in
    let grows : Extends old new = extends-trans old mid new c.in_ok-turned-in-FreeField.ensures.grows c.make-in-FreeField.ensures.grows in
    IfOk-weaker
    c.make-in-FreeField.result
    (λ made. slice_get (nodes new) made ≡ Some (tree_in mid (s.FreeField c.in_ok-turned-in-FreeField.turned)))
    (λ made. IsRewritten (leaves_alone at_entry) (nodes new) c.args.node c.args._depth made)
    (λ r e. enters-field old mid new grows c.args.node c.in-FreeField.number c.in_ok-turned-in-FreeField.turned r c.args._depth (c.requires.there ∙ ap (λ x. Some (tree_in old x)) c.in-FreeField.is) c.in_ok-turned-in-FreeField.ensures.name e)
    c.make-in-FreeField.ensures.node

pub returns-in_default : goal.returns-in_default
returns-in_default c = record {
  node = enters-bound c.args.table.now c.args.node c.args._depth c.args.shape c.requires.leaf c.in_default.not-FreeObject c.in_default.not-FreeNumber c.in_default.not-FreeTruth c.in_default.not-FreeSet c.in_default.not-FreeField c.requires.there;
  grows = extends-refl c.args.table.now;
}
