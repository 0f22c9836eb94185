use Rattle.std.proofs.Common.{◌≡◌, subst, List, slice_get, Some}
use Rattle.std.proofs.lemmas.Result.{IfOk-weaker}
use Rattle.jh_form.specs.Tree.{TermTree, FieldTree, FormulaTree, ValueTree, of_object, of_field, free_field}
use Rattle.jh_arena.specs.table.Nodes.{nodes}
use Rattle.jh_substitution.specs.rewriting.Rewritten.{rewritten_term, rewritten_field, rewritten_value}
use Rattle.jh_approx.specs.jh_derivation_rules.Rules.{described}
use Rattle.jh_reach.proofs.NodeSteps.{holds-field, holds-object}
use Rattle.jh_fca.specs.local_form.Named.{if_any, name_of, naming, update_fact}
use Rattle.jh_local_form.specs.updates.Updating.{IsNaming}
use Rattle.jh_local_form.specs.updates.NamedUpdates.{AreTold}
use Rattle.jh_local_form.proofs.updates.Described.{sort-of}
use Rattle.jh_local_form.proofs.updates.Parted.{fact-told}
use Rattle.jh_local_form.proofs.updates.facts.update_fact.Goals as goal

pub described-requires-clause-new : goal.described-requires-clause-new
described-requires-clause-new c =
    let r = c.in_ok-named.ensures.update c.requires.names.0 c.requires.names.1 in
    holds-field (slice_get (nodes c.named_update.new.table) c.in_ok-named.named.name) _ r.2.named

pub described-requires-clause-old : goal.described-requires-clause-old
described-requires-clause-old c =
    let r = c.in_ok-named.ensures.update c.requires.names.0 c.requires.names.1 in
    holds-field (slice_get (nodes c.named_update.new.table) c.in_ok-named.named.field) _ r.2.parts.on

pub described-requires-clause-at : goal.described-requires-clause-at
described-requires-clause-at c =
    let r = c.in_ok-named.ensures.update c.requires.names.0 c.requires.names.1 in
    holds-object (slice_get (nodes c.named_update.new.table) c.in_ok-named.named.at) _ r.2.parts.for_object

pub described-requires-clause-value : goal.described-requires-clause-value
described-requires-clause-value c =
    let r = c.in_ok-named.ensures.update c.requires.names.0 c.requires.names.1 in
    let v = rewritten_value r.2.new (naming c.requires.names.0 c.args.names.now.first) 0 in
    record { value = v; there = r.2.parts.gives; sort = sort-of (nodes c.named_update.new.table) c.in_ok-named.named.value v r.2.parts.gives }

pub returns-clause-fact : goal.returns-clause-fact
returns-clause-fact c =
    let t0 = c.args.table.now in
    let ts = nodes c.named_update.new.table in
    let vs = nodes c.described.new.table in
    let x = c.in_ok-named.named in
    let k = c.args.names.now.first in
    IfOk-weaker
    c.described.result
    (λ made. (g f : FieldTree) (a : TermTree) (v : ValueTree) → slice_get ts x.name ≡ Some (of_field g) → slice_get ts x.field ≡ Some (of_field f) → slice_get ts x.at ≡ Some (of_object a) → slice_get ts x.value ≡ Some v → AreTold vs made (if_any (described g f a v)))
    (λ made. (us : List ValueTree) → IsNaming t0 c.args.names.now us → (u : ValueTree) × (slice_get us c.args.place ≡ Some u) × AreTold vs made (update_fact us k u))
    (λ made h us is.
    let r = c.in_ok-named.ensures.update us is in
    let told =
    h (free_field (name_of us k r.0)) (rewritten_field r.2.old (naming us k) 0) (rewritten_term r.2.object (naming us k) 0) (rewritten_value r.2.new (naming us k) 0) r.2.named r.2.parts.on r.2.parts.for_object r.2.parts.gives in
    (r.0, r.1, subst (λ (fs : List FormulaTree). AreTold vs made fs) (fact-told ts us k r.0 x r.2) told))
    c.described.ensures.node
