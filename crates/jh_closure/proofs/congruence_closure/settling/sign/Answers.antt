use Rattle.std.proofs.Common.{◌≡◌, ◌<◌, ◌⊎◌, sym, subst, ◌∙◌, ap, ℕ, List, [], ◌∷◌, Some}
use Rattle.jh_closure.specs.union_find.Merges.{class_of}
use Rattle.jh_closure.specs.declared.union_find.merge.Cause.{Cause}
use Rattle.jh_closure.specs.declared.congruence_closure.node.Node.{Node}
use Rattle.jh_closure.specs.congruence_closure.Nodes.{Has, EachPart}
use Rattle.jh_closure.specs.congruence_closure.Closing.{IsTable, alike}
use Rattle.jh_closure.specs.congruence_closure.Tables.{found}
use Rattle.jh_closure.proofs.congruence_closure.Having.{has-left}
use Rattle.jh_closure.proofs.congruence_closure.Oks.{on-ok-three}
use Rattle.jh_closure.proofs.congruence_closure.Signing.{first-inside, other-inside, table-same, table-waits, alike-waits, table-noted}
use Rattle.jh_closure.proofs.congruence_closure.settling.sign.Goals as goal

pub node_at-requires : goal.node_at-requires
node_at-requires c = first-inside c.args.nodes.now (class_of c.args.forest.now.merges) (found c.args.table.now.nodes.entries) c.args.pending.now.items c.args.node c.args.rest.now c.requires.table

pub signature-signature-requires : goal.signature-signature-requires
signature-signature-requires c = subst (λ m. EachPart (λ p. p < m) c.node_at.result) (sym c.requires.count) (c.requires.table.parts.inside c.args.node c.node_at.result c.node_at.ensures)

pub find-requires : goal.find-requires
find-requires c = subst (λ m. c.in-Some.other < m) (sym c.requires.count) (other-inside c.args.nodes.now (class_of c.args.forest.now.merges) (found c.args.table.now.nodes.entries) c.args.pending.now.items c.args.node c.args.rest.now c.requires.table c.node_at.result c.node_at.ensures c.in-Some.other (sym (c.in-Some.ensures ∙ ap (found c.args.table.now.nodes.entries) c.signature-signature.ensures)))

pub find-requires-in-Some : goal.find-requires-in-Some
find-requires-in-Some c = subst (λ m. c.args.node < m) (sym c.requires.count) (first-inside c.args.nodes.now (class_of c.args.forest.now.merges) (found c.args.table.now.nodes.entries) c.args.pending.now.items c.args.node c.args.rest.now c.requires.table)

pub returns-in_ok-push-in-Some-clause-table : goal.returns-in_ok-push-in-Some-clause-table
returns-in_ok-push-in-Some-clause-table c =
    subst (λ (ps : List Cause). IsTable c.args.nodes.now (class_of c.args.forest.now.merges) (found c.args.table.now.nodes.entries) ps c.args.rest.now) (sym c.in_ok-push-in-Some.ensures.items)
    (table-waits c.args.nodes.now (class_of c.args.forest.now.merges) (found c.args.table.now.nodes.entries) c.args.pending.now.items c.args.node c.args.rest.now c.requires.table c.node_at.result c.node_at.ensures c.in-Some.other (sym (c.in-Some.ensures ∙ ap (found c.args.table.now.nodes.entries) c.signature-signature.ensures)))

pub returns-in_ok-push-in-Some-clause-alike : goal.returns-in_ok-push-in-Some-clause-alike
returns-in_ok-push-in-Some-clause-alike c p h =
    alike-waits c.args.nodes.now (class_of c.args.forest.now.merges) (found c.args.table.now.nodes.entries) c.args.pending.now.items c.args.node c.args.rest.now c.requires.table c.node_at.result c.node_at.ensures c.in-Some.other (sym (c.in-Some.ensures ∙ ap (found c.args.table.now.nodes.entries) c.signature-signature.ensures)) p (subst (λ (ps : List Cause). Has ps p) c.in_ok-push-in-Some.ensures.items h)

pub returns-in_ok-push-in-Some-clause-waits : goal.returns-in_ok-push-in-Some-clause-waits
returns-in_ok-push-in-Some-clause-waits c p h =
    subst (λ (ps : List Cause). Has ps p) (sym c.in_ok-push-in-Some.ensures.items) (has-left c.args.pending.now.items (alike c.in-Some.other c.args.node ∷ []) p h)

pub returns-else-find-clause-table : goal.returns-else-find-clause-table
returns-else-find-clause-table c =
    table-same c.args.nodes.now (class_of c.args.forest.now.merges) (found c.args.table.now.nodes.entries) c.args.pending.now.items c.args.node c.args.rest.now c.requires.table c.node_at.result c.node_at.ensures c.in-Some.other (sym (c.in-Some.ensures ∙ ap (found c.args.table.now.nodes.entries) c.signature-signature.ensures)) (sym c.find.ensures.class ∙ (c.if-find.false ∙ c.find-in-Some.ensures.class))

pub returns-in-None-clause-table : goal.returns-in-None-clause-table
returns-in-None-clause-table c =
    on-ok-three c.note.result
    (λ noted stays others. table-noted c.args.nodes.now (class_of c.args.forest.now.merges) (found c.args.table.now.nodes.entries) c.args.pending.now.items c.args.node c.args.rest.now c.requires.table c.node_at.result c.node_at.ensures
    (found c.note.new.self.nodes.entries)
    (ap (found c.note.new.self.nodes.entries) (sym c.signature-signature.ensures) ∙ noted) stays
    (subst (λ (s : Node). (k : Node) (q : ℕ) → found c.note.new.self.nodes.entries k ≡ Some q → ((k ≡ s) × (q ≡ c.args.node)) ⊎ (found c.args.table.now.nodes.entries k ≡ Some q)) c.signature-signature.ensures others))
    c.note.ensures.noted c.note.ensures.stays c.note.ensures.others
