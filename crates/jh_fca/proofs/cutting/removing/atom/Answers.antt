use Rattle.std.proofs.Common.{◌≡◌, sym, ap, ◌∙◌, true, false, if◌then◌else◌, Some, slice_get}
use Rattle.std.proofs.lemmas.Result.{IfOk-weaker}
use Rattle.jh_form.specs.Tree.{of_truth}
use Rattle.jh_arena.specs.table.Entries.{the_truth}
use Rattle.jh_arena.specs.table.Nodes.{nodes}
use Rattle.jh_fca.specs.cutting.Cut.{holds_foreign, instead_of}
use Rattle.jh_fca.proofs.cutting.Arms.{holds-at}
use Rattle.jh_fca.proofs.cutting.Standing.{truth-of, truth-inside}
use Rattle.jh_fca.proofs.cutting.removing.atom.Goals as goal

pub holds_foreign-requires : goal.holds_foreign-requires
holds_foreign-requires c = record { inside = truth-inside (nodes c.args.table.now) c.args.node c.requires.there }

pub returns-then-foreign-clause-node : goal.returns-then-foreign-clause-node
returns-then-foreign-clause-node c =
    let known : holds_foreign (the_truth (slice_get (nodes c.args.table.now) c.args.node)) ≡ true = sym (holds-at (slice_get (nodes c.args.table.now) c.args.node) c.requires.there) ∙ sym c.in_ok-foreign.ensures ∙ c.if-foreign.true in
    IfOk-weaker
    c.instead_of.result
    (λ made. slice_get (nodes c.instead_of.new.table) made ≡ Some (of_truth (instead_of (the_truth (slice_get (nodes c.args.table.now) c.args.node)) c.args.polarity)))
    (λ made. slice_get (nodes c.instead_of.new.table) made ≡ Some (of_truth (if holds_foreign (the_truth (slice_get (nodes c.args.table.now) c.args.node)) then instead_of (the_truth (slice_get (nodes c.args.table.now) c.args.node)) c.args.polarity else (the_truth (slice_get (nodes c.args.table.now) c.args.node)))))
    (λ made at. at ∙ ap (λ b. Some (of_truth (if b then instead_of (the_truth (slice_get (nodes c.args.table.now) c.args.node)) c.args.polarity else (the_truth (slice_get (nodes c.args.table.now) c.args.node))))) (sym known))
    c.instead_of.ensures.node

pub returns-else-foreign-clause-node : goal.returns-else-foreign-clause-node
returns-else-foreign-clause-node c =
    let known : holds_foreign (the_truth (slice_get (nodes c.args.table.now) c.args.node)) ≡ false = sym (holds-at (slice_get (nodes c.args.table.now) c.args.node) c.requires.there) ∙ sym c.in_ok-foreign.ensures ∙ c.if-foreign.false in
    truth-of (slice_get (nodes c.args.table.now) c.args.node) c.requires.there ∙ ap (λ b. Some (of_truth (if b then instead_of (the_truth (slice_get (nodes c.args.table.now) c.args.node)) c.args.polarity else (the_truth (slice_get (nodes c.args.table.now) c.args.node))))) (sym known)
