use Rattle.std.proofs.Common.{sym, ap, subst, ◌∙◌, ◌&&◌, ◌||◌, List, ℕ}
use Rattle.std.specs.List.{list_all}
use Rattle.jh_form.specs.Tree.{of_truth}
use Rattle.jh_arena.specs.table.Nodes.{nodes}
use Rattle.jh_approx.specs.free_name_tests.Passing.{name_passes}
use Rattle.jh_approx.specs.definition.Links.{is_nameless}
use Rattle.jh_query_names.specs.query_names.Kinds.{value_at}
use Rattle.jh_query_names.specs.mentioned_names.Notes.{AreInside}
use Rattle.jh_abstraction.specs.choice_of_hypotheses.Choosing.{stands_within}
use Rattle.jh_abstraction.proofs.choice_of_hypotheses.Readings.{free-inside, within-decides}
use Rattle.jh_abstraction.proofs.choice_of_hypotheses.near.is_near.Goals as goal

pub reads_within-requires : goal.reads_within-requires
reads_within-requires c =
    subst (λ (ns : List ℕ). AreInside (nodes c.args.table.now) ns) (sym c.items.ensures) (free-inside (nodes c.args.table.now) (of_truth c.requires.0) c.args.note.now.free c.requires.1.speaks_of)

pub returns-then-reads_within : goal.returns-then-reads_within
returns-then-reads_within c = λ a goal linked h free decides.
    let same =
    c.reads_within.ensures goal free ∙ ap (list_all (λ n. name_passes (stands_within goal) (value_at (nodes c.args.table.now) n))) c.items.ensures
    ∙ sym (within-decides (nodes c.args.table.now) c.free_names_decide.ensures goal a c.args.note.now.free h.speaks_of) in
    c.is_linked.ensures a linked h decides ∙ sym (ap (λ b. b && (linked a || is_nameless a)) (sym same ∙ c.if-reads_within.true))

pub returns-else-reads_within : goal.returns-else-reads_within
returns-else-reads_within c = λ a goal linked h free decides.
    let same =
    c.reads_within.ensures goal free ∙ ap (list_all (λ n. name_passes (stands_within goal) (value_at (nodes c.args.table.now) n))) c.items.ensures
    ∙ sym (within-decides (nodes c.args.table.now) c.free_names_decide.ensures goal a c.args.note.now.free h.speaks_of) in
    c.if-reads_within.false ∙ sym (ap (λ b. b && (linked a || is_nameless a)) (sym same ∙ c.if-reads_within.false))
