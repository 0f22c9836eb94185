use Rattle.std.proofs.Common.{sym, ap, subst, ◌∙◌, ◌||◌, List, ℕ}
use Rattle.std.specs.List.{list_all}
use Rattle.jh_form.specs.Tree.{of_truth}
use Rattle.jh_arena.specs.table.Nodes.{nodes}
use Rattle.jh_containers.specs.connected_component.Reaching.{shares}
use Rattle.jh_approx.specs.free_name_tests.Passing.{name_passes}
use Rattle.jh_approx.specs.definition.Links.{is_nameless, is_set_of_class}
use Rattle.jh_query_names.specs.query_names.Kinds.{value_at}
use Rattle.jh_query_names.specs.mentioned_names.Notes.{AreInside}
use Rattle.jh_abstraction.proofs.choice_of_hypotheses.Lists.{in-front}
use Rattle.jh_abstraction.proofs.choice_of_hypotheses.Readings.{free-inside, nameless-decides}
use Rattle.jh_abstraction.proofs.choice_of_hypotheses.near.is_linked.Goals as goal

pub is_nameless-requires : goal.is_nameless-requires
is_nameless-requires c =
    subst (λ (ns : List ℕ). AreInside (nodes c.args.table.now) ns) (sym c.items-free.ensures) (free-inside (nodes c.args.table.now) (of_truth c.requires.0) c.args.note.now.free c.requires.1.speaks_of)

pub returns-then-shares : goal.returns-then-shares
returns-then-shares c = λ a linked h decides.
    let same = c.shares.ensures ∙ ap (λ ns. shares ns c.args.known.now.numbers.keys) c.items-names.ensures ∙ decides a c.args.note.now.names h.called in
    c.if-shares.true ∙ sym (in-front (linked a) (is_nameless a) (sym same ∙ c.if-shares.true))

pub returns-else-shares : goal.returns-else-shares
returns-else-shares c = λ a linked h decides.
    let same = c.shares.ensures ∙ ap (λ ns. shares ns c.args.known.now.numbers.keys) c.items-names.ensures ∙ decides a c.args.note.now.names h.called in
    c.is_nameless.ensures
    ∙ ap (list_all (λ n. name_passes is_set_of_class (value_at (nodes c.args.table.now) n))) c.items-free.ensures
    ∙ sym (nameless-decides (nodes c.args.table.now) c.free_names_decide.ensures a c.args.note.now.free h.speaks_of)
    ∙ sym (ap (λ b. b || is_nameless a) (sym same ∙ c.if-shares.false))
