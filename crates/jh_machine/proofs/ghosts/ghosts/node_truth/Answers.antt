use Rattle.std.proofs.Common.{◌≡◌, refl, subst, ◌∙◌, rules, [], Bool, Option, Some, slice_get, IfSome}
use Rattle.std.proofs.lemmas.Result.{IfOk-weaker, IfErr-weaker}
use Rattle.jh_name.specs.declared.place.Sort as place
use Rattle.jh_name.specs.declared.place.Sort.TheVariants as Sort
use Rattle.jh_form.specs.Tree.{of_truth}
use Rattle.jh_form.specs.Meaning.{truth}
use Rattle.jh_form.specs.Sorts.{tree_sort}
use Rattle.jh_arena.specs.table.Entries.{the_truth, the_value}
use Rattle.jh_arena.specs.table.Nodes.{nodes}
use Rattle.jh_sem.specs.Wide.{IsWide}
use Rattle.jh_store.specs.state_pairs.Seen.{seen}
use Rattle.jh_machine.specs.declared.continuation.stop.Stop.TheVariants as s
use Rattle.jh_machine.specs.continuation.Formulas.{OverflowsOnly}
use Rattle.jh_machine.proofs.ghosts.NodeSteps.{sort_truth, truth_is, truth_wide, memory_only}
use Rattle.jh_machine.proofs.ghosts.ghosts.node_truth.Goals as goal

pub truth_there-requires : goal.truth_there-requires
truth_there-requires c =
    let o = slice_get (nodes c.args.moment.now.table.now) c.args.node in
    let there = subst (λ (r : Option place.Sort). IfSome r (λ sort. (o ≡ Some (the_value o)) × (sort ≡ tree_sort (the_value o)))) c.in-Some-Bool.is c.sort_of.ensures.there in
    let at : Sort.Bool ≡ c.in-Some-Bool.field-0 = search rules in
    sort_truth o (at ∙ there.1)

pub returns-in-Some-Bool-clause-value : goal.returns-in-Some-Bool-clause-value
returns-in-Some-Bool-clause-value c = λ f is.
    let o = slice_get (nodes c.args.moment.now.table.now) c.args.node in
    let m = seen c.args.moment.now in
    IfOk-weaker c.truth_there.result (λ b. b ≡ truth (the_truth o) m []) (λ b. b ≡ truth f m []) (λ b h. truth_is o f is m b h) c.truth_there.ensures.value

pub returns-in-Some-Bool-clause-stop : goal.returns-in-Some-Bool-clause-stop
returns-in-Some-Bool-clause-stop c = λ f is.
    let o = slice_get (nodes c.args.moment.now.table.now) c.args.node in
    let m = seen c.args.moment.now in
    IfErr-weaker c.truth_there.result (OverflowsOnly c.args.place (IsWide m (of_truth (the_truth o)))) (OverflowsOnly c.args.place (IsWide m (of_truth f))) (λ why h. truth_wide o f is m c.args.place why h) c.truth_there.ensures.stop

pub returns-in_default-2-clause-stop : goal.returns-in_default-2-clause-stop
returns-in_default-2-clause-stop c = λ f is. memory_only c.args.place (IsWide (seen c.args.moment.now) (of_truth f)) s.Memory refl
