use Rattle.std.proofs.Common.{◌≡◌, refl, subst, ◌∙◌, rules, [], Option, Some, slice_get, IfSome}
use Rattle.std.proofs.lemmas.Result.{IfOk-weaker, IfErr-weaker}
use Rattle.jh_name.specs.declared.place.Sort as place
use Rattle.jh_name.specs.declared.place.Sort.TheVariants as Sort
use Rattle.jh_form.specs.Tree.{of_object}
use Rattle.jh_form.specs.Meaning.{term_value}
use Rattle.jh_form.specs.Sorts.{tree_sort}
use Rattle.jh_arena.specs.table.Entries.{the_object, the_value}
use Rattle.jh_arena.specs.table.Nodes.{nodes}
use Rattle.jh_sem.specs.Wide.{IsWide}
use Rattle.jh_store.specs.state_pairs.Seen.{seen}
use Rattle.jh_machine.specs.declared.continuation.stop.Stop.TheVariants as s
use Rattle.jh_machine.specs.continuation.Formulas.{OverflowsOnly}
use Rattle.jh_machine.proofs.ghosts.NodeSteps.{sort_object, object_is, object_wide, memory_only}
use Rattle.jh_machine.proofs.ghosts.ghosts.node_object.Goals as goal

pub object_there-requires : goal.object_there-requires
object_there-requires c =
    let o = slice_get (nodes c.args.moment.now.table.now) c.args.node in
    let there = subst (λ (r : Option place.Sort). IfSome r (λ sort. (o ≡ Some (the_value o)) × (sort ≡ tree_sort (the_value o)))) c.in-Some-Obj.is c.sort_of.ensures.there in
    let at : Sort.Obj ≡ c.in-Some-Obj.field-0 = search rules in
    sort_object o (the_value o) there.0 (at ∙ there.1)

pub returns-in-Some-Obj-clause-value : goal.returns-in-Some-Obj-clause-value
returns-in-Some-Obj-clause-value c = λ f is.
    let o = slice_get (nodes c.args.moment.now.table.now) c.args.node in
    let m = seen c.args.moment.now in
    IfOk-weaker c.object_there.result (λ b. b ≡ term_value (the_object o) m []) (λ b. b ≡ term_value f m []) (λ b h. object_is o f is m b h) c.object_there.ensures.value

pub returns-in-Some-Obj-clause-stop : goal.returns-in-Some-Obj-clause-stop
returns-in-Some-Obj-clause-stop c = λ f is.
    let o = slice_get (nodes c.args.moment.now.table.now) c.args.node in
    let m = seen c.args.moment.now in
    IfErr-weaker c.object_there.result (OverflowsOnly c.args.place (IsWide m (of_object (the_object o)))) (OverflowsOnly c.args.place (IsWide m (of_object f))) (λ why h. object_wide o f is m c.args.place why h) c.object_there.ensures.stop

pub returns-in_default-2-clause-stop : goal.returns-in_default-2-clause-stop
returns-in_default-2-clause-stop c = λ f is. memory_only c.args.place (IsWide (seen c.args.moment.now) (of_object f)) s.Memory refl
