use Rattle.std.proofs.Common.{◌≡◌, ap, subst, sym, ◌∙◌, ℕ, List, length, [], ◌∷◌, ◌++◌, slice_get}
use Rattle.std.specs.List.{flat_map}
use Rattle.jh_form.specs.Tree.{of_object}
use Rattle.jh_form.specs.Tree as t
use Rattle.jh_arena.specs.table.Entries.{the_truth}
use Rattle.jh_arena.specs.table.Nodes.{nodes}
use Rattle.jh_arena.specs.makers.Joined.{truths_at}
use Rattle.jh_approx.specs.definition.Names.{names}
use Rattle.jh_query_names.specs.query_names.Gathered.{with_names}
use Rattle.jh_query_names.specs.query_names.Finding.{values_at, AreBelow}
use Rattle.jh_query_names.proofs.name_lists.Gathers.{found-below}
use Rattle.jh_query_names.proofs.name_lists.Sorts.{sorted-lists, lists-are, lists-stand}
use Rattle.jh_query_names.proofs.name_lists.listing.names_with.Goals as goal

pub add_all-requires : goal.add_all-requires
add_all-requires c =
    let ts = nodes c.args.table.now in
    subst (λ (ns : List ℕ). AreBelow (length ts) ns) (sym c.as_slice.ensures.keys) (found-below (length ts) c.gather_all.new.found.names.keys c.in_ok-gather_all.ensures.found.inside)

pub returns-clause-names : goal.returns-clause-names
returns-clause-names c =
    let ts = nodes c.args.table.now in
    let ns = c.as_slice.result.now in
    let vs = flat_map names (truths_at ts c.args.facts.now) ++ names (the_truth (slice_get ts c.args.goal)) in
    let inside = subst (λ (ms : List ℕ). AreBelow (length ts) ms) (sym c.as_slice.ensures.keys) (found-below (length ts) c.gather_all.new.found.names.keys c.in_ok-gather_all.ensures.found.inside) in
    let found : values_at ts ns ≡ with_names [] (of_object t.null ∷ vs) =
    ap (values_at ts) c.as_slice.ensures.keys ∙ c.in_ok-gather_all.ensures.names ∙ ap (λ (ks : List ℕ). with_names (values_at ts ks) (of_object t.null ∷ vs)) c.new-found.ensures.names in
    let sorts = sorted-lists ts ns c.empty-listed.result c.add_all.new.listed c.empty-listed.ensures.sets c.empty-listed.ensures.elements c.empty-listed.ensures.numbers c.empty-listed.ensures.flags
    c.in_ok-add_all.ensures.sets c.in_ok-add_all.ensures.elements c.in_ok-add_all.ensures.numbers c.in_ok-add_all.ensures.flags in
    lists-are ts ns vs c.add_all.new.listed c.nodes_differ.ensures.different inside found sorts

pub returns-clause-stand : goal.returns-clause-stand
returns-clause-stand c =
    let ts = nodes c.args.table.now in
    let ns = c.as_slice.result.now in
    let vs = flat_map names (truths_at ts c.args.facts.now) ++ names (the_truth (slice_get ts c.args.goal)) in
    let inside = subst (λ (ms : List ℕ). AreBelow (length ts) ms) (sym c.as_slice.ensures.keys) (found-below (length ts) c.gather_all.new.found.names.keys c.in_ok-gather_all.ensures.found.inside) in
    let found : values_at ts ns ≡ with_names [] (of_object t.null ∷ vs) =
    ap (values_at ts) c.as_slice.ensures.keys ∙ c.in_ok-gather_all.ensures.names ∙ ap (λ (ks : List ℕ). with_names (values_at ts ks) (of_object t.null ∷ vs)) c.new-found.ensures.names in
    let sorts = sorted-lists ts ns c.empty-listed.result c.add_all.new.listed c.empty-listed.ensures.sets c.empty-listed.ensures.elements c.empty-listed.ensures.numbers c.empty-listed.ensures.flags
    c.in_ok-add_all.ensures.sets c.in_ok-add_all.ensures.elements c.in_ok-add_all.ensures.numbers c.in_ok-add_all.ensures.flags in
    lists-stand ts ns vs c.add_all.new.listed c.nodes_differ.ensures.different inside found sorts c.each_once.ensures.sets c.each_once.ensures.elements c.each_once.ensures.numbers c.each_once.ensures.flags
