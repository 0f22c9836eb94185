use Rattle.std.proofs.Common.{◌≡◌, ap, [], ◌∷◌, slice_get}
use Rattle.std.specs.List.{flat_map}
use Rattle.std.proofs.lemmas.Result.{on_ok_weaker}
use Rattle.jh_form.specs.Tree.{of_object}
use Rattle.jh_form.specs.Tree as t
use Rattle.jh_arena.specs.table.Entries.{the_value, the_truth}
use Rattle.jh_arena.specs.table.Nodes.{nodes}
use Rattle.jh_arena.specs.makers.Joined.{truths_at}
use Rattle.jh_approx.specs.definition.Names.{names}
use Rattle.jh_query_names.specs.query_names.Gathered.{value_names}
use Rattle.jh_query_names.specs.query_names.Kinds.{value_at}
use Rattle.jh_query_names.specs.query_names.Finding.{values_at}
use Rattle.jh_query_names.proofs.name_lists.Gathers.{gathers-all}
use Rattle.jh_query_names.proofs.name_lists.listing.gather_all.Goals as goal

pub returns-clause-names : goal.returns-clause-names
unfolding the_value value_names
returns-clause-names c =
    let ts = nodes c.args.table.now in
    let alone : value_names (value_at ts c.args.null) ≡ of_object t.null ∷ [] = ap (λ v. value_names (the_value v)) c.requires.null in
    on_ok_weaker c.gather_truth.result
    (λ e. gathers-all (of_object t.null) (values_at ts c.args.found.now.names.keys) (values_at ts c.gather.new.found.names.keys) (values_at ts c.gather_truths.new.found.names.keys) (values_at ts c.gather_truth.new.found.names.keys)
    (flat_map names (truths_at ts c.args.facts.now)) (names (the_truth (slice_get ts c.args.goal))) (value_names (value_at ts c.args.null)) alone c.in_ok-gather.ensures.names c.in_ok-gather_truths.ensures.names e)
    c.gather_truth.ensures.names
