use Rattle.std.proofs.Common.{false, slice_get}
use Rattle.std.proofs.lemmas.Option.{slice_get_within}
use Rattle.jh_form.specs.Tree.{of_truth}
use Rattle.jh_arena.specs.table.Entries.{the_truth}
use Rattle.jh_arena.specs.table.Nodes.{nodes}
use Rattle.jh_arena.proofs.table.Children.{it-is-truth}
use Rattle.jh_approx.specs.definition.Shown.{shown}
use Rattle.jh_query_names.proofs.mentioned_names.Gatherings.{named-formula, free-formula}
use Rattle.jh_query_names.proofs.mentioned_names.Growing.{truth-inside}
use Rattle.jh_query_names.proofs.mentioned_names.noting.note_over.Goals as goal

pub names_of-requires : goal.names_of-requires
names_of-requires c = slice_get_within (nodes c.args.table.now) c.args.said (of_truth (shown (the_truth (slice_get (nodes c.args.table.now) c.args.fact)) false)) c.requires.said

pub free_row-requires : goal.free_row-requires
free_row-requires c = truth-inside (nodes c.args.table.now) c.args.fact c.requires.fact

pub returns : goal.returns
returns c =
    let ts = nodes c.args.table.now in
    let a = the_truth (slice_get ts c.args.fact) in
    let there = it-is-truth (slice_get ts c.args.fact) c.requires.fact in
    record {
      formula = a;
      there = there;
      is = record {
        said = c.requires.said;
        called = named-formula ts c.args.said (shown a false) c.in_ok-names.names c.requires.said c.in_ok-names.ensures;
        speaks_of = free-formula ts c.args.fact a c.in_ok-free.free there c.in_ok-free.ensures;
      };
    }
