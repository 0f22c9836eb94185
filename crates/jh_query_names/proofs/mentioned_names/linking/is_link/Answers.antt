use Rattle.std.proofs.Common.{sym, ap, ◌∙◌, not, slice_get}
use Rattle.jh_arena.specs.table.Entries.{the_name, the_value}
use Rattle.jh_arena.specs.table.Nodes.{nodes, shape_tree}
use Rattle.jh_arena.proofs.table.Below.{inside}
use Rattle.jh_arena.proofs.table.PartSteps.{part-FreeSet-n}
use Rattle.jh_approx.specs.definition.Links.{is_class_set}
use Rattle.jh_query_names.specs.query_names.Kinds.{value_at}
use Rattle.jh_query_names.specs.mentioned_names.Linking.{linking, sort_links}
use Rattle.jh_query_names.proofs.mentioned_names.LinkSorts.{class-links, null-links, other-links}
use Rattle.jh_query_names.proofs.mentioned_names.linking.is_link.Goals as goal

pub name_at-requires : goal.name_at-requires
name_at-requires c = inside c.args.table.now.pools.names c.in-FreeSet.name (part-FreeSet-n c.args.table.now.pools (nodes c.args.table.now) c.in-FreeSet.name c.in-FreeSet.ensures.fits)

pub returns-in-FreeSet : goal.returns-in-FreeSet
unfolding shape_tree the_value the_name
returns-in-FreeSet c =
    ap not (c.is_class_set.ensures ∙ ap (λ o. is_class_set (the_name o)) (sym c.name_at.ensures))
    ∙ sym (ap (λ o. linking c.args.few (the_value o)) c.in-FreeSet.ensures.tree ∙ class-links c.args.few (the_name (slice_get c.args.table.now.pools.names c.in-FreeSet.name)))

pub returns-in-Null : goal.returns-in-Null
unfolding shape_tree the_value
returns-in-Null c = sym (ap (λ o. linking c.args.few (the_value o)) c.in-Null.ensures.tree ∙ null-links c.args.few)

pub returns-in_default : goal.returns-in_default
unfolding the_value
returns-in_default c =
    c.sort_links.ensures ∙ ap (sort_links c.args.few) c.sort.ensures
    ∙ other-links c.args.table.now.pools (nodes c.args.table.now) c.args.few c.shape.result (value_at (nodes c.args.table.now) c.args.node) (ap the_value c.shape.ensures.tree) c.in_default.not-FreeSet c.in_default.not-Null
