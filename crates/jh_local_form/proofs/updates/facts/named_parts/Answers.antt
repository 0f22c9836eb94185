use Rattle.std.proofs.Common.{refl, slice_get}
use Rattle.std.proofs.lemmas.Option.{slice_get_within}
use Rattle.jh_arena.specs.table.Nodes.{nodes}
use Rattle.jh_arena.proofs.table.Listed.{extends-trans}
use Rattle.jh_substitution.specs.rewriting.Rewritten.{rewritten_value}
use Rattle.jh_local_form.specs.updates.Remaining.{naming-grows}
use Rattle.jh_local_form.proofs.updates.Renamed.{inside-grows, part-named}
use Rattle.jh_local_form.proofs.updates.facts.named_parts.Goals as goal

pub named_value-requires-clause-inside : goal.named_value-requires-clause-inside
named_value-requires-clause-inside c = slice_get_within (nodes c.args.table.now) c.args.field _ c.requires.field

pub named_value-requires-2-clause-inside : goal.named_value-requires-2-clause-inside
named_value-requires-2-clause-inside c = slice_get_within (nodes c.named_value.new.table) c.args.at _ (c.named_value.ensures.grows.nodes.keeps c.args.at _ c.requires.at)

pub named_value-requires-2-clause-names : goal.named_value-requires-2-clause-names
named_value-requires-2-clause-names c = (c.requires.names.0, naming-grows c.args.table.now c.named_value.new.table c.named_value.ensures.grows c.args.names.now c.requires.names.0 c.requires.names.1)

pub named_value-requires-3-clause-inside : goal.named_value-requires-3-clause-inside
named_value-requires-3-clause-inside c =
    inside-grows (nodes c.args.table.now) (nodes c.named_value-2.new.table) (extends-trans c.args.table.now c.named_value.new.table c.named_value-2.new.table c.named_value.ensures.grows c.named_value-2.ensures.grows).nodes c.args.value c.requires.value

pub named_value-requires-3-clause-names : goal.named_value-requires-3-clause-names
named_value-requires-3-clause-names c = (
  c.requires.names.0,
  naming-grows c.args.table.now c.named_value-2.new.table (extends-trans c.args.table.now c.named_value.new.table c.named_value-2.new.table c.named_value.ensures.grows c.named_value-2.ensures.grows) c.args.names.now c.requires.names.0 c.requires.names.1,
)

pub returns-clause-parts : goal.returns-clause-parts
unfolding rewritten_value
returns-clause-parts c = (
  refl,
  λ us f a v is hf ha hv.
      let t0 = c.args.table.now in
      let t1 = c.named_value.new.table in
      let t2 = c.named_value-2.new.table in
      let t3 = c.named_value-3.new.table in
      let two = extends-trans t0 t1 t2 c.named_value.ensures.grows c.named_value-2.ensures.grows in
      let n = c.args.names.now in
      record {
        on = c.named_value-3.ensures.grows.nodes.keeps c.in_ok-field.field _ (c.named_value-2.ensures.grows.nodes.keeps c.in_ok-field.field _ (part-named us n.first (slice_get (nodes t1) c.in_ok-field.field) (slice_get (nodes t0) c.args.field) _ (c.in_ok-field.ensures.tree us is) hf));
        for_object = c.named_value-3.ensures.grows.nodes.keeps c.in_ok-at.at _
            (part-named us n.first (slice_get (nodes t2) c.in_ok-at.at) (slice_get (nodes t1) c.args.at) _ (c.in_ok-at.ensures.tree us (naming-grows t0 t1 c.named_value.ensures.grows n us is)) (c.named_value.ensures.grows.nodes.keeps c.args.at _ ha));
        gives = part-named us n.first (slice_get (nodes t3) c.in_ok-value.value) (slice_get (nodes t2) c.args.value) v (c.in_ok-value.ensures.tree us (naming-grows t0 t2 two n us is)) (two.nodes.keeps c.args.value v hv);
      },
)
