use Rattle.std.proofs.Common.{refl, sym, ◌∙◌, [], slice_get}
use Rattle.jh_arena.specs.table.Entries.{the_field}
use Rattle.jh_arena.specs.table.Nodes.{nodes, shape_tree}
use Rattle.jh_arena.specs.declared.table.shapes.Shape.TheVariants as s
use Rattle.jh_arena.proofs.table.PartSteps.{part-Update-a, part-Update-b, part-Update-c}
use Rattle.jh_arena.proofs.table.Children.{it-is-field, it-is-object, it-is-value}
use Rattle.jh_arena.proofs.table.Listed.{extends-refl}
use Rattle.jh_derivation_rules.specs.Rules.{rule_adds}
use Rattle.jh_derivation_steps.specs.premises.Nodes.{term_at, field_at, value_at, formulas_at, option_rule, IsRule, AreFormulas}
use Rattle.jh_derivation_steps.proofs.premises.Shaping.{fits-at}
use Rattle.jh_derivation_rules.specs.Rules.{described, update_rule}
use Rattle.jh_derivation_steps.proofs.premises.Describing.{field-at}
use Rattle.jh_derivation_steps.proofs.premises.Forms.{update-none}
use Rattle.jh_derivation_steps.proofs.premises.updates.updating.Goals as goal

pub described-requires-clause-old : goal.described-requires-clause-old
described-requires-clause-old c =
    let t0 = c.args.table.now in
    let fits = fits-at t0 c.shape.result (s.Update c.in-Update.old c.in-Update.at c.in-Update.value) c.shape.ensures.fits c.in-Update.is in
    it-is-field (slice_get (nodes t0) c.in-Update.old) (part-Update-a t0.pools (nodes t0) c.in-Update.old c.in-Update.at c.in-Update.value fits)

pub described-requires-clause-at : goal.described-requires-clause-at
described-requires-clause-at c =
    let t0 = c.args.table.now in
    let fits = fits-at t0 c.shape.result (s.Update c.in-Update.old c.in-Update.at c.in-Update.value) c.shape.ensures.fits c.in-Update.is in
    it-is-object (slice_get (nodes t0) c.in-Update.at) (part-Update-b t0.pools (nodes t0) c.in-Update.old c.in-Update.at c.in-Update.value fits)

pub described-requires-clause-value : goal.described-requires-clause-value
described-requires-clause-value c =
    let t0 = c.args.table.now in
    let fits = fits-at t0 c.shape.result (s.Update c.in-Update.old c.in-Update.at c.in-Update.value) c.shape.ensures.fits c.in-Update.is in
    it-is-value (slice_get (nodes t0) c.in-Update.value) (part-Update-c t0.pools (nodes t0) c.in-Update.old c.in-Update.at c.in-Update.value fits)

pub returns-in_ok-made-in-Update-clause-rule : goal.returns-in_ok-made-in-Update-clause-rule
unfolding update_rule shape_tree the_field formulas_at AreFormulas
returns-in_ok-made-in-Update-clause-rule c =
    let t0 = c.args.table.now in
    let f = field_at (nodes t0) c.in-Update.old in
    let a = term_at (nodes t0) c.in-Update.at in
    let v = value_at (nodes t0) c.in-Update.value in
    let t1 = c.described.new.table in (
      c.adding.ensures.rule (nodes t1) ∙ (λ i. rule_adds [] (c.in_ok-made-in-Update.ensures.made.0 i))
          ∙ (λ i. rule_adds [] (described (field-at (λ z. z) t0 c.args.field c.shape.result (s.Update c.in-Update.old c.in-Update.at c.in-Update.value) c.shape.ensures.tree c.in-Update.is i) f a v))
          ∙ sym (field-at update_rule t0 c.args.field c.shape.result (s.Update c.in-Update.old c.in-Update.at c.in-Update.value) c.shape.ensures.tree c.in-Update.is),
      c.adding.ensures.there (nodes t1) tt c.in_ok-made-in-Update.ensures.made.1,
    )

pub returns-in_default : goal.returns-in_default
unfolding option_rule IsRule
returns-in_default c =
    let t0 = c.args.table.now in
    record { rule = (sym (field-at update_rule t0 c.args.field c.shape.result c.shape.result c.shape.ensures.tree refl ∙ update-none t0.pools (nodes t0) c.shape.result c.in_default.not-Update), tt); grows = extends-refl t0 }
