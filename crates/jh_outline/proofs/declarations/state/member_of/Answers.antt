use Rattle.std.proofs.Common.{refl, ◌∙◌}
use Rattle.jh_lowering.specs.Lowering.{source_of}
use Rattle.jh_outline.proofs.declarations.Owned.{member-is}
use Rattle.jh_outline.proofs.declarations.state.member_of.Goals as goal

pub returns : goal.returns
returns c =
    member-is (source_of c.args.context.now) (record { text = c.in_ok-text.text; class = c.args.class; kind = c.args.state.now.kind; is_static = c.is_static.result; ty = c.member_type.result }) c.args.state.now c.args.class
    (c.in_ok-text.ensures ∙ c.text.ensures) refl refl c.is_static.ensures c.member_type.ensures
