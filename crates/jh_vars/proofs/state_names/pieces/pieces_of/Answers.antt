use Rattle.std.proofs.Common.{◌≡◌, ap, ◌∙◌, map}
use Rattle.std.specs.List.{flat_map}
use Rattle.std.proofs.lemmas.Result.{IfOk-weaker}
use Rattle.jh_ast.specs.Bare.{field_part, var_part, class_part}
use Rattle.jh_vars.specs.Written as written
use Rattle.jh_vars.specs.state_names.Pieces.{pieces_in}
use Rattle.jh_vars.proofs.state_names.Lists.{map-map, flat-map}
use Rattle.jh_vars.proofs.state_names.pieces.pieces_of.Goals as goal

pub returns : goal.returns
unfolding class_part
returns c =
    let class = c.args.class.now in
    let fields : pieces_in c.as_slice.result.now ≡ map written.field_piece (map field_part class.fields) =
    ap pieces_in c.as_slice.ensures.value ∙ c.in_ok-fields.ensures ∙ ap (map (λ x. written.field_piece (field_part x))) c.items.ensures ∙ map-map written.field_piece field_part class.fields in
    let ghosts : pieces_in c.as_slice-2.result.now ≡ flat_map written.ghost_pieces (map var_part class.vars) =
    ap pieces_in c.as_slice-2.ensures.value ∙ c.in_ok-ghosts.ensures ∙ ap (flat_map (λ v. written.ghost_pieces (var_part v))) c.items-2.ensures ∙ flat-map written.ghost_pieces var_part class.vars in
    IfOk-weaker
    c.merged.result
    (λ made. pieces_in made.items ≡ written.merged (pieces_in c.as_slice.result.now) (pieces_in c.as_slice-2.result.now))
    (λ made. pieces_in made.items ≡ written.pieces_of (class_part class))
    (λ made e. e ∙ (λ i. written.merged (fields i) (ghosts i)))
    c.merged.ensures
