use Rattle.std.proofs.Common.{◌≡◌, ap, ◌∙◌, ◌++◌, map, List, OnOk, subst}
use Rattle.jh_ast.specs.Bare.{class_part}
use Rattle.jh_vars.specs.Written.{pieces_of}
use Rattle.jh_vars.specs.declared.state_names.state.StateName.{StateName}
use Rattle.jh_vars.specs.state_names.Pieces.{pieces_in}
use Rattle.jh_vars.specs.state_names.States.{member_state, class_states}
use Rattle.jh_vars.proofs.state_names.listing.push_class.Goals as goal

pub returns : goal.returns
unfolding class_part
returns c =
    let class = c.args.class.now in
    let pieces : pieces_in c.as_slice.result.now ≡ pieces_of (class_part class) = ap pieces_in c.as_slice.ensures.value ∙ c.in_ok-pieces.ensures in
    let same : map (member_state c.args.number c.text.result.now) (pieces_in c.as_slice.result.now) ≡ class_states c.args.number (class_part class) = λ i. map (member_state c.args.number (c.text.ensures i)) (pieces i) in
    subst (λ (xs : List StateName). OnOk c.push_pieces.result (c.push_pieces.new.list.items ≡ c.args.list.now.items ++ xs)) same c.push_pieces.ensures
