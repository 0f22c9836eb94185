use Rattle.std.proofs.Common.{◌≡◌, sym, ap, subst, ◌∙◌, List, []}
use Rattle.std.specs.List.{flat_map}
use Rattle.std.specs.Option.{option_map_or}
use Rattle.std.proofs.lemmas.Result.{IfOk-weaker}
use Rattle.jh_ast.specs.Bare.{program_tree}
use Rattle.jh_ast.specs.Programs.{MethodPart}
use Rattle.jh_effects.specs.direct_effects.Effects.{writes_in, calls_in}
use Rattle.jh_vars.specs.Statements.{method_statements}
use Rattle.jh_vars.specs.Written as w
use Rattle.jh_effects.specs.written_state.Methods.{Adds, callee_of, given_to, given_by, links_to, links_by}
use Rattle.jh_effects.proofs.written_state.Adding.{adds-both}
use Rattle.jh_effects.proofs.written_state.writing.add_method.Goals as goal

-- src/writing.rt
pub returns : goal.returns
returns c =
    let p = program_tree c.args.program.now in
    let numbers = c.args.numbers.now in
    let n = c.args.number in
    let listed = c.args.listed.now in
    let old = c.args.flow.now in
    let mid = c.give_all.new.flow in
    let new = c.link_all.new.flow in
    let writes : writes_in c.as_slice.result.now ≡ w.own_writes p (callee_of listed) =
    ap writes_in c.as_slice.ensures.value ∙ c.in_ok-effects.ensures.writes p c.requires.declared ∙ sym (ap (λ o. option_map_or (λ (x : MethodPart). flat_map (w.writes_of p) (method_statements p listed.class x)) o []) c.requires.sound) in
    let calls : calls_in c.as_slice-2.result.now ≡ w.own_calls p (callee_of listed) =
    ap calls_in c.as_slice-2.ensures.value ∙ c.in_ok-effects.ensures.calls p c.requires.declared ∙ sym (ap (λ o. option_map_or (λ (x : MethodPart). flat_map (w.called_by p) (method_statements p listed.class x)) o []) c.requires.sound) in
    IfOk-weaker
    c.link_all.result
    (λ made. Adds mid new [] (links_to numbers n (calls_in c.as_slice-2.result.now)))
    (λ made. Adds old new (given_by p n (callee_of listed)) (links_by p numbers n (callee_of listed)))
    (λ made h.
    subst (λ (cs : List w.Callee). Adds old new (given_by p n (callee_of listed)) (links_to numbers n cs)) calls
    (subst (λ (ws : List w.Written). Adds old new (given_to p n ws) (links_to numbers n (calls_in c.as_slice-2.result.now))) writes
    (adds-both old mid new (given_to p n (writes_in c.as_slice.result.now)) (links_to numbers n (calls_in c.as_slice-2.result.now)) c.in_ok-give_all.ensures h)))
    c.link_all.ensures
