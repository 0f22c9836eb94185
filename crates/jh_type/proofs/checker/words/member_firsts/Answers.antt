use Rattle.std.proofs.Common.{sym, ap, ◌∙◌, ◌||◌, ◌++◌, map}
use Rattle.jh_rules.specs.Words.{used_before}
use Rattle.jh_type.proofs.checker.Following.{used-append}
use Rattle.jh_ast.specs.declared.program.Field.{Field}
use Rattle.jh_ast.specs.declared.program.Method.{Method}
use Rattle.jh_ast.specs.declared.program.SpecVar.{SpecVar}
use Rattle.jh_type.proofs.checker.words.member_firsts.Goals as goal

pub returns : goal.returns
returns c = λ w.
    let fields = map (λ (x : Field). x.name) c.args.class.now.fields in
    let methods = map (λ (x : Method). x.name) c.args.class.now.methods in
    let vars = map (λ (x : SpecVar). x.name) c.args.class.now.vars in
    c.in_ok-add_vars.ensures w
    ∙ (λ i. (c.in_ok-add_methods.ensures w ∙ (λ j. (c.in_ok-add_fields.ensures w ∙ (λ k. c.new-found.ensures w k || used_before (map (λ (x : Field). x.name) (c.items.ensures k)) w)) j || used_before (map (λ (x : Method). x.name) (c.items-2.ensures j)) w)) i || used_before (map (λ (x : SpecVar). x.name) (c.items-3.ensures i)) w)
    ∙ ap (λ b. b || used_before vars w) (sym (used-append fields methods w)) ∙ sym (used-append (fields ++ methods) vars w)
