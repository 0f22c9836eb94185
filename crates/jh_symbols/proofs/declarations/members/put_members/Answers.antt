use Rattle.std.proofs.Common.{subst, ap, ◌∙◌, ◌≡◌, ◌++◌, [], map, ℕ, List, Option}
use Rattle.indexmap.specs.IndexMap.{get_by_text}
use Rattle.jh_ast.specs.Bare.{field_part, method_part, var_part, def_part}
use Rattle.jh_rules.specs.Names as n
use Rattle.jh_rules.specs.Names.{def_in, type_of, members_of}
use Rattle.jh_symbols.specs.declarations.Entries.{Holds, entry_of, marked}
use Rattle.jh_symbols.proofs.declarations.Naming.{holds-none, whole-members}
use Rattle.jh_symbols.proofs.declarations.members.put_members.Goals as goal

pub returns : goal.returns
returns c =
    let numbers : List ℕ → Option ℕ = λ x. get_by_text c.args.numbers.now x in
    let ds = map def_part c.args.part.now.defs in
    let marks : (x : List ℕ) → get_by_text c.put_defs.new.table x ≡ marked (def_in x ds) = λ x. c.in_ok-put_defs.ensures x ∙ ap (λ xs. marked (def_in x (map def_part xs))) c.items.ensures in
    let empty = holds-none numbers c.args.class ds (λ x. get_by_text c.args.names.now x) c.requires in
    let vars = c.in_ok-put_vars.ensures numbers ds [] marks empty in
    let methods = c.in_ok-put_methods.ensures c.args.class ds _ vars in
    subst (λ ms. Holds (entry_of numbers c.args.class ds) (λ x. get_by_text c.put_fields.new.names x) ms)
    ((λ i. map n.field (map field_part (c.items-4.ensures i)) ++ (map n.method (map method_part (c.items-3.ensures i)) ++ (map n.var (map var_part (c.items-2.ensures i)) ++ []))) ∙ whole-members c.args.part.now)
    (c.in_ok-put_fields.ensures ds _ methods)
