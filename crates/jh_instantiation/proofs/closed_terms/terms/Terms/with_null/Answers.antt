use Rattle.std.proofs.Common.{◌∙◌, ap, subst, sym, ℕ, List, [], ◌∷◌, nat_eq}
use Rattle.indexmap.specs.IndexSet.{insert_key}
use Rattle.jh_form.specs.Tree as tree
use Rattle.jh_instantiation.specs.closed_terms.Listed.{AreTerms}
use Rattle.jh_instantiation.proofs.closed_terms.terms.Terms.with_null.Goals as goal

pub returns-clause-terms : goal.returns-clause-terms
returns-clause-terms c =
    let keys = c.in_ok-add.ensures ∙ ap (λ ks. insert_key nat_eq ks c.in_ok-null.null) c.new-terms.ensures in
    subst (λ (ns : List ℕ). AreTerms c.null.new.table ns (tree.null ∷ [])) (sym keys) (c.in_ok-null.ensures.node, tt)
