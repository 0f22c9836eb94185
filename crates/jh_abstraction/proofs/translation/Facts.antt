-- Facts that are told one by one, and the query of them.
use Rattle.std.proofs.Common.{◌≡◌, refl, sym, ap, ◌∙◌, ℕ, suc, ◌+◌, ◌<◌, ◌≤◌, List, [], ◌∷◌, ◌++◌, append_assoc, append-nil, length, map, slice_get, drop, get_or, add-one, drop-cons}
use Rattle.std.proofs.lemmas.List.{drop_all}
use Rattle.jh_form.specs.Tree.{ValueTree}
use Rattle.jh_arena.specs.table.Entries.{the_truth}
use Rattle.jh_arena.specs.makers.Joined.{truths_at}
use Rattle.jh_query.specs.queries.Tree.{CondTree}
use Rattle.jh_query.specs.declared.queries.query.Cond.{Cond}
use Rattle.jh_query.specs.queries.Bare.{cond_tree}
use Rattle.jh_approx.specs.definition.Names.{NameLists}
use Rattle.jh_approx.specs.definition.Told.{told}

-- what is told of formulas at nodes
abbrev pub told_at : NameLists → List ValueTree → List ℕ → List CondTree
told_at n ts ns = map (told n) (truths_at ts ns)

map-push : (cs : List Cond) (c : Cond) → map cond_tree (cs ++ c ∷ []) ≡ map cond_tree cs ++ cond_tree c ∷ []
map-push [] c = refl
map-push (d ∷ cs) c = ap (λ ts. cond_tree d ∷ ts) (map-push cs c)

-- one more fact
pub told-next : (n : NameLists) (ts : List ValueTree) (ns : List ℕ) (j d : ℕ) (made more : List Cond) (c : Cond) → j < length ns → map cond_tree made ++ told_at n ts (drop j ns) ≡ told_at n ts ns →
    cond_tree c ≡ told n (the_truth (slice_get ts (get_or ns j d))) → more ≡ made ++ c ∷ [] → map cond_tree more ++ told_at n ts (drop (j + 1) ns) ≡ told_at n ts ns
told-next n ts ns j d made more c lt h e p =
    let rest = told_at n ts (drop (suc j) ns) in
    rw add-one (ap (λ cs. map cond_tree cs ++ rest) p
    ∙ ap (λ us. us ++ rest) (map-push made c)
    ∙ append_assoc (map cond_tree made) (cond_tree c ∷ []) rest
    ∙ ap (λ u. map cond_tree made ++ u ∷ rest) e
    ∙ ap (λ ms. map cond_tree made ++ told_at n ts ms) (sym (drop-cons ns j d lt))
    ∙ h)

pub told-end : (n : NameLists) (ts : List ValueTree) (ns : List ℕ) (j : ℕ) (made : List Cond) → length ns ≤ j → map cond_tree made ++ told_at n ts (drop j ns) ≡ told_at n ts ns → map cond_tree made ≡ told_at n ts ns
told-end n ts ns j made le h = sym (ap (λ ms. map cond_tree made ++ told_at n ts ms) (drop_all j ns le) ∙ append-nil (map cond_tree made)) ∙ h
