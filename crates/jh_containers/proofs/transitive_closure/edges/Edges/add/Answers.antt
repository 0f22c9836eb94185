use Rattle.std.proofs.Common.{◌≡◌, ◌<◌, ◌⊎◌, ◌++◌, ◌∷◌, [], sym, ap, subst, ◌∙◌, ℕ, List, Some, map, length, slice_get, slice_set, OnOk}
use Rattle.std.proofs.lemmas.Result.{IfOk-weaker}
use Rattle.jh_containers.specs.transitive_closure.Spreads.{IsIn, items_of, passed_to}
use Rattle.jh_containers.proofs.transitive_closure.Edging.{added, keeps, only, rows-long}
use Rattle.jh_containers.proofs.transitive_closure.Places.{item-get}
use Rattle.jh_containers.proofs.transitive_closure.edges.Edges.add.Goals as goal

-- src/edges.rt
pub returns-clause-added : goal.returns-clause-added
returns-clause-added c =
    let rows = c.self.inside.rows.items in
    let from = c.args.from in
    let old = c.index_mut.result.now in
    let new = c.extend.new.row in
    let inside : from < length rows = rows-long rows from c.args.self.now c.self.view_is c.requires in
    let there : slice_get rows from ≡ Some old = item-get rows from old inside ∙ ap Some (sym c.index_mut.ensures.value) in
    IfOk-weaker
    c.extend.result
    (λ made. new.items ≡ old.items ++ c.args.to ∷ [])
    (λ made. IsIn (passed_to (map items_of (slice_set rows from new)) from) c.args.to)
    (λ made is. added rows from c.args.to old new inside there is)
    c.extend.ensures

-- src/edges.rt
pub returns-clause-keeps : goal.returns-clause-keeps
returns-clause-keeps c =
    let rows = c.self.inside.rows.items in
    let from = c.args.from in
    let old = c.index_mut.result.now in
    let new = c.extend.new.row in
    let inside : from < length rows = rows-long rows from c.args.self.now c.self.view_is c.requires in
    let there : slice_get rows from ≡ Some old = item-get rows from old inside ∙ ap Some (sym c.index_mut.ensures.value) in
    IfOk-weaker
    c.extend.result
    (λ made. new.items ≡ old.items ++ c.args.to ∷ [])
    (λ made. (n m : ℕ) → IsIn (passed_to c.args.self.now n) m → IsIn (passed_to (map items_of (slice_set rows from new)) n) m)
    (λ made is n m k. keeps rows from c.args.to old new inside there is n m (subst (λ (es : List (List ℕ)). IsIn (passed_to es n) m) (sym c.self.view_is) k))
    c.extend.ensures

-- src/edges.rt
pub returns-clause-only : goal.returns-clause-only
returns-clause-only c =
    let rows = c.self.inside.rows.items in
    let from = c.args.from in
    let old = c.index_mut.result.now in
    let new = c.extend.new.row in
    let inside : from < length rows = rows-long rows from c.args.self.now c.self.view_is c.requires in
    let there : slice_get rows from ≡ Some old = item-get rows from old inside ∙ ap Some (sym c.index_mut.ensures.value) in
    subst
    (λ (es : List (List ℕ)). OnOk c.extend.result ((n m : ℕ) → IsIn (passed_to (map items_of (slice_set rows from new)) n) m → ((n ≡ from) × (m ≡ c.args.to)) ⊎ IsIn (passed_to es n) m))
    c.self.view_is
    (IfOk-weaker
    c.extend.result
    (λ made. new.items ≡ old.items ++ c.args.to ∷ [])
    (λ made. (n m : ℕ) → IsIn (passed_to (map items_of (slice_set rows from new)) n) m → ((n ≡ from) × (m ≡ c.args.to)) ⊎ IsIn (passed_to (map items_of rows) n) m)
    (λ made is. only rows from c.args.to old new inside there is)
    c.extend.ensures)
