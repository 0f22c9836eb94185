-- Names that are entered into a map, each once.
use Rattle.std.proofs.Common.{◌≡◌, refl, sym, ap, ◌∙◌, ℕ, zero, suc, Bool, true, false, if◌then◌else◌, is_some, nat_eq, List, [], ◌∷◌, ◌++◌, map, slice_get, Some, None}
use Rattle.std.specs.Borrow.{Bor}
use Rattle.std.specs.Cmp.Lexicographic.{pointwise}
use Rattle.std.specs.Map.{lookup}
use Rattle.std.specs.Option.{option_map_or}
use Rattle.indexmap.specs.IndexMap.{insert_entry}
use Rattle.jh_name.specs.declared.place.Sort.{Sort}
use Rattle.jh_rules.specs.Words.{same_text}
use Rattle.jh_semantics.specs.Code.{Text}
use Rattle.jh_guard.specs.Items.{Sorted}
use Rattle.jh_loop_targets.specs.Gathering.{sort_named, with_one}
use Rattle.jh_loop_targets.specs.Noted.{entry_in}

abbrev Entry : Type 0
Entry = Bor (List ℕ) × Sort

pub sort-lookup : (x : Text) (es : List Entry) → lookup (λ k. pointwise nat_eq x k.now) es ≡ sort_named (map entry_in es) x
sort-lookup x [] = refl
sort-lookup x (e ∷ es) = ap (λ o. if same_text x e.0.now then Some e.1 else o) (sort-lookup x es)

insert-new : (es : List Entry) (k : Bor (List ℕ)) (v : Sort) → sort_named (map entry_in es) k.now ≡ None → map entry_in (insert_entry (λ x y. pointwise nat_eq x.now y.now) es k v) ≡ map entry_in es ++ record { text = k.now; sort = v } ∷ []
insert-new [] k v h = refl
insert-new (e ∷ es) k v h = by (same_text k.now e.0.now) refl (insert-new es k v)
  where
    rest : (b : Bool) → same_text k.now e.0.now ≡ b → (if b then Some e.1 else sort_named (map entry_in es) k.now) ≡ None
    rest b d = ap (λ t. if t then Some e.1 else sort_named (map entry_in es) k.now) (sym d) ∙ h

    by : (b : Bool) → same_text k.now e.0.now ≡ b → (sort_named (map entry_in es) k.now ≡ None → map entry_in (insert_entry (λ x y. pointwise nat_eq x.now y.now) es k v) ≡ map entry_in es ++ record { text = k.now; sort = v } ∷ []) → map entry_in (if b then (e.0, v) ∷ es else e ∷ insert_entry (λ x y. pointwise nat_eq x.now y.now) es k v) ≡ entry_in e ∷ (map entry_in es ++ record { text = k.now; sort = v } ∷ [])
    by true d r = absurd (let q : Some e.1 ≡ None = rest true d in cc)
    by false d r = ap (λ zs. entry_in e ∷ zs) (r (rest false d))

-- a name whose text is new goes last
pub entered : (old new : List Entry) (k : Bor (List ℕ)) (v : Sort) → sort_named (map entry_in old) k.now ≡ None → new ≡ insert_entry (λ x y. pointwise nat_eq x.now y.now) old k v → map entry_in new ≡ with_one (map entry_in old) (record { text = k.now; sort = v })
entered old new k v h e = ap (map entry_in) e ∙ insert-new old k v h ∙ sym (ap (λ o. if is_some o then map entry_in old else map entry_in old ++ record { text = k.now; sort = v } ∷ []) h)

-- a name whose text is there is not entered
pub kept : (xs : List Sorted) (s : Sorted) (v : Sort) → sort_named xs s.text ≡ Some v → xs ≡ with_one xs s
kept xs s v h = sym (ap (λ o. if is_some o then xs else xs ++ s ∷ []) h)

-- what stands at a place of the entries
pub entry-at : (es : List Entry) (i : ℕ) → slice_get (map entry_in es) i ≡ option_map_or (λ e. Some (entry_in e)) (slice_get es i) None
entry-at [] i = refl
entry-at (e ∷ es) zero = refl
entry-at (e ∷ es) (suc i) = entry-at es i
