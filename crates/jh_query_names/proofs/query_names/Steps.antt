-- Steps of gathering.
use Rattle.std.proofs.Common.{◌≡◌, refl, sym, ap, subst, ◌∙◌, ℕ, suc, ◌<◌, true, nat_eq, List, [], ◌∷◌, ◌++◌, append-nil, length, slice_get, Some, Result, Ok, Err, OnOk}
use Rattle.std.proofs.lemmas.Bool.{true≢false}
use Rattle.std.proofs.lemmas.Option.{slice_get_within}
use Rattle.jh_form.specs.Tree.{ValueTree}
use Rattle.jh_arena.specs.table.Entries.{Pools, the_value}
use Rattle.jh_arena.specs.table.Growth.{AreDifferent}
use Rattle.jh_arena.specs.table.Nodes.{fits, shape_tree}
use Rattle.jh_arena.specs.table.Parts.{list_parts, own_parts, ArePartsBelow}
use Rattle.jh_arena.specs.declared.table.shapes.Shape.{Shape}
use Rattle.indexmap.specs.IndexSet.{insert_key}
use Rattle.jh_query_names.specs.declared.query_names.kinds.Kind.TheVariants as k
use Rattle.jh_query_names.specs.query_names.Gathered.{value_names, has_name, with_names}
use Rattle.jh_query_names.specs.query_names.Kinds.{kind_of, value_at, names_at}
use Rattle.jh_query_names.specs.query_names.Finding.{values_at, AreBelow, IsFound}
use Rattle.jh_query_names.proofs.query_names.Onces.{with-has, with-append}
use Rattle.jh_query_names.proofs.query_names.PartNames.{name-names, nothing-names, parts-names}
use Rattle.jh_query_names.proofs.query_names.Findings.{note-names, note-found, see-found}

pub on-ok-two : {A E P Q S : Type 0} (r : Result A E) → (P → Q → S) → OnOk r P → OnOk r Q → OnOk r S
on-ok-two (Ok a) f p q = f p q
on-ok-two (Err e) f p q = tt

pub two-with : (known xs ys : List ValueTree) → with_names (with_names known xs) ys ≡ with_names known (xs ++ (ys ++ []))
two-with known xs ys = sym (with-append xs (ys ++ []) known ∙ ap (with_names (with_names known xs)) (append-nil ys))

pub three-with : (known xs ys zs : List ValueTree) → with_names (with_names known (xs ++ (ys ++ []))) zs ≡ with_names known (xs ++ (ys ++ (zs ++ [])))
three-with known xs ys zs = ap (λ vs. with_names vs zs) (sym (two-with known xs ys)) ∙ two-with (with_names known xs) ys zs ∙ sym (with-append xs (ys ++ (zs ++ [])) known)

-- ---- parts stand before

each-below : (n : ℕ) (ns : List ℕ) → ((i m : ℕ) → slice_get ns i ≡ Some m → m < n) → AreBelow n ns
each-below n [] h = tt
each-below n (m ∷ ns) h = (h 0 m refl, each-below n ns (λ i l e. h (suc i) l e))

behind-below : (n : ℕ) (ms ns : List ℕ) → ((i m : ℕ) → slice_get (ms ++ ns) i ≡ Some m → m < n) → AreBelow n ns
behind-below n [] ns h = each-below n ns h
behind-below n (m ∷ ms) ns h = behind-below n ms ns (λ i l e. h (suc i) l e)

pub own-below : (n : ℕ) (ls : List (List ℕ)) (x : Shape) → ArePartsBelow n ls x → AreBelow n (own_parts x)
own-below n ls x h = behind-below n (list_parts ls x) (own_parts x) h.below

-- ---- by kinds

module _ (p : Pools) (ts : List ValueTree) (n : ℕ) (x : Shape) (there : slice_get ts n ≡ Some (shape_tree p ts x)) where
  here : value_at ts n ≡ shape_tree p ts x
  unfolding the_value
  here = ap the_value there

  pub node-inside : n < length ts
  node-inside = slice_get_within ts n (shape_tree p ts x) there

  pub name-at : kind_of x ≡ k.Name → value_names (value_at ts n) ≡ value_at ts n ∷ []
  name-at h = ap value_names here ∙ name-names p ts x h ∙ ap (λ v. v ∷ []) (sym here)

  pub nothing-at : kind_of x ≡ k.Nothing → value_names (value_at ts n) ≡ []
  nothing-at h = ap value_names here ∙ nothing-names p ts x h

  pub parts-at : fits p ts x ≡ true → kind_of x ≡ k.Parts → value_names (value_at ts n) ≡ names_at ts (own_parts x)
  parts-at f h = ap value_names here ∙ parts-names p ts x f h

-- ---- what is found

pub found-as : (ts : List ValueTree) (ns seen ms met : List ℕ) → ms ≡ ns → met ≡ seen → IsFound ts ns seen → IsFound ts ms met
found-as ts ns seen ms met e f h = subst (λ (l : List ℕ). IsFound ts ms l) (sym f) (subst (λ (l : List ℕ). IsFound ts l seen) (sym e) h)

-- a name
pub noted-names : (ts : List ValueTree) (ns seen ms : List ℕ) (n : ℕ) → AreDifferent ts → IsFound ts ns seen → n < length ts → value_names (value_at ts n) ≡ value_at ts n ∷ [] → ms ≡ insert_key nat_eq ns n → values_at ts ms ≡ with_names (values_at ts ns) (value_names (value_at ts n))
noted-names ts ns seen ms n different found lt is e = ap (values_at ts) e ∙ note-names ts different ns seen n found lt ∙ ap (with_names (values_at ts ns)) (sym is)

pub noted-found : (ts : List ValueTree) (ns seen ms met : List ℕ) (n : ℕ) → AreDifferent ts → IsFound ts ns seen → n < length ts → ms ≡ insert_key nat_eq ns n → met ≡ seen → IsFound ts ms met
noted-found ts ns seen ms met n different found lt e f = found-as ts (insert_key nat_eq ns n) seen ms met e f (note-found ts different ns seen n found lt)

-- a node that was looked at
pub seen-found : (ts : List ValueTree) (old : List ValueTree) (ns seen ms met : List ℕ) (n : ℕ) → IsFound ts ns seen → values_at ts ns ≡ with_names old (value_names (value_at ts n)) → ms ≡ ns → met ≡ insert_key nat_eq seen n → IsFound ts ms met
seen-found ts old ns seen ms met n found is e f =
    found-as ts ns (insert_key nat_eq seen n) ms met e f (see-found ts ns seen n found (λ v h. ap (λ vs. has_name vs v) is ∙ with-has (value_names (value_at ts n)) old v h))

-- where nothing was found, what was found is right
pub none-found : (ts : List ValueTree) (ns seen : List ℕ) → ns ≡ [] → seen ≡ [] → IsFound ts ns seen
none-found ts ns seen e f = found-as ts [] [] ns seen e f (record { inside = λ n h. absurd (true≢false (sym h)); known = λ n h v k. absurd (true≢false (sym h)) })
