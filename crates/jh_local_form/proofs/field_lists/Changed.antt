-- Updates whose value is an object, as changes of lists.
use Rattle.std.proofs.Common.{◌≡◌, refl, sym, ap, subst, ◌∙◌, ℕ, ◌+◌, ◌≤◌, List, [], ◌∷◌, ◌++◌, drop, length, slice_get, Some, append-nil}
use Rattle.std.proofs.lemmas.List.{drop_all}
use Rattle.jh_name.specs.declared.place.Sort.TheVariants as Sort
use Rattle.jh_form.specs.Tree.{TermTree, FieldTree, ValueTree, of_object, of_field, free_field, update}
use Rattle.jh_form.specs.Tree as t
use Rattle.jh_form.specs.Sorts.{tree_sort}
use Rattle.jh_arena.specs.table.Entries.{the_value}
use Rattle.jh_arena.specs.table.Growth.{Grows}
use Rattle.jh_substitution.specs.rewriting.Rewritten.{Rewriting, rewritten_term, rewritten_field, rewritten_value}
use Rattle.jh_fca.specs.local_form.Named.{name_of, naming}
use Rattle.jh_fca.specs.local_form.Chains.{ChangeTree, change, changes_of}
use Rattle.jh_local_form.specs.declared.updates.facts.NamedUpdate.{NamedUpdate}
use Rattle.jh_local_form.specs.updates.NamedUpdates.{IsNamedUpdate}
use Rattle.jh_local_form.proofs.updates.Places.{drop-next}
use Rattle.jh_local_form.proofs.updates.Described.{object-of}
use Rattle.jh_local_form.specs.field_lists.Changing.{IsChange, AreChanges}
use Rattle.jh_local_form.proofs.field_lists.Standing.{changes-grow, changes-append}

rewritten-sort : (v : ValueTree) (l : Rewriting) (d : ℕ) → tree_sort (rewritten_value v l d) ≡ tree_sort v
unfolding rewritten_value
rewritten-sort (t.of_object a) l d = refl
rewritten-sort (t.of_number a) l d = refl
rewritten-sort (t.of_truth a) l d = refl
rewritten-sort (t.of_set a) l d = refl
rewritten-sort (t.of_field a) l d = refl

-- the sort of the value of an update
value-sort : (ts : List ValueTree) (x : NamedUpdate) (us : List ValueTree) (k : ℕ) (u : ValueTree) (h : IsNamedUpdate ts x us k u) → tree_sort (the_value (slice_get ts x.value)) ≡ tree_sort h.new
unfolding the_value
value-sort ts x us k u h = ap (λ o. tree_sort (the_value o)) h.parts.gives ∙ rewritten-sort h.new (naming us k) 0

abbrev as_change : List ValueTree → ℕ → FieldTree → TermTree → TermTree → ChangeTree
as_change us k f a v = record {
  name = name_of us k (of_field (update f a (of_object v)));
  field = rewritten_field f (naming us k) 0;
  at = rewritten_term a (naming us k) 0;
  value = rewritten_term v (naming us k) 0;
}

one-change : (us : List ValueTree) (k : ℕ) (f : FieldTree) (a v : TermTree) → change us k (of_field (update f a (of_object v))) ≡ as_change us k f a v ∷ []
unfolding change
one-change us k f a v = refl

none-change : (us : List ValueTree) (k : ℕ) (f : FieldTree) (a : TermTree) (v : ValueTree) → (tree_sort v ≡ Sort.Obj → ⊥) → change us k (of_field (update f a v)) ≡ []
unfolding change
none-change us k f a (t.of_object v) h = absurd (h refl)
none-change us k f a (t.of_number v) h = refl
none-change us k f a (t.of_truth v) h = refl
none-change us k f a (t.of_set v) h = refl
none-change us k f a (t.of_field v) h = refl

module _ (ts : List ValueTree) (x : NamedUpdate) (us : List ValueTree) (k : ℕ) (u : ValueTree) (h : IsNamedUpdate ts x us k u) where
  -- an update with an object for its value is a change
  pub change-of : tree_sort (the_value (slice_get ts x.value)) ≡ Sort.Obj → (c : ChangeTree) × (change us k u ≡ c ∷ []) × IsChange ts x c
  unfolding rewritten_value
  change-of sort =
      let b = object-of h.new (sym (value-sort ts x us k u h) ∙ sort) in
      let is : u ≡ of_field (update h.old h.object (of_object b.0)) = h.is ∙ ap (λ v. of_field (update h.old h.object v)) b.1 in (
        as_change us k h.old h.object b.0,
        ap (change us k) is ∙ one-change us k h.old h.object b.0,
        record {
          called = h.named ∙ ap (λ w. Some (of_field (free_field (name_of us k w)))) is;
          on = h.parts.on;
          for_object = h.parts.for_object;
          gives = h.parts.gives ∙ ap (λ v. Some (rewritten_value v (naming us k) 0)) b.1;
        },
      )

  -- another one isn't
  pub no-change : (tree_sort (the_value (slice_get ts x.value)) ≡ Sort.Obj → ⊥) → change us k u ≡ []
  no-change other = ap (change us k) h.is ∙ none-change us k h.old h.object h.new (λ e. other (value-sort ts x us k u h ∙ e))

-- what is added to the changes so far
pub change-added : (ts vs : List ValueTree) → Grows ts vs → (xs ys : List NamedUpdate) (x : NamedUpdate) (cs more : List ChangeTree) (c : ChangeTree) → AreChanges ts xs cs → more ≡ c ∷ [] → IsChange vs x c → ys ≡ xs ++ x ∷ [] → AreChanges vs ys (cs ++ more)
unfolding AreChanges
change-added ts vs g xs ys x cs more c are e is pushed =
    subst (λ (zs : List NamedUpdate). AreChanges vs zs (cs ++ more)) (sym pushed)
    (subst (λ (ds : List ChangeTree). AreChanges vs (xs ++ x ∷ []) (cs ++ ds)) (sym e) (changes-append vs xs (x ∷ []) cs (c ∷ []) (changes-grow ts vs g xs cs are) (is, tt)))

pub change-none : (ts vs : List ValueTree) → Grows ts vs → (xs ys : List NamedUpdate) (cs more : List ChangeTree) → AreChanges ts xs cs → more ≡ [] → ys ≡ xs → AreChanges vs ys (cs ++ more)
change-none ts vs g xs ys cs more are e same =
    subst (λ (zs : List NamedUpdate). AreChanges vs zs (cs ++ more)) (sym same)
    (subst (λ (ds : List ChangeTree). AreChanges vs xs ds) (sym (append-nil cs) ∙ ap (λ ds. cs ++ ds) (sym e)) (changes-grow ts vs g xs cs are))

-- ---- from the last one on

module _ (us : List ValueTree) (k : ℕ) where
  pub changes-begin : (n : ℕ) → length us ≤ n → changes_of us k (drop n us) ≡ []
  changes-begin n past = ap (changes_of us k) (drop_all n us past)

  pub changes-next : (i : ℕ) (u : ValueTree) (n : ℕ) → slice_get us i ≡ Some u → n ≡ i + 1 → changes_of us k (drop n us) ++ change us k u ≡ changes_of us k (drop i us)
  changes-next i u n at e = ap (λ m. changes_of us k (drop m us) ++ change us k u) e ∙ sym (ap (changes_of us k) (drop-next us i u at))
