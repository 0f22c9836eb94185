-- The formulas of a source by their numbers, and while the table grows.
use Rattle.std.proofs.Common.{◌≡◌, refl, sym, ap, ◌∙◌, ℕ, ◌<◌, ◌≤◌, true, false, List, length, get_or, slice_get, Option, Some, None}
use Rattle.std.proofs.lemmas.Option.{slice_get-get_or, slice_get_past, slice_get_within}
use Rattle.std.proofs.lemmas.Bool.{true≢false}
use Rattle.std.specs.Option.{option_map_or}
use Rattle.jh_ast.specs.Programs.{ProgramTree}
use Rattle.jh_form.specs.Tree.{ValueTree, of_object, of_number, of_truth, of_set, of_field}
use Rattle.jh_form.specs.Tree as t
use Rattle.jh_name.specs.declared.place.Sort.{Sort}
use Rattle.jh_name.specs.declared.place.Sort.TheVariants as sort
use Rattle.jh_form.specs.Sorts.{tree_sort}
use Rattle.jh_arena.specs.table.Entries.{Listing, is_truth, the_truth, the_value}
use Rattle.jh_arena.specs.table.Growth.{Extends}
use Rattle.jh_arena.specs.table.Nodes.{nodes}
use Rattle.jh_rules.specs.Names.{◌then◌}
use Rattle.jh_vars.specs.Resolved.{as_truth}
use Rattle.jh_vars.specs.Opened.{opened}
use Rattle.jh_semantics.specs.typed_code.Statements.{value_of}
use Rattle.jh_command_statements.specs.checks.Told.{node_of, told_at, AreFormulas}

-- a value as a formula, True where it is none
truth-of : (o : Option ValueTree) → the_truth o ≡ as_truth (option_map_or (λ v. v) o (of_truth t.true_formula))
unfolding the_truth
truth-of None = refl
truth-of (Some (of_object a)) = refl
truth-of (Some (of_number a)) = refl
truth-of (Some (of_truth a)) = refl
truth-of (Some (of_set a)) = refl
truth-of (Some (of_field a)) = refl

-- the formula of a number
pub formula-told : (p : ProgramTree) (l : Listing) (ns : List (Option ℕ)) (n : ℕ) → AreFormulas p l ns → the_truth (told_at l (node_of ns n)) ≡ as_truth (value_of p n)
formula-told p l ns n h = ap the_truth (h.is n) ∙ truth-of (opened p n)

module _ (l u : Listing) (g : Extends l u) where
  kept : (k : ℕ) → k < length (nodes l) → slice_get (nodes u) k ≡ slice_get (nodes l) k
  kept k lt =
      let there : slice_get (nodes l) k ≡ Some (get_or (nodes l) k (of_object t.null)) = slice_get-get_or (nodes l) k (of_object t.null) lt in
      g.nodes.keeps k (get_or (nodes l) k (of_object t.null)) there ∙ sym there

  told-stays : (o : Option ℕ) → ((k : ℕ) → o ≡ Some k → k < length (nodes l)) → told_at u o ≡ told_at l o
  told-stays None h = refl
  told-stays (Some k) h = kept k (h k refl)

  pub formulas-grow : (p : ProgramTree) (ns : List (Option ℕ)) → AreFormulas p l ns → AreFormulas p u ns
  formulas-grow p ns h = record {
    inside = λ n k e.
        let lt = h.inside n k e in
        slice_get_within (nodes u) k (get_or (nodes l) k (of_object t.null)) (g.nodes.keeps k (get_or (nodes l) k (of_object t.null)) (slice_get-get_or (nodes l) k (of_object t.null) lt));
    is = λ n. told-stays (node_of ns n) (λ k e. h.inside n k e) ∙ h.is n;
  }

-- a node that is a formula, and one that is none
pub is-formula : (o : Option ValueTree) → is_truth o ≡ true → o ≡ Some (of_truth (the_truth o))
unfolding is_truth the_truth
is-formula (Some (of_truth a)) h = refl
is-formula _ h = absurd (true≢false (sym h))

pub no-formula : (o : Option ValueTree) → is_truth o ≡ false → the_truth o ≡ t.true_formula
unfolding is_truth the_truth
no-formula None h = refl
no-formula (Some (of_object a)) h = refl
no-formula (Some (of_number a)) h = refl
no-formula (Some (of_truth a)) h = absurd (true≢false h)
no-formula (Some (of_set a)) h = refl
no-formula (Some (of_field a)) h = refl

pub nothing-told : the_truth None ≡ t.true_formula
unfolding the_truth
nothing-told = refl

pub nothing-there : (ts : List ValueTree) (n : ℕ) → length ts ≤ n → is_truth (slice_get ts n) ≡ false
unfolding is_truth
nothing-there ts n le = ap is_truth (slice_get_past ts n le)

-- the sort of a node says whether it is a formula
sort-says : (o : Option ValueTree) → tree_sort (the_value o) ≡ sort.Bool → is_truth o ≡ true
unfolding is_truth the_value
sort-says None e = absurd (cc)
sort-says (Some (of_object a)) e = absurd (cc)
sort-says (Some (of_number a)) e = absurd (cc)
sort-says (Some (of_truth a)) e = refl
sort-says (Some (of_set a)) e = absurd (cc)
sort-says (Some (of_field a)) e = absurd (cc)

pub sort-true : (o : Option ValueTree) (s : Sort) → s ≡ tree_sort (the_value o) → s ≡ sort.Bool → is_truth o ≡ true
sort-true o s e h = sort-says o (sym e ∙ h)

pub sort-false : (o : Option ValueTree) (s : Sort) → s ≡ tree_sort (the_value o) → (s ≡ sort.Bool → ⊥) → is_truth o ≡ false
unfolding is_truth the_value
sort-false None s e h = refl
sort-false (Some (of_object a)) s e h = refl
sort-false (Some (of_number a)) s e h = refl
sort-false (Some (of_truth a)) s e h = absurd (h e)
sort-false (Some (of_set a)) s e h = refl
sort-false (Some (of_field a)) s e h = refl

pub ruleset told_steps = (formula-told)

-- the nodes of the parts of an unfolded program are its formulas
pub formulas-of : (p : ProgramTree) (t : Listing) (ns : List (Option ℕ)) → ((n : ℕ) → (node_of ns n then slice_get (nodes t)) ≡ opened p n) → ((n k : ℕ) → node_of ns n ≡ Some k → k < length (nodes t)) → AreFormulas p t ns
formulas-of p t ns value inside = record { inside = inside; is = λ n. told (node_of ns n) ∙ value n }
  where
    told : (o : Option ℕ) → told_at t o ≡ (o then slice_get (nodes t))
    told None = refl
    told (Some k) = refl
