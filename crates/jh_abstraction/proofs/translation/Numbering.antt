-- The place of a name in a list, by the place of its node.
use Rattle.std.proofs.Common.{◌≡◌, refl, sym, ◌∙◌, ℕ, ◌+◌, ◌<◌, ◌≤◌, Bool, true, false, not, cond, if◌then◌else◌, nat_eq, nat_lt, List, [], ◌∷◌, length, Option, Some, None, position, arith}
use Rattle.std.specs.List.{position_or_len}
use Rattle.std.proofs.lemmas.Bool.{true≢false, eqb-true, eq-eqb, ltb-false}
use Rattle.std.proofs.lemmas.List.Sums.{prefix_len-le-length}
use Rattle.std.proofs.lemmas.Option.{same_Some}
use Rattle.jh_form.specs.Tree.{ValueTree, of_object, of_number, of_truth, of_set}
use Rattle.jh_boxed_operations.specs.comparison.Exchanged.{equal_trees}
use Rattle.jh_arena.specs.table.Entries.{the_value, is_object, is_number, is_set, is_truth, the_object, the_number, the_set, the_truth}
use Rattle.jh_arena.specs.table.Growth.{AreDifferent}
use Rattle.jh_approx.specs.definition.Names.{place_in}
use Rattle.jh_query_names.specs.query_names.Kinds.{value_at}
use Rattle.jh_query_names.specs.query_names.Finding.{values_at, AreBelow}
use Rattle.jh_query_names.proofs.name_lists.Chosen.{both-ways, same-node}

-- ---- a place that was looked for

module _ (p : ℕ → Bool) (xs : List ℕ) where
  pub place-found : (n : ℕ) → Some n ≡ position p xs → n ≡ position_or_len p xs
  place-found n h = by (nat_lt (position_or_len p xs) (length xs)) h
    where
      by : (b : Bool) → Some n ≡ cond b (Some (position_or_len p xs)) None → n ≡ position_or_len p xs
      by true e = same_Some n (position_or_len p xs) e
      by false e = absurd (cc)

  pub place-missed : None ≡ position p xs → length xs ≡ position_or_len p xs
  place-missed h = by (nat_lt (position_or_len p xs) (length xs)) refl h
    where
      by : (b : Bool) → nat_lt (position_or_len p xs) (length xs) ≡ b → None ≡ cond b (Some (position_or_len p xs)) None → length xs ≡ position_or_len p xs
      by true e k = absurd (cc)
      by false e k =
          let past : length xs ≤ position_or_len p xs = ltb-false (position_or_len p xs) (length xs) e in
          let within : position_or_len p xs ≤ length xs = prefix_len-le-length (λ x. not (p x)) xs in
          omega arith

-- ---- places of nodes are those of their values

turned : (b : Bool) (k : ℕ) → (if b then 0 else k + 1) ≡ cond (not b) (1 + k) 0
turned true k = refl
turned false k = omega arith

module _ (ts : List ValueTree) (different : AreDifferent ts) where
  same-value : (m n : ℕ) → m < length ts → n < length ts → equal_trees (value_at ts m) (value_at ts n) ≡ nat_eq n m
  same-value m n k l = sym (same-node ts different m n k l) ∙ both-ways (nat_eq m n) (nat_eq n m) (λ h. eq-eqb n m (sym (eqb-true m n h))) (λ h. eq-eqb m n (sym (eqb-true n m h)))

  pub place-is : (ns : List ℕ) (n : ℕ) → n < length ts → AreBelow (length ts) ns → place_in (values_at ts ns) (value_at ts n) ≡ position_or_len (nat_eq n) ns
  unfolding place_in
  place-is [] n lt h = refl
  place-is (m ∷ ns) n lt h = (λ i. if same-value m n h.0 lt i then 0 else place-is ns n lt h.1 i + 1) ∙ turned (nat_eq n m) (position_or_len (nat_eq n) ns)

-- ---- the values at nodes, by their sorts

pub object-there : (o : Option ValueTree) → is_object o ≡ true → the_value o ≡ of_object (the_object o)
unfolding is_object the_object the_value
object-there (Some (of_object a)) h = refl
object-there _ h = absurd (true≢false (sym h))

pub number-there : (o : Option ValueTree) → is_number o ≡ true → the_value o ≡ of_number (the_number o)
unfolding is_number the_number the_value
number-there (Some (of_number a)) h = refl
number-there _ h = absurd (true≢false (sym h))

pub set-there : (o : Option ValueTree) → is_set o ≡ true → the_value o ≡ of_set (the_set o)
unfolding is_set the_set the_value
set-there (Some (of_set a)) h = refl
set-there _ h = absurd (true≢false (sym h))

pub truth-there : (o : Option ValueTree) → is_truth o ≡ true → the_value o ≡ of_truth (the_truth o)
unfolding is_truth the_truth the_value
truth-there (Some (of_truth a)) h = refl
truth-there _ h = absurd (true≢false (sym h))
