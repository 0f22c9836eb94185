-- Tests on the nodes of lists of fields, and what they say of the fields.
use Rattle.std.proofs.Common.{◌≡◌, refl, sym, ap, ◌∙◌, ℕ, zero, suc, ◌+◌, nat_lt, nat_le, Bool, true, false, not, cond, ◌&&◌, ◌||◌, if◌then◌else◌, List, [], ◌∷◌, length, slice_get, Option, Some, None, position, nat_eq, arith}
use Rattle.std.specs.List.{list_any, position_or_len}
use Rattle.std.specs.Cmp.Lexicographic.{pointwise}
use Rattle.std.proofs.lemmas.Bool.{true≢false, eqb-true, eq-eqb}
use Rattle.std.proofs.lemmas.Option.{none-some}
use Rattle.jh_name.specs.declared.naming.Name.{Name}
use Rattle.jh_form.specs.Tree.{FieldTree, ValueTree, of_field}
use Rattle.jh_form.specs.Tree as t
use Rattle.jh_form.proofs.ClosedLemmas.{both-left, both-right}
use Rattle.jh_form.proofs.Names.{name_equal-same, name_equal-true}
use Rattle.jh_arena.specs.table.Entries.{Pools, Listing, is_field, the_field, are_fields}
use Rattle.jh_arena.specs.table.Growth.{AreDifferent}
use Rattle.jh_arena.specs.table.Nodes.{nodes, shape_tree}
use Rattle.jh_arena.specs.declared.table.shapes.Shape.{Shape}
use Rattle.jh_arena.specs.declared.table.shapes.Shape.TheVariants as s
use Rattle.jh_reach.specs.Standing.{AreFields}
use Rattle.jh_fca.specs.local_form.Chains.{is_name, are_one_name, are_different_names, has_axioms, same_list, place_of}
use Rattle.jh_local_form.proofs.updates.Places.{some-same}
use Rattle.jh_local_form.specs.field_lists.Testing.{is_free_field, all_apart}

both-ways : (p q : Bool) → (p ≡ true → q ≡ true) → (q ≡ true → p ≡ true) → p ≡ q
both-ways true q h k = sym (h refl)
both-ways false true h k = k refl
both-ways false false h k = refl

field-same : (f g : FieldTree) → Some (of_field f) ≡ Some (of_field g) → f ≡ g
field-same f g e = cc

-- a field that is a name is that name
is-the-name : (x : Name) (g : FieldTree) → is_name x g ≡ true → g ≡ t.free_field x
unfolding is_name
is-the-name x (t.free_field y) h = ap (λ z. t.free_field z) (name_equal-true y x h)
is-the-name x (t.update f a v) h = absurd (true≢false (sym h))

the-name : (x : Name) (g : FieldTree) → g ≡ t.free_field x → is_name x g ≡ true
unfolding is_name
the-name x g e = ap (is_name x) e ∙ name_equal-same x x refl

module _ (tab : Listing) (different : AreDifferent (nodes tab)) where
  -- a node is that of a name where its field is that name
  pub node-name : (n m : ℕ) (x : Name) (g : FieldTree) → slice_get (nodes tab) n ≡ Some (of_field (t.free_field x)) → slice_get (nodes tab) m ≡ Some (of_field g) → nat_eq n m ≡ is_name x g
  node-name n m x g h k =
      both-ways (nat_eq n m) (is_name x g) (λ e. the-name x g (field-same g (t.free_field x) (sym k ∙ ap (slice_get (nodes tab)) (sym (eqb-true n m e)) ∙ h)))
      (λ e. eq-eqb n m (different n m (of_field (t.free_field x)) h (k ∙ ap (λ f. Some (of_field f)) (is-the-name x g e))))

  among-names : (n : ℕ) (x : Name) (ns : List ℕ) (fs : List FieldTree) → slice_get (nodes tab) n ≡ Some (of_field (t.free_field x)) → AreFields tab ns fs → list_any (nat_eq n) ns ≡ list_any (is_name x) fs
  unfolding AreFields
  among-names n x [] [] h k = refl
  among-names n x [] (f ∷ fs) h k = absurd k
  among-names n x (m ∷ ns) [] h k = absurd k
  among-names n x (m ∷ ns) (f ∷ fs) h k = λ i. node-name n m x f h k.0 i || among-names n x ns fs h k.1 i

  apart-one : (n : ℕ) (ns : List ℕ) (f : FieldTree) (fs : List FieldTree) → slice_get (nodes tab) n ≡ Some (of_field f) → AreFields tab ns fs → all_apart (nodes tab) ns ≡ are_different_names fs →
      ((is_free_field f && not (list_any (nat_eq n) ns)) && all_apart (nodes tab) ns) ≡ are_different_names (f ∷ fs)
  unfolding is_free_field are_different_names
  apart-one n ns (t.free_field x) fs h k e = λ i. not (among-names n x ns fs h k i) && e i
  apart-one n ns (t.update f a v) fs h k e = refl

  -- whether each is a name and none is another's
  pub apart-is : (ns : List ℕ) (fs : List FieldTree) → AreFields tab ns fs → all_apart (nodes tab) ns ≡ are_different_names fs
  unfolding AreFields the_field are_different_names
  apart-is [] [] h = refl
  apart-is [] (f ∷ fs) h = absurd h
  apart-is (n ∷ ns) [] h = absurd h
  apart-is (n ∷ ns) (f ∷ fs) h = (λ i. (is_free_field (the_field (h.0 i)) && not (list_any (nat_eq n) ns)) && all_apart (nodes tab) ns) ∙ apart-one n ns f fs h.0 h.1 (apart-is ns fs h.1)

  fields-length : (ns : List ℕ) (fs : List FieldTree) → AreFields tab ns fs → length ns ≡ length fs
  unfolding AreFields
  fields-length [] [] h = refl
  fields-length [] (f ∷ fs) h = absurd h
  fields-length (n ∷ ns) [] h = absurd h
  fields-length (n ∷ ns) (f ∷ fs) h = ap suc (fields-length ns fs h.1)

  -- whether axioms are given for them
  pub axioms-are : (ns : List ℕ) (fs : List FieldTree) → AreFields tab ns fs → (nat_le 1 (length ns) && nat_le (length ns) 4 && all_apart (nodes tab) ns) ≡ has_axioms fs
  unfolding has_axioms
  axioms-are ns fs h = λ i. nat_le 1 (fields-length ns fs h i) && nat_le (fields-length ns fs h i) 4 && apart-is ns fs h i

  -- by the two tests, the second where the first holds
  pub axioms-told : (ns : List ℕ) (fs : List FieldTree) (short told : Bool) → AreFields tab ns fs → short ≡ (nat_le 1 (length ns) && nat_le (length ns) 4) → short ≡ true → told ≡ all_apart (nodes tab) ns → told ≡ has_axioms fs
  axioms-told ns fs short told h e is k = k ∙ ap (λ b. b && all_apart (nodes tab) ns) (sym is ∙ e) ∙ axioms-are ns fs h

  pub axioms-untold : (ns : List ℕ) (fs : List FieldTree) (short : Bool) → AreFields tab ns fs → short ≡ (nat_le 1 (length ns) && nat_le (length ns) 4) → short ≡ false → short ≡ has_axioms fs
  axioms-untold ns fs short h e is = is ∙ ap (λ b. b && all_apart (nodes tab) ns) (sym is ∙ e) ∙ axioms-are ns fs h

  one-list : (n m : ℕ) (ns ms : List ℕ) (g f : FieldTree) (gs fs : List FieldTree) → slice_get (nodes tab) n ≡ Some (of_field g) → slice_get (nodes tab) m ≡ Some (of_field f) → are_different_names (g ∷ gs) ≡ true →
      (are_different_names gs ≡ true → pointwise nat_eq ns ms ≡ same_list gs fs) → (nat_eq n m && pointwise nat_eq ns ms) ≡ same_list (g ∷ gs) (f ∷ fs)
  unfolding are_different_names same_list are_one_name
  one-list n m ns ms (t.free_field x) f gs fs h k apart rest = λ i. node-name n m x f h k i && rest (both-right (not (list_any (is_name x) gs)) (are_different_names gs) apart) i
  one-list n m ns ms (t.update g a v) f gs fs h k apart rest = absurd (true≢false (sym apart))

  -- two lists are one where their nodes are
  pub lists-are : (ns ms : List ℕ) (gs fs : List FieldTree) → AreFields tab ns gs → AreFields tab ms fs → are_different_names gs ≡ true → pointwise nat_eq ns ms ≡ same_list gs fs
  unfolding AreFields same_list
  lists-are [] [] [] [] h k apart = refl
  lists-are [] (m ∷ ms) [] (f ∷ fs) h k apart = refl
  lists-are (n ∷ ns) [] (g ∷ gs) [] h k apart = refl
  lists-are (n ∷ ns) (m ∷ ms) (g ∷ gs) (f ∷ fs) h k apart = one-list n m ns ms g f gs fs h.0 k.0 apart (lists-are ns ms gs fs h.1 k.1)
  lists-are [] ms (g ∷ gs) fs h k apart = absurd h
  lists-are (n ∷ ns) ms [] fs h k apart = absurd h
  lists-are ns [] gs (f ∷ fs) h k apart = absurd k
  lists-are ns (m ∷ ms) gs [] h k apart = absurd k

  turned : (b : Bool) (k : ℕ) → cond (not b) (1 + k) 0 ≡ (if b then zero else suc k)
  turned true k = refl
  turned false k = omega arith

  -- the place of a name among fields
  pub place-is : (n : ℕ) (x : Name) (ns : List ℕ) (fs : List FieldTree) → slice_get (nodes tab) n ≡ Some (of_field (t.free_field x)) → AreFields tab ns fs → position_or_len (nat_eq n) ns ≡ place_of x fs
  unfolding AreFields place_of
  place-is n x [] [] h k = refl
  place-is n x [] (f ∷ fs) h k = absurd k
  place-is n x (m ∷ ns) [] h k = absurd k
  place-is n x (m ∷ ns) (f ∷ fs) h k = turned (nat_eq n m) (position_or_len (nat_eq n) ns) ∙ (λ i. if node-name n m x f h k.0 i then zero else suc (place-is n x ns fs h k.1 i))

  position-is : (n : ℕ) (x : Name) (ns : List ℕ) (fs : List FieldTree) → slice_get (nodes tab) n ≡ Some (of_field (t.free_field x)) → AreFields tab ns fs →
      position (nat_eq n) ns ≡ cond (nat_lt (place_of x fs) (length fs)) (Some (place_of x fs)) None
  position-is n x ns fs h k = λ i. cond (nat_lt (place-is n x ns fs h k i) (fields-length ns fs k i)) (Some (place-is n x ns fs h k i)) None

  some-if : (b : Bool) (i k : ℕ) → Some i ≡ cond b (Some k) None → (b ≡ true) × (i ≡ k)
  some-if true i k e = (refl, the-some i k e)
    where
      the-some : (j l : ℕ) → Some j ≡ Some l → j ≡ l
      the-some j l e = cc
  some-if false i k e = absurd (cc)

  none-if : (b : Bool) (k : ℕ) → None ≡ cond b (Some k) None → b ≡ false
  none-if true k e = absurd (cc)
  none-if false k e = refl

  pub place-found : (n i : ℕ) (x : Name) (ns : List ℕ) (fs : List FieldTree) → slice_get (nodes tab) n ≡ Some (of_field (t.free_field x)) → AreFields tab ns fs → Some i ≡ position (nat_eq n) ns → (nat_lt (place_of x fs) (length fs) ≡ true) × (i ≡ place_of x fs)
  place-found n i x ns fs h k e = some-if (nat_lt (place_of x fs) (length fs)) i (place_of x fs) (e ∙ position-is n x ns fs h k)

  pub place-missed : (n : ℕ) (x : Name) (ns : List ℕ) (fs : List FieldTree) → slice_get (nodes tab) n ≡ Some (of_field (t.free_field x)) → AreFields tab ns fs → None ≡ position (nat_eq n) ns → nat_lt (place_of x fs) (length fs) ≡ false
  place-missed n x ns fs h k e = none-if (nat_lt (place_of x fs) (length fs)) (place_of x fs) (e ∙ position-is n x ns fs h k)

-- a list with axioms has different names
pub axioms-apart : (fs : List FieldTree) → has_axioms fs ≡ true → are_different_names fs ≡ true
unfolding has_axioms
axioms-apart fs h = both-right (nat_le 1 (length fs) && nat_le (length fs) 4) (are_different_names fs) h

-- ---- by shapes

module _ (p : Pools) (ts : List ValueTree) where
  pub free-of : (o : Option ValueTree) (x : Shape) (k : ℕ) → o ≡ Some (shape_tree p ts x) → x ≡ s.FreeField k → true ≡ is_free_field (the_field o)
  unfolding shape_tree the_field is_free_field
  free-of o x k at e = ap (λ y. is_free_field (the_field (Some (shape_tree p ts y)))) (sym e) ∙ ap (λ z. is_free_field (the_field z)) (sym at)

  not-free : (x : Shape) → ((k : ℕ) → x ≡ s.FreeField k → ⊥) → is_field (Some (shape_tree p ts x)) ≡ true → false ≡ is_free_field (the_field (Some (shape_tree p ts x)))
  unfolding shape_tree is_field the_field is_free_field
  not-free (s.FreeField k) h e = absurd (h k refl)
  not-free (s.Update a b c) h e = refl
  not-free _ h e = absurd (true≢false (sym e))

  pub else-free : (o : Option ValueTree) (x : Shape) → o ≡ Some (shape_tree p ts x) → ((k : ℕ) → x ≡ s.FreeField k → ⊥) → is_field o ≡ true → false ≡ is_free_field (the_field o)
  else-free o x at h e = not-free x h (ap is_field (sym at) ∙ e) ∙ ap (λ z. is_free_field (the_field z)) (sym at)

-- one of some fields
pub field-among : (ts : List ValueTree) (ns : List ℕ) (i n : ℕ) → are_fields ts ns ≡ true → slice_get ns i ≡ Some n → is_field (slice_get ts n) ≡ true
unfolding are_fields
field-among ts [] i n h at = absurd (none-some n at)
field-among ts (m ∷ ns) zero n h at = ap (λ k. is_field (slice_get ts k)) (sym (some-same m n at)) ∙ both-left (is_field (slice_get ts m)) (are_fields ts ns) h
field-among ts (m ∷ ns) (suc i) n h at = field-among ts ns i n (both-right (is_field (slice_get ts m)) (are_fields ts ns) h) at
