-- Written by tools/rewrite.py.
-- What the answers for the parts of a shape say.
use Rattle.std.proofs.Common.{◌≡◌, refl, sym, ap, subst, add-zero, ◌∙◌, ℕ, ◌+◌, true, List, [], ◌∷◌, ◌++◌, length, slice_get, slice_index, Option, Some, None, is_some, option_map, arith}
use Rattle.std.proofs.lemmas.Bool.{true≢false}
use Rattle.std.specs.Cmp.Derive.{both_true}
use Rattle.jh_form.specs.Tree.{ValueTree, of_object, of_number, of_truth, of_set, of_field, more}
use Rattle.jh_form.proofs.ClosedLemmas.{both-left, both-right}
use Rattle.jh_substitution.specs.rewriting.Rewritten.{Rewriting, rewritten_term, rewritten_int, rewritten_set, rewritten_field, rewritten_value, rewritten_formula, rewritten_fields}
use Rattle.jh_arena.specs.table.Entries.{Pools, the_list, is_object, is_number, is_truth, is_set, is_field, the_object, the_number, the_truth, the_set, the_field, the_value, are_fields, fields_at}
use Rattle.jh_arena.specs.table.Nodes.{fits, shape_tree}
use Rattle.jh_arena.specs.declared.table.shapes.Shape.{Shape}
use Rattle.jh_substitution.specs.rewriting.Walks.{IsRewritten, AllRewritten}

-- the new shape fits, and is the old one rewritten
pub record Remade (p q : Pools) (ts : List ValueTree) (l : Rewriting) (d : ℕ) (old new : Shape) : Type 0 where
  pub fits : fits q ts new ≡ true
  pub is : shape_tree q ts new ≡ rewritten_value (shape_tree p ts old) l d

pub first-rewritten : (ts : List ValueTree) (l : Rewriting) (d a : ℕ) (ps rs : List ℕ) → AllRewritten l ts d (a ∷ ps) rs → IsRewritten l ts a d (slice_index rs 0)
first-rewritten ts l d a ps [] h = absurd h
first-rewritten ts l d a ps (r ∷ rs) h = h.0

pub second-rewritten : (ts : List ValueTree) (l : Rewriting) (d a b : ℕ) (ps rs : List ℕ) → AllRewritten l ts d (a ∷ b ∷ ps) rs → IsRewritten l ts b d (slice_index rs 1)
second-rewritten ts l d a b ps [] h = absurd h
second-rewritten ts l d a b ps (r ∷ rs) h = first-rewritten ts l d b ps rs h.1

pub third-rewritten : (ts : List ValueTree) (l : Rewriting) (d a b c : ℕ) (ps rs : List ℕ) → AllRewritten l ts d (a ∷ b ∷ c ∷ ps) rs → IsRewritten l ts c d (slice_index rs 2)
third-rewritten ts l d a b c ps [] h = absurd h
third-rewritten ts l d a b c ps (r ∷ rs) h = second-rewritten ts l d b c ps rs h.1

object-fits_of : (l : Rewriting) (d : ℕ) (o n : Option ValueTree) → n ≡ option_map (λ v. rewritten_value v l d) o → is_object o ≡ true → is_object n ≡ true
unfolding is_object rewritten_value
object-fits_of l d (Some (of_object a)) n e h = ap is_object e
object-fits_of l d _ n e h = absurd (true≢false (sym h))

pub object-fits : (l : Rewriting) (ts : List ValueTree) (k d r : ℕ) → IsRewritten l ts k d r → is_object (slice_get ts k) ≡ true → is_object (slice_get ts r) ≡ true
object-fits l ts k d r m h = object-fits_of l d (slice_get ts k) (slice_get ts r) m.is h

object-is_of : (l : Rewriting) (d : ℕ) (o n : Option ValueTree) → n ≡ option_map (λ v. rewritten_value v l d) o → is_object o ≡ true → the_object n ≡ rewritten_term (the_object o) l d
unfolding is_object the_object rewritten_value
object-is_of l d (Some (of_object a)) n e h = ap the_object e
object-is_of l d _ n e h = absurd (true≢false (sym h))

pub object-is : (l : Rewriting) (ts : List ValueTree) (k d r : ℕ) → IsRewritten l ts k d r → is_object (slice_get ts k) ≡ true → the_object (slice_get ts r) ≡ rewritten_term (the_object (slice_get ts k)) l d
object-is l ts k d r m h = object-is_of l d (slice_get ts k) (slice_get ts r) m.is h

number-fits_of : (l : Rewriting) (d : ℕ) (o n : Option ValueTree) → n ≡ option_map (λ v. rewritten_value v l d) o → is_number o ≡ true → is_number n ≡ true
unfolding is_number rewritten_value
number-fits_of l d (Some (of_number a)) n e h = ap is_number e
number-fits_of l d _ n e h = absurd (true≢false (sym h))

pub number-fits : (l : Rewriting) (ts : List ValueTree) (k d r : ℕ) → IsRewritten l ts k d r → is_number (slice_get ts k) ≡ true → is_number (slice_get ts r) ≡ true
number-fits l ts k d r m h = number-fits_of l d (slice_get ts k) (slice_get ts r) m.is h

number-is_of : (l : Rewriting) (d : ℕ) (o n : Option ValueTree) → n ≡ option_map (λ v. rewritten_value v l d) o → is_number o ≡ true → the_number n ≡ rewritten_int (the_number o) l d
unfolding is_number the_number rewritten_value
number-is_of l d (Some (of_number a)) n e h = ap the_number e
number-is_of l d _ n e h = absurd (true≢false (sym h))

pub number-is : (l : Rewriting) (ts : List ValueTree) (k d r : ℕ) → IsRewritten l ts k d r → is_number (slice_get ts k) ≡ true → the_number (slice_get ts r) ≡ rewritten_int (the_number (slice_get ts k)) l d
number-is l ts k d r m h = number-is_of l d (slice_get ts k) (slice_get ts r) m.is h

truth-fits_of : (l : Rewriting) (d : ℕ) (o n : Option ValueTree) → n ≡ option_map (λ v. rewritten_value v l d) o → is_truth o ≡ true → is_truth n ≡ true
unfolding is_truth rewritten_value
truth-fits_of l d (Some (of_truth a)) n e h = ap is_truth e
truth-fits_of l d _ n e h = absurd (true≢false (sym h))

pub truth-fits : (l : Rewriting) (ts : List ValueTree) (k d r : ℕ) → IsRewritten l ts k d r → is_truth (slice_get ts k) ≡ true → is_truth (slice_get ts r) ≡ true
truth-fits l ts k d r m h = truth-fits_of l d (slice_get ts k) (slice_get ts r) m.is h

truth-is_of : (l : Rewriting) (d : ℕ) (o n : Option ValueTree) → n ≡ option_map (λ v. rewritten_value v l d) o → is_truth o ≡ true → the_truth n ≡ rewritten_formula (the_truth o) l d
unfolding is_truth the_truth rewritten_value
truth-is_of l d (Some (of_truth a)) n e h = ap the_truth e
truth-is_of l d _ n e h = absurd (true≢false (sym h))

pub truth-is : (l : Rewriting) (ts : List ValueTree) (k d r : ℕ) → IsRewritten l ts k d r → is_truth (slice_get ts k) ≡ true → the_truth (slice_get ts r) ≡ rewritten_formula (the_truth (slice_get ts k)) l d
truth-is l ts k d r m h = truth-is_of l d (slice_get ts k) (slice_get ts r) m.is h

set-fits_of : (l : Rewriting) (d : ℕ) (o n : Option ValueTree) → n ≡ option_map (λ v. rewritten_value v l d) o → is_set o ≡ true → is_set n ≡ true
unfolding is_set rewritten_value
set-fits_of l d (Some (of_set a)) n e h = ap is_set e
set-fits_of l d _ n e h = absurd (true≢false (sym h))

pub set-fits : (l : Rewriting) (ts : List ValueTree) (k d r : ℕ) → IsRewritten l ts k d r → is_set (slice_get ts k) ≡ true → is_set (slice_get ts r) ≡ true
set-fits l ts k d r m h = set-fits_of l d (slice_get ts k) (slice_get ts r) m.is h

set-is_of : (l : Rewriting) (d : ℕ) (o n : Option ValueTree) → n ≡ option_map (λ v. rewritten_value v l d) o → is_set o ≡ true → the_set n ≡ rewritten_set (the_set o) l d
unfolding is_set the_set rewritten_value
set-is_of l d (Some (of_set a)) n e h = ap the_set e
set-is_of l d _ n e h = absurd (true≢false (sym h))

pub set-is : (l : Rewriting) (ts : List ValueTree) (k d r : ℕ) → IsRewritten l ts k d r → is_set (slice_get ts k) ≡ true → the_set (slice_get ts r) ≡ rewritten_set (the_set (slice_get ts k)) l d
set-is l ts k d r m h = set-is_of l d (slice_get ts k) (slice_get ts r) m.is h

field-fits_of : (l : Rewriting) (d : ℕ) (o n : Option ValueTree) → n ≡ option_map (λ v. rewritten_value v l d) o → is_field o ≡ true → is_field n ≡ true
unfolding is_field rewritten_value
field-fits_of l d (Some (of_field a)) n e h = ap is_field e
field-fits_of l d _ n e h = absurd (true≢false (sym h))

pub field-fits : (l : Rewriting) (ts : List ValueTree) (k d r : ℕ) → IsRewritten l ts k d r → is_field (slice_get ts k) ≡ true → is_field (slice_get ts r) ≡ true
field-fits l ts k d r m h = field-fits_of l d (slice_get ts k) (slice_get ts r) m.is h

field-is_of : (l : Rewriting) (d : ℕ) (o n : Option ValueTree) → n ≡ option_map (λ v. rewritten_value v l d) o → is_field o ≡ true → the_field n ≡ rewritten_field (the_field o) l d
unfolding is_field the_field rewritten_value
field-is_of l d (Some (of_field a)) n e h = ap the_field e
field-is_of l d _ n e h = absurd (true≢false (sym h))

pub field-is : (l : Rewriting) (ts : List ValueTree) (k d r : ℕ) → IsRewritten l ts k d r → is_field (slice_get ts k) ≡ true → the_field (slice_get ts r) ≡ rewritten_field (the_field (slice_get ts k)) l d
field-is l ts k d r m h = field-is_of l d (slice_get ts k) (slice_get ts r) m.is h

-- no binders more
pub plain : (ts : List ValueTree) (l : Rewriting) (d : ℕ) (ps rs : List ℕ) → AllRewritten l ts (d + 0) ps rs → AllRewritten l ts d ps rs
plain ts l d ps rs h = subst (λ (q : ℕ). AllRewritten l ts q ps rs) (add-zero d) h

value-is_of : (l : Rewriting) (d : ℕ) (o n : Option ValueTree) → n ≡ option_map (λ v. rewritten_value v l d) o → is_some o ≡ true → the_value n ≡ rewritten_value (the_value o) l d
unfolding the_value
value-is_of l d (Some a) n e h = ap the_value e
value-is_of l d None n e h = absurd (true≢false (sym h))

pub value-is : (l : Rewriting) (ts : List ValueTree) (k d r : ℕ) → IsRewritten l ts k d r → the_value (slice_get ts r) ≡ rewritten_value (the_value (slice_get ts k)) l d
value-is l ts k d r m = value-is_of l d (slice_get ts k) (slice_get ts r) m.is m.there

all-fit : (ts : List ValueTree) (l : Rewriting) (d : ℕ) (ps rs : List ℕ) → AllRewritten l ts d ps rs → are_fields ts ps ≡ true → are_fields ts rs ≡ true
unfolding are_fields
all-fit ts l d [] [] u h = refl
all-fit ts l d [] (r ∷ rs) u h = absurd u
all-fit ts l d (p ∷ ps) [] u h = absurd u
all-fit ts l d (p ∷ ps) (r ∷ rs) u h =
    both_true
    (field-fits l ts p d r u.0 (both-left (is_field (slice_get ts p)) (are_fields ts ps) h))
    (all-fit ts l d ps rs u.1 (both-right (is_field (slice_get ts p)) (are_fields ts ps) h))

all-are : (ts : List ValueTree) (l : Rewriting) (d : ℕ) (ps rs : List ℕ) → AllRewritten l ts d ps rs → are_fields ts ps ≡ true → fields_at ts rs ≡ rewritten_fields (fields_at ts ps) l d
unfolding are_fields fields_at rewritten_fields
all-are ts l d [] [] u h = refl
all-are ts l d [] (r ∷ rs) u h = absurd u
all-are ts l d (p ∷ ps) [] u h = absurd u
all-are ts l d (p ∷ ps) (r ∷ rs) u h = λ i.
    more
    (field-is l ts p d r u.0 (both-left (is_field (slice_get ts p)) (are_fields ts ps) h) i)
    (all-are ts l d ps rs u.1 (both-right (is_field (slice_get ts p)) (are_fields ts ps) h) i)

-- the answers for a list of fields, which has the number n
pub fields-fit : (q : Pools) (ts : List ValueTree) (l : Rewriting) (d n : ℕ) (fs ps : List ℕ) → slice_get q.lists n ≡ Some fs →
    AllRewritten l ts d ps fs → are_fields ts ps ≡ true → are_fields ts (the_list (slice_get q.lists n)) ≡ true
unfolding the_list
fields-fit q ts l d n fs ps g u h = ap (λ o. are_fields ts (the_list o)) g ∙ all-fit ts l d ps fs u h

pub fields-are : (q : Pools) (ts : List ValueTree) (l : Rewriting) (d n : ℕ) (fs ps : List ℕ) → slice_get q.lists n ≡ Some fs →
    AllRewritten l ts d ps fs → are_fields ts ps ≡ true → fields_at ts (the_list (slice_get q.lists n)) ≡ rewritten_fields (fields_at ts ps) l d
unfolding the_list
fields-are q ts l d n fs ps g u h = ap (λ o. fields_at ts (the_list o)) g ∙ all-are ts l d ps fs u h

-- the answers for parts that stand one list after the other
pub all-split : (ts : List ValueTree) (l : Rewriting) (d : ℕ) (ps qs fs gs : List ℕ) → AllRewritten l ts d (ps ++ qs) (fs ++ gs) → length fs ≡ length ps →
    AllRewritten l ts d ps fs × AllRewritten l ts d qs gs
all-split ts l d [] qs [] gs h e = (tt, h)
all-split ts l d [] qs (f ∷ fs) gs h e = absurd (omega arith)
all-split ts l d (p ∷ ps) qs [] gs h e = absurd (omega arith)
all-split ts l d (p ∷ ps) qs (f ∷ fs) gs h e =
    let rest = all-split ts l d ps qs fs gs h.1 (omega arith) in
    ((h.0, rest.0), rest.1)
