-- What a node's sort says of its tree, and what it is for a node to stay as it is.
use Rattle.std.proofs.Common.{◌≡◌, refl, sym, ap, ◌∙◌, ℕ, zero, suc, ◌<◌, true, false, List, [], ◌∷◌, arith, length, slice_get, Option, Some, None, is_some, option_map}
use Rattle.std.proofs.lemmas.Bool.{true≢false}
use Rattle.std.proofs.lemmas.Option.{slice_get_within}
use Rattle.jh_form.specs.Tree.{ValueTree, FormulaTree, of_truth, of_object}
use Rattle.jh_boxed.specs.Mapped.{LeafMap, mapped_value, mapped_formula}
use Rattle.jh_substitution.specs.rewriting.Rewritten.{Rewriting, leaves_alone, rewritten_value}
use Rattle.jh_substitution.proofs.rewriting.Wholes.{value-alone, whole-taken}
use Rattle.jh_form.specs.Meaning.{datum}
use Rattle.jh_substitution.proofs.rewriting.Meanings.{datum-rewritten}
use Rattle.jh_arena.specs.table.Entries.{Listing, is_truth, is_object, the_object, the_truth, the_value}
use Rattle.jh_arena.specs.table.Growth.{Extends}
use Rattle.jh_arena.specs.table.Nodes.{nodes, tree_in, fits_in}
use Rattle.jh_arena.specs.table.Parts.{ArePartsBelow}
use Rattle.jh_arena.specs.declared.table.shapes.Shape.{Shape}
use Rattle.jh_arena.proofs.table.Listed.{tree-grows, parts-grows}
use Rattle.jh_form.specs.Sorts.{tree_sort}
use Rattle.jh_substitution.specs.rewriting.Leaf.{is_leaf}
use Rattle.jh_substitution.specs.rewriting.Walks.{IsRewritten, IsWhole, Stays, KeepsMeaning}
use Rattle.jh_substitution.specs.rewriting.Staying.{grown}

pub truth-some : (o : Option ValueTree) → is_truth o ≡ true → is_some o ≡ true
unfolding is_truth
truth-some (Some v) h = refl
truth-some None h = h

pub object-some : (o : Option ValueTree) → is_object o ≡ true → is_some o ≡ true
unfolding is_object
object-some (Some v) h = refl
object-some None h = h

-- the value of a truth
pub truth-value : (o : Option ValueTree) → is_truth o ≡ true → the_value o ≡ of_truth (the_truth o)
unfolding is_truth the_truth the_value
truth-value (Some (of_truth a)) h = refl
truth-value _ h = absurd (true≢false (sym h))

some-within : (xs : List ValueTree) (n : ℕ) (o : Option ValueTree) → slice_get xs n ≡ o → is_some o ≡ true → n < length xs
some-within xs n (Some v) e h = slice_get_within xs n v e
some-within xs n None e h = absurd (true≢false (sym h))

pub there-within : (xs : List ValueTree) (n : ℕ) → is_some (slice_get xs n) ≡ true → n < length xs
there-within xs n h = some-within xs n (slice_get xs n) refl h

pub truth-within : (xs : List ValueTree) (n : ℕ) → is_truth (slice_get xs n) ≡ true → n < length xs
truth-within xs n h = there-within xs n (truth-some (slice_get xs n) h)

pub within-some : (xs : List ValueTree) (n : ℕ) → n < length xs → is_some (slice_get xs n) ≡ true
within-some [] n lt = absurd (omega arith)
within-some (x ∷ xs) zero lt = refl
within-some (x ∷ xs) (suc n) lt = within-some xs n (omega arith)

-- a leaf that its rule rewriting as it is
pub stays-rewritten : (ts : List ValueTree) (l : Rewriting) (n d : ℕ) (v : ValueTree) → slice_get ts n ≡ Some v → rewritten_value v l d ≡ v → IsRewritten l ts n d n
stays-rewritten ts l n d v e kept = record {
  there = ap is_some e;
  is = e ∙ ap Some (sym kept) ∙ sym (ap (option_map (λ w. rewritten_value w l d)) e);
}

-- a leaf that its rule exchanges
pub exchanged-rewritten : (ts : List ValueTree) (l : Rewriting) (n d r : ℕ) (v w : ValueTree) → slice_get ts n ≡ Some v → slice_get ts r ≡ Some w →
    rewritten_value v l d ≡ w → IsRewritten l ts n d r
exchanged-rewritten ts l n d r v w e f made = record {
  there = ap is_some e;
  is = f ∙ ap Some (sym made) ∙ sym (ap (option_map (λ u. rewritten_value u l d)) e);
}

rewritten-some : (l : Rewriting) (d : ℕ) (o : Option ValueTree) → is_some o ≡ true → option_map (λ v. rewritten_value v l d) o ≡ Some (rewritten_value (the_value o) l d)
unfolding the_value
rewritten-some l d (Some v) h = refl
rewritten-some l d None h = absurd (true≢false (sym h))

-- the answer of a walk, said of the table before it
pub rewritten-before : (ready : Listing → Type 0) (rewriting : Listing → Rewriting) (old new : Listing) (n d r : ℕ) → Stays ready rewriting → Extends old new → ready old →
    n < length (nodes old) → IsRewritten (rewriting new) (nodes new) n d r → slice_get (nodes new) r ≡ Some (rewritten_value (the_value (slice_get (nodes old) n)) (rewriting old) d)
rewritten-before ready rewriting old new n d r stays g h lt m =
    let there : is_some (slice_get (nodes old) n) ≡ true = within-some (nodes old) n lt in
    let same : slice_get (nodes new) n ≡ slice_get (nodes old) n = grown (nodes old) (nodes new) n g.nodes there in
    let kept : rewriting new ≡ rewriting old = stays.same old new g h in
    m.is ∙ (λ i. option_map (λ v. rewritten_value v (kept i) d) (same i)) ∙ rewritten-some (rewriting old) d (slice_get (nodes old) n) there

-- and so it keeps the meaning where what stands for its leaves and parts does
pub rewritten-means : (l : Rewriting) (d : ℕ) (old new : Option ValueTree) → new ≡ Some (rewritten_value (the_value old) l d) → KeepsMeaning l d old new
unfolding the_value
rewritten-means l d old new e m n view keeps wholes env le =
    ap (λ o. datum (the_value o) m env) e ∙ datum-rewritten l m n view keeps wholes (the_value old) d env le

-- where only leaves are exchanged
pub rewritten-truth : (l : LeafMap) (d : ℕ) (o : Option ValueTree) → is_truth o ≡ true → Some (rewritten_value (the_value o) (leaves_alone l) d) ≡ Some (of_truth (mapped_formula (the_truth o) l d))
unfolding mapped_value
rewritten-truth l d o h = ap Some (value-alone l (the_value o) d) ∙ ap (λ v. Some (mapped_value v l d)) (truth-value o h)

pub object-listed : (o : Option ValueTree) → is_object o ≡ true → o ≡ Some (of_object (the_object o))
unfolding is_object the_object
object-listed (Some (of_object a)) h = refl
object-listed _ h = absurd (true≢false (sym h))

-- a formula that is listed is the formula of its place
pub listed-truth : (o : Option ValueTree) (a : FormulaTree) → o ≡ Some (of_truth a) → the_truth o ≡ a
unfolding the_truth
listed-truth o a e = ap the_truth e

pub listed-value : (o : Option ValueTree) (v : ValueTree) → o ≡ Some v → the_value o ≡ v
unfolding the_value
listed-value o v e = ap the_value e

pub value-listed : (o : Option ValueTree) → is_some o ≡ true → o ≡ Some (the_value o)
unfolding the_value
value-listed (Some v) h = refl
value-listed None h = absurd (true≢false (sym h))

-- what stands for a whole part, as a rewritten tree
pub whole-rewritten : (t u : Listing) (l : Rewriting) (n d r : ℕ) (x : Shape) → Extends t u → is_leaf x ≡ false → slice_get (nodes t) n ≡ Some (tree_in t x) →
    IsWhole l (nodes u) n d r → IsRewritten l (nodes u) n d r
whole-rewritten t u l n d r x g leaf there w =
    let here : slice_get (nodes u) n ≡ Some (tree_in t x) = g.nodes.keeps n (tree_in t x) there in
    let value : the_value (slice_get (nodes u) n) ≡ tree_in t x = listed-value (slice_get (nodes u) n) (tree_in t x) here in
    let listed : slice_get (nodes u) r ≡ Some (the_value (slice_get (nodes u) r)) = value-listed (slice_get (nodes u) r) w.there in
    let stands : l.whole_at (tree_in t x) d ≡ Some (the_value (slice_get (nodes u) r)) = (λ i. l.whole_at (sym value i) d) ∙ sym w.is ∙ listed in
    let taken : rewritten_value (tree_in t x) l d ≡ the_value (slice_get (nodes u) r) =
    whole-taken l t.pools (nodes t) d x (the_value (slice_get (nodes u) r)) leaf stands (w.sort ∙ ap tree_sort value) in
    record {
      there = ap is_some here;
      is = listed ∙ ap Some (sym taken) ∙ sym (ap (option_map (λ v. rewritten_value v l d)) here);
    }

-- where nothing stands for a whole part
pub whole-alone : (t u : Listing) (l : Rewriting) (n d : ℕ) (x : Shape) → Extends t u → fits_in t x ≡ true → slice_get (nodes t) n ≡ Some (tree_in t x) →
    l.whole_at (the_value (slice_get (nodes u) n)) d ≡ None → l.whole_at (tree_in u x) d ≡ None
whole-alone t u l n d x g fits there alone =
    let value : the_value (slice_get (nodes u) n) ≡ tree_in t x = listed-value (slice_get (nodes u) n) (tree_in t x) (g.nodes.keeps n (tree_in t x) there) in
    (λ i. l.whole_at ((tree-grows t u x g fits ∙ sym value) i) d) ∙ alone

-- the parts of a shape are below its place also where the table has grown
pub below-grows : (t u : Listing) (n : ℕ) (x : Shape) → Extends t u → fits_in t x ≡ true → ArePartsBelow n t.pools.lists x → ArePartsBelow n u.pools.lists x
below-grows t u n x g fits h = record { below = λ i k e. h.below i k (ap (λ ps. slice_get ps i) (sym (parts-grows t u x g fits)) ∙ e) }
