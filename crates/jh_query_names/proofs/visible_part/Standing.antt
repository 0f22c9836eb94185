-- Formulas at nodes, while the table grows.
use Rattle.std.proofs.Common.{◌≡◌, refl, sym, ap, subst, ◌∙◌, ℕ, ◌<◌, ◌⊎◌, inl, inr, Bool, true, List, length, slice_get, Option, Some, None, Result, Ok, Err, OnOk}
use Rattle.std.proofs.lemmas.Bool.{true≢false}
use Rattle.std.proofs.lemmas.Option.{slice_get_within}
use Rattle.jh_form.specs.Tree.{FormulaTree, ValueTree, of_truth}
use Rattle.jh_arena.specs.table.Entries.{Listing, is_truth, the_truth}
use Rattle.jh_arena.specs.table.Growth.{Grows, Extends}
use Rattle.jh_arena.specs.table.Nodes.{nodes, tree_in}
use Rattle.jh_arena.specs.table.Parts.{parts, ArePartsBelow}
use Rattle.jh_arena.specs.declared.table.shapes.Shape.{Shape}
use Rattle.jh_approx.specs.definition.Shown.{shown, is_sayable}
use Rattle.jh_query_names.specs.declared.visible_part.memo.Signed.{Signed}
use Rattle.jh_query_names.specs.declared.visible_part.memo.Made.{Made}
use Rattle.jh_query_names.specs.visible_part.Showing.{IsMade, IsShown, IsShownAt, HoldsShown}

-- what stands at a node that is a formula
pub formula-of : (o : Option ValueTree) → is_truth o ≡ true → o ≡ Some (of_truth (the_truth o))
unfolding is_truth the_truth
formula-of (Some (of_truth a)) h = refl
formula-of _ h = absurd (true≢false (sym h))

pub truth-there : (o : Option ValueTree) (a : FormulaTree) → o ≡ Some (of_truth a) → is_truth o ≡ true
unfolding is_truth
truth-there o a e = ap is_truth e

pub truth-at : (o : Option ValueTree) (a : FormulaTree) → o ≡ Some (of_truth a) → the_truth o ≡ a
unfolding the_truth
truth-at o a e = ap the_truth e

pub truth-inside : (ts : List ValueTree) (n : ℕ) → is_truth (slice_get ts n) ≡ true → n < length ts
truth-inside ts n h = slice_get_within ts n (of_truth (the_truth (slice_get ts n))) (formula-of (slice_get ts n) h)

-- a formula stays where it is while the table grows
pub truth-stays : (t u : Listing) (n : ℕ) → Extends t u → is_truth (slice_get (nodes t) n) ≡ true → slice_get (nodes u) n ≡ Some (of_truth (the_truth (slice_get (nodes t) n)))
truth-stays t u n g h = g.nodes.keeps n (of_truth (the_truth (slice_get (nodes t) n))) (formula-of (slice_get (nodes t) n) h)

pub still-truth : (t u : Listing) (n : ℕ) → Extends t u → is_truth (slice_get (nodes t) n) ≡ true → is_truth (slice_get (nodes u) n) ≡ true
still-truth t u n g h = truth-there (slice_get (nodes u) n) (the_truth (slice_get (nodes t) n)) (truth-stays t u n g h)

pub part-below : (k : ℕ) (ls : List (List ℕ)) (x y : Shape) (i n : ℕ) → ArePartsBelow k ls x → x ≡ y → slice_get (parts ls y) i ≡ Some n → n < k
part-below k ls x y i n h e at = h.below i n (ap (λ z. slice_get (parts ls z) i) e ∙ at)

pub on-ok : {A E P : Type 0} (r : Result A E) → P → OnOk r P
on-ok (Ok a) p = p
on-ok (Err e) p = tt

pub made-stays : (ts us : List ValueTree) (made : Made) (a : FormulaTree) (d : Bool) → Grows ts us → IsMade ts made a d → IsMade us made a d
made-stays ts us made a d g h = record { node = g.keeps made.node (of_truth a) h.node; flag = h.flag }

shown-stays : (ts us : List ValueTree) (k : Signed) (made : Made) → Grows ts us → IsShownAt ts k made → IsShownAt us k made
shown-stays ts us k made g h =
    let here : slice_get us k.node ≡ Some (of_truth (the_truth (slice_get ts k.node))) = g.keeps k.node (of_truth (the_truth (slice_get ts k.node))) (formula-of (slice_get ts k.node) h.there) in
    record {
      there = truth-there (slice_get us k.node) (the_truth (slice_get ts k.node)) here;
      is = subst (λ (a : FormulaTree). IsShown us a k.positive made) (sym (truth-at (slice_get us k.node) (the_truth (slice_get ts k.node)) here))
          (made-stays ts us made (shown (the_truth (slice_get ts k.node)) k.positive) (is_sayable (the_truth (slice_get ts k.node))) g h.is);
    }

pub holds-stay : (ts us : List ValueTree) (find : Signed → Option Made) → Grows ts us → HoldsShown ts find → HoldsShown us find
holds-stay ts us find g h = record { at = λ k made e. shown-stays ts us k made g (h.at k made e) }

nothing : (o : Option Made) (made : Made) → o ≡ None → o ≡ Some made → ⊥
nothing o made e f = cc

pub holds-none : (ts : List ValueTree) (find : Signed → Option Made) → ((k : Signed) → find k ≡ None) → HoldsShown ts find
holds-none ts find empty = record { at = λ k made e. absurd (nothing (find k) made (empty k) e) }

noted : (ts : List ValueTree) (key k : Signed) (answer made : Made) (old : Option Made) → IsShownAt ts key answer → (old ≡ Some made → IsShownAt ts k made) → ((k ≡ key) × (made ≡ answer)) ⊎ (old ≡ Some made) → IsShownAt ts k made
noted ts key k answer made old m h (inl e) =
    subst (λ (x : Made). IsShownAt ts k x) (sym e.1) (subst (λ (q : Signed). IsShownAt ts q answer) (sym e.0) m)
noted ts key k answer made old m h (inr e) = h e

pub holds-note : (ts : List ValueTree) (old new : Signed → Option Made) (key : Signed) (answer : Made) → HoldsShown ts old → IsShownAt ts key answer →
    ((k : Signed) (made : Made) → new k ≡ Some made → ((k ≡ key) × (made ≡ answer)) ⊎ (old k ≡ Some made)) → HoldsShown ts new
holds-note ts old new key answer h m fresh = record { at = λ k made e. noted ts key k answer made (old k) m (h.at k made) (fresh k made e) }

-- what is shown of a formula, by the tree that it had before
pub shown-before : (t u : Listing) (k : Signed) (made : Made) → Extends t u → is_truth (slice_get (nodes t) k.node) ≡ true → IsShownAt (nodes u) k made → IsShown (nodes u) (the_truth (slice_get (nodes t) k.node)) k.positive made
shown-before t u k made g h m = subst (λ (a : FormulaTree). IsShown (nodes u) a k.positive made) (truth-at (slice_get (nodes u) k.node) (the_truth (slice_get (nodes t) k.node)) (truth-stays t u k.node g h)) m.is

-- the same, behind more nodes
pub shown-behind : (t u v : Listing) (k : Signed) (made : Made) → Extends t u → Extends u v → is_truth (slice_get (nodes t) k.node) ≡ true → IsShownAt (nodes u) k made → IsShown (nodes v) (the_truth (slice_get (nodes t) k.node)) k.positive made
shown-behind t u v k made g f h m =
    made-stays (nodes u) (nodes v) made (shown (the_truth (slice_get (nodes t) k.node)) k.positive) (is_sayable (the_truth (slice_get (nodes t) k.node))) f.nodes (shown-before t u k made g h m)

-- What is shown of a node, from what is shown of its shape.
pub answered : (t u : Listing) (k : Signed) (x y : Shape) (w : FormulaTree) (d : Bool) (made : Made) → Extends t u → slice_get (nodes t) k.node ≡ Some (tree_in t x) → is_truth (slice_get (nodes t) k.node) ≡ true → x ≡ y →
    w ≡ shown (the_truth (Some (tree_in t y))) k.positive → d ≡ is_sayable (the_truth (Some (tree_in t y))) → IsMade (nodes u) made w d → IsShownAt (nodes u) k made
answered t u k x y w d made g there truth e f h m =
    let here : slice_get (nodes u) k.node ≡ Some (of_truth (the_truth (slice_get (nodes t) k.node))) = truth-stays t u k.node g truth in
    let tree : the_truth (slice_get (nodes u) k.node) ≡ the_truth (Some (tree_in t y)) = truth-at (slice_get (nodes u) k.node) (the_truth (slice_get (nodes t) k.node)) here ∙ ap the_truth (there ∙ ap (λ z. Some (tree_in t z)) e) in
    record {
      there = truth-there (slice_get (nodes u) k.node) (the_truth (slice_get (nodes t) k.node)) here;
      is = record {
        node = m.node ∙ ap (λ a. Some (of_truth a)) f ∙ ap (λ a. Some (of_truth (shown a k.positive))) (sym tree);
        flag = m.flag ∙ h ∙ ap is_sayable (sym tree);
      };
    }
