-- The memo of the walk from below.
use Rattle.std.proofs.Common.{◌≡◌, sym, subst, ℕ, ◌⊎◌, inl, inr, Option, Some, None, List}
use Rattle.jh_form.specs.Tree.{ValueTree}
use Rattle.jh_arena.specs.table.Growth.{Grows}
use Rattle.jh_normal_forms.specs.declared.rebuilding.memo.Key.{Key}
use Rattle.jh_normal_forms.specs.rebuilding.Built.{Rule}
use Rattle.jh_normal_forms.specs.rebuilding.Walking.{IsBuilt, HoldsBuilt}
use Rattle.jh_normal_forms.proofs.rebuilding.Growths.{built-grows}

pub holds-grows : (r : Rule) (old new : List ValueTree) (find : Key → Option ℕ) → Grows old new → HoldsBuilt r old find → HoldsBuilt r new find
holds-grows r old new find g h = record { at = λ k n e. built-grows r old new k.node k.polarity n g (h.at k n e) }

nothing : (o : Option ℕ) (n : ℕ) → o ≡ None → o ≡ Some n → ⊥
nothing o n e f = cc

pub holds-none : (r : Rule) (ts : List ValueTree) (find : Key → Option ℕ) → ((k : Key) → find k ≡ None) → HoldsBuilt r ts find
holds-none r ts find empty = record { at = λ k n e. absurd (nothing (find k) n (empty k) e) }

noted : (r : Rule) (ts : List ValueTree) (key k : Key) (answer n : ℕ) (old : Option ℕ) → IsBuilt r ts key.node key.polarity answer → (old ≡ Some n → IsBuilt r ts k.node k.polarity n) →
    ((k ≡ key) × (n ≡ answer)) ⊎ (old ≡ Some n) → IsBuilt r ts k.node k.polarity n
noted r ts key k answer n old m h (inl e) =
    let at_key : IsBuilt r ts k.node k.polarity answer = subst (λ (q : Key). IsBuilt r ts q.node q.polarity answer) (sym e.0) m in
    subst (λ (x : ℕ). IsBuilt r ts k.node k.polarity x) (sym e.1) at_key
noted r ts key k answer n old m h (inr e) = h e

pub holds-notes : (r : Rule) (ts : List ValueTree) (old new : Key → Option ℕ) (key : Key) (answer : ℕ) → HoldsBuilt r ts old → IsBuilt r ts key.node key.polarity answer →
    ((k : Key) (n : ℕ) → new k ≡ Some n → ((k ≡ key) × (n ≡ answer)) ⊎ (old k ≡ Some n)) → HoldsBuilt r ts new
holds-notes r ts old new key answer h m fresh = record { at = λ k n e. noted r ts key k answer n (old k) m (h.at k n) (fresh k n e) }
