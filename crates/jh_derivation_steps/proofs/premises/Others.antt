-- Written by tools/premises_arms.py.
-- What is wanted of nodes of the other shapes: nothing.
use Rattle.std.proofs.Common.{◌≡◌, refl, sym, ℕ, List, None, Some, true}
use Rattle.std.proofs.lemmas.Bool.{true≢false}
use Rattle.jh_form.specs.Tree.{ValueTree, TermTree}
use Rattle.jh_arena.specs.table.Entries.{Pools, the_truth, the_set, is_truth, is_set}
use Rattle.jh_arena.specs.table.Nodes.{shape_tree}
use Rattle.jh_arena.specs.declared.table.shapes.Shape.{Shape}
use Rattle.jh_arena.specs.declared.table.shapes.Shape.TheVariants as s
use Rattle.jh_derivation_rules.specs.Rules.{pushed, member_opened, relation_opened}

pub pushed-none : (p : Pools) (ts : List ValueTree) (x : Shape) → is_truth (Some (shape_tree p ts x)) ≡ true → ((a : ℕ) → x ≡ s.Negation a → ⊥) → ((a b : ℕ) → x ≡ s.And a b → ⊥) → ((a b : ℕ) → x ≡ s.Or a b → ⊥) → ((a b : ℕ) → x ≡ s.Implies a b → ⊥) → ((a b : ℕ) → x ≡ s.Iff a b → ⊥) → ((a : ℕ) → x ≡ s.All a → ⊥) → ((a : ℕ) → x ≡ s.Ex a → ⊥) → (x ≡ s.True → ⊥) → (x ≡ s.False → ⊥) → pushed (the_truth (Some (shape_tree p ts x))) ≡ None
unfolding pushed shape_tree the_truth is_truth
pushed-none p ts s.True k h0 h1 h2 h3 h4 h5 h6 h7 h8 = absurd (h7 refl)
pushed-none p ts s.False k h0 h1 h2 h3 h4 h5 h6 h7 h8 = absurd (h8 refl)
pushed-none p ts (s.FreeTruth n) k h0 h1 h2 h3 h4 h5 h6 h7 h8 = refl
pushed-none p ts (s.ReadTruth a b) k h0 h1 h2 h3 h4 h5 h6 h7 h8 = refl
pushed-none p ts (s.Negation a) k h0 h1 h2 h3 h4 h5 h6 h7 h8 = absurd (h0 a refl)
pushed-none p ts (s.And a b) k h0 h1 h2 h3 h4 h5 h6 h7 h8 = absurd (h1 a b refl)
pushed-none p ts (s.Or a b) k h0 h1 h2 h3 h4 h5 h6 h7 h8 = absurd (h2 a b refl)
pushed-none p ts (s.Implies a b) k h0 h1 h2 h3 h4 h5 h6 h7 h8 = absurd (h3 a b refl)
pushed-none p ts (s.Iff a b) k h0 h1 h2 h3 h4 h5 h6 h7 h8 = absurd (h4 a b refl)
pushed-none p ts (s.All a) k h0 h1 h2 h3 h4 h5 h6 h7 h8 = absurd (h5 a refl)
pushed-none p ts (s.Ex a) k h0 h1 h2 h3 h4 h5 h6 h7 h8 = absurd (h6 a refl)
pushed-none p ts (s.EqObject a b) k h0 h1 h2 h3 h4 h5 h6 h7 h8 = refl
pushed-none p ts (s.EqNumber a b) k h0 h1 h2 h3 h4 h5 h6 h7 h8 = refl
pushed-none p ts (s.EqSet a b) k h0 h1 h2 h3 h4 h5 h6 h7 h8 = refl
pushed-none p ts (s.Less a b) k h0 h1 h2 h3 h4 h5 h6 h7 h8 = refl
pushed-none p ts (s.LessEqual a b) k h0 h1 h2 h3 h4 h5 h6 h7 h8 = refl
pushed-none p ts (s.Divides z a) k h0 h1 h2 h3 h4 h5 h6 h7 h8 = refl
pushed-none p ts (s.Member a b) k h0 h1 h2 h3 h4 h5 h6 h7 h8 = refl
pushed-none p ts (s.Subset a b) k h0 h1 h2 h3 h4 h5 h6 h7 h8 = refl
pushed-none p ts (s.Reach l a b) k h0 h1 h2 h3 h4 h5 h6 h7 h8 = refl
pushed-none p ts (s.Tree l) k h0 h1 h2 h3 h4 h5 h6 h7 h8 = refl
pushed-none p ts (s.Mark m a) k h0 h1 h2 h3 h4 h5 h6 h7 h8 = refl
pushed-none p ts _ k h0 h1 h2 h3 h4 h5 h6 h7 h8 = absurd (true≢false (sym k))

pub member_opened-none : (p : Pools) (ts : List ValueTree) (w : TermTree) (x : Shape) → is_set (Some (shape_tree p ts x)) ≡ true → (x ≡ s.Empty → ⊥) → (x ≡ s.Univ → ⊥) → ((a : ℕ) → x ≡ s.Single a → ⊥) → ((a b : ℕ) → x ≡ s.Union a b → ⊥) → ((a b : ℕ) → x ≡ s.Inter a b → ⊥) → ((a b : ℕ) → x ≡ s.Diff a b → ⊥) → ((a : ℕ) → x ≡ s.Compl a → ⊥) → ((a : ℕ) → x ≡ s.Compr a → ⊥) → member_opened w (the_set (Some (shape_tree p ts x))) ≡ None
unfolding member_opened shape_tree the_set is_set
member_opened-none p ts w (s.FreeSet n) k h0 h1 h2 h3 h4 h5 h6 h7 = refl
member_opened-none p ts w (s.ReadSet a b) k h0 h1 h2 h3 h4 h5 h6 h7 = refl
member_opened-none p ts w s.Empty k h0 h1 h2 h3 h4 h5 h6 h7 = absurd (h0 refl)
member_opened-none p ts w s.Univ k h0 h1 h2 h3 h4 h5 h6 h7 = absurd (h1 refl)
member_opened-none p ts w (s.Single a) k h0 h1 h2 h3 h4 h5 h6 h7 = absurd (h2 a refl)
member_opened-none p ts w (s.Union a b) k h0 h1 h2 h3 h4 h5 h6 h7 = absurd (h3 a b refl)
member_opened-none p ts w (s.Inter a b) k h0 h1 h2 h3 h4 h5 h6 h7 = absurd (h4 a b refl)
member_opened-none p ts w (s.Diff a b) k h0 h1 h2 h3 h4 h5 h6 h7 = absurd (h5 a b refl)
member_opened-none p ts w (s.Compl a) k h0 h1 h2 h3 h4 h5 h6 h7 = absurd (h6 a refl)
member_opened-none p ts w (s.Compr a) k h0 h1 h2 h3 h4 h5 h6 h7 = absurd (h7 a refl)
member_opened-none p ts w _ k h0 h1 h2 h3 h4 h5 h6 h7 = absurd (true≢false (sym k))

pub relation_opened-none : (p : Pools) (ts : List ValueTree) (x : Shape) → is_truth (Some (shape_tree p ts x)) ≡ true → ((a b : ℕ) → x ≡ s.EqSet a b → ⊥) → ((a b : ℕ) → x ≡ s.Subset a b → ⊥) → ((a b : ℕ) → x ≡ s.Member a b → ⊥) → relation_opened (the_truth (Some (shape_tree p ts x))) ≡ None
unfolding relation_opened shape_tree the_truth is_truth
relation_opened-none p ts s.True k h0 h1 h2 = refl
relation_opened-none p ts s.False k h0 h1 h2 = refl
relation_opened-none p ts (s.FreeTruth n) k h0 h1 h2 = refl
relation_opened-none p ts (s.ReadTruth a b) k h0 h1 h2 = refl
relation_opened-none p ts (s.Negation a) k h0 h1 h2 = refl
relation_opened-none p ts (s.And a b) k h0 h1 h2 = refl
relation_opened-none p ts (s.Or a b) k h0 h1 h2 = refl
relation_opened-none p ts (s.Implies a b) k h0 h1 h2 = refl
relation_opened-none p ts (s.Iff a b) k h0 h1 h2 = refl
relation_opened-none p ts (s.All a) k h0 h1 h2 = refl
relation_opened-none p ts (s.Ex a) k h0 h1 h2 = refl
relation_opened-none p ts (s.EqObject a b) k h0 h1 h2 = refl
relation_opened-none p ts (s.EqNumber a b) k h0 h1 h2 = refl
relation_opened-none p ts (s.EqSet a b) k h0 h1 h2 = absurd (h0 a b refl)
relation_opened-none p ts (s.Less a b) k h0 h1 h2 = refl
relation_opened-none p ts (s.LessEqual a b) k h0 h1 h2 = refl
relation_opened-none p ts (s.Divides z a) k h0 h1 h2 = refl
relation_opened-none p ts (s.Member a b) k h0 h1 h2 = absurd (h2 a b refl)
relation_opened-none p ts (s.Subset a b) k h0 h1 h2 = absurd (h1 a b refl)
relation_opened-none p ts (s.Reach l a b) k h0 h1 h2 = refl
relation_opened-none p ts (s.Tree l) k h0 h1 h2 = refl
relation_opened-none p ts (s.Mark m a) k h0 h1 h2 = refl
relation_opened-none p ts _ k h0 h1 h2 = absurd (true≢false (sym k))
