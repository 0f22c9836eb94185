-- Universals of one shape: the same but for their closed terms, names and fields. What is put of them has one shape too, and all
-- that is counted hangs on the shape alone.
use Rattle.std.proofs.Common.{◌≡◌, refl, sym, ap, ◌∙◌, ℕ, zero, suc, ◌+◌, ◌-◌, ◌==◌, nat_lt, arith, length, pos, Bool, true, false, if◌then◌else◌, List, [], ◌∷◌, ◌++◌}
use Rattle.jh_name.specs.declared.naming.Name.{Name}
use Rattle.jh_form.specs.Tree.{TermTree, IntTree, SetTree, FieldTree, FormulaTree}
use Rattle.jh_form.specs.Tree as t
use Rattle.jh_boxed.specs.Mapped.{mapped_term, mapped_int, mapped_set, mapped_formula}
use Rattle.jh_boxed.proofs.Identity.{mapped_formula-unchanged}
use Rattle.jh_boxed_operations.specs.substitution.Opened.{opened}
use Rattle.jh_seq.specs.splitting.Split.{constant, constant_at}
use Rattle.jh_inst.specs.instances.Witnesses.{witnesses, witnessed}
use Rattle.jh_inst.specs.instances.Prenex.{under_more, pulled, behind, prenex, in_front}
use Rattle.jh_inst.specs.instances.Terms.{terms_in, number_terms, set_terms}
use Rattle.jh_inst.specs.instances.Rounds.{put_at}
use Rattle.jh_inst.specs.instances.Count.{total, term_weight, weight}
use Rattle.jh_inst.proofs.instances.Gathering.{total-both}
use Rattle.jh_inst.proofs.instances.Shaped.{exchanging}

abbrev a_field : FieldTree
a_field = t.free_field (constant 0)

-- null for a closed term, and else the reads round its variable
abbrev pub grown : TermTree → TermTree
grown t.null = t.null
grown a = t.read_object a_field a

abbrev pub shape_term : TermTree → TermTree
shape_term (t.bound k) = t.bound k
shape_term (t.read_object f a) = grown (shape_term a)
shape_term _ = t.null

abbrev shape_number : IntTree → IntTree
shape_number (t.read_number f a) = t.read_number a_field (shape_term a)
shape_number _ = t.const (pos 0)

abbrev shape_set : SetTree → SetTree
shape_set (t.read_set f a) = t.read_set a_field (shape_term a)
shape_set _ = t.empty

abbrev pub shape : FormulaTree → FormulaTree
shape (t.negation a) = t.negation (shape a)
shape (t.and a b) = t.and (shape a) (shape b)
shape (t.or a b) = t.or (shape a) (shape b)
shape (t.all a) = t.all (shape a)
shape (t.ex a) = t.ex (shape a)
shape (t.read_truth f a) = t.read_truth a_field (shape_term a)
shape (t.eq_object a b) = t.eq_object (shape_term a) (shape_term b)
shape (t.eq_number a b) = t.eq_number (shape_number a) (shape_number b)
shape (t.member a b) = t.member (shape_term a) (shape_set b)
shape (t.reach fs a b) = t.reach t.none (shape_term a) (shape_term b)
shape _ = t.true_formula

-- what hangs on the shape
pub front-shape : (a : FormulaTree) → in_front (shape a) ≡ in_front a
front-shape (t.all a) = ap suc (front-shape a)
front-shape _ = refl

module _ (n : ℕ) (ps : List ℕ) where
  grown-weight : (s : TermTree) → term_weight n ps (grown s) ≡ term_weight n ps s
  grown-weight t.null = refl
  grown-weight _ = refl

  shape-weight : (a : TermTree) → term_weight n ps (shape_term a) ≡ term_weight n ps a
  shape-weight (t.bound k) = refl
  shape-weight (t.free_object x) = refl
  shape-weight t.null = refl
  shape-weight (t.read_object f a) = grown-weight (shape_term a) ∙ shape-weight a

  grown-total : (s : TermTree) → total (term_weight n ps) (terms_in (grown s)) ≡ term_weight n ps s + total (term_weight n ps) (terms_in s)
  grown-total t.null = refl
  grown-total _ = refl

  shape-total : (a : TermTree) → total (term_weight n ps) (terms_in (shape_term a)) ≡ total (term_weight n ps) (terms_in a)
  shape-total (t.bound k) = refl
  shape-total (t.free_object x) = refl
  shape-total t.null = refl
  shape-total (t.read_object f a) = grown-total (shape_term a) ∙ (λ i. shape-weight a i + shape-total a i)

  number-total : (a : IntTree) → total (term_weight n ps) (number_terms (shape_number a)) ≡ total (term_weight n ps) (number_terms a)
  number-total (t.read_number f a) = shape-total a
  number-total _ = refl

  set-total : (a : SetTree) → total (term_weight n ps) (set_terms (shape_set a)) ≡ total (term_weight n ps) (set_terms a)
  set-total (t.read_set f a) = shape-total a
  set-total _ = refl

  pair-total : (xs ys vs ws : List TermTree) → total (term_weight n ps) xs ≡ total (term_weight n ps) vs → total (term_weight n ps) ys ≡ total (term_weight n ps) ws → total (term_weight n ps) (xs ++ ys) ≡ total (term_weight n ps) (vs ++ ws)
  pair-total xs ys vs ws e f = total-both (term_weight n ps) xs ys ∙ (λ i. e i + f i) ∙ sym (total-both (term_weight n ps) vs ws)

pub weight-shape : (n : ℕ) (a : FormulaTree) (ps : List ℕ) (m : ℕ) → weight n (shape a) ps m ≡ weight n a ps m
weight-shape n (t.negation a) ps m = weight-shape n a ps m
weight-shape n (t.and a b) ps m = λ i. weight-shape n a ps m i + weight-shape n b ps m i
weight-shape n (t.or a b) ps m = λ i. weight-shape n a ps m i + weight-shape n b ps m i
weight-shape n (t.all a) ps m = weight-shape n a (1 ∷ ps) (suc m)
weight-shape n (t.ex a) ps m = weight-shape n a (m ∷ ps) m
weight-shape n (t.read_truth f a) ps m = shape-total n ps a
weight-shape n (t.eq_object a b) ps m = pair-total n ps (terms_in (shape_term a)) (terms_in (shape_term b)) (terms_in a) (terms_in b) (shape-total n ps a) (shape-total n ps b)
weight-shape n (t.eq_number a b) ps m = pair-total n ps (number_terms (shape_number a)) (number_terms (shape_number b)) (number_terms a) (number_terms b) (number-total n ps a) (number-total n ps b)
weight-shape n (t.member a b) ps m = pair-total n ps (terms_in (shape_term a)) (set_terms (shape_set b)) (terms_in a) (set_terms b) (shape-total n ps a) (set-total n ps b)
weight-shape n (t.reach fs a b) ps m = pair-total n ps (terms_in (shape_term a)) (terms_in (shape_term b)) (terms_in a) (terms_in b) (shape-total n ps a) (shape-total n ps b)
weight-shape n _ ps m = refl

-- what is exchanged for terms of one shape has one shape
module _ (b c : ℕ → ℕ → TermTree) (same : (k d : ℕ) → shape_term (b k d) ≡ shape_term (c k d)) where
  grown-mapped : (s : TermTree) (d : ℕ) → shape_term (mapped_term (grown s) (exchanging c) d) ≡ grown (shape_term (mapped_term s (exchanging c) d))
  unfolding mapped_term
  grown-mapped t.null d = refl
  grown-mapped _ d = refl

  term-mapped : (a : TermTree) (d : ℕ) → shape_term (mapped_term a (exchanging b) d) ≡ shape_term (mapped_term (shape_term a) (exchanging c) d)
  unfolding mapped_term
  term-mapped (t.bound k) d = same k d
  term-mapped (t.free_object x) d = refl
  term-mapped t.null d = refl
  term-mapped (t.read_object f a) d = ap grown (term-mapped a d) ∙ sym (grown-mapped (shape_term a) d)

  number-mapped : (a : IntTree) (d : ℕ) → shape_number (mapped_int a (exchanging b) d) ≡ shape_number (mapped_int (shape_number a) (exchanging c) d)
  unfolding mapped_int
  number-mapped (t.read_number f a) d = ap (t.read_number a_field) (term-mapped a d)
  number-mapped _ d = refl

  set-mapped : (a : SetTree) (d : ℕ) → shape_set (mapped_set a (exchanging b) d) ≡ shape_set (mapped_set (shape_set a) (exchanging c) d)
  unfolding mapped_set
  set-mapped (t.read_set f a) d = ap (t.read_set a_field) (term-mapped a d)
  set-mapped _ d = refl

  pub shape-mapped : (a : FormulaTree) (d : ℕ) → shape (mapped_formula a (exchanging b) d) ≡ shape (mapped_formula (shape a) (exchanging c) d)
  unfolding mapped_formula
  shape-mapped (t.negation a) d = ap t.negation (shape-mapped a d)
  shape-mapped (t.and a e) d = λ i. t.and (shape-mapped a d i) (shape-mapped e d i)
  shape-mapped (t.or a e) d = λ i. t.or (shape-mapped a d i) (shape-mapped e d i)
  shape-mapped (t.all a) d = ap t.all (shape-mapped a (d + 1))
  shape-mapped (t.ex a) d = ap t.ex (shape-mapped a (d + 1))
  shape-mapped (t.read_truth f a) d = ap (t.read_truth a_field) (term-mapped a d)
  shape-mapped (t.eq_object a e) d = λ i. t.eq_object (term-mapped a d i) (term-mapped e d i)
  shape-mapped (t.eq_number a e) d = λ i. t.eq_number (number-mapped a d i) (number-mapped e d i)
  shape-mapped (t.member a e) d = λ i. t.member (term-mapped a d i) (set-mapped e d i)
  shape-mapped (t.reach fs a e) d = λ i. t.reach t.none (term-mapped a d i) (term-mapped e d i)
  shape-mapped _ d = refl

  -- so of formulas of one shape
  pub alike-mapped : (p q : FormulaTree) (d : ℕ) → shape p ≡ shape q → shape (mapped_formula p (exchanging b) d) ≡ shape (mapped_formula (shape q) (exchanging c) d)
  alike-mapped p q d e = shape-mapped p d ∙ ap (λ z. shape (mapped_formula z (exchanging c) d)) e

pub shape-twice : (a : FormulaTree) → shape a ≡ shape (shape a)
shape-twice a =
    ap shape (sym (mapped_formula-unchanged a 0))
    ∙ shape-mapped (λ k d. t.bound k) (λ k d. t.bound k) (λ k d. refl) a 0
    ∙ ap shape (mapped_formula-unchanged (shape a) 0)

-- constants
constant-shape : (ws : List Name) (i : ℕ) → shape_term (constant_at ws i) ≡ t.null
constant-shape [] i = refl
constant-shape (w ∷ ws) zero = refl
constant-shape (w ∷ ws) (suc i) = constant-shape ws i

closing-shape : (ws us : List Name) (k d : ℕ) (b : Bool) → shape_term (if b then t.bound k else constant_at ws (k - d)) ≡ shape_term (if b then t.bound k else constant_at us (k - d))
closing-shape ws us k d true = refl
closing-shape ws us k d false = constant-shape ws (k - d) ∙ sym (constant-shape us (k - d))

pub witnessed-shape : (a : FormulaTree) (ws us : List Name) (k j : ℕ) → shape (witnessed a ws k) ≡ shape (witnessed (shape a) us j)
witnessed-shape (t.and a b) ws us k j = λ i. t.and (witnessed-shape a ws us k j i) (witnessed-shape b ws us (k + witnesses a) (j + witnesses (shape a)) i)
witnessed-shape (t.or a b) ws us k j = λ i. t.or (witnessed-shape a ws us k j i) (witnessed-shape b ws us (k + witnesses a) (j + witnesses (shape a)) i)
witnessed-shape (t.ex a) ws us k j = witnessed-shape a (constant k ∷ ws) (constant j ∷ us) (suc k) (suc j)
witnessed-shape a ws us k j =
    shape-mapped (λ k d. if nat_lt k d then t.bound k else constant_at ws (k - d)) (λ k d. if nat_lt k d then t.bound k else constant_at us (k - d))
    (λ k d. closing-shape ws us k d (nat_lt k d)) a 0

-- terms that are put
abbrev pub AllNull : List TermTree → Type 0
AllNull [] = Unit {0}
AllNull (w ∷ ws) = (shape_term w ≡ t.null) × AllNull ws

opening-shape : (w v : TermTree) → shape_term w ≡ t.null → shape_term v ≡ t.null → (k d : ℕ) (b c : Bool) →
    shape_term (if b then t.bound k else (if c then w else t.bound (k - 1))) ≡ shape_term (if b then t.bound k else (if c then v else t.bound (k - 1)))
opening-shape w v e f k d true c = refl
opening-shape w v e f k d false true = e ∙ sym f
opening-shape w v e f k d false false = refl

opened-shape : (a : FormulaTree) (w v : TermTree) → shape_term w ≡ t.null → shape_term v ≡ t.null → shape (opened a w) ≡ shape (opened (shape a) v)
opened-shape a w v e f =
    shape-mapped (λ k d. if nat_lt k d then t.bound k else (if k == d then w else t.bound (k - 1))) (λ k d. if nat_lt k d then t.bound k else (if k == d then v else t.bound (k - 1)))
    (λ k d. opening-shape w v e f k d (nat_lt k d) (k == d)) a 0

pub put-shape : (c d : List TermTree) (a : FormulaTree) → length c ≡ length d → AllNull c → AllNull d → shape (put_at a c) ≡ shape (put_at (shape a) d)
put-shape [] [] a e n m = shape-twice a
put-shape [] (v ∷ vs) a e n m = absurd (omega (arith, e))
put-shape (w ∷ ws) [] a e n m = absurd (omega (arith, e))
put-shape (w ∷ ws) (v ∷ vs) (t.all a) e n m =
    put-shape ws vs (opened a w) (omega (arith, e)) n.1 m.1
    ∙ ap (λ z. shape (put_at z vs)) (opened-shape a w v n.0 m.0)
    ∙ sym (put-shape vs vs (opened (shape a) v) refl m.1 m.1)
put-shape (w ∷ ws) (v ∷ vs) (t.and a b) e n m = shape-twice (t.and a b)
put-shape (w ∷ ws) (v ∷ vs) (t.or a b) e n m = shape-twice (t.or a b)
put-shape (w ∷ ws) (v ∷ vs) a e n m = shape-twice a

-- quantifiers in front
lifting-shape : (by n k d : ℕ) (b : Bool) → by ≡ n → shape_term (if b then t.bound k else t.bound (k + by)) ≡ shape_term (if b then t.bound k else t.bound (k + n))
lifting-shape by n k d true e = refl
lifting-shape by n k d false e = ap (λ z. t.bound (k + z)) e

under-shape : (a b : FormulaTree) (d e by n : ℕ) → shape a ≡ shape b → d ≡ e → by ≡ n → shape (under_more a d by) ≡ shape (under_more b e n)
under-shape a b d e by n s p q =
    shape-mapped (λ k c. if nat_lt k c then t.bound k else t.bound (k + by)) (λ k c. if nat_lt k c then t.bound k else t.bound (k + by)) (λ k c. refl) a d
    ∙ (λ i. shape (under_more (s i) (p i) (q i)))
    ∙ sym (shape-mapped (λ k c. if nat_lt k c then t.bound k else t.bound (k + n)) (λ k c. if nat_lt k c then t.bound k else t.bound (k + n)) (λ k c. refl) b e)

pulled-many : (a : FormulaTree) → (pulled (shape a)).variables ≡ (pulled a).variables
pulled-many (t.and a b) = λ i. pulled-many a i + pulled-many b i
pulled-many (t.or a b) = λ i. pulled-many a i + pulled-many b i
pulled-many (t.all a) = ap suc (pulled-many a)
pulled-many _ = refl

pulled-shape : (a : FormulaTree) → shape (pulled a).body ≡ shape (pulled (shape a)).body
pulled-shape (t.and a b) = λ i. t.and
    (under-shape (pulled a).body (pulled (shape a)).body 0 0 (pulled b).variables (pulled (shape b)).variables (pulled-shape a) refl (sym (pulled-many b)) i)
    (under-shape (pulled b).body (pulled (shape b)).body (pulled b).variables (pulled (shape b)).variables (pulled a).variables (pulled (shape a)).variables (pulled-shape b) (sym (pulled-many b)) (sym (pulled-many a)) i)
pulled-shape (t.or a b) = λ i. t.or
    (under-shape (pulled a).body (pulled (shape a)).body 0 0 (pulled b).variables (pulled (shape b)).variables (pulled-shape a) refl (sym (pulled-many b)) i)
    (under-shape (pulled b).body (pulled (shape b)).body (pulled b).variables (pulled (shape b)).variables (pulled a).variables (pulled (shape a)).variables (pulled-shape b) (sym (pulled-many b)) (sym (pulled-many a)) i)
pulled-shape (t.all a) = pulled-shape a
pulled-shape (t.ex a) = shape-twice (t.ex a)
pulled-shape (t.negation a) = shape-twice (t.negation a)
pulled-shape a = shape-twice a

behind-shape : (n m : ℕ) (a b : FormulaTree) → n ≡ m → shape a ≡ shape b → shape (behind n a) ≡ shape (behind m b)
behind-shape zero zero a b e s = s
behind-shape zero (suc m) a b e s = absurd (omega (arith, e))
behind-shape (suc n) zero a b e s = absurd (omega (arith, e))
behind-shape (suc n) (suc m) a b e s = ap t.all (behind-shape n m a b (omega (arith, e)) s)

prenex-shape : (a : FormulaTree) → shape (prenex a) ≡ shape (prenex (shape a))
prenex-shape a = behind-shape (pulled a).variables (pulled (shape a)).variables (pulled a).body (pulled (shape a)).body (sym (pulled-many a)) (pulled-shape a)

-- What is put of two universals of one shape has one shape.
pub left-shape : (a b : FormulaTree) → shape a ≡ shape b → (c d : List TermTree) → length c ≡ length d → AllNull c → AllNull d → (k j : ℕ) →
    shape (prenex (witnessed (put_at a c) [] k)) ≡ shape (prenex (witnessed (put_at b d) [] j))
left-shape a b s c d e n m k j =
    let put : shape (put_at a c) ≡ shape (put_at b d) = put-shape c d a e n m ∙ ap (λ z. shape (put_at z d)) s ∙ sym (put-shape d d b refl m m) in
    prenex-shape (witnessed (put_at a c) [] k)
    ∙ ap (λ z. shape (prenex z)) (witnessed-shape (put_at a c) [] [] k j ∙ ap (λ z. shape (witnessed z [] j)) put ∙ sym (witnessed-shape (put_at b d) [] [] j j))
    ∙ sym (prenex-shape (witnessed (put_at b d) [] j))
