-- What is the same for all objects of a universe.
use Rattle.std.proofs.Common.{◌≡◌, refl, ap, ◌∙◌, ℕ, zero, suc, ◌+◌, ◌<◌, ◌==◌, Bool, true, false, not, ◌&&◌, ◌||◌, if◌then◌else◌, List, [], ◌∷◌, length, arith}
use Rattle.std.specs.List.{list_all, list_any}
use Rattle.jh_form.specs.Meaning.{Fields, Datum, an_object, a_number, a_truth, a_set, a_field, all_below, any_below, count_below, every, some, updated, leads, reaches, no_cycle, edge, no_sharing, is_forest}
use Rattle.jh_boxed_operations.specs.comparison.Inside.{SameMembers, SameFields, SameIn}

all-same : (n : ℕ) (p q : ℕ → Bool) → ((x : ℕ) → x < n → p x ≡ q x) → all_below n p ≡ all_below n q
all-same zero p q h = refl
all-same (suc n) p q h = λ i. all-same n p q (λ x lt. h x (omega arith)) i && h n (omega arith) i

any-same : (n : ℕ) (p q : ℕ → Bool) → ((x : ℕ) → x < n → p x ≡ q x) → any_below n p ≡ any_below n q
any-same zero p q h = refl
any-same (suc n) p q h = λ i. any-same n p q (λ x lt. h x (omega arith)) i || h n (omega arith) i

counts-same : (n : ℕ) (p q : ℕ → Bool) → ((x : ℕ) → x < n → p x ≡ q x) → count_below n p ≡ count_below n q
counts-same zero p q h = refl
counts-same (suc n) p q h = λ i. counts-same n p q (λ x lt. h x (omega arith)) i + (if h n (omega arith) i then 1 else 0)

pub every-same : (n : ℕ) (p q : ℕ → Bool) → SameMembers n p q → every n p ≡ every n q
every-same n p q h = all-same (suc n) p q h

pub some-same : (n : ℕ) (p q : ℕ → Bool) → SameMembers n p q → some n p ≡ some n q
some-same n p q h = any-same (suc n) p q h

pub count-same : (n : ℕ) (p q : ℕ → Bool) → SameMembers n p q → count_below (suc n) p ≡ count_below (suc n) q
count-same n p q h = counts-same (suc n) p q h

pub fields-same : (n : ℕ) (f : Fields) → SameFields n f f
fields-same n f = record { objects = refl; numbers = refl; truths = refl; sets = λ a x lt. refl }

-- each field is that of the other list
abbrev pub AllSame : ℕ → List Fields → List Fields → Type 0
AllSame n [] [] = Unit {0}
AllSame n [] (g ∷ gs) = ⊥
AllSame n (f ∷ fs) [] = ⊥
AllSame n (f ∷ fs) (g ∷ gs) = SameFields n f g × AllSame n fs gs

chosen-same : (n : ℕ) (p q u v : ℕ → Bool) (b : Bool) → SameMembers n p q → SameMembers n u v → SameMembers n (if b then p else u) (if b then q else v)
chosen-same n p q u v true h k = h
chosen-same n p q u v false h k = k

pub updated-same : (n : ℕ) (f g : Fields) (a b : ℕ) (v w : Datum) → SameFields n f g → a ≡ b → SameIn n v w → SameFields n (updated f a v) (updated g b w)
updated-same n f g a b (an_object v) (an_object w) h e k = record { objects = λ i. λ x. if x == e i then k i else h.objects i x; numbers = h.numbers; truths = h.truths; sets = h.sets }
updated-same n f g a b (a_number v) (a_number w) h e k = record { objects = h.objects; numbers = λ i. λ x. if x == e i then k i else h.numbers i x; truths = h.truths; sets = h.sets }
updated-same n f g a b (a_truth v) (a_truth w) h e k = record { objects = h.objects; numbers = h.numbers; truths = λ i. λ x. if x == e i then k i else h.truths i x; sets = h.sets }
updated-same n f g a b (a_set v) (a_set w) h e k = record {
  objects = h.objects;
  numbers = h.numbers;
  truths = h.truths;
  sets = λ x y lt. chosen-same n v w (f.sets x) (g.sets x) (x == a) k (h.sets x) y lt ∙ (λ i. (if x == e i then w else g.sets x) y);
}
updated-same n f g a b (a_field v) (a_field w) h e k = h
updated-same n f g a b _ _ h e k = absurd k

some-leads : (n : ℕ) (p q : ℕ → Bool) → ((y : ℕ) → p y ≡ q y) → (a : ℕ) (fs gs : List Fields) → AllSame n fs gs → list_any (λ f. p (f.objects a)) fs ≡ list_any (λ g. q (g.objects a)) gs
some-leads n p q h a [] [] r = refl
some-leads n p q h a [] (g ∷ gs) r = absurd r
some-leads n p q h a (f ∷ fs) [] r = absurd r
some-leads n p q h a (f ∷ fs) (g ∷ gs) r = λ i. (h (f.objects a) ∙ ap (λ o. q (o a)) r.0.objects) i || some-leads n p q h a fs gs r.1 i

each-lead : (n : ℕ) (p q : ℕ → Bool) → ((y : ℕ) → p y ≡ q y) → (a : ℕ) (fs gs : List Fields) → AllSame n fs gs → list_all (λ f. p (f.objects a)) fs ≡ list_all (λ g. q (g.objects a)) gs
each-lead n p q h a [] [] r = refl
each-lead n p q h a [] (g ∷ gs) r = absurd r
each-lead n p q h a (f ∷ fs) [] r = absurd r
each-lead n p q h a (f ∷ fs) (g ∷ gs) r = λ i. (h (f.objects a) ∙ ap (λ o. q (o a)) r.0.objects) i && each-lead n p q h a fs gs r.1 i

module _ (n : ℕ) (fs gs : List Fields) (r : AllSame n fs gs) where
  leads-same : (k a b : ℕ) → leads fs k a b ≡ leads gs k a b
  leads-same zero a b = refl
  leads-same (suc k) a b = some-leads n (λ y. leads fs k y b) (λ y. leads gs k y b) (λ y. leads-same k y b) a fs gs r

  pub reaches-same : (a b : ℕ) → reaches n fs a b ≡ reaches n gs a b
  reaches-same a b = some-same n (λ k. leads fs k a b) (λ k. leads gs k a b) (λ k lt. leads-same k a b)

  cycles-same : no_cycle n fs ≡ no_cycle n gs
  cycles-same =
      every-same n (λ x. x == 0 || list_all (λ f. not (reaches n fs (f.objects x) x)) fs) (λ x. x == 0 || list_all (λ g. not (reaches n gs (g.objects x) x)) gs)
      (λ x lt i. x == 0 || each-lead n (λ y. not (reaches n fs y x)) (λ y. not (reaches n gs y x)) (λ y. ap not (reaches-same y x)) x fs gs r i)

length-same : (n : ℕ) (fs gs : List Fields) → AllSame n fs gs → length fs ≡ length gs
length-same n [] [] r = refl
length-same n [] (g ∷ gs) r = absurd r
length-same n (f ∷ fs) [] r = absurd r
length-same n (f ∷ fs) (g ∷ gs) r = ap suc (length-same n fs gs r.1)

edge-same : (n : ℕ) (fs gs : List Fields) → AllSame n fs gs → (k x : ℕ) → edge fs k x ≡ edge gs k x
edge-same n [] [] r k x = refl
edge-same n [] (g ∷ gs) r k x = absurd r
edge-same n (f ∷ fs) [] r k x = absurd r
edge-same n (f ∷ fs) (g ∷ gs) r zero x = λ i. r.0.objects i x
edge-same n (f ∷ fs) (g ∷ gs) r (suc k) x = edge-same n fs gs r.1 k x

sharing-same : (n : ℕ) (fs gs : List Fields) → AllSame n fs gs → no_sharing n fs ≡ no_sharing n gs
sharing-same n fs gs r = λ i.
    every n (λ x. every n (λ y. all_below (length-same n fs gs r i) (λ k. all_below (length-same n fs gs r i) (λ j.
    (x == y && k == j) || not (edge-same n fs gs r k x i == edge-same n fs gs r j y i) || edge-same n fs gs r k x i == 0))))

pub forest-same : (n : ℕ) (fs gs : List Fields) → AllSame n fs gs → is_forest n fs ≡ is_forest n gs
forest-same n fs gs r = λ i. cycles-same n fs gs r i && sharing-same n fs gs r i
