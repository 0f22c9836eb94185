-- Values that break no rule are of the objects from 0 to the greatest.
use Rattle.std.proofs.Common.{◌≡◌, refl, sym, ap, ◌∙◌, ◌⊎◌, inl, inr, ℕ, suc, ◌<◌, ◌≤◌, ◌==◌, ◌||◌, not, nat_lt, ℤ, pos, negsuc, Bool, true, false, if◌then◌else◌, List, [], ◌∷◌, Some, arith}
use Rattle.std.specs.List.{list_any}
use Rattle.std.specs.Option.{option_map_or}
use Rattle.std.proofs.lemmas.Bool.{true≢false, lt-ltb, cases_lt}
use Rattle.std.proofs.lemmas.Bool.Decides.{nat_tests}
use Rattle.jh_name.specs.declared.place.Kind.{Kind}
use Rattle.jh_name.specs.declared.place.Kind.TheVariants as k
use Rattle.jh_semantics.specs.Heaps.{is_in}
use Rattle.jh_heap.specs.lines.Lines.{Value}
use Rattle.jh_heap.specs.lines.Lines as l
use Rattle.jh_heap.specs.text.Outlines.{Holder}
use Rattle.jh_heap.specs.text.Drafts.{Draft, cell_of, default_cell, natural_in}
use Rattle.jh_heap.specs.text.Rules.{value_rule, is_beyond, fits, strays, least, broken}
use Rattle.jh_store.specs.heaps.Inside.{IsInside}

-- an object that isn't beyond the greatest
pub not-beyond : (n a : ℕ) → nat_lt n a ≡ false → a < suc n
not-beyond n a h = by (cases_lt n a)
  where
    by : (n < a) ⊎ (a ≤ n) → a < suc n
    by (inl lt) = absurd (true≢false (sym (lt-ltb n a lt) ∙ h))
    by (inr le) = omega arith

none-beyond : (n : ℕ) (xs : List ℕ) → list_any (nat_lt n) xs ≡ false → (a : ℕ) → is_in a xs ≡ true → a < suc n
none-beyond n [] h a is = absurd (true≢false (sym is))
none-beyond n (b ∷ xs) h a is = by (λ g. none-beyond n xs g a) (nat_lt n b) refl (b == a) refl
  where
    by : (list_any (nat_lt n) xs ≡ false → is_in a xs ≡ true → a < suc n) → (t : Bool) → nat_lt n b ≡ t → (u : Bool) → (b == a) ≡ u → a < suc n
    by more true e u f = absurd (true≢false (ap (λ s. s || list_any (nat_lt n) xs) (sym e) ∙ h))
    by more false e true f = let same : b ≡ a = grind (arith, nat_tests) in let lt = not-beyond n b e in omega (arith, same, lt)
    by more false e false f = more (ap (λ s. s || list_any (nat_lt n) xs) (sym e) ∙ h) (ap (λ s. s || is_in a xs) (sym f) ∙ is)

pub default-inside : (n : ℕ) (kind : Kind) → IsInside n (default_cell kind)
default-inside n k.Obj = omega arith
default-inside n k.Int = tt
default-inside n k.Bool = tt
default-inside n k.Set = λ a h. absurd (true≢false (sym h))

number-inside : (n : ℕ) (z : ℤ) → option_map_or (nat_lt n) (natural_in z) false ≡ false → IsInside n (cell_of k.Obj (l.number z))
number-inside n (pos a) h = not-beyond n a h
number-inside n (negsuc a) h = omega arith

pub value-inside : (n : ℕ) (kind : Kind) (v : Value) → is_beyond n kind v ≡ false → IsInside n (cell_of kind v)
value-inside n k.Obj (l.number z) h = number-inside n z h
value-inside n k.Int (l.number z) h = tt
value-inside n k.Bool (l.number z) h = tt
value-inside n k.Set (l.number z) h = default-inside n k.Set
value-inside n k.Obj (l.truth_value b) h = default-inside n k.Obj
value-inside n k.Int (l.truth_value b) h = tt
value-inside n k.Bool (l.truth_value b) h = tt
value-inside n k.Set (l.truth_value b) h = default-inside n k.Set
value-inside n k.Obj (l.objects xs) h = default-inside n k.Obj
value-inside n k.Int (l.objects xs) h = tt
value-inside n k.Bool (l.objects xs) h = tt
value-inside n k.Set (l.objects xs) h = none-beyond n xs h

-- where nothing is broken, neither of two rules is
pub least-left : (a b : ℕ) → least a b ≡ 0 → a ≡ 0
least-left a b h = by (a == 0) refl
  where
    by : (t : Bool) → (a == 0) ≡ t → a ≡ 0
    by true e = grind (arith, nat_tests)
    by false e = other (b == 0) refl (ap (λ t. if t then b else (if b == 0 then a else (if nat_lt a b then a else b))) (sym e) ∙ h)
      where
        last : (t : Bool) → (b == 0) ≡ false → (if t then a else b) ≡ 0 → a ≡ 0
        last true f g = g
        last false f g = absurd (true≢false (sym (ap (λ z. z == 0) g) ∙ f))

        other : (t : Bool) → (b == 0) ≡ t → (if b == 0 then a else (if nat_lt a b then a else b)) ≡ 0 → a ≡ 0
        other true f g = ap (λ t. if t then a else (if nat_lt a b then a else b)) (sym f) ∙ g
        other false f g = last (nat_lt a b) f (ap (λ t. if t then a else (if nat_lt a b then a else b)) (sym f) ∙ g)

pub least-right : (a b : ℕ) → least a b ≡ 0 → b ≡ 0
least-right a b h = ap (λ t. if t then b else (if b == 0 then a else (if nat_lt a b then a else b))) (sym zero-left) ∙ h
  where
    zero-left : (a == 0) ≡ true
    zero-left = ap (λ z. z == 0) (least-left a b h)

pub unbroken : (test : Bool) (rule : ℕ) → broken test (suc rule) ≡ 0 → test ≡ false
unbroken true rule h = absurd (omega (arith, h))
unbroken false rule h = refl

-- a value of what is there that breaks no rule isn't beyond the greatest
pub rule-beyond : (d : Draft) (h : Holder) (v : Value) → value_rule d (Some h) v ≡ 0 → is_beyond d.greatest h.kind v ≡ false
rule-beyond d h v e = by (is_beyond d.greatest h.kind v) refl
  where
    by : (t : Bool) → is_beyond d.greatest h.kind v ≡ t → is_beyond d.greatest h.kind v ≡ false
    by false f = f
    by true f =
        let one : 1 ≡ 0 = ap (λ t. if t then 1 else (if not (fits h.kind v) then 4 else (if strays d h.type v then 5 else 0))) (sym f) ∙ e in
        absurd (omega (arith, one))
