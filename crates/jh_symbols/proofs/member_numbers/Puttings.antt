-- What is known of members, where one more is noted.
use Rattle.std.proofs.Common.{◌≡◌, refl, sym, ap, ◌∙◌, ◌⊎◌, inl, inr, ℕ, ◌<◌, ◌&&◌, Bool, true, false, if◌then◌else◌, nat_eq, List, [], ◌∷◌, length, get_or, slice_get, slice_set, Option, Some, None, arith}
use Rattle.std.specs.String.{string_bytes, string_eq}
use Rattle.std.specs.declared.string.String.{String}
use Rattle.std.proofs.lemmas.Bool.{true≢false}
use Rattle.std.proofs.lemmas.Bool.Decides.{nat_tests}
use Rattle.std.proofs.lemmas.Map.Text.{hash_map_updates_text}
use Rattle.std.proofs.lemmas.Option.{slice_get-get_or}
use Rattle.indexmap.specs.IndexMap.{IndexMap, get_by_text, Updates}
use Rattle.jh_rules.specs.Names.{◌then◌}
use Rattle.jh_rules.specs.Words.{same_text}
use Rattle.jh_containers.proofs.transitive_closure.Places.{same-or-not, set-here, set-other}

same-test : (a b : ℕ) (t : Bool) → nat_eq a b ≡ t → t ≡ true → a ≡ b
same-test a b t e h = grind (arith, nat_tests)

other-test : (a b : ℕ) (t : Bool) → nat_eq a b ≡ t → t ≡ false → a ≡ b → ⊥
other-test a b t e h same = grind (arith, nat_tests)

nat-same : (a : ℕ) → nat_eq a a ≡ true
nat-same a = by (nat_eq a a) refl
  where
    by : (t : Bool) → nat_eq a a ≡ t → nat_eq a a ≡ true
    by true e = e
    by false e = absurd (other-test a a false e refl refl)

pub text-same : (x : List ℕ) → same_text x x ≡ true
text-same [] = refl
text-same (a ∷ x) = λ i. nat-same a i && text-same x i

both : (b c : Bool) → (b && c) ≡ true → (b ≡ true) × (c ≡ true)
both true c h = (refl, h)
both false c h = absurd (true≢false (sym h))

pub text-is : (x y : List ℕ) → same_text x y ≡ true → x ≡ y
text-is [] [] h = refl
text-is [] (b ∷ y) h = absurd (true≢false (sym h))
text-is (a ∷ x) [] h = absurd (true≢false (sym h))
text-is (a ∷ x) (b ∷ y) h = let k = both (nat_eq a b) (same_text x y) h in λ i. same-test a b (nat_eq a b) refl k.0 i ∷ text-is x y k.1 i

pub noted-text : {Y S : Type 0} (old new : IndexMap (String Y) ℕ S) (key : String Y) (node : ℕ) (text : List ℕ) → string_bytes key ≡ text → Updates string_eq old new key (Some node) → (x : List ℕ) → get_by_text new x ≡ (if same_text text x then Some node else get_by_text old x)
noted-text old new key node text named updates x = hash_map_updates_text (string_bytes key) old new (Some node) updates x ∙ ap (λ b. if same_text b x then Some node else get_by_text old x) named

-- one map of a list is exchanged for one that knows one more text
module _ {Y S : Type 0} (maps : List (IndexMap (String Y) ℕ S)) (class : ℕ) (old new : IndexMap (String Y) ℕ S) (node : ℕ) (text : List ℕ) (inside : class < length maps) (there : slice_get maps class ≡ Some old) (at-text : (x : List ℕ) → get_by_text new x ≡ (if same_text text x then Some node else get_by_text old x)) where
  abbrev Known : List (IndexMap (String Y) ℕ S) → ℕ → List ℕ → Option ℕ
  Known ms c x = slice_get ms c then λ m. get_by_text m x

  here : (x : List ℕ) → Known (slice_set maps class new) class x ≡ get_by_text new x
  here x = ap (λ o. o then λ m. get_by_text m x) (set-here maps class new inside)

  pub noted : Known (slice_set maps class new) class text ≡ Some node
  noted = here text ∙ at-text text ∙ ap (λ b. if b then Some node else get_by_text old text) (text-same text)

  pub others : (c : ℕ) (x : List ℕ) → ((c ≡ class) × (x ≡ text)) ⊎ (Known (slice_set maps class new) c x ≡ Known maps c x)
  others c x = by (same-or-not c class)
    where
      kept : c ≡ class → same_text text x ≡ false → Known (slice_set maps class new) c x ≡ Known maps c x
      kept s h =
          ap (λ n. Known (slice_set maps class new) n x) s ∙ here x ∙ at-text x ∙ ap (λ b. if b then Some node else get_by_text old x) h
          ∙ sym (ap (λ n. Known maps n x) s ∙ ap (λ o. o then λ m. get_by_text m x) there)

      of-class : c ≡ class → (b : Bool) → same_text text x ≡ b → ((c ≡ class) × (x ≡ text)) ⊎ (Known (slice_set maps class new) c x ≡ Known maps c x)
      of-class s true h = inl (s, sym (text-is text x h))
      of-class s false h = inr (kept s h)

      by : (c ≡ class) ⊎ (c ≡ class → ⊥) → ((c ≡ class) × (x ≡ text)) ⊎ (Known (slice_set maps class new) c x ≡ Known maps c x)
      by (inl s) = of-class s (same_text text x) refl
      by (inr other) = inr (ap (λ o. o then λ m. get_by_text m x) (set-other maps class new c other))

-- as many maps without texts
pub none-known : {Y S : Type 0} (maps : List (IndexMap (String Y) ℕ S)) → ((i : ℕ) (m : IndexMap (String Y) ℕ S) → slice_get maps i ≡ Some m → (x : List ℕ) → get_by_text m x ≡ None) → (c : ℕ) (x : List ℕ) → (slice_get maps c then λ m. get_by_text m x) ≡ None
none-known maps h c x = by (slice_get maps c) refl
  where
    by : (o : Option _) → slice_get maps c ≡ o → (o then λ m. get_by_text m x) ≡ None
    by None e = refl
    by (Some m) e = h c m e x

pub item-is : {X : Type 0} (xs : List X) (i : ℕ) (v : X) → i < length xs → v ≡ get_or xs i v → slice_get xs i ≡ Some v
item-is xs i v lt e = slice_get-get_or xs i v lt ∙ ap Some (sym e)
