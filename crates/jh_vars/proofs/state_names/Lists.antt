-- Lists that loops add to.
use Rattle.std.proofs.Common.{◌≡◌, refl, sym, ap, ◌∙◌, ℕ, suc, ◌+◌, ◌<◌, ◌≤◌, List, [], ◌∷◌, ◌++◌, map, length, drop, get_or, None, Some, codes, add-one, drop-cons}
use Rattle.std.specs.List.{flat_map}
use Rattle.std.proofs.lemmas.List.{drop_all}
use Rattle.jh_ast.specs.declared.program.Class.{Class}
use Rattle.jh_ast.specs.Bare.{class_part}
use Rattle.jh_vars.specs.declared.state_names.state.StateName.{StateName}
use Rattle.jh_vars.specs.state_names.States.{class_sets, members, class_states, set_state}

pub snoc : {X : Type 0} (xs : List X) (v : X) (rest : List X) → (xs ++ v ∷ []) ++ rest ≡ xs ++ v ∷ rest
snoc [] v rest = refl
snoc (x ∷ xs) v rest = ap (λ ys. x ∷ ys) (snoc xs v rest)

pub nothing : {X : Type 0} (xs : List X) → xs ++ [] ≡ xs
nothing [] = refl
nothing (x ∷ xs) = ap (λ ys. x ∷ ys) (nothing xs)

pub regroup : {X : Type 0} (xs ys zs : List X) → (xs ++ ys) ++ zs ≡ xs ++ (ys ++ zs)
regroup [] ys zs = refl
regroup (x ∷ xs) ys zs = ap (λ us. x ∷ us) (regroup xs ys zs)

pub map-map : {X Y Z : Type 0} (f : Y → Z) (g : X → Y) (xs : List X) → map (λ x. f (g x)) xs ≡ map f (map g xs)
map-map f g [] = refl
map-map f g (x ∷ xs) = ap (λ ys. f (g x) ∷ ys) (map-map f g xs)

pub flat-map : {X Y Z : Type 0} (f : Y → List Z) (g : X → Y) (xs : List X) → flat_map (λ x. f (g x)) xs ≡ flat_map f (map g xs)
flat-map f g [] = refl
flat-map f g (x ∷ xs) = ap (λ ys. f (g x) ++ ys) (flat-map f g xs)

module _ (cs : List Class) (n : ℕ) (made more whole : List StateName) where
  pub sets-step : (c : Class) (s : StateName) → n < length cs → c ≡ get_or cs n c → s ≡ set_state c.name.text.text (Some n) → more ≡ made ++ s ∷ [] →
      made ++ class_sets n (map class_part (drop n cs)) ≡ whole → more ++ class_sets (n + 1) (map class_part (drop (n + 1) cs)) ≡ whole
  unfolding class_sets class_part
  sets-step c s lt is e p h =
      let split : drop n cs ≡ c ∷ drop (suc n) cs = drop-cons cs n c lt ∙ ap (λ v. v ∷ drop (suc n) cs) (sym is) in
      ap (λ us. us ++ class_sets (n + 1) (map class_part (drop (n + 1) cs))) p
      ∙ snoc made s (class_sets (n + 1) (map class_part (drop (n + 1) cs)))
      ∙ (λ i. made ++ e i ∷ class_sets (n + 1) (map class_part (drop (add-one n i) cs)))
      ∙ sym (ap (λ us. made ++ class_sets n (map class_part us)) split)
      ∙ h

  pub sets-end : (s : StateName) → length cs ≤ n → s ≡ set_state (codes "Object") None → more ≡ made ++ s ∷ [] → made ++ class_sets n (map class_part (drop n cs)) ≡ whole → more ≡ whole
  unfolding class_sets
  sets-end s le e p h = p ∙ ap (λ v. made ++ v ∷ []) e ∙ sym (ap (λ us. made ++ class_sets n (map class_part us)) (drop_all n cs le)) ∙ h

  pub members-step : (c : Class) → n < length cs → c ≡ get_or cs n c → more ≡ made ++ class_states n (class_part c) → made ++ members n (map class_part (drop n cs)) ≡ whole → more ++ members (n + 1) (map class_part (drop (n + 1) cs)) ≡ whole
  unfolding members
  members-step c lt is p h =
      let split : drop n cs ≡ c ∷ drop (suc n) cs = drop-cons cs n c lt ∙ ap (λ v. v ∷ drop (suc n) cs) (sym is) in
      ap (λ us. us ++ members (n + 1) (map class_part (drop (n + 1) cs))) p
      ∙ regroup made (class_states n (class_part c)) (members (n + 1) (map class_part (drop (n + 1) cs)))
      ∙ (λ i. made ++ (class_states n (class_part c) ++ members (n + 1) (map class_part (drop (add-one n i) cs))))
      ∙ (sym (ap (λ us. made ++ members n (map class_part us)) split)
      ∙ h)

module _ (cs : List Class) (n : ℕ) (made whole : List StateName) where
  pub members-end : length cs ≤ n → made ++ members n (map class_part (drop n cs)) ≡ whole → made ≡ whole
  unfolding members
  members-end le h = sym (nothing made) ∙ sym (ap (λ us. made ++ members n (map class_part us)) (drop_all n cs le)) ∙ h
