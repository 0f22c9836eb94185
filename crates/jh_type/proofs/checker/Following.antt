-- Words that come behind others of their name, list after list.
use Rattle.std.proofs.Common.{◌≡◌, refl, sym, ap, ◌∙◌, ℕ, ◌+◌, ◌≤◌, ◌<◌, ◌||◌, ◌&&◌, Bool, true, false, List, [], ◌∷◌, ◌++◌, map, length, drop, get_or}
use Rattle.std.specs.List.{list_any, flat_map}
use Rattle.std.proofs.lemmas.List.{drop_all}
use Rattle.jh_ast.specs.declared.word.Word.{Word}
use Rattle.jh_rules.specs.Words.{same_text, text_of, is_before, used_before}
use Rattle.jh_symbols.specs.scopes.Firsts.{is_named_before}
use Rattle.jh_symbols.proofs.scopes.Lists.{drop-at}

pub or-false : (a : Bool) → a || false ≡ a
or-false true = refl
or-false false = refl

or-assoc : (a b c : Bool) → (a || b) || c ≡ a || (b || c)
or-assoc true b c = refl
or-assoc false b c = refl

any-append : {A : Type 0} (t : A → Bool) (xs ys : List A) → list_any t (xs ++ ys) ≡ list_any t xs || list_any t ys
any-append t [] ys = refl
any-append t (x ∷ xs) ys = ap (λ b. t x || b) (any-append t xs ys) ∙ sym (or-assoc (t x) (list_any t xs) (list_any t ys))

pub used-append : (xs ys : List Word) (w : Word) → used_before (xs ++ ys) w ≡ used_before xs w || used_before ys w
used-append xs ys w = any-append (λ v. same_text (text_of v) (text_of w) && is_before v.place w.place) xs ys

module _ {A : Type 0} (words : A → List Word) where
  -- what is behind and the rest give what all give
  abbrev pub Follows : (Word → Bool) → (Word → Bool) → List A → ℕ → Type 0
  Follows old cur xs i = (w : Word) → cur w || used_before (flat_map words (drop i xs)) w ≡ old w || used_before (flat_map words xs) w

  pub follows-next : (old cur new : Word → Bool) (xs : List A) (i : ℕ) (a : A) → i < length xs → a ≡ get_or xs i a → ((w : Word) → new w ≡ cur w || used_before (words a) w) → Follows old cur xs i → Follows old new xs (i + 1)
  follows-next old cur new xs i a lt e h k w =
      ap (λ b. b || used_before (flat_map words (drop (i + 1) xs)) w) (h w) ∙ or-assoc (cur w) (used_before (words a) w) (used_before (flat_map words (drop (i + 1) xs)) w)
      ∙ ap (λ b. cur w || b) (sym (used-append (words a) (flat_map words (drop (i + 1) xs)) w))
      ∙ ap (λ ys. cur w || used_before (flat_map words ys) w) (sym (drop-at xs i a lt e)) ∙ k w

  pub follows-end : (old cur : Word → Bool) (xs : List A) (i : ℕ) → length xs ≤ i → Follows old cur xs i → (w : Word) → cur w ≡ old w || used_before (flat_map words xs) w
  follows-end old cur xs i le k w = sym (or-false (cur w)) ∙ ap (λ ys. cur w || used_before (flat_map words ys) w) (sym (drop_all i xs le)) ∙ k w

module _ {A : Type 0} (name : A → Word) where
  pub single : (xs : List A) → flat_map (λ a. name a ∷ []) xs ≡ map name xs
  single [] = refl
  single (x ∷ xs) = ap (λ ys. name x ∷ ys) (single xs)

pub one-used : (b : Bool) (v w : Word) → b || is_named_before v w ≡ b || used_before (v ∷ []) w
one-used b v w = ap (λ c. b || c) (sym (or-false (is_named_before v w)))
