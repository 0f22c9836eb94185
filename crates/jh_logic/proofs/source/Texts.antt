-- Texts that are one, and names that may be declared.
use Rattle.std.proofs.Common.{◌≡◌, refl, sym, ◌∙◌, ℕ, Bool, true, false, ◌||◌, ◌==◌, List, [], ◌∷◌, codes}
use Rattle.std.specs.List.{list_any}
use Rattle.std.specs.Cmp.Lexicographic.{bytes_decides}
use Rattle.std.proofs.lemmas.Bool.{true≢false}
use Rattle.jh_rules.specs.Words.{same_text}
use Rattle.jh_rules.specs.Shape.{may_be_declared, is_empty, is_forbidden}
use Rattle.jh_semantics.specs.Locals.{has_dot}
use Rattle.jh_logic.proofs.source.Lists.{or-false-left, or-false-right, not-true}

pub same-is : (x y : List ℕ) → same_text x y ≡ true → x ≡ y
same-is x y h = (bytes_decides x y).0 h

pub is-same : (x y : List ℕ) → x ≡ y → same_text x y ≡ true
is-same x y h = (bytes_decides x y).1 h

pub not-same : (x y : List ℕ) → same_text x y ≡ false → x ≡ y → ⊥
not-same x y h e = true≢false (sym (is-same x y e) ∙ h)

pub differ : (x y : List ℕ) → (x ≡ y → ⊥) → same_text x y ≡ false
differ x y h = by (same_text x y) refl
  where
    by : (b : Bool) → same_text x y ≡ b → b ≡ false
    by true e = absurd (h (same-is x y e))
    by false e = refl

-- a name that may be declared
module _ (x : List ℕ) (h : may_be_declared x ≡ true) where
  wrong : Bool
  wrong = is_empty x || (list_any is_forbidden x || same_text x (codes "this"))

  right : (is_empty x || (list_any is_forbidden x || same_text x (codes "this"))) ≡ false
  right = not-true (is_empty x || (list_any is_forbidden x || same_text x (codes "this"))) h

  pub declared-not-this : x ≡ codes "this" → ⊥
  declared-not-this = not-same x (codes "this") (or-false-right (list_any is_forbidden x) (same_text x (codes "this")) (or-false-right (is_empty x) (list_any is_forbidden x || same_text x (codes "this")) right))

  no-dot : (y : List ℕ) → list_any is_forbidden y ≡ false → has_dot y ≡ false
  no-dot [] e = refl
  no-dot (c ∷ cs) e = both (c == 46) (has_dot cs) (or-false-right (c == 10) (c == 46) (or-false-right (c == 32) ((c == 10) || (c == 46)) (or-false-left (is_forbidden c) (list_any is_forbidden cs) e))) (no-dot cs (or-false-right (is_forbidden c) (list_any is_forbidden cs) e))
    where
      both : (a b : Bool) → a ≡ false → b ≡ false → (a || b) ≡ false
      both true b f g = absurd (true≢false f)
      both false b f g = g

  pub declared-no-dot : has_dot x ≡ false
  declared-no-dot = no-dot x (or-false-left (list_any is_forbidden x) (same_text x (codes "this")) (or-false-right (is_empty x) (list_any is_forbidden x || same_text x (codes "this")) right))
