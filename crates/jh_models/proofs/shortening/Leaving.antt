-- What is left of lists, and what is listed, with one more at the end.
use Rattle.std.proofs.Common.{◌≡◌, refl, subst, List, [], ◌∷◌, ◌++◌, ◌⊎◌, inl, inr}
use Rattle.jh_closure.specs.structures.Literals.{LiteralTree, IsListed, AreListed}
use Rattle.jh_models.specs.ground_models.Explanations.{IsLeft, none, kept, out}

-- what is listed
pub listed-end : (xs : List LiteralTree) (y l : LiteralTree) → IsListed (xs ++ (y ∷ [])) l → IsListed xs l ⊎ (y ≡ l)
listed-end [] y l (inl e) = inr e
listed-end [] y l (inr h) = absurd h
listed-end (x ∷ xs) y l (inl e) = inl (inl e)
listed-end (x ∷ xs) y l (inr h) = later (listed-end xs y l h)
  where
    later : IsListed xs l ⊎ (y ≡ l) → IsListed (x ∷ xs) l ⊎ (y ≡ l)
    later (inl g) = inl (inr g)
    later (inr e) = inr e

pub listed-before : (xs ys : List LiteralTree) (l : LiteralTree) → IsListed xs l → IsListed (xs ++ ys) l
listed-before [] ys l h = absurd h
listed-before (x ∷ xs) ys l (inl e) = inl e
listed-before (x ∷ xs) ys l (inr h) = inr (listed-before xs ys l h)

pub listed-here : (xs : List LiteralTree) (l : LiteralTree) → IsListed (xs ++ (l ∷ [])) l
listed-here [] l = inl refl
listed-here (x ∷ xs) l = inr (listed-here xs l)

pub are-listed : (ks ls : List LiteralTree) → ((l : LiteralTree) → IsListed ls l → IsListed ks l) → AreListed ks ls
are-listed ks [] f = tt
are-listed ks (l ∷ ls) f = (f l (inl refl), are-listed ks ls (λ m h. f m (inr h)))

pub listed-in : (ks ls : List LiteralTree) → AreListed ks ls → (l : LiteralTree) → IsListed ls l → IsListed ks l
listed-in ks [] h l g = absurd g
listed-in ks (m ∷ ms) h l (inl e) = subst (IsListed ks) e h.0
listed-in ks (m ∷ ms) h l (inr g) = listed-in ks ms h.1 l g

pub front-listed : (ks ls : List LiteralTree) (l : LiteralTree) → AreListed ks ls → AreListed (l ∷ ks) (l ∷ ls)
front-listed ks ls l h = are-listed (l ∷ ks) (l ∷ ls) among
  where
    among : (m : LiteralTree) → IsListed (l ∷ ls) m → IsListed (l ∷ ks) m
    among m (inl e) = inl e
    among m (inr g) = inr (listed-in ks ls h m g)

pub end-both : (ks ls : List LiteralTree) (l : LiteralTree) → AreListed ks ls → AreListed (ks ++ (l ∷ [])) (ls ++ (l ∷ []))
end-both ks ls l h = are-listed (ks ++ (l ∷ [])) (ls ++ (l ∷ [])) (λ m g. among m (listed-end ls l m g))
  where
    among : (m : LiteralTree) → IsListed ls m ⊎ (l ≡ m) → IsListed (ks ++ (l ∷ [])) m
    among m (inl g) = listed-before ks (l ∷ []) m (listed-in ks ls h m g)
    among m (inr e) = subst (IsListed (ks ++ (l ∷ []))) e (listed-here ks l)

pub end-one : (ks ls : List LiteralTree) (l : LiteralTree) → AreListed ks ls → AreListed (ks ++ (l ∷ [])) ls
end-one ks ls l h = are-listed (ks ++ (l ∷ [])) ls (λ m g. listed-before ks (l ∷ []) m (listed-in ks ls h m g))

-- what is left
pub left-listed : (ks ls : List LiteralTree) (l : LiteralTree) → IsLeft ks ls → IsListed ks l → IsListed ls l
left-listed _ _ l none h = h
left-listed _ _ l (kept m ks ls g) (inl e) = inl e
left-listed _ _ l (kept m ks ls g) (inr h) = inr (left-listed ks ls l g h)
left-listed _ _ l (out m ks ls g) h = inr (left-listed ks ls l g h)

pub left-through : (js ks ls : List LiteralTree) → IsLeft js ks → IsLeft ks ls → IsLeft js ls
left-through js _ _ h none = h
left-through _ _ _ (kept _ js _ h) (kept l ks ls g) = kept l js ls (left-through js ks ls h g)
left-through _ _ _ (out _ js _ h) (kept l ks ls g) = out l js ls (left-through js ks ls h g)
left-through js _ _ h (out l ks ls g) = out l js ls (left-through js ks ls h g)

nothing-left : (ls : List LiteralTree) → IsLeft [] ls
nothing-left [] = none
nothing-left (l ∷ ls) = out l [] ls (nothing-left ls)

pub left-before : (ks ls rest : List LiteralTree) → IsLeft ks ls → IsLeft ks (ls ++ rest)
left-before _ _ rest none = nothing-left rest
left-before _ _ rest (kept l ks ls h) = kept l ks (ls ++ rest) (left-before ks ls rest h)
left-before _ _ rest (out l ks ls h) = out l ks (ls ++ rest) (left-before ks ls rest h)

pub left-end : (ks ls : List LiteralTree) (l : LiteralTree) → IsLeft ks ls → IsLeft (ks ++ (l ∷ [])) (ls ++ (l ∷ []))
left-end _ _ l none = kept l [] [] none
left-end _ _ l (kept m ks ls h) = kept m (ks ++ (l ∷ [])) (ls ++ (l ∷ [])) (left-end ks ls l h)
left-end _ _ l (out m ks ls h) = out m (ks ++ (l ∷ [])) (ls ++ (l ∷ [])) (left-end ks ls l h)

-- What is left of a list with one more at its end: that one is out, or stands at the end.
pub data LeftEnd (ls : List LiteralTree) (l : LiteralTree) : List LiteralTree → Type 0 where
  is_out : (ks : List LiteralTree) → IsLeft ks ls → LeftEnd ls l ks
  is_kept : (ks : List LiteralTree) → IsLeft ks ls → LeftEnd ls l (ks ++ (l ∷ []))

pub left-split : (ls : List LiteralTree) (l : LiteralTree) (ks : List LiteralTree) → IsLeft ks (ls ++ (l ∷ [])) → LeftEnd ls l ks
left-split [] l _ (kept _ ks _ h) = one ks h
  where
    one : (ks : List LiteralTree) → IsLeft ks [] → LeftEnd [] l (l ∷ ks)
    one _ none = is_kept [] none
left-split [] l ks (out _ _ _ h) = is_out ks h
left-split (x ∷ ls) l _ (kept _ ks _ h) = behind ks (left-split ls l ks h)
  where
    behind : (ks : List LiteralTree) → LeftEnd ls l ks → LeftEnd (x ∷ ls) l (x ∷ ks)
    behind _ (is_out ks g) = is_out (x ∷ ks) (kept x ks ls g)
    behind _ (is_kept ks g) = is_kept (x ∷ ks) (kept x ks ls g)
left-split (x ∷ ls) l ks (out _ _ _ h) = without ks (left-split ls l ks h)
  where
    without : (ks : List LiteralTree) → LeftEnd ls l ks → LeftEnd (x ∷ ls) l ks
    without _ (is_out ks g) = is_out ks (out x ks ls g)
    without _ (is_kept ks g) = is_kept ks (out x ks ls g)
