-- Two lists of pieces that are made one.
use Rattle.std.proofs.Common.{◌≡◌, refl, sym, ap, ◌∙◌, ℕ, zero, suc, ◌+◌, ◌<◌, ◌≤◌, Bool, true, false, if◌then◌else◌, List, [], ◌∷◌, ◌++◌, length, drop, get_or, add-one, drop-cons, arith}
use Rattle.std.proofs.lemmas.List.{drop_all}
use Rattle.jh_vars.specs.Written.{stands_before, front_before, rest_behind, merged}
use Rattle.jh_vars.specs.Written as written
use Rattle.jh_vars.specs.declared.state_names.pieces.Piece.{Piece}
use Rattle.jh_vars.specs.state_names.Pieces.{piece_of, pieces_in}
use Rattle.jh_vars.proofs.state_names.Lists.{snoc, regroup}

pub pieces-push : (xs : List Piece) (v : Piece) → pieces_in (xs ++ v ∷ []) ≡ pieces_in xs ++ piece_of v ∷ []
pieces-push [] v = refl
pieces-push (x ∷ xs) v = ap (λ ys. piece_of x ∷ ys) (pieces-push xs v)

-- an item that is read twice
pub one-item : (xs : List Piece) (i : ℕ) (v w : Piece) → i < length xs → v ≡ get_or xs i v → w ≡ get_or xs i w → v ≡ w
one-item [] i v w lt e f = absurd (omega arith)
one-item (x ∷ xs) zero v w lt e f = e ∙ sym f
one-item (x ∷ xs) (suc i) v w lt e f = one-item xs i v w (omega arith) e f

module _ (x : written.Piece) (others : List Piece) (end : ℕ) (w : Piece) (lt : end < length others) (is : w ≡ get_or others end w) where
  split : pieces_in (drop end others) ≡ piece_of w ∷ pieces_in (drop (suc end) others)
  split = ap pieces_in (drop-cons others end w lt ∙ ap (λ v. v ∷ drop (suc end) others) (sym is))

  front-at : (b : Bool) → b ≡ stands_before (piece_of w) x → front_before x (pieces_in (drop end others)) ≡ (if b then piece_of w ∷ front_before x (pieces_in (drop (suc end) others)) else [])
  unfolding front_before
  front-at b e = ap (front_before x) split ∙ (λ i. if sym e i then piece_of w ∷ front_before x (pieces_in (drop (suc end) others)) else [])

  rest-at : (b : Bool) → b ≡ stands_before (piece_of w) x → rest_behind x (pieces_in (drop end others)) ≡ (if b then rest_behind x (pieces_in (drop (suc end) others)) else pieces_in (drop end others))
  unfolding rest_behind
  rest-at b e = ap (rest_behind x) split ∙ (λ i. if sym e i then rest_behind x (pieces_in (drop (suc end) others)) else sym split i)

  pub front-none : (b : Bool) → b ≡ stands_before (piece_of w) x → b ≡ false → front_before x (pieces_in (drop end others)) ≡ []
  front-none b e h = front-at b e ∙ ap (λ d. if d then piece_of w ∷ front_before x (pieces_in (drop (suc end) others)) else []) h

  pub rest-whole : (b : Bool) → b ≡ stands_before (piece_of w) x → b ≡ false → rest_behind x (pieces_in (drop end others)) ≡ pieces_in (drop end others)
  rest-whole b e h = rest-at b e ∙ ap (λ d. if d then rest_behind x (pieces_in (drop (suc end) others)) else pieces_in (drop end others)) h

  pub front-more : (b : Bool) → b ≡ stands_before (piece_of w) x → b ≡ true → front_before x (pieces_in (drop end others)) ≡ piece_of w ∷ front_before x (pieces_in (drop (end + 1) others))
  front-more b e h = front-at b e ∙ ap (λ d. if d then piece_of w ∷ front_before x (pieces_in (drop (suc end) others)) else []) h ∙ (λ i. piece_of w ∷ front_before x (pieces_in (drop (sym (add-one end) i) others)))

  pub rest-more : (b : Bool) → b ≡ stands_before (piece_of w) x → b ≡ true → rest_behind x (pieces_in (drop end others)) ≡ rest_behind x (pieces_in (drop (end + 1) others))
  rest-more b e h = rest-at b e ∙ ap (λ d. if d then rest_behind x (pieces_in (drop (suc end) others)) else pieces_in (drop end others)) h ∙ (λ i. rest_behind x (pieces_in (drop (sym (add-one end) i) others)))

-- where no piece is left
pub front-end : (x : written.Piece) (others : List Piece) (end : ℕ) → length others ≤ end → front_before x (pieces_in (drop end others)) ≡ []
unfolding front_before
front-end x others end le = ap (λ us. front_before x (pieces_in us)) (drop_all end others le)

pub rest-end : (x : written.Piece) (others : List Piece) (end : ℕ) → length others ≤ end → rest_behind x (pieces_in (drop end others)) ≡ pieces_in (drop end others)
unfolding rest_behind
rest-end x others end le = ap (λ us. rest_behind x (pieces_in us)) (drop_all end others le) ∙ sym (ap pieces_in (drop_all end others le))

module _ (left right made mid more : List Piece) (j at end : ℕ) (x : Piece) (whole : List written.Piece) where
  -- one more piece of the left list, behind those of the right one that stand before it
  pub merge-step : j < length left → x ≡ get_or left j x → pieces_in mid ≡ pieces_in made ++ front_before (piece_of x) (pieces_in (drop at right)) → pieces_in (drop end right) ≡ rest_behind (piece_of x) (pieces_in (drop at right)) → more ≡ mid ++ x ∷ [] →
      pieces_in made ++ merged (pieces_in (drop j left)) (pieces_in (drop at right)) ≡ whole → pieces_in more ++ merged (pieces_in (drop (j + 1) left)) (pieces_in (drop end right)) ≡ whole
  unfolding merged
  merge-step lt is front rest p h =
      let split : drop j left ≡ x ∷ drop (suc j) left = drop-cons left j x lt ∙ ap (λ v. v ∷ drop (suc j) left) (sym is) in
      let tail = merged (pieces_in (drop (j + 1) left)) (pieces_in (drop end right)) in
      ap (λ us. pieces_in us ++ tail) p
      ∙ ap (λ us. us ++ tail) (pieces-push mid x)
      ∙ snoc (pieces_in mid) (piece_of x) tail
      ∙ ap (λ us. us ++ piece_of x ∷ tail) front
      ∙ regroup (pieces_in made) (front_before (piece_of x) (pieces_in (drop at right))) (piece_of x ∷ tail)
      ∙ (λ i. pieces_in made ++ (front_before (piece_of x) (pieces_in (drop at right)) ++ (piece_of x ∷ merged (pieces_in (drop (add-one j i) left)) (rest i))))
      ∙ sym (ap (λ us. pieces_in made ++ merged (pieces_in us) (pieces_in (drop at right))) split)
      ∙ h

module _ (left right made more : List Piece) (j at : ℕ) (whole : List written.Piece) where
  pub merge-end : length left ≤ j → pieces_in more ≡ pieces_in made ++ pieces_in (drop at right) → pieces_in made ++ merged (pieces_in (drop j left)) (pieces_in (drop at right)) ≡ whole → pieces_in more ≡ whole
  unfolding merged
  merge-end le p h = p ∙ sym (ap (λ us. pieces_in made ++ merged (pieces_in us) (pieces_in (drop at right))) (drop_all j left le)) ∙ h
