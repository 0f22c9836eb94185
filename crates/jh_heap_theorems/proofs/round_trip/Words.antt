-- Words: what is cut off behind them, the parts that they are, and texts that may stand in a line.
use Rattle.std.proofs.Common.{◌≡◌, refl, sym, ap, subst, ◌∙◌, arith, ℕ, zero, suc, ◌<◌, ◌==◌, ◌&&◌, not, nat_lt, Bool, true, false, true≢false, if◌then◌else◌, List, [], ◌∷◌, ◌++◌, length, map, drop, Option, Some, slice_get, append_assoc, length-append, IsUtf8, IsAscii, eq-eqb, ltb-true}
use Rattle.std.specs.List.{list_any, list_all}
use Rattle.std.proofs.lemmas.Bool.{and_parts, or_parts, or_from}
use Rattle.std.proofs.lemmas.List.{map-append}
use Rattle.std.proofs.lemmas.Str.{IsUtf8-append, IsUtf8-from_ascii}
use Rattle.jh_semantics.specs.Code.{Text}
use Rattle.jh_heap.specs.lines.Bytes.{Cut, cut, cut_onto, split, split_onto, same_bytes}
use Rattle.jh_heap.specs.text.Drafts.{place_of}
use Rattle.jh_heap_theorems.specs.round_trip.Names.{has, are_distinct}

abbrev parted : List ℕ → List ℕ → Option Cut
parted before behind = Some (record { before = before; behind = behind })

-- a word is cut off at the byte behind it
pub cut-word : (b : ℕ) (w rest : List ℕ) → has b w ≡ false → cut b (w ++ (b ∷ rest)) ≡ parted w rest
cut-word b [] rest h = ap (λ t. if t then parted [] rest else cut_onto b (cut b rest)) (eq-eqb b b refl)
cut-word b (c ∷ w) rest h =
    let parts = or_parts (c == b) (has b w) h in
    ap (λ t. if t then parted [] (w ++ (b ∷ rest)) else cut_onto c (cut b (w ++ (b ∷ rest)))) parts.0
    ∙ ap (cut_onto c) (cut-word b w rest parts.1)

-- and is a part
pub split-word : (b : ℕ) (w rest : List ℕ) → has b w ≡ false → split b (w ++ (b ∷ rest)) ≡ w ∷ split b rest
split-word b [] rest h = ap (λ t. if t then [] ∷ split b rest else split_onto b (split b rest)) (eq-eqb b b refl)
split-word b (c ∷ w) rest h =
    let parts = or_parts (c == b) (has b w) h in
    ap (λ t. if t then [] ∷ split b (w ++ (b ∷ rest)) else split_onto c (split b (w ++ (b ∷ rest)))) parts.0
    ∙ ap (split_onto c) (split-word b w rest parts.1)

pub split-last : (b : ℕ) (w : List ℕ) → has b w ≡ false → split b w ≡ w ∷ []
split-last b [] h = refl
split-last b (c ∷ w) h =
    let parts = or_parts (c == b) (has b w) h in
    ap (λ t. if t then [] ∷ split b w else split_onto c (split b w)) parts.0 ∙ ap (split_onto c) (split-last b w parts.1)

pub split-some : (b : ℕ) (bs : List ℕ) → 0 < length (split b bs)
split-some b [] = omega arith
split-some b (c ∷ cs) = by (c == b) (split b cs) (split-some b cs)
  where
    by : (t : Bool) (ws : List (List ℕ)) → 0 < length ws → 0 < length (if t then [] ∷ ws else split_onto c ws)
    by true ws h = omega arith
    by false [] h = omega arith
    by false (w ∷ ws) h = omega arith

pub has-append : (b : ℕ) (xs ys : List ℕ) → has b xs ≡ false → has b ys ≡ false → has b (xs ++ ys) ≡ false
has-append b [] ys p q = q
has-append b (c ∷ xs) ys p q = let parts = or_parts (c == b) (has b xs) p in or_from (c == b) (has b (xs ++ ys)) parts.0 (has-append b xs ys parts.1 q)

-- texts that may stand in a line
pub record IsClean (w : List ℕ) : Type 0 where
  pub feed : has 10 w ≡ false
  pub utf8 : IsUtf8 w

pub clean-append : (u w : List ℕ) → IsClean u → IsClean w → IsClean (u ++ w)
clean-append u w p q = record { feed = has-append 10 u w p.feed q.feed; utf8 = IsUtf8-append u w p.utf8 q.utf8 }

all-ascii : (w : List ℕ) → list_all (λ c. nat_lt c 128) w ≡ true → IsAscii w
all-ascii [] h i = omega arith
all-ascii (c ∷ w) h zero = ltb-true c 128 (and_parts (nat_lt c 128) (list_all (λ c. nat_lt c 128) w) h).0
all-ascii (c ∷ w) h (suc i) = all-ascii w (and_parts (nat_lt c 128) (list_all (λ c. nat_lt c 128) w) h).1 i

pub clean-ascii : (w : List ℕ) → has 10 w ≡ false → list_all (λ c. nat_lt c 128) w ≡ true → IsClean w
clean-ascii w h a = record { feed = h; utf8 = IsUtf8-from_ascii w (all-ascii w a) }

-- texts with a line feed at the end
abbrev pub Ends : List ℕ → List ℕ → Type 0
Ends u w = (more : List ℕ) → u ++ more ≡ w ++ (10 ∷ more)

pub ends-here : (w : List ℕ) → Ends (w ++ (10 ∷ [])) w
ends-here w more = append_assoc w (10 ∷ []) more

pub ends-behind : (c : ℕ) (u w : List ℕ) → Ends u w → Ends (c ∷ u) (c ∷ w)
ends-behind c u w e more = ap (λ x. c ∷ x) (e more)

pub ends-append : (a u w : List ℕ) → Ends u w → Ends (a ++ u) (a ++ w)
ends-append a u w e more = append_assoc a u more ∙ ap (λ x. a ++ x) (e more) ∙ sym (append_assoc a w (10 ∷ more))

-- places in lists
module _ {X : Type 0} where
  pub get-here : (p : List X) (y : X) (q : List X) (n : ℕ) → length p ≡ n → slice_get (p ++ (y ∷ q)) n ≡ Some y
  get-here p y q n e = subst (λ k. slice_get (p ++ (y ∷ q)) k ≡ Some y) e (at p)
    where
      at : (p : List X) → slice_get (p ++ (y ∷ q)) (length p) ≡ Some y
      at [] = refl
      at (x ∷ p) = at p

  pub drop-past : (p : List X) (y : X) (q : List X) (n : ℕ) → length p ≡ n → drop (suc n) (p ++ (y ∷ q)) ≡ q
  drop-past p y q n e = subst (λ k. drop (suc k) (p ++ (y ∷ q)) ≡ q) e (at p)
    where
      at : (p : List X) → drop (suc (length p)) (p ++ (y ∷ q)) ≡ q
      at [] = refl
      at (x ∷ p) = at p

  pub any-at : (test : X → Bool) (p q : List X) (y : X) → list_any test (p ++ (y ∷ q)) ≡ false → test y ≡ false
  any-at test [] q y h = (or_parts (test y) (list_any test q) h).0
  any-at test (x ∷ p) q y h = any-at test p q y (or_parts (test x) (list_any test (p ++ (y ∷ q))) h).1

  -- one more item, and a list behind it
  pub shift : {Y : Type 0} (f : X → Y) (p : List X) (x : X) (q : List Y) → map f (p ++ (x ∷ [])) ++ q ≡ map f p ++ (f x ∷ q)
  shift f p x q = ap (λ z. z ++ q) (map-append f p (x ∷ [])) ∙ append_assoc (map f p) (f x ∷ []) q

  pub one-longer : (p : List X) (x : X) (n : ℕ) → length p ≡ n → length (p ++ (x ∷ [])) ≡ suc n
  one-longer p x n e = omega (arith, e, length-append p (x ∷ []))

pub bytes-same : (w : Text) → same_bytes w w ≡ true
bytes-same [] = refl
bytes-same (a ∷ w) = λ i. eq-eqb a a refl i && bytes-same w i

pub not-is : (t : Bool) → not t ≡ true → t ≡ false
not-is true h = absurd (true≢false (sym h))
not-is false h = refl

-- the place of a text among distinct ones
pub place-here : (done rest : List Text) (c : Text) → are_distinct (done ++ (c ∷ rest)) ≡ true → place_of (done ++ (c ∷ rest)) c ≡ length done
place-here [] rest c h = ap (λ t. if t then 0 else suc (place_of rest c)) (bytes-same c)
place-here (y ∷ done) rest c h =
    let parts = and_parts (not (list_any (same_bytes y) (done ++ (c ∷ rest)))) (are_distinct (done ++ (c ∷ rest))) h in
    ap (λ t. if t then 0 else suc (place_of (done ++ (c ∷ rest)) c)) (any-at (same_bytes y) done rest c (not-is (list_any (same_bytes y) (done ++ (c ∷ rest))) parts.0))
    ∙ ap suc (place-here done rest c parts.1)
