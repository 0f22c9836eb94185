-- Words behind the first place of their name.
use Rattle.std.proofs.Common.{◌≡◌, refl, sym, ap, ◌∙◌, ℕ, ◌||◌, ◌&&◌, ◌+◌, ◌≤◌, ◌<◌, Bool, true, false, List, length, drop, get_or, Option, Some, None, if◌then◌else◌, arith}
use Rattle.std.specs.Cmp.Lexicographic.{bytes_decides}
use Rattle.std.proofs.lemmas.Bool.{true≢false}
use Rattle.std.proofs.lemmas.Bool.Decides.{nat_tests}
use Rattle.std.proofs.lemmas.List.{drop_all}
use Rattle.jh_name.specs.declared.place.Place.{Place}
use Rattle.jh_ast.specs.declared.word.Word.{Word}
use Rattle.jh_rules.specs.Words.{same_text, text_of, is_before, used_before}
use Rattle.jh_symbols.specs.declared.scopes.firsts.Firsts.{Firsts}
use Rattle.jh_symbols.specs.scopes.Firsts.{first, earlier, with_word, is_after, is_behind}
use Rattle.jh_symbols.proofs.scopes.Lists.{drop-at}

before-trans : (x y z : Place) → is_before x y ≡ true → is_before y z ≡ true → is_before x z ≡ true
before-trans x y z a b = grind (arith, nat_tests)

before-back : (x y z : Place) → is_before x y ≡ false → is_before y z ≡ false → is_before x z ≡ false
before-back x y z a b = grind (arith, nat_tests)

or-false : (a : Bool) → a || false ≡ a
or-false true = refl
or-false false = refl

or-assoc : (a b c : Bool) → (a || b) || c ≡ a || (b || c)
or-assoc true b c = refl
or-assoc false b c = refl

picked : (r p q : Place) (a b c : Bool) → is_before r p ≡ a → is_before p q ≡ b → is_before r q ≡ c → is_before (if is_before r p then r else p) q ≡ is_before r q || is_before p q
picked r p q true b true i j k = rw (i, k) refl
picked r p q true true false i j k = absurd (true≢false (sym (before-trans r p q i j) ∙ k))
picked r p q true false false i j k = rw (i, j, k) refl
picked r p q false true true i j k = rw (i, j, k) refl
picked r p q false true false i j k = rw (i, j, k) refl
picked r p q false false true i j k = absurd (true≢false (sym k ∙ before-back r p q i j))
picked r p q false false false i j k = rw (i, j, k) refl

after-earlier : (o : Option Place) (p q : Place) → is_after (Some (earlier o p)) q ≡ is_after o q || is_before p q
after-earlier None p q = refl
after-earlier (Some r) p q = picked r p q (is_before r p) (is_before p q) (is_before r q) refl refl refl

one-word : (f : List ℕ → Option Place) (v w : Word) (b : Bool) → same_text (text_of v) (text_of w) ≡ b → is_after (if b then Some (earlier (f (text_of v)) v.place) else f (text_of w)) w.place ≡ is_after (f (text_of w)) w.place || (b && is_before v.place w.place)
one-word f v w true e = after-earlier (f (text_of v)) v.place w.place ∙ ap (λ x. is_after (f x) w.place || is_before v.place w.place) ((bytes_decides (text_of v) (text_of w)).0 e)
one-word f v w false e = sym (or-false (is_after (f (text_of w)) w.place))

pub behind-one : (t new : Firsts) (v : Word) → ((x : List ℕ) → first new x ≡ with_word v (first t) x) → (w : Word) → is_behind new w ≡ is_behind t w || (same_text (text_of v) (text_of w) && is_before v.place w.place)
behind-one t new v h w = ap (λ o. is_after o w.place) (h (text_of w)) ∙ one-word (first t) v w (same_text (text_of v) (text_of w)) refl

abbrev pub Holds : Firsts → ℕ → List Word → Type 0
Holds t i ws = (w : Word) → is_behind t w || used_before (drop i ws) w ≡ used_before ws w

pub holds-next : (t new : Firsts) (i : ℕ) (ws : List Word) (v : Word) → i < length ws → v ≡ get_or ws i v → ((x : List ℕ) → first new x ≡ with_word v (first t) x) → Holds t i ws → Holds new (i + 1) ws
holds-next t new i ws v lt e h holds w =
    ap (λ o. is_after o w.place || used_before (drop (i + 1) ws) w) (h (text_of w))
    ∙ ap (λ b. b || used_before (drop (i + 1) ws) w) (one-word (first t) v w (same_text (text_of v) (text_of w)) refl)
    ∙ or-assoc (is_behind t w) (same_text (text_of v) (text_of w) && is_before v.place w.place) (used_before (drop (i + 1) ws) w)
    ∙ ap (λ us. is_behind t w || used_before us w) (sym (drop-at ws i v lt e)) ∙ holds w

pub holds-end : (t : Firsts) (i : ℕ) (ws : List Word) → length ws ≤ i → Holds t i ws → (w : Word) → is_behind t w ≡ used_before ws w
holds-end t i ws le holds w = sym (or-false (is_behind t w)) ∙ ap (λ us. is_behind t w || used_before us w) (sym (drop_all i ws le)) ∙ holds w
