-- Formulas of a source: their parts.
use Rattle.std.proofs.Common.{◌≡◌, sym, ap, ◌∙◌, ⊎_elim, ℕ, ◌+◌, List, [], ◌∷◌, Some}
use Rattle.std.specs.List.{Contains}
use Rattle.jh_name.specs.declared.place.Place.{Place}
use Rattle.jh_lex.specs.lexer.Shapes.{HasShape}
use Rattle.jh_lex.specs.declared.lexer.token.Token.{Token}
use Rattle.jh_ast.specs.declared.word.Word.{Word}
use Rattle.jh_ast.specs.declared.spec.SpecOp.{SpecOp}
use Rattle.jh_ast.specs.Forms.{FormTree, FormTrees, moved, place_of}
use Rattle.jh_ast.specs.Forms as f
use Rattle.jh_rules.specs.Shape.{◌and◌, of_words, of_literal, form_parts, forms_parts}
use Rattle.jh_operators.specs.lookahead.Standing.{place_at, word_at, name_at}
use Rattle.jh_operators.proofs.lookahead.Options.{nothing, found, choose_holds, of_found}
use Rattle.jh_spec.specs.parser.Operators.{constant_at}
use Rattle.jh_spec.specs.parser.Formulas.{Words, Bound, Names, Dots, Operand, Right, Compared, Left, Chain, Prefix, Postfix, Atom, Members, binary_of}
use Rattle.jh_spec.specs.parser.Formulas as grammar
use Rattle.jh_logic.proofs.source.Lists.{has-none, has-cases}
use Rattle.jh_logic.proofs.text.Tokens.{name-mode, word-mode, number-mode}
use Rattle.jh_logic.proofs.text.Goodness.{Plain, plain-none, plain-and, plain-word, plain-words, plain-literal}

moved-parts : (p : Place) (a : FormTree) → Plain (form_parts a) → Plain (form_parts (moved p a))
unfolding form_parts
moved-parts p (f.null q) h = h
moved-parts p (f.yes q) h = h
moved-parts p (f.no q) h = h
moved-parts p (f.univ q) h = h
moved-parts p (f.number q z) h = h
moved-parts p (f.name q w) h = h
moved-parts p (f.member q a w) h = h
moved-parts p (f.negation q a) h = h
moved-parts p (f.minus q a) h = h
moved-parts p (f.old q a) h = h
moved-parts p (f.card q a) h = h
moved-parts p (f.binary q o a b) h = h
moved-parts p (f.dvd q z a) h = h
moved-parts p (f.all q ws a) h = h
moved-parts p (f.ex q ws a) h = h
moved-parts p (f.tree q ws) h = h
moved-parts p (f.rtrancl q x y a b c) h = h
moved-parts p (f.braces q fs) h = h
moved-parts p (f.compr q x a) h = h

member-parts : (p : Place) (a : FormTree) (w : Word) → Plain (form_parts a) → w.text.turn ≡ 0 → Plain (form_parts (f.member p a w))
unfolding form_parts
member-parts p a w h t = plain-and (form_parts a) (of_words (w ∷ [])) h (plain-word w t)

pub name-parts : (p : Place) (w : Word) → w.text.turn ≡ 0 → Plain (form_parts (f.name p w))
unfolding form_parts
name-parts p w t = plain-word w t

binary-parts : (o : SpecOp) (a b : FormTree) → Plain (form_parts a) → Plain (form_parts b) → Plain (form_parts (binary_of o a b))
unfolding form_parts
binary-parts o a b h k = plain-and (form_parts a) (form_parts b) h k

-- of words each of which has turn 0
abbrev pub AreFirst : List Word → Type 0
AreFirst ws = (w : Word) → Contains ws w → w.text.turn ≡ 0

pub none-first : AreFirst []
none-first w i = absurd (has-none w i)

pub more-first : (w : Word) (ws : List Word) → w.text.turn ≡ 0 → AreFirst ws → AreFirst (w ∷ ws)
more-first w ws t rest v i = ⊎_elim (λ e. ap (λ (u : Word). u.text.turn) (sym e) ∙ t) (rest v) (has-cases w ws v i)

module _ (ts : List Token) (fits : HasShape ts) where
  turn-of : (i : ℕ) (w : Word) → word_at ts i ≡ Some w → w.text.turn ≡ 0
  turn-of i w h = (word-mode ts fits i w h).1

  name-turn : (i : ℕ) (w : Word) → name_at ts i ≡ Some w → w.text.turn ≡ 0
  name-turn i w h = (name-mode ts fits i w h).1

  words-first : (i : ℕ) (ws : List Word) (j : ℕ) → Words ts i ws j → AreFirst ws
  words-first i [] j h = none-first
  words-first i (w ∷ ws) j h = more-first w ws (turn-of i w h.0) (words-first (i + 1) ws j h.1)

  names-first : {i j : ℕ} {ws : List Word} → Names ts i ws j → AreFirst ws
  names-first {i = i} (grammar.last {w = w} h) = more-first w [] (name-turn i w h) none-first
  names-first {i = i} (grammar.further {w = w} {ws = ws} h c p) = more-first w ws (name-turn i w h) (names-first p)

  constant-parts : (i : ℕ) (a : FormTree) → constant_at ts i ≡ Some a → Plain (form_parts a)
  unfolding constant_at form_parts
  constant-parts i a h = of_found {P = λ a. Plain (form_parts a)} (
      choose_holds (λ k. found plain-none) (λ _.
      choose_holds (λ k. found plain-none) (λ _.
      choose_holds (λ k. found plain-none) (λ _.
      choose_holds (λ k. found plain-none) (λ _.
      nothing))))) a h

  dots : {i j : ℕ} {a t : FormTree} → Dots ts a i t j → Plain (form_parts a) → Plain (form_parts t)
  dots grammar.done h = h
  dots {i = i} {a = a} (grammar.more {w = w} d g p) h = dots p (member-parts (place_of a) a w h (name-turn (i + 1) w g))

  mutual
    unfolding form_parts forms_parts

    pub operand : {n i j : ℕ} {t : FormTree} → Operand ts n i t j → Plain (form_parts t)
    operand (grammar.plain p) = right p
    operand {i = i} (grammar.all {j = j} {ws = ws} {a = a} s b t p c) = plain-and (of_words ws) (form_parts a) (plain-words ws (words-first (i + 1) ws j b.0)) (operand p)
    operand {i = i} (grammar.ex {j = j} {ws = ws} {a = a} s b t p c) = plain-and (of_words ws) (form_parts a) (plain-words ws (words-first (i + 1) ws j b.0)) (operand p)

    right : {n i j : ℕ} {t : FormTree} → Right ts n i t j → Plain (form_parts t)
    right (grammar.negated s p) = operand p
    right (grammar.compared p) = compared p
    right (grammar.tighter p) = right p
    right (grammar.joined {a = a} {b = b} {o = o} p e q) = binary-parts o a b (right p) (operand q)

    compared : {i j : ℕ} {t : FormTree} → Compared ts i t j → Plain (form_parts t)
    compared {i = i} (grammar.divides {z = z} {a = a} h d p) = plain-and (of_literal z) (form_parts a) (plain-literal z (number-mode ts fits i z h).1) (left p)
    compared (grammar.single p) = left p
    compared (grammar.both {a = a} {b = b} {o = o} p e q) = binary-parts o a b (left p) (left q)

    left : {n i j : ℕ} {t : FormTree} → Left ts n i t j → Plain (form_parts t)
    left (grammar.prefix p) = prefix p
    left (grammar.chain p c) = chain c (left p)

    chain : {n i j : ℕ} {a t : FormTree} → Chain ts n a i t j → Plain (form_parts a) → Plain (form_parts t)
    chain grammar.ended h = h
    chain {a = a} (grammar.extended {b = b} {o = o} e p c) h = chain c (binary-parts o a b h (left p))

    prefix : {i j : ℕ} {t : FormTree} → Prefix ts i t j → Plain (form_parts t)
    prefix (grammar.minus s p) = prefix p
    prefix (grammar.old s p) = prefix p
    prefix (grammar.card s p) = prefix p
    prefix (grammar.forest {ws = ws} s o p c) = plain-words ws (names-first p)
    prefix {i = i} (grammar.rtrancl {x = x} {y = y} {a = a} {b = b} {c = c} s o q g h d p cl u v) =
        plain-and (of_words (x ∷ y ∷ [])) (form_parts a and form_parts b and form_parts c) (plain-words (x ∷ y ∷ []) (more-first x (y ∷ []) (turn-of (i + 3) x g) (more-first y [] (turn-of (i + 4) y h) none-first)))
        (plain-and (form_parts a) (form_parts b and form_parts c) (operand p) (plain-and (form_parts b) (form_parts c) (postfix u) (postfix v)))
    prefix (grammar.postfix p) = postfix p

    pub postfix : {i j : ℕ} {t : FormTree} → Postfix ts i t j → Plain (form_parts t)
    postfix (grammar.reads p d) = dots d (atom p)

    atom : {i j : ℕ} {t : FormTree} → Atom ts i t j → Plain (form_parts t)
    atom {i = i} (grammar.name {w = w} h) = plain-word w (name-turn i w h)
    atom {i = i} (grammar.number {z = z} h) = plain-literal z (number-mode ts fits i z h).1
    atom {i = i} {t = a} (grammar.constant h) = constant-parts i a h
    atom {i = i} (grammar.bracket {a = a} o p c) = moved-parts (place_at ts i) a (operand p)
    atom (grammar.empty o c) = plain-none
    atom (grammar.braces o p c) = members p
    atom {i = i} (grammar.compr {x = x} {a = a} o h d p c) = plain-and (of_words (x ∷ [])) (form_parts a) (plain-word x (turn-of (i + 1) x h)) (operand p)

    members : {i j : ℕ} {ms : FormTrees} → Members ts i ms j → Plain (forms_parts ms)
    members (grammar.last_member {a = a} p) = plain-and (form_parts a) (forms_parts f.none) (operand p) plain-none
    members (grammar.more_members {a = a} {rest = rest} p c q) = plain-and (form_parts a) (forms_parts rest) (operand p) (members q)
