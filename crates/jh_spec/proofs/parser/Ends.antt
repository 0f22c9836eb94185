-- What is spelled ends behind its beginning.
use Rattle.std.proofs.Common.{ℕ, ◌+◌, ◌<◌, ◌≤◌, List, [], ◌∷◌, arith}
use Rattle.jh_lex.specs.declared.lexer.token.Token.{Token}
use Rattle.jh_ast.specs.declared.word.Word.{Word}
use Rattle.jh_ast.specs.Forms.{FormTree, FormTrees}
use Rattle.jh_spec.specs.parser.Formulas.{Words, Bound, Typed, Names, Dots, Operand, Right, Compared, Left, Chain, Prefix, Postfix, Atom, Members}
use Rattle.jh_spec.specs.parser.Formulas as grammar

module _ (ts : List Token) where
  pub words-end : (i : ℕ) (ws : List Word) (j : ℕ) → Words ts i ws j → i ≤ j
  words-end i [] j h = omega (arith, h)
  words-end i (w ∷ ws) j h = omega (arith, words-end (i + 1) ws j h.1)

  pub typed-end : {i j : ℕ} → Typed ts i j → i < j
  typed-end (grammar.untyped d) = omega arith
  typed-end (grammar.typed c o d) = omega arith

  pub names-end : {i j : ℕ} {ws : List Word} → Names ts i ws j → i < j
  names-end (grammar.last e) = omega arith
  names-end (grammar.further e c p) = omega (arith, names-end p)

  pub dots-end : {i j : ℕ} {a t : FormTree} → Dots ts a i t j → i ≤ j
  dots-end grammar.done = omega arith
  dots-end (grammar.more d e p) = omega (arith, dots-end p)

  mutual
    pub operand-end : {n i j : ℕ} {t : FormTree} → Operand ts n i t j → i < j
    operand-end (grammar.plain p) = right-end p
    operand-end {i = i} (grammar.all {j = j} {ws = ws} s b t p c) = omega (arith, words-end (i + 1) ws j b.0, typed-end t, operand-end p)
    operand-end {i = i} (grammar.ex {j = j} {ws = ws} s b t p c) = omega (arith, words-end (i + 1) ws j b.0, typed-end t, operand-end p)

    pub right-end : {n i j : ℕ} {t : FormTree} → Right ts n i t j → i < j
    right-end (grammar.negated s p) = omega (arith, operand-end p)
    right-end (grammar.compared p) = compared-end p
    right-end (grammar.tighter p) = right-end p
    right-end (grammar.joined p e q) = omega (arith, right-end p, operand-end q)

    pub compared-end : {i j : ℕ} {t : FormTree} → Compared ts i t j → i < j
    compared-end (grammar.divides e d p) = omega (arith, left-end p)
    compared-end (grammar.single p) = left-end p
    compared-end (grammar.both p e q) = omega (arith, left-end p, left-end q)

    pub left-end : {n i j : ℕ} {t : FormTree} → Left ts n i t j → i < j
    left-end (grammar.prefix p) = prefix-end p
    left-end (grammar.chain p c) = omega (arith, left-end p, chain-end c)

    pub chain-end : {n i j : ℕ} {a t : FormTree} → Chain ts n a i t j → i ≤ j
    chain-end grammar.ended = omega arith
    chain-end (grammar.extended e p c) = omega (arith, left-end p, chain-end c)

    pub prefix-end : {i j : ℕ} {t : FormTree} → Prefix ts i t j → i < j
    prefix-end (grammar.minus s p) = omega (arith, prefix-end p)
    prefix-end (grammar.old s p) = omega (arith, prefix-end p)
    prefix-end (grammar.card s p) = omega (arith, prefix-end p)
    prefix-end (grammar.forest s o p c) = omega (arith, names-end p)
    prefix-end (grammar.rtrancl s o q x y d p c a b) = omega (arith, operand-end p, postfix-end a, postfix-end b)
    prefix-end (grammar.postfix p) = postfix-end p

    pub postfix-end : {i j : ℕ} {t : FormTree} → Postfix ts i t j → i < j
    postfix-end (grammar.reads p d) = omega (arith, atom-end p, dots-end d)

    pub atom-end : {i j : ℕ} {t : FormTree} → Atom ts i t j → i < j
    atom-end (grammar.name e) = omega arith
    atom-end (grammar.number e) = omega arith
    atom-end (grammar.constant e) = omega arith
    atom-end (grammar.bracket o p c) = omega (arith, operand-end p)
    atom-end (grammar.empty o c) = omega arith
    atom-end (grammar.braces o p c) = omega (arith, members-end p)
    atom-end (grammar.compr o x d p c) = omega (arith, operand-end p)

    pub members-end : {i j : ℕ} {ms : FormTrees} → Members ts i ms j → i < j
    members-end (grammar.last_member p) = operand-end p
    members-end (grammar.more_members p c q) = omega (arith, operand-end p, members-end q)
