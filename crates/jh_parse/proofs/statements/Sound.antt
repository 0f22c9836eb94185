-- What is read is spelled.
use Rattle.std.proofs.Common.{◌≡◌, ℕ, zero, suc, ◌+◌, List, length, refl, subst}
use Rattle.std.specs.Prelude.{Some}
use Rattle.jh_lex.specs.declared.lexer.symbol.Symbol.TheVariants as symbol
use Rattle.jh_lex.specs.declared.lexer.token.Token.{Token}
use Rattle.jh_operators.specs.lookahead.Standing.{Is, word_at}
use Rattle.jh_operators.proofs.lookahead.Options.{Holds, nothing, found, then_holds, then_found, choose_holds, behind_holds}
use Rattle.jh_parse.proofs.expressions.Sound.{holds_by, expression-sound, rhs-sound, reads_at-sound, call_of-sound, target_of-sound}
use Rattle.jh_spec.proofs.parser.PartSound.{loop-sound, statements-sound}
use Rattle.jh_parse.specs.statements.Statements.{Typed, Initial, Condition, Invariants, Body, Several, Piece, Part, Statement}
use Rattle.jh_parse.specs.statements.Statements as grammar
use Rattle.jh_parse.specs.statements.Reading.{Inside, typed_at, initial_at, condition_at, invariants_at, declared_at, local_at, call_after, assign_after, simple_at, return_at, part_of, piece_of, several_of, body_of, block_of, else_of, if_of, while_of, statement_of, inside, body_at}

module _ (ts : List Token) where
  pub typed-sound : (i : ℕ) → Holds (λ r. Typed ts i r.0 r.1) (typed_at ts i)
  unfolding typed_at
  typed-sound i = choose_holds (λ e. found (grammar.an_int e)) (λ _. choose_holds (λ e. found (grammar.a_boolean e)) (λ _. then_found (λ w e. found (grammar.of_class e))))

  initial-sound : (i : ℕ) → Holds (λ r. Initial ts i r.0 r.1) (initial_at ts i)
  unfolding initial_at
  initial-sound i = choose_holds (λ e. then_holds (rhs-sound ts (i + 1)) (λ r p. found (grammar.with e p))) (λ _. found grammar.without)

  condition-sound : (i : ℕ) → Holds (λ r. Condition ts i r.0 r.1) (condition_at ts i)
  unfolding condition_at
  condition-sound i = behind_holds _ _ _ _ _ (λ o. then_holds (expression-sound ts (i + 1)) (λ c p. behind_holds _ _ _ _ _ (λ d. found (grammar.condition o p d))))

  invariants-sound : (n i : ℕ) → Holds (λ r. Invariants ts n i r.0 r.1 r.2) (invariants_at ts n i)
  unfolding invariants_at
  invariants-sound n i = choose_holds (λ o. then_holds (loop-sound ts n (i + 1)) (λ ls p. found (grammar.invariants o p))) (λ _. found grammar.no_invariants)

  local-sound : (n i : ℕ) → Holds (λ r. Statement ts n i r.0 r.1 r.2) (local_at ts n i)
  unfolding local_at declared_at
  local-sound n i = then_holds {P = λ d. (a : ℕ) × Typed ts i d.0.jtype a × (word_at ts a ≡ Some d.0.name) × (d.1 ≡ a + 1)} (then_holds (typed-sound i) (λ t p. then_found (λ w e. found (t.1, p, e, refl))))
      (λ d h. then_holds (initial-sound d.1) (λ r q. behind_holds _ _ _ _ _ (λ c. found (grammar.declared h.1 h.2 (subst (λ m. Initial ts m r.0 r.1) h.3 q) c))))

  simple-sound : (n i : ℕ) → Holds (λ r. Statement ts n i r.0 r.1 r.2) (simple_at ts n i)
  unfolding simple_at call_after assign_after
  simple-sound n i = then_holds (reads_at-sound ts i) (λ r p. choose_holds
      (λ _. then_holds (call_of-sound ts p) (λ c q. behind_holds _ _ _ _ _ (λ e. found (grammar.called q e))))
      (λ _. then_holds (target_of-sound ts p) (λ t q. behind_holds _ _ _ _ _ (λ e. then_holds (rhs-sound ts (r.2 + 1)) (λ v s. behind_holds _ _ _ _ _ (λ c. found (grammar.assigned q e s c)))))))

  return-sound : (n i : ℕ) → Is ts i symbol.Return → Holds (λ r. Statement ts n i r.0 r.1 r.2) (return_at ts n i)
  unfolding return_at
  return-sound n i s = choose_holds (λ e. found (grammar.return_nothing s e)) (λ _. then_holds (expression-sound ts (i + 1)) (λ a p. behind_holds _ _ _ _ _ (λ e. found (grammar.return_value s p e))))

  module _ (inside : Inside) (sound : (n i : ℕ) → Holds (λ r. Statement ts n i r.0 r.1 r.2) (inside n i)) where
    part-sound : (n i : ℕ) → Holds (λ r. Part ts n i r.0 r.1 r.2) (part_of ts inside n i)
    unfolding part_of
    part-sound n i = choose_holds (λ o. then_holds (statements-sound ts n (i + 1)) (λ ss p. found (grammar.together o p))) (λ _. holds_by (sound n i) (λ r p. grammar.alone p))

    piece-sound : (n i : ℕ) → Holds (λ r. Piece ts n i r.0 r.1 r.2) (piece_of ts inside n i)
    unfolding piece_of
    piece-sound n i = choose_holds (λ o. then_holds (statements-sound ts n (i + 1)) (λ ss p. found (grammar.spoken o p))) (λ _. then_holds (sound n i) (λ s p. found (grammar.one p)))

    several-sound : (k n i : ℕ) → Holds (λ r. Several ts n i r.0 r.1 r.2 × Is ts r.1 symbol.RightBrace) (several_of ts inside k n i)
    unfolding several_of
    several-sound zero n i = choose_holds (λ e. found (grammar.none, e)) (λ _. nothing)
    several-sound (suc k) n i = choose_holds (λ e. found (grammar.none, e)) (λ _. then_holds (piece-sound n i) (λ p q. then_holds (several-sound k p.2 p.1) (λ r s. found (grammar.more q s.0, s.1))))

    pub body-sound : (n i : ℕ) → Holds (λ r. Body ts n i r.0 r.1 r.2) (body_of ts inside n i)
    unfolding body_of
    body-sound n i = behind_holds _ _ _ _ _ (λ o. holds_by (several-sound (length ts) n (i + 1)) (λ r p. grammar.body o p.0 p.1))

    if-sound : (n i : ℕ) → Is ts i symbol.If → Holds (λ r. Statement ts n i r.0 r.1 r.2) (if_of ts inside n i)
    unfolding if_of else_of
    if-sound n i s = then_holds (condition-sound (i + 1)) (λ c p. then_holds (part-sound n c.1) (λ a q. choose_holds
        (λ e. then_holds (part-sound a.2 (a.1 + 1)) (λ b r. found (grammar.if_else s p q e r)))
        (λ e. found (grammar.if_alone s p q e))))

    while-sound : (n i : ℕ) → Is ts i symbol.While → Holds (λ r. Statement ts n i r.0 r.1 r.2) (while_of ts inside n i)
    unfolding while_of
    while-sound n i s = then_holds (invariants-sound n (i + 1)) (λ ls p. then_holds (condition-sound ls.1) (λ c q. then_holds (part-sound ls.2 c.1) (λ a r. found (grammar.while s p q r))))

    statement-sound : (n i : ℕ) → Holds (λ r. Statement ts n i r.0 r.1 r.2) (statement_of ts inside n i)
    unfolding statement_of block_of
    statement-sound n i =
        choose_holds (λ s. found (grammar.empty s)) (λ _.
        choose_holds (λ s. then_holds (body-sound n i) (λ ss p. found (grammar.block p))) (λ _.
        choose_holds (λ s. if-sound n i s) (λ _.
        choose_holds (λ s. while-sound n i s) (λ _.
        choose_holds (λ s. return-sound n i s) (λ _.
        choose_holds (λ s. local-sound n i) (λ _. simple-sound n i))))))

pub inside-sound : (ts : List Token) (k n i : ℕ) → Holds (λ r. Statement ts n i r.0 r.1 r.2) (inside ts k n i)
unfolding inside
inside-sound ts zero n i = nothing
inside-sound ts (suc k) n i = statement-sound ts (inside ts k) (inside-sound ts k) n i

-- what is read as a body is spelled
pub body_at-sound : (ts : List Token) (n i : ℕ) → Holds (λ r. Body ts n i r.0 r.1 r.2) (body_at ts n i)
unfolding body_at
body_at-sound ts n i = body-sound ts (inside ts (length ts)) (inside-sound ts (length ts)) n i
