-- What is read is spelled.
use Rattle.std.proofs.Common.{◌≡◌, ℕ, zero, suc, ◌+◌, ◌≤◌, Bool, true, false, List, length, refl, arith}
use Rattle.std.proofs.lemmas.Bool.{false≢true, eqb-false}
use Rattle.std.specs.Prelude.{Option, Some, ◌&&◌}
use Rattle.jh_lex.specs.declared.lexer.symbol.Symbol.TheVariants as symbol
use Rattle.jh_lex.specs.declared.lexer.token.Token.{Token}
use Rattle.jh_ast.specs.declared.word.Word.{Word}
use Rattle.jh_ast.specs.Forms.{FormTree, FormTrees, place_of, moved}
use Rattle.jh_ast.specs.Forms as form
use Rattle.jh_operators.specs.lookahead.Standing.{Is, word_at, name_at}
use Rattle.jh_spec.specs.parser.Formulas.{Words, Bound, Typed, Names, Dots, Operand, Right, Compared, Left, Chain, Prefix, Postfix, Atom, Members, Spelled, binary_of}
use Rattle.jh_spec.specs.parser.Formulas as grammar
use Rattle.jh_spec.specs.parser.Reading.{Inside, words_at, bound_at, typed_at, names_at, members_of, bracket_of, compr_of, braces_of, simple_at, set_of, atom_of, dots_at, postfix_of, forest_of, pair_at, rtrancl_of, signed_of, prefix_of, left_of, chain_of, divides_of, compared_of, right_of, quantified_of, operand_of, inside, formula_at}
use Rattle.jh_operators.proofs.lookahead.Options.{Holds, nothing, found, then_holds, then_found, last_holds, choose_holds, given_holds, behind_holds}

-- what is read deeper inside is spelled
pub record Sound (ts : List Token) (inside : Inside) : Type 0 where
  pub operand : (n i : ℕ) → Holds (λ r. Operand ts n i r.0 r.1) (inside.operand n i)
  pub prefix : (i : ℕ) → Holds (λ r. Prefix ts i r.0 r.1) (inside.prefix i)
  pub chain : (n : ℕ) (a : FormTree) (i : ℕ) → Holds (λ r. Chain ts n a i r.0 r.1) (inside.chain n a i)
  pub members : (i : ℕ) → Holds (λ r. Members ts i r.0 r.1) (inside.members i)

words-sound : (ts : List Token) (k i : ℕ) → Holds (λ r. Words ts i r.0 r.1 × (length r.0 ≤ k)) (words_at ts k i)
unfolding words_at
words-sound ts zero i = found (refl, omega arith)
words-sound ts (suc k) i = choose_holds (λ _. then_found (λ w e. then_holds (words-sound ts k (i + 1)) (λ r p. found ((e, p.0), omega (arith, p.1))))) (λ _. found (refl, omega arith))

bound-sound : (ts : List Token) (i : ℕ) → Holds (λ r. Bound ts i r.0 r.1) (bound_at ts i)
unfolding bound_at
bound-sound ts i = then_holds (words-sound ts 8 i) (λ ws p. choose_holds (λ e. nothing) (λ e. found (p.0, omega (arith, eqb-false _ _ e), p.1)))

typed-sound : (ts : List Token) (i : ℕ) → Holds (λ j. Typed ts i j) (typed_at ts i)
unfolding typed_at
typed-sound ts i = choose_holds (λ c. choose_holds (λ o. last_holds _ _ _ _ (λ d. grammar.typed c o d)) (λ e. nothing)) (λ e. last_holds _ _ _ _ (λ d. grammar.untyped d))

names-sound : (ts : List Token) (k i : ℕ) → Holds (λ r. Names ts i r.0 r.1) (names_at ts k i)
unfolding names_at
names-sound ts zero i = nothing
names-sound ts (suc k) i = then_found (λ w e. choose_holds (λ c. then_holds (names-sound ts k (i + 2)) (λ r p. found (grammar.further e c p))) (λ c. found (grammar.last e)))

dots-sound : (ts : List Token) (k : ℕ) (a : FormTree) (i : ℕ) → Holds (λ r. Dots ts a i r.0 r.1) (dots_at ts k a i)
unfolding dots_at
dots-sound ts zero a i = nothing
dots-sound ts (suc k) a i = choose_holds (λ d. then_found (λ w e. Holds-dots d e (dots-sound ts k (form.member (place_of a) a w) (i + 2)))) (λ d. found grammar.done) where
  Holds-dots : {w : Word} {o : Option (FormTree × ℕ)} → Is ts i symbol.DotDot → name_at ts (i + 1) ≡ Some w → Holds (λ r. Dots ts (form.member (place_of a) a w) (i + 2) r.0 r.1) o → Holds (λ r. Dots ts a i r.0 r.1) o
  Holds-dots d e nothing = nothing
  Holds-dots d e (found p) = found (grammar.more d e p)

-- a fact of what is read, by another
holds_by : {A : Type 0} {P Q : A → Type 0} {o : Option A} → Holds P o → ((x : A) → P x → Q x) → Holds Q o
holds_by nothing go = nothing
holds_by (found p) go = found (go _ p)

module _ (ts : List Token) (inside : Inside) (sound : Sound ts inside) where
  members-sound : (i : ℕ) → Holds (λ r. Members ts i r.0 r.1) (members_of ts inside i)
  unfolding members_of
  members-sound i = then_holds (sound.operand 3 i) (λ a p. choose_holds (λ c. then_holds (sound.members (a.1 + 1)) (λ r q. found (grammar.more_members p c q))) (λ c. found (grammar.last_member p)))

  bracket-sound : (i : ℕ) → Is ts i symbol.LeftParenthesis → Holds (λ r. Atom ts i r.0 r.1) (bracket_of ts inside i)
  unfolding bracket_of
  bracket-sound i opens = then_holds (sound.operand 3 (i + 1)) (λ a p. behind_holds _ _ _ _ _ (λ closes. found (grammar.bracket opens p closes)))

  compr-sound : (i : ℕ) → Is ts i symbol.LeftBrace → Is ts (i + 2) symbol.Dot → Holds (λ r. Atom ts i r.0 r.1) (compr_of ts inside i)
  unfolding compr_of
  compr-sound i opens dot = then_found (λ x e. then_holds (sound.operand 3 (i + 3)) (λ a p. behind_holds _ _ _ _ _ (λ closes. found (grammar.compr opens e dot p closes))))

  braces-sound : (i : ℕ) → Is ts i symbol.LeftBrace → Holds (λ r. Atom ts i r.0 r.1) (braces_of ts inside i)
  unfolding braces_of
  braces-sound i opens = then_holds (sound.members (i + 1)) (λ ms p. behind_holds _ _ _ _ _ (λ closes. found (grammar.braces opens p closes)))

  simple-sound : (i : ℕ) → Holds (λ r. Atom ts i r.0 r.1) (simple_at ts i)
  unfolding simple_at
  simple-sound i = choose_holds (λ c. then_found (λ w e. found (grammar.name e))) (λ c. given_holds (λ z e. found (grammar.number e)) (λ n. given_holds (λ b e. found (grammar.constant e)) (λ m. nothing)))

  set-sound : (i : ℕ) → Is ts i symbol.LeftBrace → Holds (λ r. Atom ts i r.0 r.1) (set_of ts inside i)
  unfolding set_of
  set-sound i opens = choose_holds (λ closes. found (grammar.empty opens closes)) (λ n. choose_holds (λ c. compr-sound i opens (second _ _ c)) (λ c. braces-sound i opens)) where
    second : (a b : Bool) → (a && b) ≡ true → b ≡ true
    second true b e = e
    second false b e = absurd (false≢true e)

  atom-sound : (i : ℕ) → Holds (λ r. Atom ts i r.0 r.1) (atom_of ts inside i)
  unfolding atom_of
  atom-sound i = choose_holds (λ opens. bracket-sound i opens) (λ n. choose_holds (λ opens. set-sound i opens) (λ m. simple-sound i))

  pub postfix-sound : (i : ℕ) → Holds (λ r. Postfix ts i r.0 r.1) (postfix_of ts inside i)
  unfolding postfix_of
  postfix-sound i = then_holds (atom-sound i) (λ a p. holds_by (dots-sound ts (suc (length ts)) a.0 a.1) (λ r q. grammar.reads p q))

  forest-sound : (i : ℕ) → Is ts i symbol.Tree → Holds (λ r. Prefix ts i r.0 r.1) (forest_of ts i)
  unfolding forest_of
  forest-sound i word = behind_holds _ _ _ _ _ (λ opens. then_holds (names-sound ts (suc (length ts)) (i + 2)) (λ ws p. behind_holds _ _ _ _ _ (λ closes. found (grammar.forest word opens p closes))))

  rtrancl-sound : (i : ℕ) → Is ts i symbol.RtranclPt → Holds (λ r. Prefix ts i r.0 r.1) (rtrancl_of ts inside i)
  unfolding rtrancl_of pair_at
  rtrancl-sound i word = then_holds
      (behind_holds _ _ _ _ (λ xy. Is ts (i + 1) symbol.LeftParenthesis × Is ts (i + 2) symbol.Percent × (word_at ts (i + 3) ≡ Some xy.0) × (word_at ts (i + 4) ≡ Some xy.1) × Is ts (i + 5) symbol.Dot) (λ opens. behind_holds _ _ _ _ _ (λ percent. then_found (λ x e. then_found (λ y f. behind_holds _ _ _ _ _ (λ dot. found (opens, percent, e, f, dot)))))))
      (λ xy h. then_holds (sound.operand 3 (i + 6)) (λ a p. behind_holds _ _ _ _ _ (λ closes. then_holds (postfix-sound (a.1 + 1)) (λ b q. then_holds (postfix-sound b.1) (λ c r. found (grammar.rtrancl word h.0 h.1 h.2 h.3 h.4 p closes q r))))))

  prefix-sound : (i : ℕ) → Holds (λ r. Prefix ts i r.0 r.1) (prefix_of ts inside i)
  unfolding prefix_of signed_of
  prefix-sound i =
      choose_holds (λ s. then_holds (sound.prefix (i + 1)) (λ a p. found (grammar.minus s p))) (λ _.
      choose_holds (λ s. then_holds (sound.prefix (i + 1)) (λ a p. found (grammar.old s p))) (λ _.
      choose_holds (λ s. then_holds (sound.prefix (i + 1)) (λ a p. found (grammar.card s p))) (λ _.
      choose_holds (λ s. forest-sound i s) (λ _.
      choose_holds (λ s. rtrancl-sound i s) (λ _. holds_by (postfix-sound i) (λ r p. grammar.postfix p))))))

  left-sound : (n i : ℕ) → Holds (λ r. Left ts n i r.0 r.1) (left_of ts inside n i)
  unfolding left_of
  left-sound zero i = holds_by (prefix-sound i) (λ r p. grammar.prefix p)
  left-sound (suc n) i = then_holds (left-sound n i) (λ a p. holds_by
      (given_holds {Q = λ r. Chain ts n a.0 a.1 r.0 r.1} (λ o e. then_holds (left-sound n (a.1 + 1)) (λ b q. holds_by (sound.chain n (binary_of o a.0 b.0) b.1) (λ r c. grammar.extended e q c))) (λ e. found grammar.ended))
      (λ r c. grammar.chain p c))

  chain-sound : (n : ℕ) (a : FormTree) (i : ℕ) → Holds (λ r. Chain ts n a i r.0 r.1) (chain_of ts inside n a i)
  unfolding chain_of
  chain-sound n a i = given_holds (λ o e. then_holds (left-sound n (i + 1)) (λ b q. holds_by (sound.chain n (binary_of o a b.0) b.1) (λ r c. grammar.extended e q c))) (λ e. found grammar.ended)

  compared-sound : (i : ℕ) → Holds (λ r. Compared ts i r.0 r.1) (compared_of ts inside i)
  unfolding compared_of divides_of
  compared-sound i = choose_holds
      (λ d. then_found (λ z e. then_holds (left-sound 2 (i + 2)) (λ a p. found (grammar.divides e (second _ _ d) p))))
      (λ _. then_holds (left-sound 2 i) (λ a p. given_holds (λ o e. then_holds (left-sound 2 (a.1 + 1)) (λ b q. found (grammar.both p e q))) (λ e. found (grammar.single p)))) where
        second : (a b : Bool) → (a && b) ≡ true → b ≡ true
        second true b e = e
        second false b e = absurd (false≢true e)

  right-sound : (n i : ℕ) → Holds (λ r. Right ts n i r.0 r.1) (right_of ts inside n i)
  unfolding right_of
  right-sound zero i = choose_holds (λ s. then_holds (sound.operand 0 (i + 1)) (λ a p. found (grammar.negated s p))) (λ _. holds_by (compared-sound i) (λ r p. grammar.compared p))
  right-sound (suc n) i = then_holds (right-sound n i) (λ a p. given_holds (λ o e. then_holds (sound.operand (suc n) (a.1 + 1)) (λ b q. found (grammar.joined p e q))) (λ e. found (grammar.tighter p)))

  operand-sound : (n i : ℕ) → Holds (λ r. Operand ts n i r.0 r.1) (operand_of ts inside n i)
  unfolding operand_of quantified_of
  operand-sound n i =
      choose_holds (λ s. then_holds (bound-sound ts (i + 1)) (λ ws b. then_holds (typed-sound ts ws.1) (λ j t. then_holds (sound.operand 3 j) (λ a p. choose_holds (λ c. found (grammar.all s b t p c)) (λ _. nothing))))) (λ _.
      choose_holds (λ s. then_holds (bound-sound ts (i + 1)) (λ ws b. then_holds (typed-sound ts ws.1) (λ j t. then_holds (sound.operand 3 j) (λ a p. choose_holds (λ c. found (grammar.ex s b t p c)) (λ _. nothing))))) (λ _.
      holds_by (right-sound n i) (λ r p. grammar.plain p)))

pub inside-sound : (ts : List Token) (k : ℕ) → Sound ts (inside ts k)
unfolding inside
inside-sound ts zero = record { operand = λ n i. nothing; prefix = λ i. nothing; chain = λ n a i. nothing; members = λ i. nothing }
inside-sound ts (suc k) = record {
  operand = operand-sound ts (inside ts k) (inside-sound ts k);
  prefix = prefix-sound ts (inside ts k) (inside-sound ts k);
  chain = chain-sound ts (inside ts k) (inside-sound ts k);
  members = members-sound ts (inside ts k) (inside-sound ts k);
}

-- what is read as a formula is spelled
pub formula-sound : (ts : List Token) (i : ℕ) → Holds (λ r. Spelled ts i r.0 r.1) (formula_at ts i)
unfolding formula_at
formula-sound ts i = then_holds (operand-sound ts (inside ts (length ts)) (inside-sound ts (length ts)) 3 i) (λ a p. choose_holds (λ q. found (record { formula = p; quote = q })) (λ _. nothing))
