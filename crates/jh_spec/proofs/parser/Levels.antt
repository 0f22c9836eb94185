-- The readers one level down.
use Rattle.std.proofs.Common.{◌≡◌, ℕ, zero, suc, ◌+◌, ◌-◌, ◌<◌, List, refl, ap, sym, ◌∙◌, arith}
use Rattle.std.specs.Prelude.{None, Some}
use Rattle.jh_lex.specs.declared.lexer.token.Token.{Token}
use Rattle.jh_ast.specs.Forms.{FormTree}
use Rattle.jh_operators.specs.lookahead.Choices.{and_then, given}
use Rattle.jh_spec.specs.parser.Operators.{operator_at}
use Rattle.jh_spec.specs.parser.Formulas.{binary_of}
use Rattle.jh_spec.specs.parser.Reading.{Inside, inside, operand_of, prefix_of, chain_of, members_of, left_of, right_of}

before : (k : ℕ) → suc k - 1 ≡ k
before k = omega arith

pub operand-in : (ts : List Token) (k n i : ℕ) → 0 < k → (inside ts k).operand n i ≡ operand_of ts (inside ts (k - 1)) n i
unfolding inside
operand-in ts zero n i h = absurd (omega arith)
operand-in ts (suc k) n i h = ap (λ m. operand_of ts (inside ts m) n i) (sym (before k))

pub operand-none : (ts : List Token) (n i : ℕ) → (inside ts 0).operand n i ≡ None
unfolding inside
operand-none ts n i = refl

pub prefix-in : (ts : List Token) (k i : ℕ) → 0 < k → (inside ts k).prefix i ≡ prefix_of ts (inside ts (k - 1)) i
unfolding inside
prefix-in ts zero i h = absurd (omega arith)
prefix-in ts (suc k) i h = ap (λ m. prefix_of ts (inside ts m) i) (sym (before k))

pub prefix-none : (ts : List Token) (i : ℕ) → (inside ts 0).prefix i ≡ None
unfolding inside
prefix-none ts i = refl

pub chain-in : (ts : List Token) (k n : ℕ) (a : FormTree) (i : ℕ) → 0 < k → (inside ts k).chain n a i ≡ chain_of ts (inside ts (k - 1)) n a i
unfolding inside
chain-in ts zero n a i h = absurd (omega arith)
chain-in ts (suc k) n a i h = ap (λ m. chain_of ts (inside ts m) n a i) (sym (before k))

pub chain-none : (ts : List Token) (n : ℕ) (a : FormTree) (i : ℕ) → (inside ts 0).chain n a i ≡ None
unfolding inside
chain-none ts n a i = refl

pub members-in : (ts : List Token) (k i : ℕ) → 0 < k → (inside ts k).members i ≡ members_of ts (inside ts (k - 1)) i
unfolding inside
members-in ts zero i h = absurd (omega arith)
members-in ts (suc k) i h = ap (λ m. members_of ts (inside ts m) i) (sym (before k))

pub members-none : (ts : List Token) (i : ℕ) → (inside ts 0).members i ≡ None
unfolding inside
members-none ts i = refl

pub left-level : (ts : List Token) (ins : Inside) (n i : ℕ) → 0 < n → left_of ts ins n i ≡ and_then (left_of ts ins (n - 1) i) (λ a. chain_of ts ins (n - 1) a.0 a.1)
unfolding left_of chain_of
left-level ts ins zero i h = absurd (omega arith)
left-level ts ins (suc n) i h = ap (λ m. and_then (left_of ts ins m i) (λ a. chain_of ts ins m a.0 a.1)) (sym (before n))

pub right-level : (ts : List Token) (ins : Inside) (n i : ℕ) → 0 < n → right_of ts ins n i ≡ and_then (right_of ts ins (n - 1) i) (λ a. given (operator_at ts (4 + n) a.1) (λ o. and_then (ins.operand n (a.1 + 1)) (λ b. Some (binary_of o a.0 b.0, b.1))) (Some a))
unfolding right_of
right-level ts ins zero i h = absurd (omega arith)
right-level ts ins (suc n) i h = ap (λ m. and_then (right_of ts ins m i) (λ a. given (operator_at ts (5 + n) a.1) (λ o. and_then (ins.operand (suc n) (a.1 + 1)) (λ b. Some (binary_of o a.0 b.0, b.1))) (Some a))) (sym (before n))
    ∙ ap (λ m. and_then (right_of ts ins (suc n - 1) i) (λ a. given (operator_at ts m a.1) (λ o. and_then (ins.operand (suc n) (a.1 + 1)) (λ b. Some (binary_of o a.0 b.0, b.1))) (Some a))) five where
      five : 5 + n ≡ 4 + suc n
      five = omega arith

pub ruleset level_steps = (operand-in, operand-none, prefix-in, prefix-none, chain-in, chain-none, members-in, members-none, left-level, right-level)
