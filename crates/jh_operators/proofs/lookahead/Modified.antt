-- Modifiers are read as they stand.
use Rattle.std.proofs.Common.{◌-◌, false, ◌≡◌, ℕ, zero, suc, ◌+◌, ◌<◌, List, [], ◌∷◌, ◌++◌, append_assoc, append-nil, length, ap, sym, ◌∙◌, subst, arith}
use Rattle.std.specs.Prelude.{Option, None, Some}
use Rattle.jh_lex.specs.declared.lexer.symbol.Symbol.{Symbol}
use Rattle.jh_lex.specs.declared.lexer.token.Token.{Token}
use Rattle.jh_operators.specs.lookahead.Modifiers.{has, ModifiersAfter, no_more, one_more, Modifiers, allowed_at, modifiers_at}
use Rattle.jh_operators.proofs.lookahead.Options.{Holds, nothing, found, given_holds, choose_holds, choose_off, given_on, given_off}

-- a fact of what is read, by another
pub weaker : {A : Type 0} {P Q : A → Type 0} {o : Option A} → Holds P o → ((x : A) → P x → Q x) → Holds Q o
weaker nothing go = nothing
weaker (found p) go = found (go _ p)

-- all that stand are those before, and then these
pub record Extend (ts : List Token) (allowed seen : List Symbol) (i : ℕ) (all : List Symbol) (j : ℕ) : Type 0 where
  pub these : List Symbol
  pub joined : all ≡ seen ++ these
  pub stand : ModifiersAfter ts allowed seen i these j

modifiers-from : (ts : List Token) (allowed : List Symbol) (k : ℕ) (seen : List Symbol) (i : ℕ) → Holds (λ r. Extend ts allowed seen i r.0 r.1) (modifiers_at ts allowed k seen i)
unfolding modifiers_at
modifiers-from ts allowed zero seen i = nothing
modifiers-from ts allowed (suc k) seen i = given_holds
    (λ s e. choose_holds (λ _. nothing) (λ new. weaker (modifiers-from ts allowed k (seen ++ s ∷ []) (i + 1)) (λ r x. record {
      these = s ∷ x.these;
      joined = x.joined ∙ append_assoc seen (s ∷ []) x.these;
      stand = one_more e new x.stand;
    })))
    (λ _. found (record { these = []; joined = sym (append-nil seen); stand = no_more }))

-- what is read, from none before, are the modifiers that stand there
pub modifiers-sound : (ts : List Token) (allowed : List Symbol) (k i : ℕ) → Holds (λ r. Modifiers ts allowed i r.0 r.1) (modifiers_at ts allowed k [] i)
modifiers-sound ts allowed k i = weaker (modifiers-from ts allowed k [] i) (λ r x. subst (λ ms. Modifiers ts allowed i ms r.1) (sym x.joined) x.stand)

modifiers-after : (ts : List Token) (allowed : List Symbol) (k : ℕ) {seen ms : List Symbol} {i j : ℕ} → ModifiersAfter ts allowed seen i ms j → allowed_at ts allowed j ≡ None → length ms < k → modifiers_at ts allowed k seen i ≡ Some (seen ++ ms, j)
unfolding modifiers_at
modifiers-after ts allowed zero p stop few = absurd (omega (arith, few))
modifiers-after ts allowed (suc k) {seen = seen} {j = j} no_more stop few = given_off _ stop (ap (λ l. Some (l, j)) (sym (append-nil seen)))
modifiers-after ts allowed (suc k) {seen = seen} {j = j} (one_more {ms = ms} {s = s} e new p) stop few = given_on _ _ e (choose_off _ new (modifiers-after ts allowed k p stop (omega (arith, few)) ∙ ap (λ l. Some (l, j)) (append_assoc seen (s ∷ []) ms)))

-- the modifiers that stand there are read, where none follows
pub modifiers-complete : (ts : List Token) (allowed : List Symbol) (k i j : ℕ) (ms : List Symbol) → Modifiers ts allowed i ms j → allowed_at ts allowed j ≡ None → length ms < k → modifiers_at ts allowed k [] i ≡ Some (ms, j)
modifiers-complete ts allowed k i j ms p stop few = modifiers-after ts allowed k p stop few

-- there are no more of them than tokens
pub modifiers-end : {ts : List Token} {allowed seen ms : List Symbol} {i j : ℕ} → ModifiersAfter ts allowed seen i ms j → j ≡ i + length ms
modifiers-end no_more = omega arith
modifiers-end (one_more e new p) = omega (arith, modifiers-end p)

-- one more modifier
pub modifiers-next : (ts : List Token) (allowed : List Symbol) (k i : ℕ) (s : Symbol) (seen new : List Symbol) → 0 < k → allowed_at ts allowed i ≡ Some s → has seen s ≡ false → new ≡ seen ++ s ∷ [] → modifiers_at ts allowed k seen i ≡ modifiers_at ts allowed (k - 1) new (i + 1)
unfolding modifiers_at
modifiers-next ts allowed zero i s seen new h e n q = absurd (omega (arith, h))
modifiers-next ts allowed (suc k) i s seen new h e n q = given_on _ _ e (choose_off _ n (λ l. modifiers_at ts allowed (before l) (sym q l) (i + 1))) where
  before : k ≡ suc k - 1
  before = omega arith
