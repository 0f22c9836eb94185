use Rattle.std.proofs.Common.{◌≡◌, ◌+◌, ◌≤◌, ◌<◌, ◌∷◌, false, length, get_or, drop, ℕ, suc, List, ap, sym, ◌∙◌, arith, add-one, drop-cons}
use Rattle.std.specs.Prelude.{nat_lt, if◌then◌else◌, Some}
use Rattle.jh_lex.specs.declared.lexer.mode.Mode.{Mode}
use Rattle.jh_lex.specs.declared.lexer.token.Token.{Token}
use Rattle.jh_lex.specs.lexer.Modes.{mode_after}
use Rattle.jh_spec.specs.nesting.Nesting.{nesting, nestings, first_deep, with_token, behind_token, goes_on}
use Rattle.jh_spec.proofs.nesting.Bounds.{with-some, with-few, behind-some, behind-few}
use Rattle.jh_spec.proofs.nesting.nesting.first_deep.Goals as goal

-- one token further
next : (m : Mode) (ls more : List ℕ) (ts : List Token) (at : ℕ) (t : Token) → at < length ts → t ≡ get_or ts at t → more ≡ behind_token m t.kind (goes_on m t.kind (drop (at + 1) ts)) (with_token m t.kind ls) → nesting (with_token m t.kind ls) ≤ 64
    → first_deep (nestings (mode_after m t.kind) more (drop (at + 1) ts)) (drop (at + 1) ts) ≡ first_deep (nestings m ls (drop at ts)) (drop at ts)
next m ls more ts at t inside here e small =
    let whole : drop at ts ≡ t ∷ drop (at + 1) ts = drop-cons ts at t inside ∙ ap (λ x. x ∷ drop (suc at) ts) (sym here) ∙ ap (λ k. t ∷ drop k ts) (sym (add-one at)) in
    let shallow : nat_lt 64 (nesting (with_token m t.kind ls)) ≡ false = grind (arith, small) in
    ap (λ new. first_deep (nestings (mode_after m t.kind) new (drop (at + 1) ts)) (drop (at + 1) ts)) e
    ∙ sym (ap (λ b. if b then Some t.place else first_deep (nestings (mode_after m t.kind) (behind_token m t.kind (goes_on m t.kind (drop (at + 1) ts)) (with_token m t.kind ls)) (drop (at + 1) ts)) (drop (at + 1) ts)) shallow)
    ∙ sym (ap (λ l. first_deep (nestings m ls l) l) whole)

pub nesting-requires-clause-some : goal.nesting-requires-clause-some
nesting-requires-clause-some c = rw (c.deref.ensures.value, c.in_ok-take_token.ensures.value) (with-some c.each.mode c.index-tokens-at.result.kind c.each.levels.items c.each.invariant.some)

pub nesting-requires-clause-few : goal.nesting-requires-clause-few
nesting-requires-clause-few c = rw (c.deref.ensures.value, c.in_ok-take_token.ensures.value) (omega (arith, with-few c.each.mode c.index-tokens-at.result.kind c.each.levels.items c.each.invariant.some, c.each.invariant.few))

pub end_token-requires : goal.end_token-requires
end_token-requires c = record { some = rw c.in_ok-take_token.ensures.value (with-some c.each.mode c.index-tokens-at.result.kind c.each.levels.items c.each.invariant.some) }

pub each-preserved : goal.each-preserved
each-preserved c =
    let made : c.take_token.new.levels.items ≡ with_token c.each.mode c.index-tokens-at.result.kind c.each.levels.items = c.in_ok-take_token.ensures.value in
    let some : 0 < length c.take_token.new.levels.items = rw made (with-some c.each.mode c.index-tokens-at.result.kind c.each.levels.items c.each.invariant.some) in
    let counted : c.nesting.result ≡ nesting c.deref.result.now = c.nesting.ensures in
    let small : nesting (with_token c.each.mode c.index-tokens-at.result.kind c.each.levels.items) ≤ 64 = omega (arith, counted, c.if-nesting-gt64.false, ap nesting (c.deref.ensures.value ∙ made)) in
    let more : c.end_token.new.levels.items ≡ behind_token c.each.mode c.index-tokens-at.result.kind (goes_on c.each.mode c.index-tokens-at.result.kind (drop (c.each.at + 1) c.args.tokens.now)) (with_token c.each.mode c.index-tokens-at.result.kind c.each.levels.items) = c.end_token.ensures.value ∙ ap (λ b. behind_token c.each.mode c.index-tokens-at.result.kind b c.take_token.new.levels.items) c.goes_on-continues.ensures ∙ ap (λ l. behind_token c.each.mode c.index-tokens-at.result.kind (goes_on c.each.mode c.index-tokens-at.result.kind (drop (c.each.at + 1) c.args.tokens.now)) l) made in
    record {
      whole = rw c.after-mode.ensures (next c.each.mode c.each.levels.items c.end_token.new.levels.items c.args.tokens.now c.each.at c.index-tokens-at.result c.each-test.true c.index-tokens-at.is more small ∙ c.each.invariant.whole);
      some = rw more (behind-some c.each.mode c.index-tokens-at.result.kind (goes_on c.each.mode c.index-tokens-at.result.kind (drop (c.each.at + 1) c.args.tokens.now)) (with_token c.each.mode c.index-tokens-at.result.kind c.each.levels.items) (with-some c.each.mode c.index-tokens-at.result.kind c.each.levels.items c.each.invariant.some));
      few = rw more (omega (arith, small, behind-few c.each.mode c.index-tokens-at.result.kind (goes_on c.each.mode c.index-tokens-at.result.kind (drop (c.each.at + 1) c.args.tokens.now)) (with_token c.each.mode c.index-tokens-at.result.kind c.each.levels.items) (with-some c.each.mode c.index-tokens-at.result.kind c.each.levels.items c.each.invariant.some)));
      inside = omega (arith, c.each-test.true);
      leads = c.leads_behind-leads.ensures;
    }
