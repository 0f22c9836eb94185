use Rattle.std.proofs.Common.{length, map, ℕ, ap, sym, ◌∙◌, arith, Vec, Global}
use Rattle.std.proofs.lemmas.Result.{err_from_is_err_and}
use Rattle.jh_ast.specs.declared.program.Field.{Field}
use Rattle.jh_ast.specs.Bare.{field_part}
use Rattle.jh_operators.proofs.lookahead.Lists.{error-passes}
use Rattle.jh_parse.specs.programs.MemberReading as read
use Rattle.jh_parse.proofs.programs.Commas.{with_rest, separated-begin, separated-next, separated-last, separated-none, separated-short}
use Rattle.jh_parse.proofs.programs.fields.several.Goals as goal

-- nothing is made yet
pub each-init : goal.each-init
each-init c = record {
  whole = ap (λ l. with_rest c.args.tokens.now (read.one_at c.args.tokens.now c.args.jtype.now c.args.fixed) field_part l (length c.args.tokens.now) c.args.from) c.new-made.ensures.items ∙ separated-begin c.args.tokens.now (read.one_at c.args.tokens.now c.args.jtype.now c.args.fixed) field_part (length c.args.tokens.now) c.args.from;
  behind = omega arith;
  inside = c.requires;
}

-- one more
pub each-preserved : goal.each-preserved
each-preserved c = record {
  whole = sym (separated-next c.args.tokens.now (read.one_at c.args.tokens.now c.args.jtype.now c.args.fixed) field_part c.each.turns c.each.at c.in_ok-one.next c.in_ok-one.one c.each.made.items c.push.new.self.items (omega (arith, c.each-test.true)) c.in_ok-one.ensures.value (sym c.is_symbol.ensures.value ∙ c.if-not-is_symbol.false) c.in_ok-push.ensures.items) ∙ c.each.invariant.whole;
  behind = omega (arith, c.in_ok-one.ensures.within, c.each.invariant.behind);
  inside = omega (arith, c.is_symbol.ensures.within c.if-not-is_symbol.false);
}

-- the last one
pub returns-then-not-is_symbol-clause-value : goal.returns-then-not-is_symbol-clause-value
returns-then-not-is_symbol-clause-value c = separated-last c.args.tokens.now (read.one_at c.args.tokens.now c.args.jtype.now c.args.fixed) field_part c.each.turns c.each.at c.in_ok-one.next c.in_ok-one.one c.each.made.items c.push.new.self.items _ (omega (arith, c.each-test.true)) c.in_ok-one.ensures.value (sym c.is_symbol.ensures.value ∙ c.if-not-is_symbol.true) c.in_ok-push.ensures.items c.each.invariant.whole

-- nothing stands there
pub returns-in_err-one-clause-value : goal.returns-in_err-one-clause-value
returns-in_err-one-clause-value c =
    let p = err_from_is_err_and c.from_residual.result c.from_residual.ensures.1 in
    rw (p.1, p.2) (error-passes {X = Field × ℕ} {U = Vec Field Global × ℕ} (λ r. (field_part r.0, r.1)) (λ r. (map field_part r.0.items, r.1)) c.in_err-one.field-0.0 c.in_err-one.ensures.value (λ e.
    separated-none c.args.tokens.now (read.one_at c.args.tokens.now c.args.jtype.now c.args.fixed) field_part c.each.turns c.each.at c.each.made.items _ e c.each.invariant.whole))

-- there is no turn left
pub returns-clause-value : goal.returns-clause-value
returns-clause-value c = separated-short c.args.tokens.now (read.one_at c.args.tokens.now c.args.jtype.now c.args.fixed) field_part c.each.turns c.each.at c.each.made.items _ (omega (arith, c.each-test.false)) c.each.invariant.whole
