use Rattle.std.proofs.Common.{sym, ◌∙◌, arith}
use Rattle.jh_spec.specs.parser.PartReads.{listed_at}
use Rattle.jh_spec.proofs.parser.Separated.{separated-next}
use Rattle.jh_spec.proofs.parser.clauses.separated.Goals as goal

pub each-preserved : goal.each-preserved
each-preserved c = record {
  whole = sym (separated-next c.args.tokens.now (listed_at c.args.tokens.now c.args.listed) c.each.turns c.each.at c.in_ok-word.next c.in_ok-word.word c.each.made.items c.push.new.self.items (omega (arith, c.each-test.true)) c.in_ok-word.ensures.value (sym c.is_symbol.ensures.value ∙ c.if-not-is_symbol.false) c.in_ok-push.ensures.items) ∙ c.each.invariant.whole;
  behind = omega (arith, c.in_ok-word.ensures.within, c.each.invariant.behind);
  inside = omega (arith, c.is_symbol.ensures.within c.if-not-is_symbol.false);
}
