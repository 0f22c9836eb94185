use Rattle.std.proofs.Common.{◌≡◌, ◌≤◌, ◌<◌, ◌-◌, length, drop, [], ◌∷◌}
use Rattle.jh_lex.specs.declared.lexer.mode.Mode.TheVariants as mode
use Rattle.jh_spec.specs.nesting.Nesting as nest
use Rattle.jh_spec.proofs.nesting.nesting.first_deep.Given as goal

-- the first deep one from here on is the first of all
abbrev pub invariant-each : goal.invariant-each
invariant-each l = record {
  whole : nest.first_deep (nest.nestings l.mode l.levels.items (drop l.at l.tokens)) (drop l.at l.tokens) ≡ nest.first_deep (nest.nestings mode.Code (0 ∷ []) l.tokens) l.tokens;
  some : 0 < length l.levels.items;
  few : nest.nesting l.levels.items ≤ 64;
  inside : l.at ≤ length l.tokens;
  leads : l.leads ≡ nest.leads_on (drop l.at l.tokens);
}

abbrev pub decreases-each : goal.decreases-each
decreases-each l = length l.tokens - l.at
