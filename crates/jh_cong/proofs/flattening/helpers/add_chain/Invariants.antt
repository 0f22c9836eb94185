use Rattle.std.proofs.Common.{◌-◌, drop, length}
use Rattle.jh_cong.specs.flattening.Plain.{IsChain, AddsHelpers}
use Rattle.jh_cong.proofs.flattening.helpers.add_chain.Given as goal

-- the fields from the end on are a list
abbrev pub invariant-loop-turn : goal.invariant-loop-turn
invariant-loop-turn l = record {
  chain : IsChain l.count l.helpers.items (drop (length l.fields - l.turn) l.fields) l.chain;
  adds : AddsHelpers l.count l.fn.helpers.items l.helpers.items;
}
