use Rattle.std.proofs.Common.{arith, sym, ◌∙◌}
use Rattle.jh_spec.proofs.parser.Members.{members-next, members-last}
use Rattle.jh_spec.proofs.parser.formulas.+reading.Goals as goal

pub members-returns-then-is_symbol-clause-value : goal.members-returns-then-is_symbol-clause-value
members-returns-then-is_symbol-clause-value t c =
    rw (members-next c.args.tokens.now c.args.room c.args.at c.in_ok-member.next c.in_ok-member.member.value c.args.made.now.items c.add_member.new.made.items (omega arith) c.in_ok-member.ensures.value (sym c.is_symbol.ensures.value ∙ c.if-is_symbol.true) c.in_ok-add_member.ensures) c.members.ensures.value

pub members-returns-clause-value : goal.members-returns-clause-value
members-returns-clause-value t c =
    members-last c.args.tokens.now c.args.room c.args.at c.in_ok-member.next c.in_ok-member.member.value c.args.made.now.items c.add_member.new.made.items (omega arith) c.in_ok-member.ensures.value (sym c.is_symbol.ensures.value ∙ c.if-is_symbol.false) c.in_ok-add_member.ensures
