use Rattle.std.proofs.Common.{◌≡◌, sym, ap, subst, ◌∙◌, ℕ, List, drop, length, ◌-◌, arith}
use Rattle.jh_arena.specs.table.Nodes.{nodes}
use Rattle.jh_arena.proofs.table.Listed.{extends-refl, extends-trans}
use Rattle.jh_fca.specs.local_form.Chains.{ChangeTree, changes_of}
use Rattle.jh_local_form.specs.updates.Remaining.{naming-grows}
use Rattle.jh_local_form.proofs.updates.Renamed.{named-length, update-there}
use Rattle.jh_local_form.specs.field_lists.Changing.{AreChanges}
use Rattle.jh_local_form.proofs.field_lists.Standing.{changes-none}
use Rattle.jh_local_form.proofs.field_lists.Changed.{changes-begin, changes-next}
use Rattle.jh_local_form.proofs.field_lists.changing.changes.Goals as goal

pub loop-turn-init : goal.loop-turn-init
loop-turn-init c = record {
  made = λ us is.
      subst (λ (cs : List ChangeTree). AreChanges (nodes c.args.table.now) c.new-made.result.items cs) (sym (changes-begin us c.args.names.now.first (length us - 0) (omega arith)))
      (changes-none (nodes c.args.table.now) c.new-made.result.items c.new-made.ensures.items);
  grows = extends-refl c.args.table.now;
}

pub add_change-requires-clause-names : goal.add_change-requires-clause-names
add_change-requires-clause-names c = (c.requires.names.0, naming-grows c.args.table.now c.loop-turn.table c.loop-turn.invariant.grows c.args.names.now c.requires.names.0 c.requires.names.1)

pub loop-turn-preserved : goal.loop-turn-preserved
loop-turn-preserved c =
    let t0 = c.args.table.now in
    let t1 = c.loop-turn.table in
    let t2 = c.add_change.new.table in
    let n = c.args.names.now in
    record {
      made = λ us is.
          let long : length us ≡ length n.names = named-length t0 n us is in
          let now = naming-grows t0 t1 c.loop-turn.invariant.grows n us is in
          let i = c.len.result - 1 - c.loop-turn.turn in
          let u = update-there t0 n us is i (search arith) in
          subst (λ (cs : List ChangeTree). AreChanges (nodes t2) c.add_change.new.made.items cs)
          (changes-next us n.first i u.0 (length us - c.loop-turn.turn) u.1 (search (arith, long)) ∙ ap (λ m. changes_of us n.first (drop m us)) (search (arith, long)))
          (c.in_ok-add_change.ensures.change us u.0 (changes_of us n.first (drop (length us - c.loop-turn.turn) us)) now u.1 (c.loop-turn.invariant.made us is));
      grows = extends-trans t0 t1 t2 c.loop-turn.invariant.grows c.add_change.ensures.grows;
    }

pub returns-clause-changes : goal.returns-clause-changes
returns-clause-changes c = λ us is.
    let n = c.args.names.now in
    let long : length us ≡ length n.names = named-length c.args.table.now n us is in
    subst (λ (m : ℕ). AreChanges (nodes c.loop-turn.table) c.loop-turn.made.items (changes_of us n.first (drop m us))) {y = 0} (search (arith, long)) (c.loop-turn.invariant.made us is)
