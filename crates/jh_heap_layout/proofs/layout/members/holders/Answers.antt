use Rattle.std.proofs.Common.{sym, ap, ◌∙◌, ◌+◌, ◌++◌, drop, map, filter}
use Rattle.std.proofs.lemmas.List.{map_push}
use Rattle.jh_state_facts.specs.well_formedness.States.{member_in}
use Rattle.jh_heap.specs.text.Held.{holder_in, holders_in}
use Rattle.jh_heap.specs.text.Outlines.{member_holder}
use Rattle.jh_heap_layout.proofs.loading.Lists.{left-at, there}
use Rattle.jh_heap_layout.specs.layout.Chosen.{is_chosen}
use Rattle.jh_heap_layout.proofs.layout.Choosing.{one-kept, one-passed}
use Rattle.jh_heap_layout.proofs.layout.members.holders.Goals as goal
use Rattle.jh_heap_layout.proofs.layout.members.holders.Goals.{then-is_among+in_ok-push, else-is_among}

pub loop-member-preserved : goal.loop-member-preserved
loop-member-preserved c =
    let classes = c.args.classes.now in
    let members = c.args.members.now in
    let i = c.loop-member.member-index in
    let x = c.member-item.result in
    let g = member_in classes in
    let test = is_chosen c.args.statics in
    let made = holders_in c.loop-member.made.items in
    let all = map member_holder (filter test (map g members)) in
    let left = left-at members i x (there members i x c.loop-member-test.true c.member-item.is) in
    elim c.if-is_among.branch [
      | then-is_among+in_ok-push w ↦
          ap (λ v. holders_in v.items ++ map member_holder (filter test (map g (drop (i + 1) members)))) w.made-is
          ∙ ap (λ hs. holders_in hs ++ map member_holder (filter test (map g (drop (i + 1) members)))) w.in_ok-push.ensures.items
          ∙ ap (λ hs. hs ++ map member_holder (filter test (map g (drop (i + 1) members)))) (map_push holder_in c.loop-member.made.items w.holder_of.result)
          ∙ one-kept g test member_holder made (drop i members) (drop (i + 1) members) all x c.loop-member.invariant left (sym (c.is_among.ensures classes) ∙ w.if-is_among.true) (holder_in w.holder_of.result) w.holder_of.ensures
      | else-is_among w ↦
          ap (λ v. holders_in v.items ++ map member_holder (filter test (map g (drop (i + 1) members)))) w.made-is
          ∙ one-passed g test member_holder made (drop i members) (drop (i + 1) members) all x c.loop-member.invariant left (sym (c.is_among.ensures classes) ∙ w.if-is_among.false)
    ]
