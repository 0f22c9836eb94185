use Rattle.std.proofs.Common.{sym, ap, subst, ◌∙◌, ◌+◌, [], ◌∷◌, ◌++◌, take, filter, map, List}
use Rattle.std.proofs.lemmas.List.{map_push}
use Rattle.jh_name.specs.declared.naming.Name.{Name}
use Rattle.jh_arena.specs.table.Growth.{Grows}
use Rattle.jh_semantics.specs.Code.{Text}
use Rattle.jh_semantics.specs.Program.{Member}
use Rattle.jh_state_facts.specs.well_formedness.States.{member_in, members_in}
use Rattle.jh_machine_code.proofs.numbering.Standing.{grows_twice}
use Rattle.jh_heap_layout.specs.declared.loading.places.Place.{Place}
use Rattle.jh_heap_layout.proofs.loading.Lists.{taken-more, there}
use Rattle.jh_heap_layout.specs.layout.Chosen.{is_chosen}
use Rattle.jh_heap_layout.specs.layout.Lasting.{HasPlaces}
use Rattle.jh_heap_layout.proofs.layout.Numbering.{places_more}
use Rattle.jh_heap_layout.proofs.layout.Choosing.{chosen-more, chosen-still}
use Rattle.jh_heap_layout.proofs.layout.places.member_places.Goals as goal
use Rattle.jh_heap_layout.proofs.layout.places.member_places.Goals.{then-is_among+in_ok-place+in_ok-push, else-is_among}

pub loop-member-preserved : goal.loop-member-preserved
loop-member-preserved c =
    let members = c.args.members.now in
    let i = c.loop-member.member-index in
    let x = c.member-item.result in
    let test = is_chosen c.args.statics in
    let known = c.loop-member.invariant in
    let old = c.loop-member.made.items in
    let taken = taken-more members i x (there members i x c.loop-member-test.true c.member-item.is) in
    let images = λ (classes : List Text). ap (map (member_in classes)) taken ∙ map_push (member_in classes) (take i members) x in
    elim c.if-is_among.branch [
      | then-is_among+in_ok-place+in_ok-push w ↦
          record {
            names = subst (λ (ns : List Name). Grows c.args.names.now ns) (sym w.names-is) (grows_twice known.names w.place_of.ensures.grows);
            places = λ classes.
                let before = map (member_in classes) (take i members) in
                let y = member_in classes x in
                let kept = ap (filter test) (images classes) ∙ chosen-more test before y (sym (c.is_among.ensures classes) ∙ w.if-is_among.true) in
                let whole = places_more (known.places classes) w.place_of.ensures.grows (w.in_ok-place.ensures.place classes) in
                subst (λ (ns : List Name). HasPlaces ns c.if-is_among.made.items (filter test (members_in classes (take (i + 1) members)))) (sym w.names-is)
                (subst (λ (ks : List Place). HasPlaces w.place_of.new.names ks (filter test (members_in classes (take (i + 1) members)))) (sym (ap (λ v. v.items) w.made-is ∙ w.in_ok-push.ensures.items))
                (subst (λ (ys : List Member). HasPlaces w.place_of.new.names (old ++ w.in_ok-place.place ∷ []) ys) (sym kept) whole));
          }
      | else-is_among w ↦
          record {
            names = subst (λ (ns : List Name). Grows c.args.names.now ns) (sym w.names-is) known.names;
            places = λ classes.
                let before = map (member_in classes) (take i members) in
                let y = member_in classes x in
                let kept = ap (filter test) (images classes) ∙ chosen-still test before y (sym (c.is_among.ensures classes) ∙ w.if-is_among.false) in
                subst (λ (ns : List Name). HasPlaces ns c.if-is_among.made.items (filter test (members_in classes (take (i + 1) members)))) (sym w.names-is)
                (subst (λ (ks : List Place). HasPlaces c.loop-member.names ks (filter test (members_in classes (take (i + 1) members)))) (sym (ap (λ v. v.items) w.made-is))
                (subst (λ (ys : List Member). HasPlaces c.loop-member.names old ys) (sym kept) (known.places classes)));
          }
    ]
