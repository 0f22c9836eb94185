-- A shape with other parts: the list's fields stand first among them.
use Rattle.std.proofs.Common.{◌≡◌, sym, ap, ◌∙◌, ℕ, ◌-◌, true, List, length, slice_get, Some, take, drop, length-append, length-drop, arith}
use Rattle.std.proofs.lemmas.List.{take-append-drop}
use Rattle.jh_arena.specs.declared.table.shapes.Shape.{Shape}
use Rattle.jh_arena.specs.table.Parts.{own_parts, list_parts, parts, has_list, put, IsPut}
use Rattle.jh_arena.proofs.table.Lists.{list_parts-none}
use Rattle.jh_arena.proofs.table.Tables.{take-whole}

module _ (given : List ℕ) (ls new : List (List ℕ)) (x r : Shape) (l count : ℕ) (counts : count ≡ length (own_parts x)) (as_many : length given ≡ length (parts ls x))
    (is : r ≡ put l (take (length given - (length given - count)) (drop (length given - count) given)) x)
    (listed : has_list x ≡ true → slice_get new l ≡ Some (take (length given - count) given)) where
  fields-count : length given - count ≡ length (list_parts ls x)
  fields-count = omega (arith, length-append (list_parts ls x) (own_parts x))

  own : List ℕ
  own = drop (length given - count) given

  own-count : length own ≡ length (own_parts x)
  unfolding own
  own-count = omega (arith, length-drop (length given - count) given, length-append (list_parts ls x) (own_parts x))

  pub put-is : IsPut new given x r
  unfolding own
  put-is = record {
    list = l;
    fields = take (length given - count) given;
    own = own;
    split = sym (take-append-drop (length given - count) given);
    counted = own-count;
    is = is ∙ ap (λ ns. put l ns x) (take-whole own (length given - (length given - count)) (omega (arith, own-count, length-append (list_parts ls x) (own_parts x))));
    listed = listed;
    unlisted = λ h. let none : length given - count ≡ 0 = fields-count ∙ ap length (list_parts-none ls x h) in ap (λ n. take n given) none;
  }
