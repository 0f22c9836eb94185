-- The parts that are given for a shape: those of its list first.
use Rattle.std.proofs.Common.{◌≡◌, refl, sym, ap, ◌∙◌, ℕ, ◌-◌, true, List, length, slice_get, Some, take, drop, length-append, length-drop, arith}
use Rattle.std.proofs.lemmas.List.{take-append-drop}
use Rattle.jh_arena.specs.table.Entries.{Pools}
use Rattle.jh_arena.specs.declared.table.shapes.Shape.{Shape}
use Rattle.jh_arena.specs.declared.table.shapes.Shape.TheVariants as s
use Rattle.jh_arena.specs.table.Parts.{own_parts, list_parts, parts, has_list, put}
use Rattle.jh_arena.proofs.table.Lists.{list_parts-none}
use Rattle.jh_arena.proofs.table.Tables.{take-whole}
use Rattle.jh_import.specs.carrying.Carried.{IsRenamed, IsPlaced, renamed}

renamed-parts : (k : ℕ) (x : Shape) → own_parts (renamed k x) ≡ own_parts x
unfolding renamed own_parts
renamed-parts k (s.FreeObject n) = refl
renamed-parts k (s.FreeNumber n) = refl
renamed-parts k (s.FreeTruth n) = refl
renamed-parts k (s.FreeSet n) = refl
renamed-parts k (s.FreeField n) = refl
renamed-parts k (s.Mark m a) = refl
renamed-parts k _ = refl

module _ (given : List ℕ) (p q : Pools) (x y : Shape) (count : ℕ) (counts : count ≡ length (own_parts x)) (as_many : length given ≡ length (parts p.lists x)) (named : IsRenamed p q x y) where
  fields-count : length given - count ≡ length (list_parts p.lists x)
  fields-count = omega (arith, length-append (list_parts p.lists x) (own_parts x))

  own : List ℕ
  own = drop (length given - count) given

  own-count : length own ≡ length (own_parts x)
  unfolding own
  own-count = omega (arith, length-drop (length given - count) given, length-append (list_parts p.lists x) (own_parts x))

  own-whole : take (length given - (length given - count)) own ≡ own
  unfolding own
  own-whole = take-whole own (length given - (length given - count)) (omega (arith, own-count, length-append (list_parts p.lists x) (own_parts x)))

  -- as many as the renamed shape has
  pub put-counts : length (take (length given - (length given - count)) (drop (length given - count) given)) ≡ length (own_parts y)
  unfolding own
  put-counts = ap length own-whole ∙ own-count ∙ ap length (sym (ap own_parts named.is ∙ renamed-parts named.number x))

  pub placed-is : (r : Shape) (l : ℕ) → r ≡ put l (take (length given - (length given - count)) (drop (length given - count) given)) y → (has_list x ≡ true → slice_get q.lists l ≡ Some (take (length given - count) given)) → IsPlaced p q given x r
  unfolding own
  placed-is r l is listed = record {
    number = named.number;
    list = l;
    fields = take (length given - count) given;
    own = own;
    split = sym (take-append-drop (length given - count) given);
    counted = own-count;
    entry = named.entry;
    is = is ∙ ap (λ ns. put l ns y) own-whole ∙ ap (put l own) named.is;
    listed = listed;
    unlisted = λ h. let none : length given - count ≡ 0 = fields-count ∙ ap length (list_parts-none p.lists x h) in ap (λ n. take n given) none;
  }
