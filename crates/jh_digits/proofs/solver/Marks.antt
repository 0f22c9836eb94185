-- A table stays one when a node is reached, and when its steps were followed.
use Rattle.std.proofs.Common.{◌≡◌, ◌≢◌, ℕ, suc, ◌+◌, ◌*◌, ◌-◌, ◌≤◌, ◌<◌, List, length, get_or, set, refl, sym, ap, ◌∙◌, ⊎_elim, arith}
use Rattle.std.proofs.lemmas.Bool.{cases_eq}
use Rattle.std.proofs.lemmas.List.{get_or-set_same, get_or-set_other, length-set}
use Rattle.std.proofs.lemmas.List.Sums.{sum_by-set}
use Rattle.std.proofs.lemmas.Nat.{mul-add-lt, same_from_place}
use Rattle.jh_digits.specs.declared.systems.system.System.{System}
use Rattle.jh_digits.specs.solver.Cells.{cell_count}
use Rattle.jh_digits.specs.solver.Closed.{start_of, end_of}
use Rattle.jh_digits.specs.solver.Table.{node_of, mark_of, taken_of, halved_of, CanTake, CanHalve, marks_left, IsFollowed, IsTable, Adds}
use Rattle.jh_digits.proofs.solver.Cells.{cell_below}
use Rattle.jh_digits.proofs.solver.Coordinates.{start_range, end_range}

pub node_within : (s : System) (j c : ℕ) → j ≤ s.columns → c < cell_count s → node_of s j c < (s.columns + 1) * cell_count s
node_within s j c h k = omega (arith, mul-add-lt j (cell_count s) c (s.columns + 1) (omega arith) k)

pub taken_below : (s : System) (j c : ℕ) → CanTake s j c → taken_of s j c < cell_count s
unfolding CanTake taken_of
taken_below s j c h = cell_below s _ h

pub halved_below : (s : System) (c : ℕ) → CanHalve s c → halved_of s c < cell_count s
unfolding CanHalve halved_of
halved_below s c h = cell_below s _ h

pub start_below : (s : System) → start_of s < cell_count s
unfolding start_of
start_below s = cell_below s _ (start_range s)

pub end_below : (s : System) → end_of s < cell_count s
unfolding end_of
end_below s = cell_below s _ (end_range s)

-- reached nodes stay reached
abbrev pub Kept : System → List ℕ → List ℕ → Type 0
Kept s t t' = (j c : ℕ) → j ≤ s.columns → c < cell_count s → mark_of s t j c ≢ 0 → mark_of s t' j c ≢ 0

pub followed_kept : (s : System) (t t' : List ℕ) → Kept s t t' → (j c : ℕ) → c < cell_count s → IsFollowed s t j c → IsFollowed s t' j c
followed_kept s t t' kept j c i f = record {
  skip = λ h. kept (suc j) c h i (f.skip h);
  take = λ h can. kept (suc j) (taken_of s j c) h (taken_below s j c can) (f.take h can);
  halve = λ h can. kept 0 (halved_of s c) (omega arith) (halved_below s c can) (f.halve h can);
}

pub kept_by_same : (s : System) (t t' : List ℕ) → ((j c : ℕ) → j ≤ s.columns → c < cell_count s → mark_of s t j c ≢ 0 → mark_of s t' j c ≡ mark_of s t j c) → Kept s t t'
kept_by_same s t t' same j c h i m e = m (sym (same j c h i m) ∙ e)

pub adds_none : (s : System) (t : List ℕ) → IsTable s t → Adds s t t
adds_none s t table = record { table = table; same = λ j c h i m. refl; fewer = omega arith }

pub adds_both : (s : System) (t u w : List ℕ) → Adds s t u → Adds s u w → Adds s t w
adds_both s t u w f g = record {
  table = g.table;
  same = λ j c h i m. g.same j c h i (kept_by_same s t u f.same j c h i m) ∙ f.same j c h i m;
  fewer = omega (arith, f.fewer, g.fewer);
}

pub adds_reached : (s : System) (t u : List ℕ) → Adds s t u → Kept s t u
adds_reached s t u f = kept_by_same s t u f.same

module _ (s : System) (t : List ℕ) (j c v : ℕ) (table : IsTable s t) (h : j ≤ s.columns) (i : c < cell_count s) where
  inside : node_of s j c < length t
  inside = rw table.count (node_within s j c h i)

  left_set : marks_left (set t (node_of s j c) v) + (255 - mark_of s t j c) ≡ marks_left t + (255 - v)
  unfolding marks_left mark_of
  left_set = sum_by-set (λ mark. 255 - mark) t (node_of s j c) v 0 inside

  old_here : (j' c' : ℕ) → node_of s j' c' ≡ node_of s j c → mark_of s t j' c' ≡ mark_of s t j c
  unfolding mark_of
  old_here j' c' e = ap (λ n. get_or t n 0) e

  here : (j' c' : ℕ) → node_of s j' c' ≡ node_of s j c → mark_of s (set t (node_of s j c) v) j' c' ≡ v
  unfolding mark_of
  here j' c' e = ap (λ n. get_or (set t (node_of s j c) v) n 0) e ∙ get_or-set_same t (node_of s j c) v 0 inside

  there : (j' c' : ℕ) → node_of s j' c' ≢ node_of s j c → mark_of s (set t (node_of s j c) v) j' c' ≡ mark_of s t j' c'
  unfolding mark_of
  there j' c' e = get_or-set_other t (node_of s j c) (node_of s j' c') v 0 e

  counted : length (set t (node_of s j c) v) ≡ (s.columns + 1) * cell_count s
  counted = length-set t (node_of s j c) v ∙ table.count

  pub reached_here : v ≢ 0 → mark_of s (set t (node_of s j c) v) j c ≢ 0
  reached_here nonzero e = nonzero (sym (here j c refl) ∙ e)

  -- a node that was not reached
  module _ (none : mark_of s t j c ≡ 0) (low : v < 128) where
    same : (j' c' : ℕ) → j' ≤ s.columns → c' < cell_count s → mark_of s t j' c' ≢ 0 → mark_of s (set t (node_of s j c) v) j' c' ≡ mark_of s t j' c'
    same j' c' h' i' m = there j' c' (λ e. m (old_here j' c' e ∙ none))

    followed_after : (j' c' : ℕ) → j' ≤ s.columns → c' < cell_count s → 128 ≤ mark_of s (set t (node_of s j c) v) j' c' → IsFollowed s (set t (node_of s j c) v) j' c'
    followed_after j' c' h' i' m =
        ⊎_elim
        (λ (e : node_of s j' c' ≡ node_of s j c). absurd (omega (arith, here j' c' e)))
        (λ (e : node_of s j' c' ≡ node_of s j c → ⊥). followed_kept s t (set t (node_of s j c) v) (kept_by_same s t (set t (node_of s j c) v) same) j' c' i' (table.followed j' c' h' i' (omega (arith, there j' c' e))))
        (cases_eq (node_of s j' c') (node_of s j c))

    pub reach_adds : Adds s t (set t (node_of s j c) v)
    reach_adds = record {
      table = record {
        count = counted;
        start = kept_by_same s t (set t (node_of s j c) v) same 0 (start_of s) (omega arith) (start_below s) table.start;
        followed = followed_after;
      };
      same = same;
      fewer = omega (arith, left_set, none);
    }

  -- a node that was reached, and whose steps were followed
  module _ (m : ℕ) (mark : mark_of s t j c ≡ m) (low : m < 128) (more : v ≡ m + 128) (done : IsFollowed s t j c) where
    grown : Kept s t (set t (node_of s j c) v)
    grown j' c' h' i' k z =
        ⊎_elim
        (λ (e : node_of s j' c' ≡ node_of s j c). absurd (omega (arith, here j' c' e)))
        (λ (e : node_of s j' c' ≡ node_of s j c → ⊥). k (sym (there j' c' e) ∙ z))
        (cases_eq (node_of s j' c') (node_of s j c))

    followed_at : (j' c' : ℕ) → j' ≡ j → c' ≡ c → IsFollowed s t j' c'
    followed_at j' c' e f = rw (e, f) done

    done_here : (j' c' : ℕ) → c' < cell_count s → node_of s j' c' ≡ node_of s j c → IsFollowed s t j' c'
    done_here j' c' i' e = let both = same_from_place j' c' j c (cell_count s) i' i e in followed_at j' c' both.0 both.1

    done_after : (j' c' : ℕ) → j' ≤ s.columns → c' < cell_count s → 128 ≤ mark_of s (set t (node_of s j c) v) j' c' → IsFollowed s (set t (node_of s j c) v) j' c'
    done_after j' c' h' i' k =
        ⊎_elim
        (λ (e : node_of s j' c' ≡ node_of s j c). followed_kept s t (set t (node_of s j c) v) grown j' c' i' (done_here j' c' i' e))
        (λ (e : node_of s j' c' ≡ node_of s j c → ⊥). followed_kept s t (set t (node_of s j c) v) grown j' c' i' (table.followed j' c' h' i' (omega (arith, there j' c' e))))
        (cases_eq (node_of s j' c') (node_of s j c))

    pub finish_table : IsTable s (set t (node_of s j c) v)
    finish_table = record {
      count = counted;
      start = grown 0 (start_of s) (omega arith) (start_below s) table.start;
      followed = done_after;
    }

    pub finish_fewer : marks_left (set t (node_of s j c) v) < marks_left t
    finish_fewer = omega (arith, left_set, mark)
