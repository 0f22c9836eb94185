-- Lists of fields that were gathered: whether a list is among them, and one more.
use Rattle.std.proofs.Common.{◌≡◌, sym, ap, subst, ◌∙◌, ℕ, suc, ◌+◌, ◌≤◌, ◌||◌, Bool, true, false, if◌then◌else◌, List, [], ◌∷◌, ◌++◌, drop, length, slice_get, Option, Some, nat_eq, arith}
use Rattle.std.specs.Cmp.Lexicographic.{pointwise}
use Rattle.std.proofs.lemmas.List.{drop_all}
use Rattle.std.proofs.lemmas.Option.{slice_get_within}
use Rattle.jh_form.specs.Tree.{FieldTree}
use Rattle.jh_arena.specs.table.Entries.{Listing}
use Rattle.jh_arena.specs.table.Growth.{Extends, AreDifferent}
use Rattle.jh_arena.specs.table.Nodes.{nodes}
use Rattle.jh_reach.specs.declared.backbones.Base.{Base}
use Rattle.jh_reach.specs.Axioms.{BackboneTree}
use Rattle.jh_reach.specs.Based.{IsBaseAt}
use Rattle.jh_reach.specs.Standing.{AreFields}
use Rattle.jh_reach.proofs.Standings.{fields-grow}
use Rattle.jh_fca.specs.local_form.Chains.{has_axioms, same_list}
use Rattle.jh_local_form.proofs.updates.Places.{drop-next, some-same}
use Rattle.jh_local_form.specs.declared.field_lists.backbones.Backbone.{Backbone}
use Rattle.jh_local_form.specs.field_lists.Leading.{IsBackbone, AreBackbones, has_list, with_backbone}
use Rattle.jh_local_form.proofs.field_lists.Standing.{base-grows, backbones-grow, backbones-push, backbone-at, backbones-length}
use Rattle.jh_local_form.proofs.field_lists.Tested.{lists-are, axioms-apart}

-- the list of a backbone
pub list-inside : (t : Listing) (x : Backbone) (b : BackboneTree) (h : IsBackbone t x b) → suc x.list ≤ length t.pools.lists
list-inside t x b h = slice_get_within t.pools.lists x.list h.list.items h.list.listed

-- is one with another where their nodes are
pub same-fields : (t : Listing) → AreDifferent (nodes t) → (x : Backbone) (b : BackboneTree) (ns ms : List ℕ) (fs : List FieldTree) → IsBackbone t x b → slice_get t.pools.lists x.list ≡ Some ns → AreFields t ms fs → pointwise nat_eq ns ms ≡ same_list b.fields fs
same-fields t different x b ns ms fs h at are =
    let same : h.list.items ≡ ns = some-same h.list.items ns (sym h.list.listed ∙ at) in
    lists-are t different ns ms b.fields fs (subst (λ (ks : List ℕ). AreFields t ks b.fields) same h.list.fields) are (axioms-apart b.fields h.known)

-- ---- one after another

module _ (t : Listing) (xs : List Backbone) (bs : List BackboneTree) (fs : List FieldTree) (are : AreBackbones t xs bs) where
  -- what is looked at and isn't the list
  pub other-passed : (i : ℕ) (x : Backbone) (r : Bool) → slice_get xs i ≡ Some x → ((b : BackboneTree) → IsBackbone t x b → r ≡ same_list b.fields fs) → r ≡ false → has_list (drop i bs) fs ≡ has_list bs fs → has_list (drop (i + 1) bs) fs ≡ has_list bs fs
  other-passed i x r at told wrong h =
      let b = backbone-at t xs bs i x are at in
      ap (λ c. c || has_list (drop (i + 1) bs) fs) (sym wrong ∙ told b.0 b.2) ∙ ap (λ ds. has_list ds fs) (sym (drop-next bs i b.0 b.1)) ∙ h

  -- what is the list
  pub list-found : (i : ℕ) (x : Backbone) (r : Bool) → slice_get xs i ≡ Some x → ((b : BackboneTree) → IsBackbone t x b → r ≡ same_list b.fields fs) → r ≡ true → has_list (drop i bs) fs ≡ has_list bs fs → true ≡ has_list bs fs
  list-found i x r at told right h =
      let b = backbone-at t xs bs i x are at in
      ap (λ c. c || has_list (drop (i + 1) bs) fs) (sym right ∙ told b.0 b.2) ∙ ap (λ ds. has_list ds fs) (sym (drop-next bs i b.0 b.1)) ∙ h

  -- nothing is left
  pub none-found : (i : ℕ) → length xs ≤ i → has_list (drop i bs) fs ≡ has_list bs fs → false ≡ has_list bs fs
  none-found i past h = ap (λ ds. has_list ds fs) (sym (drop_all i bs (let e = backbones-length t xs bs are in omega (arith, e, past)))) ∙ h

-- ---- one more

-- a list that is there already
pub known-added : (t : Listing) (xs : List Backbone) (bs : List BackboneTree) (b : BackboneTree) → AreBackbones t xs bs → has_list bs b.fields ≡ true → AreBackbones t xs (with_backbone bs b)
known-added t xs bs b are e = subst (λ (c : Bool). AreBackbones t xs (if c then bs else bs ++ b ∷ [])) (sym e) are

-- one that is new
pub new-added : (t u : Listing) → Extends t u → (xs ys : List Backbone) (ns : List ℕ) (list : ℕ) (base : Option Base) (bs : List BackboneTree) (b : BackboneTree) →
    AreBackbones t xs bs → has_list bs b.fields ≡ false → slice_get u.pools.lists list ≡ Some ns → AreFields t ns b.fields → IsBaseAt t base b.base → has_axioms b.fields ≡ true →
    ys ≡ xs ++ record { list = list; base = base } ∷ [] → AreBackbones u ys (with_backbone bs b)
new-added t u g xs ys ns list base bs b are e listed fields based known pushed =
    let one : IsBackbone u (record { list = list; base = base }) b = record {
      list = record { items = ns; listed = listed; fields = fields-grow t u ns b.fields g fields };
      base = base-grows t u g base b.base based;
      known = known;
    } in
    subst (λ (c : Bool). AreBackbones u ys (if c then bs else bs ++ b ∷ [])) (sym e)
    (subst (λ (zs : List Backbone). AreBackbones u zs (bs ++ b ∷ [])) (sym pushed) (backbones-push u xs bs (record { list = list; base = base }) b (backbones-grow t u g xs bs are) one))
