-- Sequents whose formulas are nodes of a table, and whose hypotheses are lists that share what they begin with.
use Rattle.std.specs.Prelude.{◌≡◌, ℕ, List, Option, None, Some, slice_get}
use Rattle.jh_name.specs.declared.naming.Name.{Name}
use Rattle.jh_name.specs.declared.place.MethodId.{MethodId}
use Rattle.jh_form.specs.declared.mark.Mark.{Mark}
use Rattle.jh_form.specs.Tree.{FormulaTree, of_truth}
use Rattle.jh_arena.specs.table.Entries.{Listing}
use Rattle.jh_arena.specs.table.Nodes.{nodes}
use Rattle.jh_containers.specs.declared.shared_lists.chains.Link.{Link}
use Rattle.jh_containers.specs.shared_lists.Chained.{IsChain}
use Rattle.jh_seq.specs.sequent.Sequents.{HypTree, SequentTree}
use Rattle.jh_seq.specs.splitting.Split.{mark_of}
use Rattle.jh_splitting.specs.declared.sequent.NodeHyp.{NodeHyp}
use Rattle.jh_splitting.specs.declared.sequent.NodeSequent.{NodeSequent}
use Rattle.jh_splitting.specs.Pairs.{AreReversed, ArePaired}

-- the node is this formula
abbrev pub IsFormula : Listing → ℕ → FormulaTree → Type 0
IsFormula t n a = slice_get (nodes t) n ≡ Some (of_truth a)

-- the label of this number, where there is one
abbrev pub IsLabel : Listing → Option ℕ → Option Mark → Type 0
IsLabel t None None = Unit {0}
IsLabel t None (Some m) = ⊥
IsLabel t (Some n) None = ⊥
IsLabel t (Some n) (Some m) = slice_get t.pools.marks n ≡ Some m

-- the name of what stands under a label
abbrev pub name_under : Option Mark → Option Name
name_under None = None
name_under (Some m) = m.name

pub record IsHyp (t : Listing) (x : NodeHyp) (h : HypTree) : Type 0 where
  pub mark : Option Mark
  pub label : IsLabel t x.mark mark
  pub name : h.name ≡ name_under mark
  pub fact : IsFormula t x.fact h.fact

-- the hypotheses of the list of this number, the first one first
abbrev pub AreHyps : Listing → List (Link NodeHyp) → Option ℕ → List HypTree → Type 0
AreHyps t links list hs = (xs : List NodeHyp) × IsChain links list xs × AreReversed (IsHyp t) xs hs

pub record IsSequent (t : Listing) (links : List (Link NodeHyp)) (method : MethodId) (x : NodeSequent) (s : SequentTree) : Type 0 where
  pub mark : Option Mark
  pub label : IsLabel t x.mark mark
  pub shown : s.mark ≡ mark_of mark
  pub of_method : s.method ≡ method
  pub hyps : AreHyps t links x.hyps s.hyps
  pub goal : IsFormula t x.goal s.goal

-- the sequents at a list of nodes
abbrev pub AreSequents : Listing → List (Link NodeHyp) → MethodId → List NodeSequent → List SequentTree → Type 0
AreSequents t links method xs ss = ArePaired (IsSequent t links method) xs ss
