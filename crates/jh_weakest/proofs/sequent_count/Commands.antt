-- The goals before a command, at each variant.
use Rattle.std.proofs.Common.{◌≡◌, refl, sym, ap, ◌∙◌, ℕ, ◌+◌, ◌<◌, arith, true, false, List, [], length, drop, get_or, subst, Result, Ok, Err, IfOk}
use Rattle.jh_name.specs.declared.naming.Name.{Name}
use Rattle.jh_arena.specs.table.Entries.{Listing}
use Rattle.jh_arena.specs.table.Growth.{Extends}
use Rattle.jh_command_terms.specs.declared.command.command.Command.{Command}
use Rattle.jh_command_terms.specs.declared.command.command.Command.TheVariants as k
use Rattle.jh_command_terms.specs.command.Code.{truth_at, value_at, command_in, command_fits, list_in, list_fits}
use Rattle.jh_command_terms.proofs.command.CodeSteps.{command_in-Seq, command-grows, step-fits, rest-at, rest-end}
use Rattle.jh_wp.specs.Command.{CommandTree, CommandTrees, none, more}
use Rattle.jh_weakest.specs.declared.sequent_count.tally.Share.{Share}
use Rattle.jh_seq.specs.counting.Counted.{with_value, with_name, counted, counted_all}
use Rattle.jh_seq.specs.counting.Goals.{Weights, capped, goals}
use Rattle.jh_weakest.specs.declared.sequent_count.tally.Tally.{Tally}
use Rattle.jh_weakest.specs.sequent_count.Tallies.{Counts, AreNames, tally_of}
use Rattle.jh_weakest.proofs.sequent_count.Ceilings.{sum-capped}

module _ (t : Listing) (q r : Weights → ℕ) where
  pub counted-Assume : (n : ℕ) → counted (command_in t (k.Assume n)) q r ≡ q
  unfolding command_in counted
  counted-Assume n = refl

  pub counted-Assert : (n : ℕ) → counted (command_in t (k.Assert n)) q r ≡ (λ w. goals (truth_at t n) w false + q w)
  unfolding command_in counted
  counted-Assert n = refl

  pub counted-Assign : (x : Name) (n : ℕ) → counted (command_in t (k.Assign x n)) q r ≡ (λ w. q (with_value w x (value_at t n)))
  unfolding command_in counted
  counted-Assign x n = refl

  pub counted-Havoc : (x y : Name) → counted (command_in t (k.Havoc x y)) q r ≡ (λ w. q (with_name w x y))
  unfolding command_in counted
  counted-Havoc x y = refl

  pub counted-Leave : counted (command_in t k.Leave) q r ≡ r
  unfolding command_in counted
  counted-Leave = refl

  pub counted-Stop : counted (command_in t k.Stop) q r ≡ (λ w. 0)
  unfolding command_in counted
  counted-Stop = refl

  pub counted-Seq : (cs : List Command) → counted (command_in t (k.Seq cs)) q r ≡ counted_all (list_in t cs) q r
  unfolding counted
  counted-Seq cs = ap (λ c. counted c q r) (command_in-Seq t cs)

  pub counted-Choice : (i j : _) (a b : Command) → counted (command_in t (k.Choice' i a j b)) q r ≡ (λ w. counted (command_in t a) q r w + counted (command_in t b) q r w)
  unfolding command_in counted
  counted-Choice i j a b = refl

  pub counted-none : counted_all none q r ≡ q
  unfolding counted_all
  counted-none = refl

  pub counted-more : (c : CommandTree) (cs : CommandTrees) → counted_all (more c cs) q r ≡ counted c (counted_all cs q r) r
  unfolding counted_all
  counted-more c cs = refl

-- a tally counts what is the same
pub counts-as : (t : Listing) (fixed : ℕ) (ss : List Share) (g h : Weights → ℕ) → g ≡ h → Counts t fixed ss g → Counts t fixed ss h
counts-as t fixed ss g h e c = record { names = c.names; is = λ w. c.is w ∙ ap (λ f. capped (f w)) e }

pub same-tally : (t : Listing) (fixed f : ℕ) (ss zs : List Share) (g : Weights → ℕ) → f ≡ fixed → zs ≡ ss → Counts t fixed ss g → Counts t f zs g
same-tally t fixed f ss zs g e h c = subst (λ (n : ℕ). Counts t n zs g) (sym e) (subst (λ (qs : List Share). Counts t fixed qs g) (sym h) c)

pub no-goals : (t : Listing) → Counts t 0 [] (λ w. 0)
no-goals t = record { names = tt; is = λ w. refl }

-- the loop over a list of commands, from the last to the first
pub counted-rest : (t u : Listing) (cs : List Command) (j : ℕ) (a : Command) (q r : Weights → ℕ) → j < length cs → a ≡ get_or cs j a → Extends t u → list_fits t cs ≡ true →
    counted (command_in u a) (counted_all (list_in t (drop (j + 1) cs)) q r) r ≡ counted_all (list_in t (drop j cs)) q r
counted-rest t u cs j a q r lt at g fit =
    let step : command_fits t a ≡ true = ap (command_fits t) at ∙ step-fits t cs j a fit lt in
    ap (λ c. counted c (counted_all (list_in t (drop (j + 1) cs)) q r) r) (command-grows t u g a step)
    ∙ sym (counted-more t q r (command_in t a) (list_in t (drop (j + 1) cs)))
    ∙ ap (λ l. counted_all l q r) (sym (rest-at t cs j a lt at))

pub counted-end : (t : Listing) (cs : List Command) (q r : Weights → ℕ) → q ≡ counted_all (list_in t (drop (length cs) cs)) q r
counted-end t cs q r = sym (counted-none t q r) ∙ ap (λ l. counted_all l q r) (sym (rest-end t cs (length cs) (omega arith)))

-- tallies that are answered
module _ {E : Type 0} (t : Listing) (r : Result Tally E) where
  pub copied-counts : (fixed : ℕ) (ss : List Share) (g h : Weights → ℕ) → IfOk r (λ made. made.fixed ≡ fixed) → IfOk r (λ made. made.shares.items ≡ ss) → g ≡ h → Counts t fixed ss g → IfOk r (λ made. Counts t made.fixed made.shares.items h)
  copied-counts fixed ss g h = by r
    where
      by : (o : Result Tally E) → IfOk o (λ made. made.fixed ≡ fixed) → IfOk o (λ made. made.shares.items ≡ ss) → g ≡ h → Counts t fixed ss g → IfOk o (λ made. Counts t made.fixed made.shares.items h)
      by (Ok made) f e same c = same-tally t fixed made.fixed ss made.shares.items h f e (counts-as t fixed ss g h same c)
      by (Err e) f s same c = tt

  pub joined-counts : (f1 f2 : ℕ) (one two : List Share) (g h k : Weights → ℕ) → IfOk r (λ made. AreNames t made.shares.items) →
      IfOk r (λ made. (u : Listing) (w : Weights) → capped (tally_of u made.fixed made.shares.items w) ≡ capped (tally_of u f1 one w + tally_of u f2 two w)) →
      Counts t f1 one g → Counts t f2 two h → (λ w. g w + h w) ≡ k → IfOk r (λ made. Counts t made.fixed made.shares.items k)
  joined-counts f1 f2 one two g h k = by r
    where
      by : (o : Result Tally E) → IfOk o (λ made. AreNames t made.shares.items) →
          IfOk o (λ made. (u : Listing) (w : Weights) → capped (tally_of u made.fixed made.shares.items w) ≡ capped (tally_of u f1 one w + tally_of u f2 two w)) →
          Counts t f1 one g → Counts t f2 two h → (λ w. g w + h w) ≡ k → IfOk o (λ made. Counts t made.fixed made.shares.items k)
      by (Ok made) names sum c d same = record { names = names; is = λ w. sum t w ∙ sum-capped (tally_of t f1 one w) (g w) (tally_of t f2 two w) (h w) (c.is w) (d.is w) ∙ ap (λ f. capped (f w)) same }
      by (Err e) names sum c d same = tt
