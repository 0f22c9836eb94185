-- Effects that are added, and the effects of statements that are visited one after another.
use Rattle.std.proofs.Common.{◌≡◌, sym, ap, subst, ◌∙◌, List, [], ◌∷◌, ◌++◌, Result, Ok, Err, OnOk, append_assoc, append-nil}
use Rattle.std.specs.List.{flat_map}
use Rattle.jh_name.specs.declared.memory.NoMemory.{NoMemory}
use Rattle.jh_ast.specs.Stmts.{StmtTree}
use Rattle.jh_ast.specs.Programs.{ProgramTree}
use Rattle.jh_rules.specs.Scopes.{Scope}
use Rattle.jh_rules.specs.Names.{Declared, declared_in}
use Rattle.jh_symbols.specs.scopes.Lookings.{declared_by}
use Rattle.jh_vars.specs.Statements.{InScope}
use Rattle.jh_vars.specs.Written as w
use Rattle.jh_unfolding.specs.visitor.Chains.{Chain}
use Rattle.jh_effects.specs.declared.direct_effects.effects.Effects.{Effects}
use Rattle.jh_effects.specs.declared.direct_effects.gathering.Gathering.{Gathering}
use Rattle.jh_effects.specs.direct_effects.Effects.{writes_in, calls_in, Adds, Gathers, stmt_written, stmt_called}
use Rattle.jh_effects.proofs.direct_effects.Meanings.{writes-are, calls-are}

pub adds-none : (e : Effects) → Adds e e [] []
adds-none e = record { writes = sym (append-nil (writes_in e.writes.items)); calls = sym (append-nil (calls_in e.calls.items)) }

pub adds-two : (a b c : Effects) (ws vs : List w.Written) (cs ds : List w.Callee) → Adds a b ws cs → Adds b c vs ds → Adds a c (ws ++ vs) (cs ++ ds)
adds-two a b c ws vs cs ds f g = record {
  writes = g.writes ∙ ap (λ us. us ++ vs) f.writes ∙ append_assoc (writes_in a.writes.items) ws vs;
  calls = g.calls ∙ ap (λ us. us ++ ds) f.calls ∙ append_assoc (calls_in a.calls.items) cs ds;
}

-- an assignment writes what its target and its value do, and calls what its value does
pub adds-behind : (a b c : Effects) (ws vs : List w.Written) (ds : List w.Callee) → Adds a b ws [] → Adds b c vs ds → Adds a c (ws ++ vs) ds
adds-behind a b c ws vs ds f g = adds-two a b c ws vs [] ds f g

pub record GathersAll (a b : Gathering) (xs : List InScope) : Type 0 where
  pub lookups : b.lookups ≡ a.lookups
  pub adds : (p : ProgramTree) → declared_by a.lookups.now ≡ declared_in p → Adds a.effects b.effects (flat_map (w.writes_of p) xs) (flat_map (w.called_by p) xs)

-- the effects of statements that are visited one after another
pub chain-gathers : (a b : Gathering) (xs : List InScope) → Chain Gathers a b xs → GathersAll a b xs
unfolding Chain
chain-gathers a b [] h = record { lookups = ap (λ g. g.lookups) (sym h); adds = λ p e. subst (λ (g : Gathering). Adds a.effects g.effects [] []) h (adds-none a.effects) }
chain-gathers a b (x ∷ xs) h =
    let first = h.1 in
    let rest = chain-gathers h.0 b xs h.2 in
    record {
      lookups = rest.lookups ∙ first.lookups;
      adds = λ p e. adds-two a.effects (h.0).effects b.effects (w.writes_of p x) (flat_map (w.writes_of p) xs) (w.called_by p x) (flat_map (w.called_by p) xs) (first.adds p e) (rest.adds p (ap (λ y. declared_by y.now) first.lookups ∙ e));
    }

pub adds-as : (e : Effects) (ws : List w.Written) (cs : List w.Callee) → ws ≡ [] → cs ≡ [] → Adds e e ws cs
adds-as e ws cs f g = subst (λ us. Adds e e us cs) (sym f) (subst (λ us. Adds e e [] us) (sym g) (adds-none e))

pub on-ok : {T : Type 0} {P Q : Type 0} (r : Result T NoMemory) → (P → Q) → OnOk r P → OnOk r Q
on-ok (Ok x) f h = f h
on-ok (Err e) f h = h

-- what is said over what is declared is said of a program
pub adds-of : (a b : Effects) (l : Declared) (p : ProgramTree) (at : Scope) (t : StmtTree) → l ≡ declared_in p → Adds a b (stmt_written l at t) (stmt_called l at t) → Adds a b (w.stmt_writes p at t) (w.stmt_calls p at t)
adds-of a b l p at t e h =
    subst (λ us. Adds a b us (w.stmt_calls p at t)) (ap (λ m. stmt_written m at t) e ∙ writes-are p at t)
    (subst (λ us. Adds a b (stmt_written l at t) us) (ap (λ m. stmt_called m at t) e ∙ calls-are p at t) h)

pub ruleset adds_steps = (adds-none, adds-as, adds-behind)
