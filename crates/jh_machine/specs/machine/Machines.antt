-- Where a machine stands.
use Rattle.std.specs.Prelude.{◌≡◌, ℕ, suc, List, drop, Option, Some, None}
use Rattle.jh_name.specs.declared.naming.Name.{Name}
use Rattle.jh_semantics.specs.State.{State}
use Rattle.jh_semantics.specs.Progress.{Configuration}
use Rattle.jh_store.specs.memory.Held.{Held, state_of}
use Rattle.jh_store.specs.state_pairs.Homes.{AreHomes}
use Rattle.jh_machine.specs.declared.machine.prepared.Prepared.{Prepared}
use Rattle.jh_machine.specs.declared.machine.machine.Machine.{Machine}

-- where a machine stands, with a state at entry
abbrev pub stands : Machine → State → Configuration
stands m entry = record { now = state_of m.now; entry = entry; picks = drop m.taken m.picks.items; steps = m.steps }

-- the memory at entry, where it is kept, is a state
unfoldable pub EntryIs : List Name → ℕ → Option Held → State → Type 0
EntryIs names last None s = Unit {0}
EntryIs names last (Some m) s = (state_of m ≡ s) × (m.names ≡ names) × (m.last ≡ last)

-- what a machine needs that formulas are evaluated
pub record Sees (x : Prepared) (m : Machine) : Type 0 where
  pub homes : AreHomes x.table.now.pools.names m.now.names x.homes.now
  pub entry : State
  pub entry_is : EntryIs m.now.names m.now.last m.entry entry

-- the same memory but for its values, and the same state at entry
pub record IsBeside (old new : Machine) : Type 0 where
  pub names : new.now.names ≡ old.now.names
  pub last : new.now.last ≡ old.now.last
  pub entry : new.entry ≡ old.entry

-- a step was paid
pub record WasPaid (old new : Machine) : Type 0 where
  pub same : new ≡ record old { steps = new.steps }
  pub one : old.steps ≡ suc new.steps
