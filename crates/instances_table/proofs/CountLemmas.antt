-- The slot that is shown of an instance is one of its module's.
use Rattle.std.proofs.Common.{◌≡◌, ℕ, ◌<◌, List, Option, Some, None, sym}
use Rattle.std.specs.Prelude.{slice_get, option_map, IfSome}
use Rattle.instances_table.specs.Lookup.{slot_in, shown_of_instance, shown_of_place}
use Rattle.instances_table.specs.Modules.{Instance, Module, AreModules}
use Rattle.instances_table.specs.declared.parts.InstanceInfo.{InstanceInfo}
use Rattle.instances_table.proofs.RenameLemmas.{held_below}
use Rattle.instances_table.proofs.ViewLemmas.{slot_found}

shown_by : (m : Module) (found : Option Instance) (t : InstanceInfo) → option_map (shown_of_instance m) found ≡ Some t
    → option_map (λ (x : Instance). x.slot) found ≡ Some t.slot
shown_by m None t e = absurd (let none : None ≡ Some t = e in cc)
shown_by m (Some i) t e = cc

shown_slot : (i : ℕ) (o : Option Module) (t : InstanceInfo) → shown_of_place i o ≡ Some t → slot_in i o ≡ Some t.slot
shown_slot i None t e = absurd (let none : None ≡ Some t = e in cc)
shown_slot i (Some m) t e = shown_by m (slice_get m.instances i) t e

shown_below : (ms : List Module) (k i : ℕ) (t : InstanceInfo) → AreModules ms → shown_of_place i (slice_get ms k) ≡ Some t → t.slot < 64
shown_below ms k i t are e = held_below ms k t.slot are (slot_found i (slice_get ms k) t.slot (shown_slot i (slice_get ms k) t e))

pub shown_if : (ms : List Module) (k i : ℕ) (r : Option InstanceInfo) → AreModules ms → r ≡ shown_of_place i (slice_get ms k) → IfSome r (λ t. t.slot < 64)
shown_if ms k i None are e = tt
shown_if ms k i (Some t) are e = shown_below ms k i t are (sym e)
