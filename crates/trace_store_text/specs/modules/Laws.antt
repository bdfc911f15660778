-- What the list of the instances that differ is good for.
use Rattle.std.specs.Prelude.{◌≡◌, ◌≢◌, ◌⊎◌, ℕ, Bool, true, false, List, Contains, Option, Some, None}
use Rattle.std.specs.List.{list_any}
use Rattle.instances_table.specs.Modules.{Module}
use Rattle.trace_store_text.specs.declared.modules.marks.InstanceMark.{InstanceMark}
use Rattle.trace_store_text.specs.modules.Changes.{InstanceChange, instance_changes, is_same_instance, old_address}
use Rattle.trace_store_text.specs.modules.Marks.{instance_marks}

-- Complete: an instance that was there is there still, or shown as gone; and one that is there was
-- there, with its image at the same address, or is shown with what was.
pub record IsInstanceExplained (before after : List Module) (x : InstanceMark) : Type 0 where
  pub was : Contains (instance_marks before) x → (list_any (is_same_instance x) (instance_marks after) ≡ true)
      ⊎ Contains (instance_changes before after) (record { mark = x; was = Some x.at; is = None })
  pub is : Contains (instance_marks after) x → (old_address (instance_marks before) x ≡ Some x.at)
      ⊎ Contains (instance_changes before after)
      (record { mark = x; was = old_address (instance_marks before) x; is = Some x.at })

abbrev pub ExplainsModules : Type 0
ExplainsModules = (before after : List Module) (x : InstanceMark) → IsInstanceExplained before after x

-- True: one that is shown as gone was there, and none that is the same is there now; any other is there
-- now, and wasn't before, or stood elsewhere.
pub record IsGoneInstance (before after : List Module) (c : InstanceChange) : Type 0 where
  pub there : Contains (instance_marks before) c.mark
  pub none : list_any (is_same_instance c.mark) (instance_marks after) ≡ false
  pub was : c.was ≡ Some c.mark.at

pub record IsKeptInstance (before after : List Module) (c : InstanceChange) : Type 0 where
  pub there : Contains (instance_marks after) c.mark
  pub is : c.is ≡ Some c.mark.at
  pub was : c.was ≡ old_address (instance_marks before) c.mark
  pub differs : c.was ≢ c.is

abbrev pub IsInstanceChange : List Module → List Module → InstanceChange → Option ℕ → Type 0
IsInstanceChange before after c None = IsGoneInstance before after c
IsInstanceChange before after c (Some at) = IsKeptInstance before after c

abbrev pub ListsInstances : Type 0
ListsInstances = (before after : List Module) (c : InstanceChange)
    → Contains (instance_changes before after) c → IsInstanceChange before after c c.is
