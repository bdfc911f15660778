-- What of memory is no part of what the stores mean: an error's block and the environment text,
-- which stand in the system pages after the private words (the places are this project's own).
use Rattle.profile.specs.MemoryMap.{error_block_start}
use Rattle.std.specs.Prelude.{ℕ, ◌≡◌, true, false}
use Rattle.address_map.specs.Bytes.{Bytes, in_range}
use Rattle.swi_dispatch_guest.specs.ModuleState.{private_word}
use Rattle.instances_table.specs.Changes.{is_slot_held}
use Rattle.rma.specs.Calls.{with_store}
use Rattle.law_machine.specs.sliding_stores.Meaning.{AreStores, Stores, meaning_of, store_in}

-- the stores with other bytes
abbrev pub stores_with_bytes : Stores → Bytes → Stores
stores_with_bytes x c =
    record x {
      module_state = record x.module_state {
        area_store = with_store x.module_state.area_store
            (record (store_in x) { bytes = c });
      };
    }

-- they mean the same, and the private words of instances are the same
pub record IsSame (x y : Stores) : Type 0 where
  pub meaning : meaning_of y ≡ meaning_of x
  pub words : (slot : ℕ) → is_slot_held slot x.module_state.modules ≡ true
      → private_word y.module_state.area_store slot ≡ private_word x.module_state.area_store slot

abbrev pub StaysBehind : Type 0
StaysBehind =
    (x : Stores) (c : Bytes) → AreStores x
    → ((a : ℕ) → in_range error_block_start 0xF00 a ≡ false → c.at a ≡ (store_in x).bytes.at a) →
    IsSame x (stores_with_bytes x c)
