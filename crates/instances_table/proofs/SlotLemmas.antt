-- The lowest free slot.
use Rattle.std.proofs.Common.{◌≡◌, ℕ, ◌+◌, ◌<◌, ◌++◌, true, false, List, length, drop, get_or, zero, suc, Some, None, refl, ap, arith}
use Rattle.std.proofs.lemmas.List.{drop_more}
use Rattle.instances_table.specs.declared.loaded.Loaded.{Loaded}
use Rattle.instances_table.specs.Table.{all_slots}
use Rattle.instances_table.specs.Modules.{Module}
use Rattle.instances_table.specs.Changes.{is_slot_held, lowest_free}

pub free_passed : (ms : List Module) (slot n k : ℕ) → is_slot_held slot ms ≡ true → n ≡ k + 1 → lowest_free ms slot n ≡ lowest_free ms (slot + 1) k
unfolding lowest_free
free_passed ms slot zero k held next = absurd (omega arith)
free_passed ms slot (suc n) k held next = let same : n ≡ k = omega arith in rw held (ap (lowest_free ms (slot + 1)) same)

pub free_here : (ms : List Module) (slot n : ℕ) → is_slot_held slot ms ≡ false → 0 < n → lowest_free ms slot n ≡ Some slot
unfolding lowest_free
free_here ms slot zero free some = absurd (omega arith)
free_here ms slot (suc n) free some = rw free refl

pub none_free : (ms : List Module) (slot n : ℕ) → n ≡ 0 → lowest_free ms slot n ≡ None
unfolding lowest_free
none_free ms slot zero none = refl
none_free ms slot (suc n) none = absurd (omega arith)

-- the slots of the modules from one on
pub slots_more : (ls : List Loaded) (i : ℕ) (d : Loaded) → i < length ls
    → all_slots (drop i ls) ≡ (get_or ls i d).slots.items ++ all_slots (drop (i + 1) ls)
slots_more ls i d within = ap all_slots (drop_more ls i d within)
