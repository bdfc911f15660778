-- An instance that has a place has a slot below 64.
use Rattle.std.proofs.Common.{◌≡◌, ℕ, ◌<◌, true, Some, None, List, [], ◌∷◌, refl}
use Rattle.std.specs.Prelude.{Option}
use Rattle.std.specs.List.{position}
use Rattle.std.proofs.lemmas.List.Folds.{list_any_at}
use Rattle.std.proofs.lemmas.List.Quantifiers.{position-Some}
use Rattle.instances_table.specs.declared.parts.Place.{Place}
use Rattle.instances_table.specs.Lookup.{instance_place_in, place_of_slot}
use Rattle.instances_table.specs.Modules.{AreModules, Module, has_instance}
use Rattle.instances_table.specs.Changes.{is_slot_held}
use Rattle.instances_table.proofs.RoomLemmas.{held_slot}

placed_held : (slot : ℕ) (ms : List Module) (o : Option ℕ) (p : Place) → position (has_instance slot) ms ≡ o → instance_place_in slot ms o ≡ Some p
    → is_slot_held slot ms ≡ true
placed_held slot ms None p found placed = absurd (let no : None ≡ Some p = placed in cc)
placed_held slot [] (Some k) p found placed = absurd (let no : None ≡ Some k = found in cc)
placed_held slot (m ∷ ms) (Some k) p found placed =
    let first = position-Some (has_instance slot) (m ∷ ms) k m found in
    list_any_at (has_instance slot) (m ∷ ms) k m first.0 first.1

pub placed_below : (slot : ℕ) (ms : List Module) (p : Place) → AreModules ms → place_of_slot slot ms ≡ Some p → slot < 64
placed_below slot ms p are placed = held_slot slot ms are (placed_held slot ms (position (has_instance slot) ms) p refl placed)
