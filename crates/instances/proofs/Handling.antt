-- The instance that handles a SWI is there: a module's preferred instance is one of its own.
use Rattle.std.proofs.Common.{◌≡◌, ℕ, true, Some, None, List, [], ◌∷◌, ◌∙◌, refl, zero, suc, inl, inr}
use Rattle.std.specs.Prelude.{IfSome, Option, option_map, slice_get}
use Rattle.std.specs.List.{position}
use Rattle.std.proofs.lemmas.Bool.{cases_Bool}
use Rattle.std.proofs.lemmas.Option.{IfSome_then}
use Rattle.instances_table.specs.plans.Doable.{is_used}
use Rattle.instances_table.specs.declared.parts.Handler.{Handler}
use Rattle.instances_table.specs.Changes.{is_slot_held}
use Rattle.instances_table.specs.Lookup.{handled_at, handled_in, handler_of, has_call}
use Rattle.instances_table.specs.Modules.{AreModules, EachIsModule, Module, has_instance, slots_of}
use Rattle.instances.proofs.ActionsLemmas.Slots.{used_slots}

held_before : (m : Module) (ms : List Module) (h : Handler) → is_slot_held h.slot ms ≡ true → is_slot_held h.slot (m ∷ ms) ≡ true
held_before m ms h held = elim (cases_Bool (has_instance h.slot m)) [
  | inl here ↦ rw here refl
  | inr not ↦ rw not held
]

held_at : (ms : List Module) (number : ℕ) → EachIsModule ms → IfSome (option_map handled_in (slice_get ms number)) (λ (h : Handler). is_slot_held h.slot ms ≡ true)
held_at [] number each = tt
held_at (m ∷ ms) zero each = rw each.0.preferred refl
held_at (m ∷ ms) (suc number) each = IfSome_then (option_map handled_in (slice_get ms number)) (held_at ms number each.1) (held_before m ms)

held_by : (ms : List Module) (number : Option ℕ) → EachIsModule ms → IfSome (handled_at ms number) (λ (h : Handler). is_used h.slot (slots_of ms) ≡ true)
held_by ms None each = tt
held_by ms (Some number) each =
    IfSome_then (option_map handled_in (slice_get ms number)) (held_at ms number each) (λ h held. used_slots h.slot ms ∙ held)

pub handler_held : (call : ℕ) (ms : List Module) → AreModules ms → IfSome (handler_of call ms) (λ (h : Handler). is_used h.slot (slots_of ms) ≡ true)
handler_held call ms are = held_by ms (position (has_call call) ms) are.each
