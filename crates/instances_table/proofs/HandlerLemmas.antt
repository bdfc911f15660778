-- SWIs are handled for instances that are there.
use Rattle.std.proofs.Common.{◌≡◌, ℕ, ◌<◌, true, List, Some, None, refl, sym, ap, subst, ◌∙◌}
use Rattle.std.specs.Prelude.{Option, slice_get, option_map, IfSome}
use Rattle.instances_table.specs.declared.parts.Handler.{Handler}
use Rattle.instances_table.specs.Changes.{module_has_slot}
use Rattle.instances_table.specs.Lookup.{handled_at, handled_in, handler_of, number_of_call}
use Rattle.instances_table.specs.Modules.{Module, AreModules}
use Rattle.instances_table.proofs.ModuleLemmas.{each_at}
use Rattle.instances_table.proofs.RenameLemmas.{held_below}

below_in : (ms : List Module) (k : ℕ) (o : Option Module) → AreModules ms → slice_get ms k ≡ o → IfSome (option_map handled_in o) (λ h. h.slot < 64)
below_in ms k None are found = tt
below_in ms k (Some m) are found =
    let held : module_has_slot m.preferred (slice_get ms k) ≡ true = ap (module_has_slot m.preferred) found ∙ (each_at ms k m are.each found).preferred in
    held_below ms k m.preferred are held

below_at : (ms : List Module) (o : Option ℕ) → AreModules ms → IfSome (handled_at ms o) (λ h. h.slot < 64)
below_at ms None are = tt
below_at ms (Some k) are = below_in ms k (slice_get ms k) are refl

pub handler_below : (ms : List Module) (call : ℕ) (r : Option Handler) → AreModules ms → r ≡ handler_of call ms → IfSome r (λ h. h.slot < 64)
handler_below ms call r are same =
    subst (λ (o : Option Handler). IfSome o (λ h. h.slot < 64)) (sym same) (below_at ms (number_of_call call ms) are)
