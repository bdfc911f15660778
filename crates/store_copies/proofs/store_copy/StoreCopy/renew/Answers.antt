-- The copy is as sound as the memory. Where neither has a module, none was copied.
use Rattle.std.proofs.Common.{◌≡◌, ◌∙◌, false, List, [], ◌∷◌, is_some, sym, ap, subst, refl}
use Rattle.std.specs.Prelude.{option_map, slice_get}
use Rattle.std.proofs.lemmas.Bool.{false≢true}
use Rattle.address_map.specs.declared.map.AddressMap.{AddressMap}
use Rattle.swi_dispatch_guest.specs.Store.{IsSound, store_of}
use Rattle.swi_dispatch_guest.specs.State.{IsFlex}
use Rattle.swi_dispatch_guest.specs.Flex.{Flex}
use Rattle.swi_dispatch_guest.specs.Modules.{Module}
use Rattle.store_copies.proofs.FlexLemmas.{same_flex}
use Rattle.store_copies.proofs.store_copy.StoreCopy.renew.Goals as goal

sound : (m n : AddressMap) (f : Flex) → store_of n ≡ store_of m → IsSound (store_of m) → IsFlex m f → IsSound (store_of n) × IsFlex n f
sound m n f same is flex = (subst IsSound (sym same) is, same_flex m n f same flex)

pub invariant_of-self : goal.invariant_of-self
invariant_of-self c =
    let memory : AddressMap = c.memory-memory.result.now in
    let same : store_of c.renew_memory.new.copy ≡ store_of memory = c.renew_memory.ensures.store ∙ ap store_of (sym c.memory-memory.ensures.map) in
    let flex : IsFlex memory c.flex.result.now = subst (IsFlex memory) (sym c.flex.ensures) c.memory-memory.ensures.flex in
    let kept = sound memory c.renew_memory.new.copy c.flex.result.now same c.memory-memory.ensures.sound flex in
    (kept.0, kept.1, c.renew_memory.ensures.total ∙ c.self.invariant.2)

pub invariant_of-self-then-is_some : goal.invariant_of-self-then-is_some
invariant_of-self-then-is_some c =
    let memory : AddressMap = c.memory-memory.result.now in
    let same : store_of c.renew_memory.new.copy ≡ store_of memory = c.renew_memory.ensures.store ∙ ap store_of (sym c.memory-memory.ensures.map) in
    let flex : IsFlex memory c.flex.result.now = subst (IsFlex memory) (sym c.flex.ensures) c.memory-memory.ensures.flex in
    let kept = sound memory c.renew_memory.new.copy c.flex.result.now same c.memory-memory.ensures.sound flex in
    (kept.0, kept.1, c.renew_memory.ensures.total ∙ c.self.invariant.2)

none_there : {B : Type 0} (f : Module → B) (ms : List Module) → is_some (option_map f (slice_get ms 0)) ≡ false → ms ≡ []
none_there f [] none = refl
none_there f (m ∷ ms) none = absurd (false≢true (sym none))

pub returns-else-is_some-2 : goal.returns-else-is_some-2
returns-else-is_some-2 c done =
    let store = c.renew_memory.ensures.store ∙ (ap store_of (sym c.memory-memory.ensures.map) ∙ c.memory-memory.ensures.store) in
    let first = none_there _ c.self.inside.instances (ap is_some (sym c.module.ensures) ∙ (sym c.is_some.ensures ∙ c.if-is_some.false)) in
    let second = none_there _ c.instances.result.now
    (ap is_some (sym c.module-else-is_some.ensures) ∙ (sym c.is_some-else-is_some.ensures ∙ c.if-is_some-2.false)) in
    let modules = first ∙ (sym second ∙ c.instances.ensures) in
    let flex = c.flex.ensures in
    λ i. record { store = store i; modules = modules i; flex = flex i }
