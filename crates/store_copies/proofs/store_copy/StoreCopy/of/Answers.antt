-- The copy is as sound as the memory.
use Rattle.std.proofs.Common.{◌≡◌, sym, subst}
use Rattle.swi_dispatch_guest.specs.Store.{IsSound, Store, store_of}
use Rattle.swi_dispatch_guest.specs.State.{IsFlex}
use Rattle.swi_dispatch_guest.specs.Flex.{Flex}
use Rattle.store_copies.proofs.FlexLemmas.{same_flex}
use Rattle.store_copies.proofs.store_copy.StoreCopy.of.Goals as goal

pub invariant_of-result : goal.invariant_of-result
invariant_of-result c =
    let same : store_of c.in_ok-copy.copy ≡ store_of c.memory.result.now = c.in_ok-copy.ensures.store in
    let flex : IsFlex c.memory.result.now c.flex.result.now =
    subst (λ (f : Flex). IsFlex c.memory.result.now f) (sym c.flex.ensures) c.memory.ensures.flex in (
      subst (λ (s : Store). IsSound s) (sym same) c.memory.ensures.sound,
      same_flex c.memory.result.now c.in_ok-copy.copy c.flex.result.now same flex,
      c.in_ok-copy.ensures.total,
    )
