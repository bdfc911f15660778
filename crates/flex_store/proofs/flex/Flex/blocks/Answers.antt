use Rattle.std.proofs.Common.{Option, ap, subst, sym, ◌∙◌, arith}
use Rattle.os_heap.specs.Memory.{byte_at}
use Rattle.flex_store.specs.declared.flex.Extent.{Extent}
use Rattle.flex_store.specs.Listed.{all_listed}
use Rattle.flex_store.specs.State.{flex_in, IsFlexAt, IsRecordedStore}
use Rattle.flex_store.proofs.Listing.{none_listed, no_text, store_text}
use Rattle.flex_store.proofs.flex.Flex.blocks.Goals as goal

pub invariant_of-result : goal.invariant_of-result
invariant_of-result c = no_text c.args.map.now

pub returns-in_default : goal.returns-in_default
returns-in_default c =
    let m = c.args.map.now in
    none_listed (byte_at m) 0 0 (omega arith) ∙ sym (ap (λ (o : Option Extent). all_listed (flex_in m o)) c.in_default.is)

pub invariant_of-result-2 : goal.invariant_of-result-2
invariant_of-result-2 c =
    let m = c.args.map.now in
    let held : IsRecordedStore m c.in-Some.extent = subst (λ (o : Option Extent). IsFlexAt m o) c.in-Some.is c.requires in
    store_text m c.in-Some.extent held
