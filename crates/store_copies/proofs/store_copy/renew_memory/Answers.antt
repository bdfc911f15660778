use Rattle.address_map.specs.declared.map.AddressMap.{AddressMap}
use Rattle.store_copies.proofs.CopyLemmas.{all_counted, total_kept}
use Rattle.store_copies.proofs.RenewLemmas.{store_renewed}
use Rattle.store_copies.proofs.store_copy.renew_memory.Goals as goal

pub returns-then-is_laid_alike-clause-total : goal.returns-then-is_laid_alike-clause-total
returns-then-is_laid_alike-clause-total c =
    let old : AddressMap = c.args.copy.now in
    let new : AddressMap = c.copy_pages.new.copy in
    total_kept old new c.copy_pages.ensures.layout (all_counted old (c.pages_are_counted.ensures old)) (all_counted new (c.pages_are_counted.ensures new))

pub returns-then-is_laid_alike-clause-store : goal.returns-then-is_laid_alike-clause-store
returns-then-is_laid_alike-clause-store c =
    store_renewed c.args.copy.now c.copy_pages.new.copy c.args.machine.now.guest.map (c.is_laid_alike.ensures c.if-is_laid_alike.true)
    c.copy_pages.ensures.bytes c.copy_pages.ensures.layout c.copy_pages.ensures.marks
