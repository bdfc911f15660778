use Rattle.std.proofs.Common.{◌≡◌, ◌∙◌, ◌+◌, ◌-◌, ◌≤◌, sym, subst, ap, arith}
use Rattle.address_map.specs.Memory.{page_total}
use Rattle.address_map.specs.declared.map.AddressMap.{AddressMap}
use Rattle.store_copies.specs.Pages.{AreUnmappedPages}
use Rattle.store_copies.proofs.CopyLemmas.{all_counted, mapped_below, none_below, none_mapped, one_mapped, room_for_one}
use Rattle.store_copies.proofs.PageLemmas.{count_passed}
use Rattle.store_copies.proofs.store_copy.page_total.Goals as goal
use Rattle.store_copies.proofs.store_copy.page_total.Goals.{then-is_some, else-is_some}

pub loop-page-init : goal.loop-page-init
loop-page-init c =
    let none = none_below c.memory-memory.result.now in
    let free = c.free_pages-total.ensures in
    record { limit = omega arith; counted = omega (arith, none, free) }

pub overflow_add-total : goal.overflow_add-total
overflow_add-total c =
    let memory : AddressMap = c.memory-memory.result.now in
    let inside = c.loop-page-test.true in
    let few : page_total memory ≤ 1024 = subst (λ (m : AddressMap). page_total m ≤ 1024) (sym c.memory-memory.ensures.map) c.requires in
    let room = room_for_one memory c.loop-page.page c.loop-page.total c.translate.result (omega (arith, inside)) c.loop-page.invariant.counted
    (all_counted memory (c.pages_are_counted.ensures memory)) few c.translate.ensures
    (sym c.is_some.ensures ∙ c.if-is_some.true) in
    omega (arith, room)

pub loop-page-preserved : goal.loop-page-preserved
loop-page-preserved c =
    let memory : AddressMap = c.memory-memory.result.now in
    let before = c.loop-page.invariant.counted in
    let from = c.past_unmapped-page.ensures.from in
    let none : AreUnmappedPages memory (c.loop-page.page + 1) c.past_unmapped-page.result =
    subst (λ (m : AddressMap). AreUnmappedPages m (c.loop-page.page + 1) c.past_unmapped-page.result) (sym c.memory-memory.ensures.map) c.past_unmapped-page.ensures.unmapped in
    let up : c.loop-page.page + 1 + (c.past_unmapped-page.result - (c.loop-page.page + 1)) ≡ c.past_unmapped-page.result = omega (arith, from) in
    let passed : mapped_below memory c.past_unmapped-page.result ≡ mapped_below memory (c.loop-page.page + 1) =
    ap (mapped_below memory) (sym up) ∙ count_passed memory (c.loop-page.page + 1) (c.past_unmapped-page.result - (c.loop-page.page + 1))
    (λ page low high. none page low (omega (arith, high, up))) in
    record {
      limit = c.past_unmapped-page.ensures.limit;
      counted = elim c.if-is_some.branch [
        | then-is_some w ↦
            let more = one_mapped memory c.loop-page.page c.translate.result c.translate.ensures (sym c.is_some.ensures ∙ w.if-is_some.true) in
            let is = w.total-is in
            omega (arith, more, is, before, passed)
        | else-is_some w ↦
            let same = none_mapped memory c.loop-page.page c.translate.result c.translate.ensures (sym c.is_some.ensures ∙ w.if-is_some.false) in
            let is = w.total-is in
            omega (arith, same, is, before, passed)
      ];
    }

pub returns : goal.returns
returns c =
    let memory : AddressMap = c.memory-memory.result.now in
    let all = all_counted memory (c.pages_are_counted.ensures memory) in
    let end : c.loop-page.page ≡ 16384 = (let past = c.loop-page-test.false in let up = c.loop-page.invariant.limit in omega (arith, past, up)) in
    let counted = rw end at c.loop-page.invariant.counted in
    counted ∙ (sym all ∙ ap page_total c.memory-memory.ensures.map)
