use Rattle.std.proofs.Common.{rules, ◌≡◌, ◌∙◌, ◌==◌, ◌&&◌, sym, ap, subst, arith, true}
use Rattle.std.proofs.lemmas.Bool.{and_parts, eqb-true}
use denote.Enum.Bare.{same_true, sameb}
use Rattle.address_map.specs.contracts.region.Kind.{the_type}
use Rattle.address_map.specs.declared.region.Region.{Region}
use Rattle.address_map.specs.Memory.{free_pages, page_total}
use Rattle.address_map.specs.declared.map.AddressMap.{AddressMap}
use Rattle.swi_dispatch_guest.specs.State.{IsFlex}
use Rattle.swi_dispatch_guest.specs.Flex.{Flex}
use Rattle.store_copies.specs.Copies.{IsLaidAlike}
use Rattle.store_copies.proofs.CopyLemmas.{AreAmong, all_counted, mapped_alike}
use Rattle.store_copies.proofs.RenewLemmas.{no_flex, same_elements}
use Rattle.store_copies.proofs.store_copy.is_laid_alike.Goals as goal

same_range : (x y : Region) → (sameb the_type x.kind y.kind && ((x.at == y.at) && (x.len == y.len))) ≡ true → x ≡ y
same_range x y is =
    let kinds = and_parts (sameb the_type x.kind y.kind) ((x.at == y.at) && (x.len == y.len)) is in
    let numbers = and_parts (x.at == y.at) (x.len == y.len) kinds.1 in
    let kind = same_true the_type (search rules) x.kind y.kind kinds.0 in
    let at = eqb-true x.at y.at numbers.0 in
    let len = eqb-true x.len y.len numbers.1 in
    λ i. record { kind = kind i; at = at i; len = len i }

pub returns : goal.returns
returns c laid =
    let m : AddressMap = c.args.copy.now in
    let n : AddressMap = c.memory-memory.result.now in
    let map = c.memory-memory.ensures.map in
    let end : c.loop-page.page ≡ 16384 = (let past = c.loop-page-test.false in let up = c.loop-page.invariant.limit in omega (arith, past, up)) in
    let among : AreAmong m n 16384 = subst (AreAmong m n) end c.loop-page.invariant.among in
    let free : free_pages m ≡ free_pages n =
    sym c.free_pages.ensures ∙ (c.if-free_pages.false ∙ c.free_pages-else-not-has_same_ranges.ensures) in
    let total : page_total m ≡ page_total n = c.requires.total ∙ ap page_total (sym map) in
    subst (IsLaidAlike m) map (record {
      mapped = mapped_alike m n among free total (all_counted m (c.pages_are_counted.ensures m)) (all_counted n (c.pages_are_counted.ensures n));
      regions = sym c.regions.ensures ∙ (same_elements same_range _ _ (sym c.eq-has_same_ranges.ensures ∙ c.if-not-has_same_ranges.false) ∙ c.regions-2.ensures);
      first = no_flex m c.args.flex.now c.range.result _ c.range.ensures (sym c.is_some.ensures ∙ c.if-is_some.false) c.requires.flex;
      second = no_flex n c.flex.result.now c.range-else-is_some.result _ c.range-else-is_some.ensures
          (sym c.is_some-else-is_some.ensures ∙ c.if-is_some-2.false)
          (subst (λ (f : Flex). IsFlex n f) (sym c.flex.ensures) c.memory-memory.ensures.flex);
    })
