-- What a claim in a heap says of its list: the blocks that were live are so still, and the new one was not.
use Rattle.std.proofs.Common.{ℕ, ◌≡◌, ◌+◌, ◌-◌, ◌≤◌, Some, is_some, true, false, subst, arith}
use Rattle.os_heap_words.specs.Bytes.{Bytes}
use Rattle.os_heap_words.specs.Items.{is_total, size_of}
use Rattle.os_heap_words.proofs.ListsLemmas.ClaimedLists.{HasTotals, claim_totals, IsUnheld, claim_unheld, IsWithin, claim_within}
use Rattle.os_heap_words.proofs.ListsLemmas.LiveBlocks.{IsFresh, claim_fresh, IsStill, claim_still}
use Rattle.os_heap_words.specs.lists.Heap.{AreTotals, HeapList, IsHeapIn}
use Rattle.os_heap_words.specs.lists.Lists.{Claim, claim_in_items, live_total}

pub record IsClaim (h : HeapList) (new : ℕ) (c : Claim) : Type 0 where
  pub totals : AreTotals c.items
  pub inside : 16 + size_of c.items ≤ h.end
  pub fresh : live_total (h.start + 16 + c.offset + 4) (h.start + 16) c.items ≡ Some new
  pub unheld : is_some (live_total (h.start + 16 + c.offset + 4) (h.start + 16) h.items) ≡ false
  pub still : (block total : ℕ) → live_total block (h.start + 16) h.items ≡ Some total → live_total block (h.start + 16) c.items ≡ Some total

pub is_claim : (b : Bytes) (h : HeapList) (new : ℕ) (c : Claim) → IsHeapIn b h.start h.end h.items → is_total new ≡ true
    → claim_in_items new (h.end - 16) h.items ≡ Some c → IsClaim h new c
is_claim b h new c heap total e =
    let within : size_of c.items ≤ h.end - 16 =
    subst (IsWithin (h.end - 16)) e (claim_within new (h.end - 16) h.items (omega (arith, heap.inside))) in
    record {
      totals = subst HasTotals e (claim_totals new (h.end - 16) h.items total heap.totals);
      inside = omega (arith, within, heap.inside);
      fresh = subst (IsFresh new (h.start + 16)) e (claim_fresh new (h.end - 16) (h.start + 16) h.items heap.totals);
      unheld = subst (IsUnheld (h.start + 16) h.items) e (claim_unheld new (h.end - 16) (h.start + 16) h.items heap.totals);
      still = λ block total live. subst (IsStill block total (h.start + 16)) e (claim_still new (h.end - 16) block total (h.start + 16) h.items live heap.totals);
    }
