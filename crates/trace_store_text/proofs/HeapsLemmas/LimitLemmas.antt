-- The limits of a heap by the words of its descriptor.
use Rattle.std.proofs.Common.{◌≡◌, ℕ, ◌+◌, List, Option, Some, None, Bool, true, false, refl, sym, ap, ◌∙◌}
use Rattle.std.specs.Prelude.{IfSome, IsSome}
use Rattle.std.specs.Option.{option_map}
use Rattle.address_map.specs.declared.item.Item.{Item}
use Rattle.address_map.specs.Items.{size_of}
use Rattle.store_copies.specs.Calls.{items_of}
use Rattle.store_copies.specs.Store.{Store, find_heap}
use Rattle.store_copies.specs.Heap.{HeapList}
use Rattle.trace_store_text.specs.declared.heaps.limits.HeapLimits.{HeapLimits}
use Rattle.trace_store_text.specs.heaps.Limits.{limits_in, limits_of_heap}

no_limits_by : (o : Option HeapList) → option_map (λ (h : HeapList). h.items) o ≡ None → option_map limits_of_heap o ≡ None
no_limits_by None none = refl
no_limits_by (Some h) none = absurd (cc)

pub no_limits : (s : Store) (heap : ℕ) → items_of s heap ≡ None → None ≡ limits_in s heap
unfolding items_of limits_in
no_limits s heap none = sym (no_limits_by (find_heap heap s.heaps) none)

some_by : (o : Option HeapList) (items : List Item) → option_map (λ (h : HeapList). h.items) o ≡ Some items → IsSome o
some_by None items is = absurd (cc)
some_by (Some h) items is = refl

pub is_there : (s : Store) (heap : ℕ) (items : List Item) → items_of s heap ≡ Some items → IsSome (find_heap heap s.heaps)
unfolding items_of
is_there s heap items is = some_by (find_heap heap s.heaps) items is

both_by : (o : Option HeapList) (base end : ℕ) → IsSome o → IfSome o (λ h. base ≡ 16 + size_of h.items) → IfSome o (λ h. end ≡ h.end)
    → Some (record { base = base; end = end }) ≡ option_map limits_of_heap o
both_by None base end there is is_end = absurd (cc)
both_by (Some h) base end there is is_end = rw (is, is_end) refl

pub both_limits : (s : Store) (heap base end : ℕ) → IsSome (find_heap heap s.heaps) → IfSome (find_heap heap s.heaps) (λ h. base ≡ 16 + size_of h.items)
    → IfSome (find_heap heap s.heaps) (λ h. end ≡ h.end) → Some (record { base = base; end = end }) ≡ limits_in s heap
unfolding limits_in
both_limits s heap base end there is is_end = both_by (find_heap heap s.heaps) base end there is is_end
