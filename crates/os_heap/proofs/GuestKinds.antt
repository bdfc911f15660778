-- Which of the recorded ranges are heaps that guests have made.
use Rattle.std.proofs.Common.{◌≡◌, not, true, false, refl, sym}
use Rattle.std.proofs.lemmas.Bool.{false≢true}
use Rattle.os_heap_words.specs.Records.{is_guest_heap, is_heap_kind}
use Rattle.os_heap_words.specs.Kind.{Kind}
use Rattle.os_heap_words.specs.Kind.TheVariants as kind
use Rattle.os_heap.specs.Nesting.{is_module_area}

pub guest_kind : (k : Kind) → is_heap_kind k ≡ true → is_guest_heap k ≡ not (is_module_area k)
guest_kind kind.Heap heap = refl
guest_kind kind.Rma heap = refl
guest_kind kind.FlexStore heap = absurd (false≢true heap)
guest_kind kind.FlexHeader heap = absurd (false≢true heap)
guest_kind kind.Anchor heap = absurd (false≢true heap)
guest_kind kind.HeadWord heap = absurd (false≢true heap)
guest_kind kind.Image heap = absurd (false≢true heap)
guest_kind kind.SystemPage heap = absurd (false≢true heap)

pub plain_kind : (k : Kind) → is_heap_kind k ≡ false → is_guest_heap k ≡ false
plain_kind kind.Heap plain = absurd (false≢true (sym plain))
plain_kind kind.Rma plain = refl
plain_kind kind.FlexStore plain = refl
plain_kind kind.FlexHeader plain = refl
plain_kind kind.Anchor plain = refl
plain_kind kind.HeadWord plain = refl
plain_kind kind.Image plain = refl
plain_kind kind.SystemPage plain = refl
