-- What holds of memory and the flex store stays so where others keep its words.
use Rattle.std.proofs.Common.{◌≡◌, ℕ, true, Option, Some, None, refl, sym, ◌∙◌}
use Rattle.std.proofs.lemmas.Bool.{or_left, or_right}
use Rattle.os_heap.specs.Classes.{is_anchor, is_flex_header}
use Rattle.os_heap.specs.Memory.{byte_at, class_of, is_mapped}
use Rattle.os_heap.specs.AddressMap.{AddressMap}
use Rattle.os_heap.specs.Store.{store_of}
use Rattle.flex_store.specs.declared.flex.Extent.{Extent}
use Rattle.flex_store.specs.declared.flex.Flex.{Flex}
use Rattle.flex_store.specs.Laws.{FlexStays}
use Rattle.flex_store.specs.State.{IsFlexAt}
use Rattle.flex_store.specs.Staying.{IsExtentThere, StaysFlex}
use Rattle.flex_store.proofs.Held.{flex_left}
use Rattle.flex_store.proofs.Keeping.{store_anchor}

pub store_header : (m : AddressMap) (a : ℕ) → (store_of m).header a ≡ is_flex_header (class_of m a)
unfolding store_of
store_header m a = refl

same_anchor : (m n : AddressMap) (f : Flex) → StaysFlex m n f → (a : ℕ) → is_anchor (class_of n a) ≡ is_anchor (class_of m a)
same_anchor m n f k a = sym (store_anchor n a) ∙ (k.anchors a ∙ store_anchor m a)

same_header : (m n : AddressMap) (f : Flex) → StaysFlex m n f → (a : ℕ) → is_flex_header (class_of n a) ≡ is_flex_header (class_of m a)
same_header m n f k a = sym (store_header n a) ∙ (k.headers a ∙ store_header m a)

anchor_byte : (m n : AddressMap) (f : Flex) → StaysFlex m n f → (a : ℕ) → is_anchor (class_of m a) ≡ true → byte_at n a ≡ byte_at m a
anchor_byte m n f k a is = k.bytes a (or_right ((store_of m).header a) ((store_of m).anchor a) (store_anchor m a ∙ is))

header_byte : (m n : AddressMap) (f : Flex) → StaysFlex m n f → (a : ℕ) → is_flex_header (class_of m a) ≡ true → byte_at n a ≡ byte_at m a
header_byte m n f k a is = k.bytes a (or_left ((store_of m).header a) ((store_of m).anchor a) (store_header m a ∙ is))

stays_at : (m n : AddressMap) (f : Flex) (o : Option Extent) → StaysFlex m n f → IsExtentThere (is_mapped n) o → IsFlexAt m o → IsFlexAt n o
stays_at m n f None k range is = record {
  headers = λ a. same_header m n f k a ∙ is.headers a;
  anchors = λ a. same_anchor m n f k a ∙ is.anchors a;
}
stays_at m n f (Some e) k range is = flex_left m n e is (record {
  anchors = same_anchor m n f k;
  headers = same_header m n f k;
  anchor_bytes = anchor_byte m n f k;
  header_bytes = header_byte m n f k;
  there = λ a anchor. k.mapped a (store_anchor m a ∙ anchor);
  range = range;
  recorded = k.recorded e.start e.end is.recorded;
})

pub flex_stays : FlexStays
flex_stays m n f is k = stays_at m n f f.extent k k.range is
