-- A copy of memory holds the same flex store.
use Rattle.std.proofs.Common.{◌≡◌, ℕ, ◌+◌, Bool, List, Option, Some, None, sym, ap, subst, ◌∙◌}
use Rattle.address_map.specs.Bytes.{Bytes}
use Rattle.address_map.specs.Memory.{byte_at, bytes_of, class_of, is_mapped}
use Rattle.address_map.specs.Classes.{is_anchor, is_flex_header}
use Rattle.address_map.specs.declared.map.AddressMap.{AddressMap}
use Rattle.swi_dispatch_guest.proofs.OsHeapFrame.{store_bytes}
use Rattle.swi_dispatch_guest.specs.Store.{Store, store_of}
use Rattle.swi_dispatch_guest.specs.Blocks.{Block, bytes_taken_by_all}
use Rattle.swi_dispatch_guest.specs.Memory.{AreAnchored, Holds, blocks_in, blocks_text_of}
use Rattle.swi_dispatch_guest.specs.State.{AreAnchorWords, IsFlex, IsFlexAt, IsFlexRange, IsFlexStore, blocks_of, is_recorded}
use Rattle.swi_dispatch_guest.specs.Extent.{Extent}
use Rattle.swi_dispatch_guest.specs.Flex.{Flex}

same_header : (m n : AddressMap) → store_of n ≡ store_of m → (a : ℕ) → is_flex_header (class_of n a) ≡ is_flex_header (class_of m a)
unfolding store_of
same_header m n same a = ap (λ (s : Store). s.header a) same

same_anchor : (m n : AddressMap) → store_of n ≡ store_of m → (a : ℕ) → is_anchor (class_of n a) ≡ is_anchor (class_of m a)
unfolding store_of
same_anchor m n same a = ap (λ (s : Store). s.anchor a) same

same_bytes : (m n : AddressMap) → store_of n ≡ store_of m → bytes_of n ≡ bytes_of m
same_bytes m n same = sym (store_bytes n) ∙ (ap (λ (s : Store). s.bytes) same ∙ store_bytes m)

same_text : (m n : AddressMap) (start end : ℕ) (blocks : List Block) → store_of n ≡ store_of m → IsFlexStore m start end blocks
    → IsFlexStore n start end blocks
same_text m n start end blocks same is =
    let mapped : is_mapped n ≡ is_mapped m = ap (λ (b : Bytes). b.mapped) (same_bytes m n same) in
    let bytes : byte_at n ≡ byte_at m = ap (λ (b : Bytes). b.at) (same_bytes m n same) in
    record {
      range = subst (λ (there : ℕ → Bool). IsFlexRange there start end) (sym mapped) is.range;
      fits = is.fits;
      whole = is.whole;
      words = subst (λ (there : ℕ → Bool). AreAnchorWords there start end blocks) (sym mapped) is.words;
      inner = is.inner;
      text = subst (λ (at : ℕ → ℕ). Holds at start (blocks_text_of blocks)) (sym bytes) is.text;
      anchored = subst (λ (at : ℕ → ℕ). AreAnchored at start blocks) (sym bytes) is.anchored;
      headers = λ a. same_header m n same a ∙ is.headers a;
      anchors = λ a. same_anchor m n same a ∙ is.anchors a;
    }

flex_at : (m n : AddressMap) (e : Option Extent) → store_of n ≡ store_of m → IsFlexAt m e → IsFlexAt n e
flex_at m n None same is = record { headers = λ a. same_header m n same a ∙ is.headers a; anchors = λ a. same_anchor m n same a ∙ is.anchors a }
flex_at m n (Some e) same is =
    let blocks : blocks_of n e ≡ blocks_of m e =
    ap (λ (b : Bytes). blocks_in b.at e.start (e.start + e.used)) (same_bytes m n same) in
    record {
      held = record {
        store = subst (λ (bs : List Block). IsFlexStore n e.start e.end bs) (sym blocks)
            (same_text m n e.start e.end (blocks_of m e) same is.held.store);
        used_is = ap bytes_taken_by_all blocks ∙ is.held.used_is;
      };
      recorded = ap (λ (s : Store). is_recorded s.others e.start e.end) same ∙ is.recorded;
    }

pub same_flex : (m n : AddressMap) (f : Flex) → store_of n ≡ store_of m → IsFlex m f → IsFlex n f
same_flex m n f same is = flex_at m n f.extent same is
