-- The store as it begins.
use Rattle.std.proofs.Common.{◌≡◌, ℕ, Bool, ◌+◌, ◌-◌, ◌%◌, ◌^◌, ◌<◌, ◌≤◌, ◌==◌, ◌&&◌, not, true, false, nat_eq, nat_lt, List, [], Option, Some, None, Ok, is_some, arith, refl, sym, ◌∙◌, ap, subst, ◌↔◌}
use Rattle.std.proofs.lemmas.Bool.{and_parts, eqb-true, eq-eqb, false≢true, ltb-true, lt-ltb, not-true, true≢false}
use Rattle.os_heap.proofs.RangeTests.{are_mapped_all, are_mapped_from, ranges_split, same_tests}
use Rattle.os_heap.specs.Ranges.{are_bytes_mapped}
use Rattle.os_heap.specs.Store.{store_of}
use Rattle.os_heap_words.proofs.Spans.{mapped_below}
use Rattle.os_heap.specs.Bytes.{AreMapped, shares_address}
use Rattle.os_heap.specs.Memory.{byte_at, bytes_of, class_of, is_mapped, mapping, Mapping, regions}
use Rattle.os_heap.specs.Classes.{is_anchor, is_flex_header}
use Rattle.os_heap.specs.Records.{meets_record}
use Rattle.os_heap.specs.Class.{Class}
use Rattle.os_heap.specs.AddressMap.{AddressMap}
use Rattle.flex_store.specs.declared.flex.Extent.{Extent}
use Rattle.flex_store.specs.declared.flex.Flex.{Flex}
use Rattle.profile.specs.Outcome.{Gives}
use Rattle.flex_store.specs.Blocks.{Block, bytes_taken_by_all}
use Rattle.flex_store.specs.Calls.{FlexState, flex_after_init, flex_after_init_over, is_flex_range}
use Rattle.flex_store.specs.Memory.{blocks_in}
use Rattle.flex_store.specs.State.{IsFlexAt, IsFlexStore, IsNoFlex, IsStoreAt, blocks_of, flex_in, held_in, state_of_flex}

pub record IsGoodRange (mapped : ℕ → Bool) (start end : ℕ) : Type 0 where
  pub start_aligned : start % 4 ≡ 0
  pub end_aligned : end % 4 ≡ 0
  pub some : start < end
  pub there : AreMapped mapped start (end - start)

-- The test of the range, over the list of all that is recorded.
range_is : (m : AddressMap) (start end : ℕ) → is_flex_range (store_of m) start end
    ≡ ((start % 4 == 0 && end % 4 == 0) && (nat_lt start end && (are_bytes_mapped (is_mapped m) start (end - start) && not (meets_record (regions m) start (end - start)))))
unfolding store_of is_flex_range
range_is m start end =
    ap (λ (t : Bool). (start % 4 == 0 && end % 4 == 0) && (nat_lt start end && (are_bytes_mapped (is_mapped m) start (end - start) && not t)))
    (sym (ranges_split (shares_address start (end - start)) (bytes_of m) (regions m)))

pub good_range : (m : AddressMap) (start end : ℕ) → is_flex_range (store_of m) start end ≡ true → IsGoodRange (is_mapped m) start end
good_range m start end range =
    let mapped : ℕ → Bool = is_mapped m in
    let is = sym (range_is m start end) ∙ range in
    let clear : Bool = not (meets_record (regions m) start (end - start)) in
    let one = and_parts (nat_eq (start % 4) 0 && nat_eq (end % 4) 0) (nat_lt start end && (are_bytes_mapped mapped start (end - start) && clear)) is in
    let two = and_parts (nat_eq (start % 4) 0) (nat_eq (end % 4) 0) one.0 in
    let three = and_parts (nat_lt start end) (are_bytes_mapped mapped start (end - start) && clear) one.1 in
    let four = and_parts (are_bytes_mapped mapped start (end - start)) clear three.1 in
    record {
      start_aligned = eqb-true (start % 4) 0 two.0;
      end_aligned = eqb-true (end % 4) 0 two.1;
      some = ltb-true start end three.0;
      there = are_mapped_all mapped start (end - start) four.0;
    }

pub range_low : (m : AddressMap) (start end : ℕ) → IsGoodRange (is_mapped m) start end → end ≤ 2 ^ 26
range_low m start end g =
    let some : start < end = g.some in
    omega (arith, mapped_below m (end - 1) (g.there (end - 1) (omega arith) (omega arith)))

abbrev pub empty_extent : ℕ → ℕ → Extent
empty_extent start end = record { start = start; end = end; used = 0 }

pub no_blocks : (f : ℕ → ℕ) (start : ℕ) → blocks_in f start (start + 0) ≡ []
unfolding blocks_in
no_blocks f start =
    let none : start + 0 - start ≡ 0 = omega arith in
    rw none refl

pub mapped_same : (m n : AddressMap) → mapping n ≡ mapping m → is_mapped n ≡ is_mapped m
mapped_same m n same = ap (λ (p : Mapping). λ (a : ℕ). is_some (p.place a)) same

pub starts_empty : (m n : AddressMap) (start end : ℕ) → IsNoFlex m → is_flex_range (store_of m) start end ≡ true
    → mapping n ≡ mapping m → class_of n ≡ class_of m → IsStoreAt n (empty_extent start end)
starts_empty m n start end none is same marks =
    let g : IsGoodRange (is_mapped m) start end = good_range m start end is in
    let mapped : is_mapped n ≡ is_mapped m = mapped_same m n same in
    let some : start < end = g.some in
    let empty : blocks_of n (empty_extent start end) ≡ [] = no_blocks (byte_at n) start in
    record {
      store = subst (λ (l : List Block). IsFlexStore n start end l) (sym empty) (record {
        range = record {
          start_aligned = g.start_aligned;
          end_aligned = g.end_aligned;
          there = λ a low high. ap (λ (p : ℕ → Bool). p a) mapped ∙ g.there a low high;
        };
        fits = omega arith;
        whole = tt;
        words = tt;
        inner = λ a has. absurd (false≢true has);
        text = λ k below. absurd (omega arith);
        anchored = tt;
        headers = λ a. ap (λ (c : ℕ → Class). is_flex_header (c a)) marks ∙ none.headers a;
        anchors = λ a. ap (λ (c : ℕ → Class). is_anchor (c a)) marks ∙ none.anchors a;
      });
      used_is = ap bytes_taken_by_all empty;
    }

begins_state : (m n : AddressMap) (start end : ℕ) → mapping n ≡ mapping m → byte_at n ≡ byte_at m
    → held_in n (empty_extent start end) ≡ record { bytes = bytes_of m; flex = Some (record { start = start; end = end; blocks = [] }) }
begins_state m n start end same bytes =
    let empty : blocks_of n (empty_extent start end) ≡ [] = no_blocks (byte_at n) start in
    λ i. record { bytes = record { mapped = mapped_same m n same i; at = bytes i }; flex = Some (record { start = start; end = end; blocks = empty i }) }

-- the store and its answer, where there was none and the range is a good one
pub begins_gives : (m n : AddressMap) (f : Flex) (start end : ℕ) → is_some f.extent ≡ false → is_flex_range (store_of m) start end ≡ true
    → mapping n ≡ mapping m → byte_at n ≡ byte_at m
    → Gives {U = Unit {0}} (state_of_flex m f) (flex_after_init (store_of m) (state_of_flex m f) start end) (Ok tt)
    (state_of_flex n (record { extent = Some (empty_extent start end) }))
unfolding state_of_flex flex_after_init
begins_gives m n f start end none range same bytes = by f.extent none where
  by : (o : Option Extent) → is_some o ≡ false
      → (let t : FlexState = record { bytes = bytes_of m; flex = flex_in m o } in
      Gives {U = Unit {0}} t (flex_after_init_over (store_of m) t start end t.flex) (Ok tt) (held_in n (empty_extent start end)))
  by None none = rw range (begins_state m n start end same bytes, refl)
  by (Some e) none = absurd (true≢false none)

pub no_flex : (m : AddressMap) (o : Option Extent) → is_some o ≡ false → IsFlexAt m o → IsNoFlex m
no_flex m None none is = is
no_flex m (Some e) none is = absurd (true≢false none)

pub range_tested : (m : AddressMap) (start end : ℕ) (all met : Bool) → start % 4 ≡ 0 → end % 4 ≡ 0 → start < end
    → ((all ≡ true) ↔ AreMapped (is_mapped m) start (end - start)) → met ≡ meets_record (regions m) start (end - start)
    → (all && not met) ≡ is_flex_range (store_of m) start end
range_tested m start end all met aligned whole some tested met_is =
    let mapped : ℕ → Bool = is_mapped m in
    rw (range_is m start end, eq-eqb (start % 4) 0 aligned, eq-eqb (end % 4) 0 whole, lt-ltb start end some, ← met_is)
    (ap (λ (t : Bool). t && not met) (same_tests all (are_bytes_mapped mapped start (end - start))
    (λ e. are_mapped_from mapped start (end - start) (tested.0 e)) (λ e. tested.1 (are_mapped_all mapped start (end - start) e))))

pub range_apart : (m : AddressMap) (start end : ℕ) → is_flex_range (store_of m) start end ≡ true → meets_record (regions m) start (end - start) ≡ false
range_apart m start end range =
    let apart : Bool = not (meets_record (regions m) start (end - start)) in
    let mapped : Bool = are_bytes_mapped (is_mapped m) start (end - start) in
    let one = and_parts ((start % 4) == 0 && (end % 4) == 0) (nat_lt start end && (mapped && apart)) (sym (range_is m start end) ∙ range) in
    let two = and_parts (nat_lt start end) (mapped && apart) one.1 in
    not-true (meets_record (regions m) start (end - start)) (and_parts mapped apart two.1).1
