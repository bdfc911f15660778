-- Images in place: a range that meets nothing is recorded.
use Rattle.std.proofs.Common.{◌≡◌, ℕ, ◌+◌, ◌%◌, ◌==◌, ◌&&◌, ◌||◌, ◌<◌, ◌≤◌, Bool, true, false, List, [], ◌∷◌, length, refl, not, arith}
use Rattle.std.specs.List.{list_any}
use Rattle.std.proofs.lemmas.Bool.{and_parts, both_ways, eqb-true, false_from_ne_true, lt-ltb, not-true, or_parts}
use Rattle.dynamic_areas.specs.Bytes.{AreMapped, in_range, shares_address}
use Rattle.dynamic_areas.specs.Records.{IsRegion, anchor_among}
use Rattle.dynamic_areas.specs.AddressMap.{AddressMap}
use Rattle.dynamic_areas.specs.Kind.TheVariants as kind
use Rattle.dynamic_areas.specs.Region.{Region}
use Rattle.dynamic_areas.proofs.RangeTests.{are_mapped_all, clear_of_heaps, range_end}
use Rattle.dynamic_areas.proofs.Apart.{range_parts}
use Rattle.dynamic_areas.proofs.Recorded.{IsClearOfAll, recorded_sound}
use Rattle.dynamic_areas.specs.Ranges.{are_bytes_mapped, meets_any}
use Rattle.dynamic_areas.specs.Store.{IsSound, Store, store_of}
use Rattle.rma.specs.NewImages.{may_be_in_place}
use Rattle.rma.proofs.ImageLemmas.{IsRecorded}

-- what is so of a range that may be an image in place
pub record MayBe (s : Store) (at len : ℕ) : Type 0 where
  pub aligned : at % 4 ≡ 0
  pub mapped : AreMapped s.bytes.mapped at len
  pub heaps : list_any (λ h. shares_address at len h.start h.end) s.heaps ≡ false
  pub others : list_any (λ r. shares_address at len r.at r.len) s.others ≡ false
  pub anchors : anchor_among s.anchor at len ≡ false

pub may_be : (s : Store) (at len : ℕ) → may_be_in_place s at len ≡ true → MayBe s at len
may_be s at len may =
    let both = and_parts (at % 4 == 0 && are_bytes_mapped s.bytes.mapped at len) (not (meets_any at len s)) may in
    let front = and_parts (at % 4 == 0) (are_bytes_mapped s.bytes.mapped at len) both.0 in
    let clear : meets_any at len s ≡ false = not-true (meets_any at len s) both.1 in
    let heaps : Bool = list_any (λ h. shares_address at len h.start h.end) s.heaps in
    let others : Bool = list_any (λ r. shares_address at len r.at r.len) s.others in
    let parts = or_parts (heaps || others) (anchor_among s.anchor at len) clear in
    let ranges = or_parts heaps others parts.0 in
    record {
      aligned = eqb-true (at % 4) 0 front.0;
      mapped = are_mapped_all s.bytes.mapped at len front.1;
      heaps = ranges.0;
      others = ranges.1;
      anchors = parts.1;
    }

-- ranges that don't meet, the first of them not empty, share no byte
clear_of_all : (at len : ℕ) (rs : List Region) → 0 < len → list_any (λ r. shares_address at len r.at r.len) rs ≡ false
    → IsClearOfAll (record { kind = kind.Image; at = at; len = len }) rs
clear_of_all at len [] some none = tt
clear_of_all at len (r ∷ rs) some none =
    let parts = or_parts (shares_address at len r.at r.len) (list_any (λ q. shares_address at len q.at q.len) rs) none in (
      λ a there. false_from_ne_true (in_range at len a) (λ here.
          let mine : (at ≤ a) × (a < at + len) = range_parts at len a here in
          let its : (r.at ≤ a) × (a < r.at + r.len) = range_parts r.at r.len a there in
          both_ways (shares_address at len r.at r.len) parts.0
          (rw (
            lt-ltb 0 len some,
            lt-ltb 0 r.len (omega (arith, its.0, its.1)),
            lt-ltb at (r.at + r.len) (omega (arith, mine.0, its.1)),
            lt-ltb r.at (at + len) (omega (arith, mine.1, its.0)),
          ) refl)),
      clear_of_all at len rs some parts.1,
    )

pub placed : (s : Store) (at len : ℕ) → IsSound s → may_be_in_place s at len ≡ true → 0 < len → length s.others < 68
    → IsRecorded s (record { kind = kind.Image; at = at; len = len })
placed s at len sound may some room =
    let is : MayBe s at len = may_be s at len may in
    record {
      sound = recorded_sound s (record { kind = kind.Image; at = at; len = len }) sound (clear_of_heaps at len s.heaps is.heaps)
          (clear_of_all at len s.others some is.others) room;
      mapped = is.mapped;
      aligned = is.aligned;
    }

-- it ends in the address space
pub region_placed : (m : AddressMap) (at len : ℕ) → may_be_in_place (store_of m) at len ≡ true → 0 < len
    → IsRegion (record { kind = kind.Image; at = at; len = len })
unfolding store_of
region_placed m at len may some =
    let is : MayBe (store_of m) at len = may_be (store_of m) at len may in
    record { aligned = is.aligned; end = range_end m at len is.mapped some }
