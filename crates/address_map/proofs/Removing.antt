-- A search for a record, and the records that are left without it.
use Rattle.std.proofs.Common.{◌≡◌, ℕ, ◌<◌, ◌++◌, true, List, length, take, drop, get_or, add-one, suc}
use Rattle.std.specs.List.{remove, All}
use Rattle.std.proofs.lemmas.List.{drop_more}
use Rattle.std.proofs.lemmas.List.Elements.{All-append, All-take, All-drop}
use Rattle.address_map.specs.declared.map.AddressMap.{AddressMap}
use Rattle.address_map.specs.declared.region.Kind.{Kind}
use Rattle.address_map.specs.declared.region.Region.{Region}
use Rattle.address_map.specs.Records.{is_record, without_region, IsRegion}

-- the first `i` records are others
abbrev pub IsSearched : List Region → Kind → ℕ → ℕ → Type 0
IsSearched records kind at i = without_region records kind at ≡ take i records ++ without_region (drop i records) kind at

pub record_found : (records : List Region) (kind : Kind) (at i : ℕ) (d : Region) → i < length records
    → is_record kind at (get_or records i d) ≡ true → IsSearched records kind at i → without_region records kind at ≡ remove records i
record_found records kind at i d below here so_far =
    let e = rw (drop_more records i d below, here, add-one i) at so_far in e

pub recorded_less : (m : AddressMap) (items : List Region) (i : ℕ) → items ≡ remove m.regions.items i → All IsRegion items
recorded_less m items i is =
    rw is (All-append IsRegion (take i m.regions.items) (drop (suc i) m.regions.items)
    (All-take IsRegion i m.regions.items m.recorded) (All-drop IsRegion (suc i) m.regions.items m.recorded))
