-- The memory of a machine at its start: the areas stand on it.
use Rattle.profile.specs.MemoryMap.{application_start, module_area_start, system_start}
use Rattle.std.proofs.Common.{◌≡◌, ℕ, ◌+◌, ◌*◌, ◌<◌, ◌≤◌, ◌++◌, false, leb, List, [], ◌∷◌, length, refl, ap, ◌∙◌, arith}
use Rattle.std.specs.Prelude.{is_some}
use Rattle.std.proofs.lemmas.Bool.{le-ltb, and_right}
use Rattle.profile.specs.Sizes.{Sizes, AreGood}
use Rattle.os_heap.specs.AddressMap.{AddressMap}
use Rattle.os_heap.specs.Kind.TheVariants.{Heap, Rma}
use Rattle.os_heap.proofs.Anchors.{among_none}
use Rattle.os_heap.proofs.InRange.{range_inside}
use Rattle.os_heap.specs.Bytes.{in_range}
use Rattle.os_heap.specs.Classes.{is_anchor, is_flex_header}
use Rattle.os_heap.specs.Records.{anchor_among}
use Rattle.os_heap.specs.Class.TheVariants as class
use Rattle.os_heap.specs.Memory.{anchor_of, Mapping, mapping, is_mapped, byte_at, bytes_of, regions, free_pages, class_of, place}
use Rattle.os_heap.specs.lists.Heap.{HeapList}
use Rattle.os_heap.specs.Calls.{store_with_new_heap}
use Rattle.os_heap.specs.Ranges.{MayBegin}
use Rattle.os_heap.specs.Store.{Store, store_of, AreClasses, IsSound, AreClear, heaps_in, others_in}
use Rattle.os_heap.proofs.Limits.{records_room}
use Rattle.os_heap.proofs.Frame.{classes_same}
use Rattle.os_heap.proofs.RangeTests.{range_low}
use Rattle.os_heap.proofs.Recorded.{store_recorded, recorded_sound}
use Rattle.dynamic_areas.specs.Areas.{start_area_table}
use Rattle.dynamic_areas.specs.Ground.{AreAreas, is_fixed, is_area_table, system_pages_range}
use Rattle.dynamic_areas.proofs.GroundLemmas.{or_true}
use Rattle.dynamic_areas.proofs.ModuleArea.{region_known}
use Rattle.dynamic_areas.specs.Start.{bare_store, start_store}

no_heaps : (m : AddressMap) → regions m ≡ [] → (store_of m).heaps ≡ []
unfolding store_of
no_heaps m none = rw none refl

no_others : (m : AddressMap) → regions m ≡ [] → (store_of m).others ≡ []
unfolding store_of
no_others m none = rw none refl

plain_among : (m : AddressMap) (at len : ℕ) → ((x : ℕ) → class_of m x ≡ class.Plain) → anchor_among (anchor_of m) at len ≡ false
plain_among m at len plain = among_none (anchor_of m) at len (λ a low high. ap is_anchor (plain a))

pub may_begin_area : (m : AddressMap) (s : Sizes) → AreGood s → regions m ≡ [] → ((x : ℕ) → is_mapped m x ≡ is_area_table (start_area_table s) x)
    → ((x : ℕ) → class_of m x ≡ class.Plain) → MayBegin Rma (store_of m) module_area_start (4096 * s.rma)
unfolding store_of
may_begin_area m s good none mapped plain =
    let some : 1 ≤ s.rma = good.has_rma in
    let most : s.pages ≤ 1024 = good.in_limit in
    let fits : s.app + s.rma + 3 ≤ s.pages = good.has_room in
    record {
      region = region_known (bytes_of m) module_area_start (4096 * s.rma) refl (omega arith) (omega arith) (omega arith)
          (λ x low high. mapped x ∙ rw (range_inside module_area_start (4096 * s.rma) x low high) (or_true (is_fixed s x)));
      clear = rw (none, plain_among m module_area_start (4096 * s.rma) plain) refl;
      room = rw none (refl, refl);
    }

abbrev start_heap : Sizes → HeapList
start_heap s = record { kind = Rma; start = module_area_start; end = 4096 * s.rma; items = [] }

pub start_areas : (m n o : AddressMap) (s : Sizes) → AreGood s → regions m ≡ [] → ((x : ℕ) → is_mapped m x ≡ is_area_table (start_area_table s) x)
    → free_pages m + (s.app + s.rma + 3) ≡ s.pages → store_of n ≡ store_with_new_heap Rma (store_of m) module_area_start (4096 * s.rma) → IsSound (store_of n)
    → mapping n ≡ mapping m → regions o ≡ regions n ++ system_pages_range ∷ [] → mapping o ≡ mapping n → byte_at o ≡ byte_at n
    → ((x : ℕ) → class_of o x ≡ class_of n x) → AreAreas (store_of o) (free_pages o) (start_area_table s)
unfolding store_of
start_areas m n o s good none mapped pool begun sound map_n records map_o bytes marks =
    let some : 1 ≤ s.rma = good.has_rma in
    let most : s.pages ≤ 1024 = good.in_limit in
    let fits : s.app + s.rma + 3 ≤ s.pages = good.has_room in
    let same : bytes_of o ≡ bytes_of n = λ i. record { mapped = λ a. is_some ((map_o i).place a); at = bytes i } in
    let store = store_recorded n o system_pages_range refl records same marks in
    let heaps : (store_of n).heaps ≡ start_heap s ∷ [] =
    ap (λ (t : Store). t.heaps) begun ∙ ap (λ (hs : List HeapList). hs ++ start_heap s ∷ []) (no_heaps m none) in
    let others : (store_of n).others ≡ [] = ap (λ (t : Store). t.others) begun ∙ no_others m none in
    let apart : AreClear system_start 0x3000 module_area_start (4096 * s.rma) = λ x inside.
    let low : system_start ≤ x = range_low system_start 0x3000 x inside in
    rw (le-ltb x (module_area_start + 4096 * s.rma) (omega arith)) (and_right (leb module_area_start x) false refl) in
    let there : (x : ℕ) → is_mapped n x ≡ is_area_table (start_area_table s) x = λ x. ap (λ (q : Mapping). is_some (q.place x)) map_n ∙ mapped x in
    let free_n : free_pages n ≡ free_pages m = ap (λ (q : Mapping). q.free_pages) map_n in
    let free_o : free_pages o ≡ free_pages n = ap (λ (q : Mapping). q.free_pages) map_o in
    let kept = recorded_sound (store_of n) system_pages_range sound (rw heaps (apart, tt)) (rw others tt) (rw others (omega arith)) in
    rw store (record {
      ground = record {
        sizes = good;
        table = record {
          rooms = (record { page = refl; whole = refl; within = omega arith; place = refl; named = refl }, (tt, tt));
          first = refl;
        };
        area_table = there;
        pages = omega arith;
        ranges = rw others (
          (λ x low high. there x ∙ rw (range_inside system_start 0x3000 x low high, or_true (in_range application_start (4096 * s.app) x)) refl),
          tt,
        );
        sound = kept;
      };
      heap = rw heaps (refl, refl);
    })

pub start_room : (m n : AddressMap) (s : Sizes) → regions m ≡ [] → store_of n ≡ store_with_new_heap Rma (store_of m) module_area_start (4096 * s.rma) → IsSound (store_of n)
    → length (regions n) < 133
start_room m n s none begun sound =
    let heaps : (store_of n).heaps ≡ start_heap s ∷ [] =
    ap (λ (t : Store). t.heaps) begun ∙ ap (λ (hs : List HeapList). hs ++ start_heap s ∷ []) (no_heaps m none) in
    records_room n Heap 0 sound (rw heaps refl)

-- and the words that are marked there are those that the heap spells
pub start_classes : (n o : AddressMap) → AreClasses n
    → regions o ≡ regions n ++ system_pages_range ∷ [] → mapping o ≡ mapping n → byte_at o ≡ byte_at n → ((x : ℕ) → class_of o x ≡ class_of n x) → AreClasses o
start_classes n o classes records map_o bytes marks =
    let same : bytes_of o ≡ bytes_of n = λ i. record { mapped = λ a. is_some ((map_o i).place a); at = bytes i } in
    let store = store_recorded n o system_pages_range refl records same marks in
    classes_same n o (ap (λ (t : Store). t.heaps) store) marks classes

-- the memory of a machine before anything is recorded
bare : (m : AddressMap) (s : Sizes) → ((a : ℕ) → is_mapped m a ≡ is_area_table (start_area_table s) a) → ((a : ℕ) → byte_at m a ≡ 0) → regions m ≡ []
    → ((a : ℕ) → class_of m a ≡ class.Plain) → store_of m ≡ record (bare_store s) { others = [] }
unfolding store_of
bare m s mapped bytes none plain =
    let memory : bytes_of m ≡ (bare_store s).bytes = λ i. record { mapped = λ a. mapped a i; at = λ a. bytes a i } in
    λ i. record {
      bytes = memory i;
      heaps = heaps_in (memory i) (none i);
      others = others_in (none i);
      anchor = λ a. is_anchor (plain a i);
      header = λ a. is_flex_header (plain a i);
    }

-- and after it made the module area a heap, and recorded the system pages
pub started : (m n o : AddressMap) (s : Sizes) → ((a : ℕ) → is_mapped m a ≡ is_area_table (start_area_table s) a) → ((a : ℕ) → byte_at m a ≡ 0) → regions m ≡ []
    → ((a : ℕ) → class_of m a ≡ class.Plain) → store_of n ≡ store_with_new_heap Rma (store_of m) module_area_start (4096 * s.rma) → regions o ≡ regions n ++ system_pages_range ∷ [] → mapping o ≡ mapping n
    → byte_at o ≡ byte_at n → ((a : ℕ) → class_of o a ≡ class_of n a) → store_of o ≡ start_store s
unfolding store_of
started m n o s mapped bytes none plain begun records map_o same_bytes marks =
    let same : bytes_of o ≡ bytes_of n = λ i. record { mapped = λ a. is_some ((map_o i).place a); at = same_bytes i } in
    let start : store_of n ≡ store_with_new_heap Rma (record (bare_store s) { others = [] }) module_area_start (4096 * s.rma) =
    begun ∙ ap (λ (t : Store). store_with_new_heap Rma t module_area_start (4096 * s.rma)) (bare m s mapped bytes none plain) in
    store_recorded n o system_pages_range refl records same marks
    ∙ ap (λ (t : Store). let u : Store = record t { others = t.others ++ system_pages_range ∷ [] } in u) start
