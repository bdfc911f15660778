-- Private words, the environment text, and blocks and images that are given back.
use Rattle.profile.specs.MemoryMap.{environment_text_start, module_area_start, system_start}
use Rattle.std.proofs.Common.{ℕ, ◌+◌, ◌*◌, ◌≡◌, ◌≤◌, ◌<◌, ◌++◌, false, List, [], ◌∷◌, length, Result, Ok, Err, refl, inl, inr, arith, length-append}
use Rattle.std.proofs.lemmas.Bool.{both_ways, cases_Bool, false_from_ne_true, le-leb, lt-ltb, ne_eqb}
use Rattle.profile.specs.ErrorNumber.{ErrorNumber}
use Rattle.address_map.proofs.Stores.{in_range-cases}
use Rattle.address_map.specs.Bytes.{Bytes, in_range, with_bytes_at, with_word_at}
use Rattle.os_heap.proofs.Apart.{range_parts}
use Rattle.os_heap.specs.Calls.{gave_back}
use Rattle.os_heap.specs.Store.{Store}
use Rattle.dynamic_areas.specs.Ground.{AreaStore}
use Rattle.rma.specs.Calls.{rma_freed, with_store}
use Rattle.rma.specs.Images.{image_dropped, image_freed, or_kept}
use Rattle.rma.proofs.FlexFrameLemmas.Heaps.{OnDone}
use Rattle.instances_table.specs.ModuleArea.{is_in_module_area}
use Rattle.instances_table.specs.declared.parts.Image.{Image}
use Rattle.instances_table.specs.plans.Code.{private_of}
use Rattle.instances.specs.module_state.ModuleState.{area_store_after_free, image_gone, or_same, private_freed, private_word, with_private, with_text}
use Rattle.law_machine.proofs.HeapFrameLemmas.HeapCalls.{LeavesFit, gave_fit}
use Rattle.law_machine.proofs.HeapFrameLemmas.Holding.{keeps_all, stays_both, system_writes, written_fit}
use Rattle.law_machine.proofs.HeapFrameLemmas.ModuleArea.{IsAny, Leaves, OnAreaStore, fit_both, fit_same, freed_fit, records_fit, store_fit}
use Rattle.law_machine.specs.heap_frame.FitAreaStores.{AreaStoreStaysFit, IsFitAreaStore}
use Rattle.law_machine.specs.heap_frame.Fits.{IsFitStore, StaysFit, WritesThere}
use Rattle.law_machine.specs.heap_frame.PlanLaws.{WritesStayFit}

-- bytes that are written in the module area or the system pages
bytes_fit : (e : AreaStore) (c : Bytes) → IsFitAreaStore e → WritesThere e.store c → AreaStoreStaysFit e (with_store e (record e.store { bytes = c }))
bytes_fit e c f writes = store_fit e (record e.store { bytes = c }) f (written_fit (4096 * f.area.pages) e.store c f.store writes)

-- and those in the system pages alone
system_fit : (e : AreaStore) (c : Bytes) → IsFitAreaStore e → ((a : ℕ) → in_range system_start 0x3000 a ≡ false → c.at a ≡ e.store.bytes.at a)
    → AreaStoreStaysFit e (with_store e (record e.store { bytes = c }))
system_fit e c f kept = bytes_fit e c f (system_writes (4096 * f.area.pages) e.store c f.store kept)

-- a range within the system pages
part_within : (at len a : ℕ) → system_start ≤ at → at + len ≤ 0x01C03000 → in_range system_start 0x3000 a ≡ false → in_range at len a ≡ false
part_within at len a low high out = false_from_ne_true (in_range at len a) (λ is.
    let parts : (at ≤ a) × (a < at + len) = range_parts at len a is in
    both_ways (in_range system_start 0x3000 a) out
    (rw (le-leb system_start a (omega (arith, parts.0, low)), lt-ltb a 0x01C03000 (omega (arith, parts.1, high))) refl))

word_apart : (f : ℕ → ℕ) (at value a : ℕ) → system_start ≤ at → at + 4 ≤ 0x01C03000 → in_range system_start 0x3000 a ≡ false → with_word_at f at value a ≡ f a
word_apart f at value a low high out = elim (in_range-cases at 4 a) [
  | inl r ↦ absurd (both_ways (in_range at 4 a) (part_within at 4 a low high out) r.0)
  | inr r ↦ elim r.1 [
    | inl less ↦ rw (
      ne_eqb a at (λ e. omega (arith, less, e)),
      ne_eqb a (at + 1) (λ e. omega (arith, less, e)),
      ne_eqb a (at + 2) (λ e. omega (arith, less, e)),
      ne_eqb a (at + 3) (λ e. omega (arith, less, e)),
    ) refl
    | inr past ↦ rw (
      ne_eqb a at (λ e. omega (arith, past, e)),
      ne_eqb a (at + 1) (λ e. omega (arith, past, e)),
      ne_eqb a (at + 2) (λ e. omega (arith, past, e)),
      ne_eqb a (at + 3) (λ e. omega (arith, past, e)),
    ) refl
  ]
]

pub word_fit : (e : AreaStore) (slot value : ℕ) → IsFitAreaStore e → slot < 64 → AreaStoreStaysFit e (with_private e slot value)
word_fit e slot value f few =
    system_fit e (record { mapped = e.store.bytes.mapped; at = with_word_at e.store.bytes.at (private_of slot) value }) f
    (λ a out. word_apart e.store.bytes.at (private_of slot) value a (omega arith) (omega (arith, few)) out)

pub text_fit : (e : AreaStore) (text : List ℕ) → IsFitAreaStore e → length text ≤ 255 → AreaStoreStaysFit e (with_text e text)
text_fit e text f few =
    let all : List ℕ = text ++ 0 ∷ [] in
    let size : length all ≤ 256 = omega (arith, few, length-append text (0 ∷ [])) in
    system_fit e (record { mapped = e.store.bytes.mapped; at = with_bytes_at e.store.bytes.at environment_text_start all }) f (λ a out.
    let apart : in_range environment_text_start (length all) a ≡ false = part_within environment_text_start (length all) a (omega arith) (omega (arith, size)) out in
    rw apart refl)

-- a block goes where it can be given back
pub or_same_fit : (A : Type 0) (e : AreaStore) (r : Result (AreaStore × A) ErrorNumber) → IsFitAreaStore e → OnAreaStore (Leaves IsAny e) r → AreaStoreStaysFit e (or_same e r)
or_same_fit A e (Ok x) f done = done.0
or_same_fit A e (Err g) f done = fit_same e f

pub block_fit : (e : AreaStore) (slot : ℕ) → IsFitAreaStore e → slot < 64 → AreaStoreStaysFit e (private_freed e slot)
unfolding private_freed
block_fit e slot f few =
    let g : AreaStore = area_store_after_free e (private_word e slot) in
    let one : AreaStoreStaysFit e g = or_same_fit (Unit {0}) e (rma_freed e (private_word e slot)) f (freed_fit e (private_word e slot) f) in
    fit_both e g (with_private g slot 0) one (word_fit g slot 0 one.fit few)

-- an image is none any more
dropped_fit : (limit : ℕ) (s : Store) (at : ℕ) → IsFitStore limit s → StaysFit limit s (image_dropped s at)
unfolding image_dropped
dropped_fit limit s at f = records_fit limit s _ f

or_kept_fit : (limit : ℕ) (s : Store) (r : Result (Store × Unit {0}) ErrorNumber) → IsFitStore limit s → OnDone (LeavesFit limit s) r
    → StaysFit limit s (or_kept s r)
or_kept_fit limit s (Ok x) f done = done
or_kept_fit limit s (Err e) f done = record { fit = f; outside = keeps_all s }

gone_fit : (limit : ℕ) (s : Store) (at : ℕ) → IsFitStore limit s → StaysFit limit s (image_freed s at)
unfolding image_freed
gone_fit limit s at f =
    let t : Store = image_dropped s at in
    let one : StaysFit limit s t = dropped_fit limit s at f in
    stays_both limit limit s t (or_kept t (gave_back t module_area_start at)) one
    (or_kept_fit limit t (gave_back t module_area_start at) one.fit (gave_fit limit module_area_start at t refl one.fit))

pub image_gone_fit : (e : AreaStore) (image : Image) → IsFitAreaStore e → AreaStoreStaysFit e (image_gone e image)
unfolding image_gone
image_gone_fit e image f = elim (cases_Bool (is_in_module_area image.at)) [
  | inl inside ↦ rw inside (store_fit e (image_freed e.store image.at) f (gone_fit (4096 * f.area.pages) e.store image.at f.store))
  | inr beside ↦ rw beside (store_fit e (image_dropped e.store image.at) f (dropped_fit (4096 * f.area.pages) e.store image.at f.store))
]

pub writes_fit : WritesStayFit
writes_fit e f = record {
  bytes = λ c writes. bytes_fit e c f writes;
  records = λ others. store_fit e (record e.store { others = others }) f (records_fit (4096 * f.area.pages) e.store others f.store);
  word = λ slot value few. word_fit e slot value f few;
  text = λ text few. text_fit e text f few;
  block = λ slot few. block_fit e slot f few;
  image = λ image. image_gone_fit e image f;
}
