-- Which heaps a release in the module area forgets, and what it leaves of the bytes.
use Rattle.profile.specs.MemoryMap.{module_area_start}
use Rattle.std.proofs.Common.{ℕ, ◌≡◌, ◌+◌, ◌↔◌, ◌∙◌, false, is_ok, Some, None, Result, Ok, Err, refl, sym, ap, subst, arith}
use Rattle.std.proofs.lemmas.Bool.{false≢true}
use Rattle.profile.specs.Outcome.{bind}
use Rattle.profile.specs.ErrorNumber.{ErrorNumber}
use Rattle.profile.specs.declared.reason.HeapReason.TheVariants as reason
use Rattle.address_map.specs.Bytes.{word_start}
use Rattle.address_map.specs.Items.{is_heap_word, size_of}
use Rattle.os_heap_words.proofs.ListsLemmas.LiveBlocks.{LiveBytes, law_live_bytes}
use Rattle.os_heap_words.specs.lists.Heap.{HeapList, IsHeapIn}
use Rattle.os_heap.proofs.Forgetting.{own_left}
use Rattle.os_heap.proofs.Found.{found_heap}
use Rattle.os_heap.specs.Calls.{gave_back}
use Rattle.os_heap.specs.Forgetting.{store_after_forget}
use Rattle.os_heap.specs.Store.{Store, find_heap}
use Rattle.dynamic_areas.proofs.ModuleArea.{IsModuleArea, module_area_known}
use Rattle.dynamic_areas.specs.declared.area.Area.{Area}
use Rattle.dynamic_areas.specs.Ground.{AreaStore, IsAreaStore}
use Rattle.rma.specs.Calls.{in_area, rma_freed}
use Rattle.instances.specs.module_state.ModuleState.{or_same, private_freed, private_word}
use Rattle.law_machine.proofs.HeapCallsLemmas.DoneCalls.{OnDone, gave_done}
use Rattle.law_machine.proofs.HeapCallsLemmas.Forgotten.{KeepsByte, calls_forget, left_bytes}
use Rattle.law_machine.specs.heap_calls.Forgotten.{IsForgotten}
use Rattle.law_machine.specs.heap_calls.Turns.{call_on}
use Rattle.law_machine.proofs.HeapFrameLemmas.Guests.{area_stores_fit}
use Rattle.law_machine.specs.heap_frame.FitAreaStores.{IsFitAreaStore}
use Rattle.law_machine.specs.heap_frame.ForgettingLaws.{GoesWithBlock, ReleasesKeepBytes, RemovalsForgetHeaps}

-- the module area and its heap
pub record HasArea (e : AreaStore) : Type 0 where
  pub area : Area
  pub known : IsModuleArea e.store area

pub area_there : (e : AreaStore) → IsAreaStore e → HasArea e
area_there e good =
    let fit : IsFitAreaStore e = area_stores_fit e good in
    record { area = fit.area; known = module_area_known e.store e.pool e.area_table fit.area good fit.found }

-- a release
abbrev store_left : AreaStore → Result (AreaStore × Unit {0}) ErrorNumber → Store
store_left d (Ok x) = x.0.store
store_left d (Err f) = d.store

released_is : (d : AreaStore) (x : AreaStore × Unit {0}) (block : ℕ) (r : Result (Store × Unit {0}) ErrorNumber) → gave_back d.store module_area_start block ≡ r
    → in_area d r ≡ Ok x → call_on d.store module_area_start reason.Free block 0 ≡ Ok (x.0.store, (block, 0))
released_is d x block (Ok y) is done =
    let same : y.0 ≡ x.0.store = ap (store_left d) done in
    ap (λ (q : Result (Store × Unit {0}) ErrorNumber). bind q (λ z. Ok (z.0, (block, 0)))) is ∙ ap (λ (t : Store). Ok (t, (block, 0))) same
released_is d x block (Err f) is done = absurd (cc)

freed_is : (d : AreaStore) (x : AreaStore × Unit {0}) (block : ℕ) → rma_freed d block ≡ Ok x
    → call_on d.store module_area_start reason.Free block 0 ≡ Ok (x.0.store, (block, 0))
unfolding rma_freed
freed_is d x block is = released_is d x block (gave_back d.store module_area_start block) refl is

pub freed_shown : (d : AreaStore) (x : AreaStore × Unit {0}) (k : HeapList) (block : ℕ) → IsAreaStore d → find_heap k.start d.store.heaps ≡ Some k → rma_freed d block ≡ Ok x
    → (find_heap k.start x.0.store.heaps ≡ None) ↔ IsForgotten d.store module_area_start reason.Free block 0 k.start
freed_shown d x k block good found is =
    calls_forget d.store x.0.store k module_area_start reason.Free block 0 (block, 0) good.ground.sound found (freed_is d x block is)

-- the block of a private word
gone_by : (d : AreaStore) (k : HeapList) (slot : ℕ) (r : Result (AreaStore × Unit {0}) ErrorNumber) → IsAreaStore d → find_heap k.start d.store.heaps ≡ Some k
    → rma_freed d (private_word d slot) ≡ r → (find_heap k.start (or_same d r).store.heaps ≡ None) ↔ GoesWithBlock d slot k.start
gone_by d k slot (Ok x) good found is =
    let reported : (find_heap k.start x.0.store.heaps ≡ None) ↔ IsForgotten d.store module_area_start reason.Free (private_word d slot) 0 k.start =
    freed_shown d x k (private_word d slot) good found is in (
      λ none. record { done = ap (λ (r : Result (AreaStore × Unit {0}) ErrorNumber). is_ok r) is; forgotten = reported.0 none },
      λ goes. reported.1 goes.forgotten,
    )
gone_by d k slot (Err f) good found is = (
  λ none. absurd (let no : None ≡ Some k = sym none ∙ found in cc),
  λ goes. absurd (false≢true (sym (ap (λ (r : Result (AreaStore × Unit {0}) ErrorNumber). is_ok r) is) ∙ goes.done)),
)

pub removals_forget : RemovalsForgetHeaps
unfolding private_freed
removals_forget d k slot good found = gone_by d k slot (rma_freed d (private_word d slot)) good found refl

-- what a release leaves of the bytes
kept_by : (d e : AreaStore) (P : Store → Type 0) (r : Result (Store × Unit {0}) ErrorNumber) → OnDone (Unit {0}) P r → in_area d r ≡ Ok (e, tt) → P e.store
kept_by d e P (Ok x) done is =
    let same : x.0 ≡ e.store = ap (store_left d) is in
    subst P same done
kept_by d e P (Err f) done is = absurd (cc)

freed_in : (d e : AreaStore) (block : ℕ) → rma_freed d block ≡ Ok (e, tt) → in_area d (gave_back d.store module_area_start block) ≡ Ok (e, tt)
unfolding rma_freed
freed_in d e block is = is

pub releases_keep : ReleasesKeepBytes
releases_keep d e g block a good sound is found none =
    let has : HasArea d = area_there d good in
    let o : HeapList = has.known.heap in
    let s : Store = d.store in
    let start : o.start ≡ module_area_start = has.known.start in
    let own : find_heap o.start s.heaps ≡ Some o = subst (λ (p : ℕ). find_heap p s.heaps ≡ Some o) (sym start) has.known.found in
    let heap : IsHeapIn s.bytes o.start o.end o.items = found_heap s.bytes o.start s.heaps o good.ground.sound.heaps own in
    let done : OnDone (Unit {0}) (KeepsByte s o g a) (gave_back s o.start block) =
    gave_done (KeepsByte s o g a) s o block own (λ total items given.
    let lies : LiveBytes block total (o.start + 16) (o.start + 16 + size_of o.items) = law_live_bytes block total (o.start + 16) o.items heap.totals given.live in
    left_bytes (store_after_forget s block total block) o g items a (own_left s o block total block own (omega (arith, lies.low)) given.past)) in
    let is' : in_area d (gave_back s o.start block) ≡ Ok (e, tt) =
    subst (λ (p : ℕ). in_area d (gave_back s p block) ≡ Ok (e, tt)) (sym start) (freed_in d e block is) in
    kept_by d e (KeepsByte s o g a) (gave_back s o.start block) done is' sound
    (subst (λ (p : ℕ). find_heap p e.store.heaps ≡ Some g) (sym start) found)
    (subst (λ (p : ℕ). is_heap_word p g.items (word_start a) ≡ false) (sym start) none)
