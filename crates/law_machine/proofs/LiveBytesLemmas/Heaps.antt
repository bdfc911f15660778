-- The heaps of a machine are those that guests made, and that of the module area: what leaves the
-- blocks of both leaves all.
use Rattle.profile.specs.MemoryMap.{module_area_start}
use Rattle.std.proofs.Common.{ℕ, ◌+◌, ◌-◌, ◌≡◌, ◌==◌, ◌∙◌, ◌⊎◌, true, List, [], ◌∷◌, is_some, Some, refl, sym, ap, subst, inl, inr}
use Rattle.std.proofs.lemmas.Bool.{cases_Bool, false≢true}
use Rattle.address_map.specs.Bytes.{Bytes, in_range}
use Rattle.address_map.specs.Memory.{bytes_of, regions}
use Rattle.address_map.specs.Records.{is_heap_kind}
use Rattle.address_map.specs.declared.region.Kind.{Kind}
use Rattle.address_map.specs.declared.region.Kind.TheVariants as kind
use Rattle.address_map.specs.declared.region.Region.{Region}
use Rattle.os_heap_words.specs.lists.Heap.{HeapList}
use Rattle.os_heap_words.specs.lists.Lists.{live_total}
use Rattle.os_heap.proofs.Found.{found_start}
use Rattle.os_heap.specs.Calls.{has_own_size}
use Rattle.os_heap.specs.Store.{StandAreas, Store, find_heap, heap_in, heaps_in, is_module_area, store_of}
use Rattle.law_machine.specs.heap_frame.BlockLaws.{total_in}
use Rattle.law_machine.specs.heap_calls.Laws.{IsNotForgotten, KeepsHeap}
use Rattle.swi_dispatch_guest.specs.MachineState.{MachineState}
use Rattle.swi_dispatch_guest.specs.GuestState.{IsGuest, IsState, GuestState, state_of}
use Rattle.law_machine.proofs.HeapAloneLemmas.LiveBytes.{payload_inside}
use Rattle.law_machine.proofs.HeapAloneLemmas.ModuleHosts.{HasModules, IsHost, given_modules, has_modules}
use Rattle.law_machine.proofs.HeapAloneLemmas.States.{IsGiven, given_stays, sound_store}
use Rattle.law_machine.specs.live_bytes.AreaLaws.{KeepsBoth}
use Rattle.law_machine.specs.live_bytes.Changes.{IsByteHeld}

kinds : (k : Kind) → is_heap_kind k ≡ true → (has_own_size k ≡ true) ⊎ (is_module_area k ≡ true)
kinds kind.Heap is = inl refl
kinds kind.Rma is = inr refl
kinds other is = absurd (false≢true is)

abbrev IsKnown : HeapList → Type 0
IsKnown h = (has_own_size h.kind ≡ true) ⊎ (is_module_area h.kind ≡ true)

found_known : (b : Bytes) (rs : List Region) (start : ℕ) (h : HeapList) → find_heap start (heaps_in b rs) ≡ Some h → IsKnown h
found_known b [] start h found = absurd (cc)
found_known b (r ∷ rs) start h found = elim (cases_Bool (is_heap_kind r.kind)) [
  | inr other ↦ found_known b rs start h (rw other at found)
  | inl heap ↦
      let found' = rw heap at found in
      elim (cases_Bool (r.at == start)) [
        | inr apart ↦ found_known b rs start h (rw apart at found')
        | inl here ↦
            let one : Some (heap_in b r) ≡ Some h = rw here at found' in
            let same : heap_in b r ≡ h = cc in
            subst IsKnown same (kinds r.kind heap)
      ]
]

area_start : (hs : List HeapList) (start : ℕ) (h : HeapList) → StandAreas hs → find_heap start hs ≡ Some h → is_module_area h.kind ≡ true → h.start ≡ module_area_start
area_start [] start h stand found area = absurd (cc)
area_start (g ∷ hs) start h stand found area = elim (cases_Bool (g.start == start)) [
  | inr apart ↦ area_start hs start h stand.1 (rw apart at found) area
  | inl here ↦
      let one : Some g ≡ Some h = rw here at found in
      let same : g ≡ h = cc in
      subst (λ (x : HeapList). is_module_area x.kind ≡ true → x.start ≡ module_area_start) same stand.0 area
]

-- what a machine has of heaps, those that modules live in among them
pub record HasHeaps (s : MachineState) : Type 0 where
  pub modules : HasModules s
  pub kinds : (start : ℕ) (h : HeapList) → find_heap start s.store.heaps ≡ Some h → (has_own_size h.kind ≡ true) ⊎ (start ≡ module_area_start)

parts_heaps : (p : GuestState) → IsGuest p → HasModules (state_of p) → HasHeaps (state_of p)
unfolding store_of
parts_heaps p machine has = record {
  modules = has;
  kinds = λ start h found. elim (found_known (bytes_of p.map) (regions p.map) start h found) [
    | inl own ↦ inl own
    | inr area ↦ inr (sym (found_start start (heaps_in (bytes_of p.map) (regions p.map)) h found)
        ∙ area_start (heaps_in (bytes_of p.map) (regions p.map)) start h (sound_store (state_of p) has.store).limits.place found area)
  ];
}

pub has_heaps : (s : MachineState) → IsState s → HasHeaps s
has_heaps s state =
    subst HasHeaps state.is
    (parts_heaps state.parts state.machine
    (has_modules (state_of state.parts) (record { parts = state.parts; is = refl; machine = state.machine })))

-- and so where its core alone differs
pub given_heaps : (s t : MachineState) → HasHeaps s → IsGiven s t → HasHeaps t
given_heaps s t has same = record {
  modules = given_modules s t has.modules same;
  kinds = λ start h found. has.kinds start h (ap (λ (u : Store). find_heap start u.heaps) (sym (given_stays s t same)) ∙ found);
}

-- A block of any heap that is live in both stores holds the same in both, as far as it holds it in
-- both.
abbrev pub KeepsBlocks : Store → Store → Type 0
KeepsBlocks s t =
    (h g : HeapList) (block total new_total a : ℕ) → find_heap h.start s.heaps ≡ Some h → find_heap h.start t.heaps ≡ Some g
    → live_total block (h.start + 16) h.items ≡ Some total → live_total block (h.start + 16) g.items ≡ Some new_total
    → in_range block (total - 4) a ≡ true → in_range block (new_total - 4) a ≡ true → t.bytes.at a ≡ s.bytes.at a

-- bytes that a block holds before and after
pub held_both : (s t : Store) (a : ℕ) → KeepsBoth s t → IsByteHeld s t module_area_start a → t.bytes.at a ≡ s.bytes.at a
held_both s t a kept held =
    let old : held.old.start ≡ module_area_start = found_start module_area_start s.heaps held.old held.found in
    let new : held.new.start ≡ module_area_start = found_start module_area_start t.heaps held.new held.left in
    kept held.block held.total held.new_total a
    (ap (total_in held.block) held.found ∙ subst (λ (p : ℕ). live_total held.block (p + 16) held.old.items ≡ Some held.total) (sym old) held.live)
    (ap (total_in held.block) held.left ∙ subst (λ (p : ℕ). live_total held.block (p + 16) held.new.items ≡ Some held.new_total) (sym new) held.stays)
    held.here held.there

pub held_all : (s t : Store) (start a : ℕ) → KeepsBlocks s t → IsByteHeld s t start a → t.bytes.at a ≡ s.bytes.at a
held_all s t start a kept held =
    let old : held.old.start ≡ start = found_start start s.heaps held.old held.found in
    kept held.old held.new held.block held.total held.new_total a
    (subst (λ (p : ℕ). find_heap p s.heaps ≡ Some held.old) (sym old) held.found)
    (subst (λ (p : ℕ). find_heap p t.heaps ≡ Some held.new) (sym old) held.left)
    (subst (λ (p : ℕ). live_total held.block (p + 16) held.old.items ≡ Some held.total) (sym old) held.live)
    (subst (λ (p : ℕ). live_total held.block (p + 16) held.new.items ≡ Some held.new_total) (sym old) held.stays)
    held.here held.there

-- the heap that holds it, by its own start
pub own_found : (s t : Store) (start a : ℕ) (held : IsByteHeld s t start a) → find_heap held.old.start s.heaps ≡ Some held.old
own_found s t start a held =
    subst (λ (p : ℕ). find_heap p s.heaps ≡ Some held.old) (sym (found_start start s.heaps held.old held.found)) held.found

pub held_inside : (s : MachineState) (t : Store) (start a : ℕ) → HasHeaps s → (held : IsByteHeld s.store t start a) → in_range held.old.start held.old.end a ≡ true
held_inside s t start a has held =
    let old : held.old.start ≡ start = found_start start s.store.heaps held.old held.found in
    payload_inside s.store held.old held.block held.total a (sound_store s has.modules.store) (own_found s.store t start a held)
    (subst (λ (p : ℕ). live_total held.block (p + 16) held.old.items ≡ Some held.total) (sym old) held.live) held.here

-- and so it is found in the other store
pub held_recorded : (s t : Store) (start a : ℕ) (held : IsByteHeld s t start a) → IsNotForgotten t held.old.start
held_recorded s t start a held =
    subst (IsNotForgotten t) (sym (found_start start s.heaps held.old held.found)) (ap is_some held.left)

-- what leaves each guest's heap that is not forgotten, and the blocks of the module area, leaves
-- all blocks
pub all_kept : (s : MachineState) (t : Store) → HasHeaps s → ((h : HeapList) → IsHost s h → IsNotForgotten t h.start → KeepsHeap h s.store t)
    → KeepsBoth s.store t → KeepsBlocks s.store t
all_kept s t has guests area h g block total new_total a found found' live live' here there = elim (has.kinds h.start h found) [
  | inl own ↦ (guests h (record { modules = has.modules; found = found; own = own }) (ap is_some found')).bytes a
      (payload_inside s.store h block total a (sound_store s has.modules.store) found live here)
  | inr at ↦
      let new : g.start ≡ h.start = found_start h.start t.heaps g found' in
      area block total new_total a
      (ap (total_in block) (subst (λ (p : ℕ). find_heap p s.store.heaps ≡ Some h) at found) ∙ live)
      (ap (total_in block) (subst (λ (p : ℕ). find_heap p t.heaps ≡ Some g) at found')
      ∙ subst (λ (p : ℕ). live_total block (p + 16) g.items ≡ Some new_total) (sym new) live') here there
]
