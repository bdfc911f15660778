-- What keeps a heap: nothing that happens to its store, or an error of the system, whose block no
-- heap has a byte of.
use Rattle.profile.specs.MemoryMap.{error_block_start, system_start}
use Rattle.std.proofs.Common.{ℕ, ◌≡◌, ◌∙◌, Bool, true, false, [], ◌∷◌, ◌++◌, option_map, Option, Some, None, Result, Ok, Err, ap}
use Rattle.std.proofs.lemmas.Bool.{both_ways, false_from_ne_true}
use Rattle.profile.specs.ErrorNames.{error_code, error_name}
use Rattle.profile.specs.ErrorNumber.{ErrorNumber}
use Rattle.address_map.specs.Bytes.{Bytes, in_range, with_word_at}
use Rattle.os_heap_words.specs.lists.Heap.{HeapList}
use Rattle.os_heap.proofs.Stores.{clear_of-found}
use Rattle.os_heap.specs.Store.{IsSound, Store, find_heap}
use Rattle.dynamic_areas.proofs.SystemWrites.{system_clear}
use Rattle.law_machine.proofs.HeapCallsLemmas.Likeness.{bytes_like}
use Rattle.law_machine.specs.heap_calls.Alone.{Alone, alone_in}
use Rattle.law_machine.specs.heap_calls.Laws.{IsLeftWhole, KeepsHeap}
use Rattle.swi_dispatch_guest.specs.SwiDispatchAnswersErrors.{memory_with_error}
use Rattle.swi_dispatch_guest.specs.Refusal.{Refusal}
use Rattle.swi_dispatch_guest.specs.Refusal.TheVariants as refusal
use Rattle.swi_dispatch_guest.proofs.Kept.{outside_bytes, outside_word, short_name}
use Rattle.swi_dispatch_guest.specs.Answers.{Answer}
use Rattle.swi_dispatch_guest.specs.Errors.{with_error}
use Rattle.swi_dispatch_guest.specs.MachineState.{MachineState}
use Rattle.swi_dispatch_guest.specs.Step.{outcome_of_answer, outcome_of_end}
use Rattle.law_machine.proofs.HeapAloneLemmas.States.{HasStore, sound_store}
use Rattle.law_machine.specs.heap_alone.Laws.{alone_at}
use Rattle.law_machine.proofs.HeapFrameLemmas.Areas.{heap_same}

pub kept_alone : (h : HeapList) (s t : Store) → KeepsHeap h s t → alone_in t h ≡ alone_in s h
kept_alone h s t kept =
    ap (λ (bytes : ℕ → ℕ). let w : Alone = record { heap = h; bytes = bytes } in w)
    (bytes_like h.start h.end t.bytes.at s.bytes.at (λ a here. kept.bytes a here))

pub found_alone : (h : HeapList) (s : Store) → find_heap h.start s.heaps ≡ Some h → alone_at h.start s ≡ Some (alone_in s h)
found_alone h s found = ap (option_map (alone_in s)) found

-- the system pages
abbrev pub IsOffSystem : HeapList → Type 0
IsOffSystem h = (a : ℕ) → in_range h.start h.end a ≡ true → in_range system_start 0x3000 a ≡ false

pub off_system : (s : MachineState) (h : HeapList) → HasStore s → find_heap h.start s.store.heaps ≡ Some h → IsOffSystem h
off_system s h has found = λ a here. false_from_ne_true (in_range system_start 0x3000 a) (λ there.
    both_ways (in_range h.start h.end a)
    (clear_of-found system_start 0x3000 h.start s.store.heaps h (system_clear s.store.heaps s.store.others (sound_store s has).placed has.system) found a there) here)

block_off : (b : Bytes) (e : ErrorNumber) (a : ℕ) → in_range system_start 0x3000 a ≡ false → (memory_with_error b (error_code e) (error_name e)).at a ≡ b.at a
block_off b e a out =
    outside_bytes (with_word_at b.at error_block_start (error_code e)) a (error_name e ++ 0 ∷ []) (short_name e) out ∙ outside_word b.at a (error_code e) out

pub error_kept : (h : HeapList) (s : Store) (t : MachineState) (e : Refusal) → IsOffSystem h → KeepsHeap h s t.store → KeepsHeap h s (with_error t e).store
error_kept h s t refusal.Own off kept = kept
error_kept h s t (refusal.System e) off kept = record {
  found = kept.found;
  bytes = λ a here. block_off t.store.bytes e a (off a here) ∙ kept.bytes a here;
  anchors = λ a here. kept.anchors a here;
}

-- A heap is as it was in a store that is sound again, and in which it is left whole.
abbrev pub KeepsWhole : HeapList → Store → Store → Type 0
KeepsWhole h s t = IsSound t → IsLeftWhole t h.start → KeepsHeap h s t

-- what a call leaves that is done; its error changes nothing
abbrev pub Went : HeapList → Store → Result MachineState Refusal → Type 0
Went h s (Ok t) = KeepsWhole h s t.store
Went h s (Err e) = Unit {0}

-- A call's answer keeps the heap: where there is no error, in such a store.
abbrev pub AnswerKeeps : HeapList → Store → Store → Option Refusal → Type 0
AnswerKeeps h s t None = KeepsWhole h s t
AnswerKeeps h s t (Some e) = KeepsHeap h s t

by_error : (h : HeapList) (s : MachineState) (x : Bool) (a : Answer) (error : Option Refusal) → IsOffSystem h → find_heap h.start s.store.heaps ≡ Some h
    → AnswerKeeps h s.store a.left.now.store error → KeepsWhole h s.store (outcome_of_end s x a error).now.store
by_error h s x a None off found keeps sound left = keeps sound left
by_error h s true a (Some e) off found keeps sound left = error_kept h s.store a.left.now e off keeps
by_error h s false a (Some e) off found keeps sound left = heap_same h s.store found

pub ended_keeps : (h : HeapList) (s : MachineState) (x : Bool) (a : Answer) → IsOffSystem h → find_heap h.start s.store.heaps ≡ Some h
    → AnswerKeeps h s.store a.left.now.store a.error → KeepsWhole h s.store (outcome_of_answer s x a).now.store
ended_keeps h s x a off found keeps sound left = by_error h s x a a.error off found keeps sound left
