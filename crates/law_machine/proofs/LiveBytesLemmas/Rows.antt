-- What the calls that are none of OS_Heap, of OS_Module or of flex leave of what live blocks hold:
-- all of it.
use Rattle.profile.specs.MemoryMap.{error_block_start, system_start}
use Rattle.std.proofs.Common.{ℕ, ◌≡◌, ◌∙◌, Bool, false, List, [], ◌∷◌, ◌++◌, refl}
use Rattle.profile.specs.ErrorNames.{error_code, error_name}
use Rattle.profile.specs.SwiNames.{swi_of}
use Rattle.address_map.specs.Bytes.{in_range, with_word_at}
use Rattle.profile.specs.images.Entries.{Entry}
use Rattle.os_heap_words.specs.lists.Heap.{HeapList}
use Rattle.os_heap.specs.Store.{Store}
use Rattle.dynamic_areas.specs.Ground.{AreaStore}
use Rattle.law_machine.proofs.HeapFrameLemmas.Areas.{area_calls_keep}
use Rattle.law_machine.specs.heap_frame.AreaLaws.{AreaCallKeepsHeap}
use Rattle.swi_dispatch_guest.specs.Refusal.{Refusal}
use Rattle.swi_dispatch_guest.specs.Refusal.TheVariants as refusal
use Rattle.swi_dispatch_guest.proofs.Kept.{outside_bytes, outside_word, short_name}
use Rattle.swi_dispatch_guest.specs.Errors.{with_error}
use Rattle.swi_dispatch_guest.specs.MachineState.{MachineState, machine_area_store}
use Rattle.swi_dispatch_guest.specs.Step.{outcome_of_call}
use Rattle.law_machine.proofs.HeapAloneLemmas.Keeping.{off_system}
use Rattle.law_machine.proofs.HeapAloneLemmas.LiveBytes.{payload_inside}
use Rattle.law_machine.proofs.HeapAloneLemmas.ModuleHosts.{IsHost}
use Rattle.law_machine.proofs.HeapAloneLemmas.States.{sound_store}
use Rattle.law_machine.proofs.LiveBytesLemmas.Answers.{IsOther, other_has}
use Rattle.law_machine.proofs.LiveBytesLemmas.AreaBlocks.{area_calls_keep_both}
use Rattle.law_machine.proofs.LiveBytesLemmas.Heaps.{HasHeaps, KeepsBlocks, all_kept}
use Rattle.law_machine.specs.live_bytes.AreaLaws.{AreaCallHas, KeepsBoth}

-- an error's block lies in the system pages
pub error_off : (t : MachineState) (e : Refusal) (a : ℕ) → in_range system_start 0x3000 a ≡ false → (with_error t e).store.bytes.at a ≡ t.store.bytes.at a
error_off t refusal.Own a out = refl
error_off t (refusal.System e) a out =
    outside_bytes (with_word_at t.store.bytes.at error_block_start (error_code e)) a (error_name e ++ 0 ∷ []) (short_name e) out
    ∙ outside_word t.store.bytes.at a (error_code e) out

pub all_same : (s : Store) → KeepsBlocks s s
all_same s h g block total new_total a found found' live live' here there = refl

module _ (s : MachineState) (has : HasHeaps s) where
  error_all : (t : MachineState) (e : Refusal) → KeepsBlocks s.store t.store → KeepsBlocks s.store (with_error t e).store
  error_all t refusal.Own kept = kept
  error_all t (refusal.System e) kept = λ h g block total new_total a found found' live live' here there.
      error_off t (refusal.System e) a
      (off_system s h has.modules.store found a (payload_inside s.store h block total a (sound_store s has.modules.store) found live here))
      ∙ kept h g block total new_total a found found' live live' here there

  -- areas: the heaps that guests made, and the module area's
  guests : (e : AreaStore) (h : HeapList) → IsHost s h → AreaCallKeepsHeap h (machine_area_store s) e
  guests e h host = area_calls_keep (machine_area_store s) e h (record {
    area_store = host.modules.store.area_store;
    system = host.modules.store.system;
    found = host.found;
    own = host.own;
  })

  both : (e : AreaStore) → AreaCallHas (machine_area_store s) (KeepsBoth s.store) e
  both e = area_calls_keep_both (machine_area_store s) e has.modules.store.area_store

  areas_all : (e : AreaStore) → AreaCallHas (machine_area_store s) (KeepsBlocks s.store) e
  areas_all e = record {
    create = λ w name made done store.
        all_kept s e.store has (λ h host _. (guests e h host).create w name made done store) ((both e).create w name made done store);
    remove = λ number done store. all_kept s e.store has (λ h host _. (guests e h host).remove number done store) ((both e).remove number done store);
    change = λ number amount store. all_kept s e.store has (λ h host _. (guests e h host).change number amount store) ((both e).change number amount store);
  }

  pub other_keeps : (images : List Entry) (x : Bool) (next number : ℕ) → IsOther (swi_of number)
      → KeepsBlocks s.store (outcome_of_call images s x next number).now.store
  other_keeps images x next number other = other_has s (KeepsBlocks s.store) (all_same s.store) error_all areas_all images x next number other
