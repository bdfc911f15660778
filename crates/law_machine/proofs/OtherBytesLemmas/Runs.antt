-- What lists of moves write, a program that is put into memory, and a machine's start.
use Rattle.profile.specs.MemoryMap.{application_start, module_area_start}
use Rattle.std.proofs.Common.{ℕ, ◌≡◌, ◌*◌, ◌∙◌, ◌⊎◌, false, [], ◌∷◌, length, refl, subst, inl, inr}
use Rattle.std.proofs.lemmas.Bool.{cases_Bool}
use Rattle.address_map.proofs.Bytes.{byte_at-unmapped}
use Rattle.address_map.specs.Bytes.{in_range, word_start}
use Rattle.address_map.specs.Items.{is_heap_word}
use Rattle.address_map.specs.declared.region.Kind.TheVariants.{Rma}
use Rattle.os_heap_words.proofs.ListsLemmas.Payloads.{heap_beside}
use Rattle.os_heap.specs.Store.{store_of}
use Rattle.swi_dispatch_guest.specs.MachineState.{MachineState, machine_start}
use Rattle.swi_dispatch_guest.specs.Moves.{machine_after_event, moved_all}
use Rattle.swi_dispatch_guest.specs.GuestState.{IsState, GuestState, state_of}
use Rattle.law_machine.proofs.OtherBytesLemmas.Moves.{other_bytes_stay}
use Rattle.law_machine.specs.other_bytes.MoveWrites.{MayWrite, MayWriteOver, NewPagesAreZero, OtherBytesStayOver, ProgramsKeepOthers, StartsAreZero}

both_kept : (x y z : ℕ) (A B : Type 0) → (y ≡ x) ⊎ A → (z ≡ y) ⊎ B → (z ≡ x) ⊎ (A ⊎ B)
both_kept x y z A B (inl same) (inl kept) = inl (kept ∙ same)
both_kept x y z A B (inr first) (inl kept) = inr (inl first)
both_kept x y z A B before (inr later) = inr (inr later)

pub stay_over : OtherBytesStayOver
stay_over images s [] a state states = inl refl
stay_over images s (m ∷ ms) a state states =
    let t : MachineState = machine_after_event images s m in
    both_kept (s.store.bytes.at a) (t.store.bytes.at a) ((moved_all images t ms).store.bytes.at a) (MayWrite images s t m a) (MayWriteOver images t ms a)
    (other_bytes_stay images s m a state states.0) (stay_over images t ms a states.0 states.1)

pub programs_keep_others : ProgramsKeepOthers
programs_keep_others s program a = elim (cases_Bool (in_range application_start (length program) a)) [
  | inl is ↦ inr is
  | inr out ↦ inl (rw out refl)
]

-- what isn't mapped counts as 0
zero_by : (p : GuestState) (a : ℕ) → (state_of p).store.bytes.mapped a ≡ false → (state_of p).store.bytes.at a ≡ 0
unfolding store_of
zero_by p a none = byte_at-unmapped p.map a none

unmapped_zero : (s : MachineState) (a : ℕ) → IsState s → s.store.bytes.mapped a ≡ false → s.store.bytes.at a ≡ 0
unmapped_zero s a state = subst (λ (t : MachineState). t.store.bytes.mapped a ≡ false → t.store.bytes.at a ≡ 0) state.is (zero_by state.parts a)

pub new_pages_are_zero : NewPagesAreZero
new_pages_are_zero images s m a state after none = elim (other_bytes_stay images s m a state after) [
  | inl same ↦ inl (same ∙ unmapped_zero s a state none)
  | inr written ↦ inr written
]

pub starts_are_zero : StartsAreZero
unfolding machine_start
starts_are_zero sizes a = elim (cases_Bool (is_heap_word module_area_start [] (word_start a))) [
  | inl word ↦ inr (record {
    list = record { kind = Rma; start = module_area_start; end = 4096 * sizes.rma; items = [] };
    found = refl;
    word = word;
  })
  | inr beside ↦ inl (heap_beside (λ _. 0) module_area_start (4096 * sizes.rma) [] a refl tt beside)
]
