-- What a tidy leaves of private words that name no block which moves.
use Rattle.profile.specs.MemoryMap.{module_area_start}
use Rattle.std.proofs.Common.{ℕ, ◌≡◌, ◌+◌, ◌≤◌, ◌<◌, ◌∙◌, true, List, [], ◌∷◌, Option, Some, None, subst, inl, inr, arith}
use Rattle.std.proofs.lemmas.Bool.{cases_eq}
use Rattle.address_map.specs.Bytes.{in_range, word_at}
use Rattle.address_map.specs.Moves.{moved_to}
use Rattle.address_map.specs.declared.follow.BlockMove.{BlockMove}
use Rattle.os_heap_words.specs.lists.Heap.{HeapList}
use Rattle.os_heap.proofs.Apart.{range_parts}
use Rattle.os_heap.specs.Store.{find_heap}
use Rattle.dynamic_areas.specs.Ground.{AreaStore}
use Rattle.rma.proofs.HeapSlideLemmas.Records.{slid_in}
use Rattle.rma.specs.Calls.{with_store}
use Rattle.rma.specs.heap_slide.Slide.{is_listed, slid_bytes, with_slid}
use Rattle.instances_table.specs.plans.Code.{private_of}
use Rattle.instances_table.specs.Modules.{slots_of}
use Rattle.instances.proofs.TidyingLemmas.NameLemmas.{heap_small, slid_small, tidy_keeps_names}
use Rattle.instances.specs.tidying.Laws.{AreBytes}
use Rattle.instances.specs.tidying.Movable.{movable_blocks}
use Rattle.instances.specs.tidying.Slid.{moves_in, private_words_of, words_moved, module_state_slid, module_state_slid_in}
use Rattle.instances.specs.module_state.ModuleState.{ModuleState, private_word, with_private}
use Rattle.law_machine.proofs.FlexLemmas.Small.{word_small}
use Rattle.law_machine.specs.other_bytes.ActionWrites.{TidiesKeepWords}

-- two words are the same, so their bytes are
word_parts : (f g : ℕ → ℕ) (p a : ℕ) → AreBytes f → AreBytes g → word_at g p ≡ word_at f p → in_range p 4 a ≡ true → g a ≡ f a
word_parts f g p a small other same inside =
    let zeroth : g p ≡ f p = omega (arith, same, small p, other p) in
    let first : g (p + 1) ≡ f (p + 1) = omega (arith, same, zeroth, small (p + 1), other (p + 1)) in
    let second : g (p + 2) ≡ f (p + 2) = omega (arith, same, zeroth, first, small (p + 2), other (p + 2)) in
    let third : g (p + 3) ≡ f (p + 3) = omega (arith, same, zeroth, first, second) in
    let parts : (p ≤ a) × (a < p + 4) = range_parts p 4 a inside in
    elim (cases_eq p a) [
      | inl at0 ↦ subst (λ (q : ℕ). g q ≡ f q) at0 zeroth
      | inr not0 ↦ elim (cases_eq (p + 1) a) [
        | inl at1 ↦ subst (λ (q : ℕ). g q ≡ f q) at1 first
        | inr not1 ↦ elim (cases_eq (p + 2) a) [
          | inl at2 ↦ subst (λ (q : ℕ). g q ≡ f q) at2 second
          | inr not2 ↦
              let at3 : p + 3 ≡ a = omega (arith, parts.0, parts.1, not0, not1, not2) in
              subst (λ (q : ℕ). g q ≡ f q) at3 third
        ]
      ]
    ]

-- after a tidy memory holds bytes
words_small : (moves : List BlockMove) (slots : List ℕ) (e : AreaStore) → AreBytes e.store.bytes.at → AreBytes (words_moved moves slots e).store.bytes.at
words_small moves [] e small = small
words_small moves (slot ∷ slots) e small =
    let value : ℕ = moved_to moves (private_word e slot) in
    words_small moves slots (with_private e slot value) (word_small e.store.bytes.at (private_of slot) value small)

slid_small_in : (return_address : ℕ) (w : ModuleState) (o : Option HeapList) → AreBytes w.area_store.store.bytes.at
    → AreBytes (module_state_slid_in return_address w o).area_store.store.bytes.at
slid_small_in return_address w None small = small
slid_small_in return_address w (Some h) small =
    let movable : List ℕ = movable_blocks w.area_store.store w.modules (private_words_of w) return_address h in
    let copied : ℕ → ℕ = slid_bytes (is_listed movable) (h.start + 16) (h.start + 16) h.items w.area_store.store.bytes.at in
    words_small (moves_in h movable) (slots_of w.modules) (with_store w.area_store (with_slid w.area_store.store h movable))
    (heap_small copied h.start h.end (slid_in h movable)
    (slid_small (is_listed movable) (h.start + 16) (h.start + 16) h.items w.area_store.store.bytes.at small))

tidied_small : (return_address : ℕ) (w : ModuleState) → AreBytes w.area_store.store.bytes.at → AreBytes (module_state_slid return_address w).area_store.store.bytes.at
unfolding module_state_slid
tidied_small return_address w small = slid_small_in return_address w (find_heap module_area_start w.area_store.store.heaps) small

pub tidies_keep_words : TidiesKeepWords
tidies_keep_words return_address w slot a module_state modules small held stays byte =
    word_parts w.area_store.store.bytes.at (module_state_slid return_address w).area_store.store.bytes.at (private_of slot) a small
    (tidied_small return_address w small) (tidy_keeps_names return_address w module_state modules small slot held ∙ stays) byte
