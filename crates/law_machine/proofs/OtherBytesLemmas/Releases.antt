-- What the actions write that give back blocks and images, and those that write private words and
-- the environment text.
use Rattle.profile.specs.MemoryMap.{environment_text_start, module_area_start}
use Rattle.std.proofs.Common.{ℕ, ◌≡◌, ◌+◌, ◌*◌, ◌++◌, ◌∙◌, ◌⊎◌, false, List, [], ◌∷◌, length, Result, Ok, Err, refl, sym, subst, inl, inr, length-append}
use Rattle.std.proofs.lemmas.Bool.{cases_Bool}
use Rattle.profile.specs.ErrorNumber.{ErrorNumber}
use Rattle.address_map.specs.Bytes.{in_range, with_word_at}
use Rattle.os_heap.specs.Calls.{gave_back}
use Rattle.os_heap.specs.Store.{Store}
use Rattle.dynamic_areas.specs.Ground.{AreaStore}
use Rattle.rma.specs.Calls.{in_area, rma_freed}
use Rattle.rma.specs.Images.{image_dropped, image_freed, or_kept}
use Rattle.rma.proofs.FlexFrameLemmas.Heaps.{OnDone}
use Rattle.instances_table.specs.Changes.{module_without}
use Rattle.instances_table.specs.ModuleArea.{is_in_module_area}
use Rattle.instances_table.specs.Modules.{Module, has_instance}
use Rattle.instances_table.specs.declared.parts.Image.{Image}
use Rattle.instances_table.specs.plans.Code.{private_of}
use Rattle.instances.specs.module_state.ModuleState.{ModuleState, area_store_after_free, image_gone, image_gone_of, image_gone_with, or_same, private_freed, private_word, with_private, with_text, module_state_after_remove}
use Rattle.law_machine.proofs.HeapAloneLemmas.Storing.{word_past}
use Rattle.law_machine.proofs.HeapFrameLemmas.Holding.{written_is_fit}
use Rattle.law_machine.proofs.HeapFrameLemmas.ModuleArea.{freed_fit, records_fit}
use Rattle.law_machine.proofs.HeapFrameLemmas.Words.{or_same_fit}
use Rattle.law_machine.specs.heap_frame.FitAreaStores.{IsFitAreaStore}
use Rattle.law_machine.specs.heap_frame.Fits.{IsFitStore}
use Rattle.law_machine.proofs.OtherBytesLemmas.AreaLists.{Leaves, LeavesIn, gave_leaves}
use Rattle.law_machine.specs.other_bytes.ActionWrites.{IsOfPrivateBlock, IsPrivateByte, IsTextByte}
use Rattle.law_machine.specs.other_bytes.AreaWrites.{IsAreaWord}

-- the byte stays, or it is of a word of the module area's heap
abbrev pub Words : Store → Store → ℕ → Type 0
Words s t a = (t.bytes.at a ≡ s.bytes.at a) ⊎ IsAreaWord t a

words_of : (limit : ℕ) (r s t : Store) (a : ℕ) → Leaves limit s t a ⊥ → s.bytes.at a ≡ r.bytes.at a → Words r t a
words_of limit r s t a left before = elim left.byte [
  | inl same ↦ inl (same ∙ before)
  | inr written ↦ elim written [
    | inl word ↦ inr (record { list = left.heap; found = left.found; word = word })
    | inr none ↦ absurd none
  ]
]

-- a block that may be given back
or_same_words : (limit : ℕ) (e : AreaStore) (a : ℕ) (r : Result (Store × Unit {0}) ErrorNumber) → OnDone (LeavesIn limit e.store a ⊥) r
    → Words e.store (or_same e (in_area e r)).store a
or_same_words limit e a (Ok x) left = words_of limit e.store e.store x.0 a left refl
or_same_words limit e a (Err f) left = inl refl

free_words : (e : AreaStore) (block a : ℕ) → IsFitAreaStore e → Words e.store (area_store_after_free e block).store a
unfolding rma_freed
free_words e block a f =
    let limit : ℕ = 4096 * f.area.pages in
    or_same_words limit e a (gave_back e.store module_area_start block) (gave_leaves limit block a e.store ⊥ f.store)

free_fit : (e : AreaStore) (block : ℕ) → IsFitAreaStore e → IsFitAreaStore (area_store_after_free e block)
free_fit e block f = (or_same_fit (Unit {0}) e (rma_freed e block) f (freed_fit e block f)).fit

-- a private word
pub word_written : (e : AreaStore) (slot value a : ℕ) → ((with_private e slot value).store.bytes.at a ≡ e.store.bytes.at a) ⊎ IsPrivateByte slot a
word_written e slot value a = elim (cases_Bool (in_range (private_of slot) 4 a)) [
  | inl is ↦ inr is
  | inr out ↦ inl (word_past e.store.bytes.at (private_of slot) value a out)
]

pub word_fit : (e : AreaStore) (slot value : ℕ) → IsFitAreaStore e → IsFitAreaStore (with_private e slot value)
word_fit e slot value f = record {
  area = f.area;
  found = f.found;
  most = f.most;
  store = written_is_fit (4096 * f.area.pages) e.store (record { mapped = e.store.bytes.mapped; at = with_word_at e.store.bytes.at (private_of slot) value }) f.store;
}

-- the block that it names, and then the word
block_written : (e g : AreaStore) (slot a : ℕ) → Words e.store g.store a
    → ((with_private g slot 0).store.bytes.at a ≡ e.store.bytes.at a) ⊎ (IsAreaWord (with_private g slot 0).store a ⊎ IsPrivateByte slot a)
block_written e g slot a before = elim (word_written g slot 0 a) [
  | inr own ↦ inr (inr own)
  | inl kept ↦ elim before [
    | inl same ↦ inl (kept ∙ same)
    | inr word ↦ inr (inl (record { list = word.list; found = word.found; word = word.word }))
  ]
]

pub private_written : (e : AreaStore) (slot a : ℕ) → IsFitAreaStore e
    → ((private_freed e slot).store.bytes.at a ≡ e.store.bytes.at a) ⊎ IsOfPrivateBlock e slot a
unfolding private_freed
private_written e slot a f =
    let g : AreaStore = area_store_after_free e (private_word e slot) in
    block_written e g slot a (free_words e (private_word e slot) a f)

private_fit : (e : AreaStore) (slot : ℕ) → IsFitAreaStore e → IsFitAreaStore (private_freed e slot)
unfolding private_freed
private_fit e slot f = word_fit (area_store_after_free e (private_word e slot)) slot 0 (free_fit e (private_word e slot) f)

-- an image
dropped_same : (s : Store) (at a : ℕ) → (image_dropped s at).bytes.at a ≡ s.bytes.at a
unfolding image_dropped
dropped_same s at a = refl

or_kept_words : (limit : ℕ) (r s : Store) (a : ℕ) (left : Result (Store × Unit {0}) ErrorNumber) → s.bytes.at a ≡ r.bytes.at a → OnDone (LeavesIn limit s a ⊥) left
    → Words r (or_kept s left) a
or_kept_words limit r s a (Ok x) same left = words_of limit r s x.0 a left same
or_kept_words limit r s a (Err e) same left = inl same

freed_words : (limit : ℕ) (s : Store) (at a : ℕ) → IsFitStore limit s → Words s (image_freed s at) a
unfolding image_freed image_dropped
freed_words limit s at a f =
    let t : Store = image_dropped s at in
    or_kept_words limit s t a (gave_back t module_area_start at) refl (gave_leaves limit at a t ⊥ (records_fit limit s t.others f).fit)

pub image_words : (e : AreaStore) (image : Image) (a : ℕ) → IsFitAreaStore e → Words e.store (image_gone e image).store a
unfolding image_gone
image_words e image a f = elim (cases_Bool (is_in_module_area image.at)) [
  | inl inside ↦ rw inside (freed_words (4096 * f.area.pages) e.store image.at a f.store)
  | inr beside ↦ rw beside (inl (dropped_same e.store image.at a))
]

image_of_words : (e : AreaStore) (m : Module) (left : List Module) (a : ℕ) → IsFitAreaStore e → Words e.store (image_gone_of e m left).store a
image_of_words e m [] a f = image_words e m.image a f
image_of_words e m (k ∷ left) a f = inl refl

image_with_words : (e : AreaStore) (slot : ℕ) (modules : List Module) (a : ℕ) → IsFitAreaStore e → Words e.store (image_gone_with e slot modules).store a
image_with_words e slot [] a f = inl refl
image_with_words e slot (m ∷ modules) a f = elim (cases_Bool (has_instance slot m)) [
  | inl here ↦ rw here (image_of_words e m (module_without slot m) a f)
  | inr other ↦ rw other (image_with_words e slot modules a f)
]

-- a removal
removed_by : (w : ModuleState) (slot a : ℕ) (v : Store) → ((private_freed w.area_store slot).store.bytes.at a ≡ w.area_store.store.bytes.at a) ⊎ IsOfPrivateBlock w.area_store slot a
    → Words (private_freed w.area_store slot).store v a
    → (v.bytes.at a ≡ w.area_store.store.bytes.at a) ⊎ (IsOfPrivateBlock w.area_store slot a ⊎ IsAreaWord v a)
removed_by w slot a v first (inr word) = inr (inr word)
removed_by w slot a v (inl same) (inl kept) = inl (kept ∙ same)
removed_by w slot a v (inr block) (inl kept) = inr (inl block)

pub removed_written : (w : ModuleState) (slot a : ℕ) → IsFitAreaStore w.area_store
    → ((module_state_after_remove w slot).area_store.store.bytes.at a ≡ w.area_store.store.bytes.at a)
    ⊎ (IsOfPrivateBlock w.area_store slot a ⊎ IsAreaWord (module_state_after_remove w slot).area_store.store a)
unfolding module_state_after_remove
removed_written w slot a f =
    let e : AreaStore = private_freed w.area_store slot in
    removed_by w slot a (image_gone_with e slot w.modules).store (private_written w.area_store slot a f)
    (image_with_words e slot w.modules a (private_fit w.area_store slot f))

-- a text, with its zero
pub text_written : (e : AreaStore) (text : List ℕ) (a : ℕ) → ((with_text e text).store.bytes.at a ≡ e.store.bytes.at a) ⊎ IsTextByte text a
text_written e text a =
    let size : length (text ++ 0 ∷ []) ≡ length text + 1 = length-append text (0 ∷ []) in
    elim (cases_Bool (in_range environment_text_start (length text + 1) a)) [
      | inl is ↦ inr is
      | inr out ↦
          let beside : in_range environment_text_start (length (text ++ 0 ∷ [])) a ≡ false =
          subst (λ (n : ℕ). in_range environment_text_start n a ≡ false) (sym size) out in
          inl (rw beside refl)
    ]
