-- Private words name afterwards what they named.
use Rattle.instances_table.specs.MemoryMap.{heap_name, module_area_start, system_start}
use Rattle.std.proofs.Common.{◌≡◌, ◌≢◌, ℕ, ◌+◌, ◌-◌, ◌%◌, ◌^◌, ◌==◌, ◌<◌, ◌≤◌, ◌⊎◌, ◌∙◌, Bool, true, List, [], ◌∷◌, refl, ap, subst, Option, Some, None, inl, inr, arith}
use Rattle.std.proofs.lemmas.Bool.{both_ways, cases_Bool, cases_lt, eq-eqb, eqb-true, false_from_ne_true}
use Rattle.rma.specs.Bytes.{in_range, with_moved_at, with_word_at, word_at, word_start}
use Rattle.rma.specs.Items.{is_heap_word, size_of}
use Rattle.rma.specs.Moves.{AreDown, moved_to}
use Rattle.rma.specs.BlockMove.{BlockMove}
use Rattle.rma.specs.Item.{Item}
use Rattle.rma.specs.Item.TheVariants.{Free, Live}
use Rattle.rma.proofs.Payloads.{heap_beside, spelled_inside}
use Rattle.rma.proofs.Words.{written}
use Rattle.rma.specs.lists.Heap.{AreTotals, HeapList, IsHeapIn, next_free, with_heads, with_heap}
use Rattle.rma.specs.lists.Words.{IsWordWritten}
use Rattle.rma.proofs.Apart.{range_parts}
use Rattle.rma.proofs.Found.{found_heap, found_start}
use Rattle.rma.specs.Store.{Store, find_heap}
use Rattle.rma.proofs.HeapSlideLemmas.LawLemmas.{slid_totals, slide_fits}
use Rattle.rma.proofs.HeapSlideLemmas.Places.{bytes_low, bytes_past, moves_down}
use Rattle.rma.proofs.HeapSlideLemmas.Records.{slid_in}
use Rattle.rma.specs.heap_slide.Slide.{is_listed, item_place_after, slid_bytes, with_slid}
use Rattle.rma.specs.Ground.{AreaStore}
use Rattle.rma.specs.Calls.{with_store}
use Rattle.instances_table.specs.plans.Code.{private_of}
use Rattle.instances_table.proofs.RoomLemmas.{slots_once}
use Rattle.instances_table.specs.Changes.{is_slot_held}
use Rattle.instances_table.specs.Modules.{AreModules, number_passing, slots_of}
use Rattle.instances.specs.module_state.Sound.{IsModuleState}
use Rattle.instances.specs.module_state.ModuleState.{ModuleState, private_word, with_private}
use Rattle.instances.proofs.TidyingLemmas.LawLemmas.{is_low}
use Rattle.instances.specs.tidying.Laws.{AreBytes, TidyKeepsNames, tidy_moves_in}
use Rattle.instances.specs.tidying.Movable.{movable_blocks}
use Rattle.instances.specs.tidying.Slid.{moves_in, private_words_of, words_moved, module_state_moved, module_state_slid, module_state_slid_in}

-- bytes stay bytes
word_small : (f : ℕ → ℕ) (at v : ℕ) → AreBytes f → AreBytes (with_word_at f at v)
word_small f at v small a = elim (cases_Bool (a == at)) [
  | inl zeroth ↦ rw zeroth (omega arith)
  | inr past0 ↦ elim (cases_Bool (a == at + 1)) [
    | inl first ↦ rw (past0, first) (omega arith)
    | inr past1 ↦ elim (cases_Bool (a == at + 2)) [
      | inl second ↦ rw (past0, past1, second) (omega arith)
      | inr past2 ↦ elim (cases_Bool (a == at + 3)) [
        | inl third ↦ rw (past0, past1, past2, third) (omega arith)
        | inr past3 ↦ rw (past0, past1, past2, past3) (small a)
      ]
    ]
  ]
]

pub moved_small : (f : ℕ → ℕ) (from to len : ℕ) → AreBytes f → AreBytes (with_moved_at f from to len)
moved_small f from to len small a = elim (cases_Bool (in_range to len a)) [
  | inl inside ↦ rw inside (small (from + (a - to)))
  | inr outside ↦ rw outside (small a)
]

pub slid_small : (mv : ℕ → Bool) (top at : ℕ) (xs : List Item) (f : ℕ → ℕ) → AreBytes f → AreBytes (slid_bytes mv top at xs f)
slid_small mv top at [] f small = small
slid_small mv top at (Free t ∷ xs) f small = slid_small mv top (at + t) xs f small
slid_small mv top at (Live t ∷ xs) f small =
    let place : ℕ = item_place_after (mv (at + 4)) top at in
    slid_small mv (place + t) (at + t) xs (with_moved_at f at place t) (moved_small f at place t small)

pub heads_small : (f : ℕ → ℕ) (at : ℕ) (xs : List Item) (other : ℕ) → AreBytes f → AreBytes (with_heads f at xs other)
heads_small f at [] other small = small
heads_small f at (Live t ∷ xs) other small = word_small (with_heads f (at + t) xs other) at t (heads_small f (at + t) xs other small)
heads_small f at (Free t ∷ xs) other small =
    let rest : ℕ → ℕ = with_heads f (at + t) xs other in
    word_small (with_word_at rest (at + 4) t) at (next_free (at + t) xs other - at) (word_small rest (at + 4) t (heads_small f (at + t) xs other small))

pub heap_small : (f : ℕ → ℕ) (start end : ℕ) (items : List Item) → AreBytes f → AreBytes (with_heap f start end items)
heap_small f start end items small =
    let h0 : ℕ → ℕ = with_heads f (start + 16) items 0 in
    let h1 : ℕ → ℕ = with_word_at h0 start heap_name in
    let h2 : ℕ → ℕ = with_word_at h1 (start + 4) (next_free (start + 16) items 0 - start) in
    let h3 : ℕ → ℕ = with_word_at h2 (start + 8) (16 + size_of items) in
    word_small h3 (start + 12) end (word_small h2 (start + 8) (16 + size_of items)
    (word_small h1 (start + 4) (next_free (start + 16) items 0 - start) (word_small h0 start heap_name (heads_small f (start + 16) items 0 small))))

word_fits : (f : ℕ → ℕ) (a : ℕ) → AreBytes f → word_at f a < 2 ^ 32
word_fits f a small = omega (arith, small a, small (a + 1), small (a + 2), small (a + 3))

-- a block goes to no higher address
down_to : (moves : List BlockMove) (a : ℕ) → AreDown moves → moved_to moves a ≤ a
down_to [] a down = omega arith
down_to (m ∷ ms) a down = elim (cases_Bool (m.from == a)) [
  | inl here ↦ let e : m.from ≡ a = eqb-true m.from a here in rw here (omega (arith, e, down.0.0))
  | inr other ↦ rw other (down_to ms a down.1)
]

-- the word of a slot that was written, and those of others
slot_written : (e : AreaStore) (s v : ℕ) → v < 2 ^ 32
    → IsWordWritten e.store.bytes.at (with_word_at e.store.bytes.at (private_of s) v) (private_of s) v
slot_written e s v fits = written e.store.bytes.at (with_word_at e.store.bytes.at (private_of s) v) (private_of s) v fits (λ a. refl)

slot_other : (e : AreaStore) (s slot v : ℕ) → s ≢ slot → v < 2 ^ 32 → private_word (with_private e s v) slot ≡ private_word e slot
slot_other e s slot v other fits = (slot_written e s v fits).apart (private_of slot) (elim (cases_lt slot s) [
  | inl low ↦ inl (omega (arith, low))
  | inr high ↦ inr (omega (arith, high, other))
])

module _ (moves : List BlockMove) (down : AreDown moves) where
  went : AreaStore → ℕ → ℕ
  went e s = moved_to moves (private_word e s)

  went_fits : (e : AreaStore) (s : ℕ) → AreBytes e.store.bytes.at → went e s < 2 ^ 32
  unfolding went
  went_fits e s small = omega (arith, down_to moves (private_word e s) down, word_fits e.store.bytes.at (private_of s) small)

  words_apart : (slots : List ℕ) (e : AreaStore) (slot : ℕ) → AreBytes e.store.bytes.at → number_passing (λ x. x == slot) slots ≡ 0
      → private_word (words_moved moves slots e) slot ≡ private_word e slot
  unfolding went
  words_apart [] e slot small none = refl
  words_apart (s ∷ ss) e slot small none = elim (cases_Bool (s == slot)) [
    | inl same ↦ absurd (let one = rw same at none in omega (arith, one))
    | inr other ↦
        let none' = rw other at none in
        let apart : s ≢ slot = λ (is : s ≡ slot). both_ways (s == slot) other (eq-eqb s slot is) in
        words_apart ss (with_private e s (went e s)) slot (word_small e.store.bytes.at (private_of s) (went e s) small) (omega (arith, none'))
        ∙ slot_other e s slot (went e s) apart (went_fits e s small)
  ]

  pub words_after : (slots : List ℕ) (e : AreaStore) (slot : ℕ) → AreBytes e.store.bytes.at → number_passing (λ x. x == slot) slots ≡ 1
      → private_word (words_moved moves slots e) slot ≡ moved_to moves (private_word e slot)
  unfolding went
  words_after [] e slot small one = absurd (omega (arith, one))
  words_after (s ∷ ss) e slot small one = elim (cases_Bool (s == slot)) [
    | inl here ↦
        let is : s ≡ slot = eqb-true s slot here in
        let none = rw here at one in
        words_apart ss (with_private e s (went e s)) slot (word_small e.store.bytes.at (private_of s) (went e s) small) (omega (arith, none))
        ∙ subst (λ (q : ℕ). private_word (with_private e s (went e s)) q ≡ went e q) is (slot_written e s (went e s) (went_fits e s small)).here
    | inr other ↦
        let one' = rw other at one in
        let apart : s ≢ slot = λ (is : s ≡ slot). both_ways (s == slot) other (eq-eqb s slot is) in
        words_after ss (with_private e s (went e s)) slot (word_small e.store.bytes.at (private_of s) (went e s) small) (omega (arith, one'))
        ∙ ap (moved_to moves) (slot_other e s slot (went e s) apart (went_fits e s small))
  ]

-- no byte out of the heap changes
pub slid_outside : (s : Store) (h : HeapList) (movable : List ℕ) (a : ℕ) → h.start % 4 ≡ 0 → AreTotals h.items → 16 + size_of h.items ≤ h.end
    → (a < h.start) ⊎ (h.start + h.end ≤ a) → (with_slid s h movable).bytes.at a ≡ s.bytes.at a
slid_outside s h movable a aligned totals inside out =
    let mv : ℕ → Bool = is_listed movable in
    let first : ℕ = h.start + 16 in
    let zero : (first - first) % 8 ≡ 0 = (let none : first - first ≡ 0 = omega arith in rw none refl) in
    let totals' : AreTotals (slid_in h movable) = slid_totals mv first first h.items (omega arith) zero totals in
    let fits = (slide_fits mv first first h.items (omega arith)).1 in
    heap_beside (slid_bytes mv first first h.items s.bytes.at) h.start h.end (slid_in h movable) a aligned totals'
    (false_from_ne_true (is_heap_word h.start (slid_in h movable) (word_start a)) (λ is.
    let there = range_parts h.start h.end a (spelled_inside h.start h.end (slid_in h movable) a aligned totals' (omega (arith, fits, inside)) is) in
    elim out [ inl low ↦ omega (arith, there.0, low) | inr high ↦ omega (arith, there.1, high) ]))
    ∙ elim out [
      | inl low ↦ bytes_low mv first first h.items s.bytes.at a (omega arith) (omega (arith, low))
      | inr high ↦ bytes_past mv first first h.items s.bytes.at a (omega arith) (omega (arith, high, inside))
    ]

word_same : (f g : ℕ → ℕ) (a : ℕ) → ((k : ℕ) → a ≤ k → g k ≡ f k) → word_at g a ≡ word_at f a
word_same f g a same =
    let b0 = same a (omega arith) in
    let b1 = same (a + 1) (omega arith) in
    let b2 = same (a + 2) (omega arith) in
    let b3 = same (a + 3) (omega arith) in
    rw (b0, b1, b2, b3) refl

pub names_moved : (w : ModuleState) (h : HeapList) (movable : List ℕ) (slot : ℕ) → IsModuleState w [] → AreModules w.modules → AreBytes w.area_store.store.bytes.at
    → find_heap module_area_start w.area_store.store.heaps ≡ Some h → is_slot_held slot w.modules ≡ true
    → private_word (module_state_moved w h movable).area_store slot ≡ moved_to (moves_in h movable) (private_word w.area_store slot)
names_moved w h movable slot module_state modules small found held =
    let s : Store = w.area_store.store in
    let heap : IsHeapIn s.bytes h.start h.end h.items = found_heap s.bytes module_area_start s.heaps h module_state.area_store.ground.sound.heaps found in
    let start : h.start ≡ module_area_start = found_start module_area_start s.heaps h found in
    let low : module_area_start + h.end ≤ system_start = is_low w.area_store h module_state.area_store found in
    let first : ℕ = h.start + 16 in
    let mv : ℕ → Bool = is_listed movable in
    let down : AreDown (moves_in h movable) =
    moves_down mv first first h.items (omega arith) (omega (arith, heap.aligned)) (omega (arith, heap.aligned)) heap.totals in
    let e : AreaStore = with_store w.area_store (with_slid s h movable) in
    let small' : AreBytes e.store.bytes.at =
    heap_small (slid_bytes mv first first h.items s.bytes.at) h.start h.end (slid_in h movable) (slid_small mv first first h.items s.bytes.at small) in
    let byte : (k : ℕ) → 0x01C02000 ≤ k → (with_slid s h movable).bytes.at k ≡ s.bytes.at k = λ k high.
    slid_outside s h movable k heap.aligned heap.totals heap.inside (inr (omega (arith, high, start, low))) in
    let word : private_word e slot ≡ private_word w.area_store slot =
    word_same s.bytes.at (with_slid s h movable).bytes.at (private_of slot) (λ k high. byte k (omega (arith, high))) in
    words_after (moves_in h movable) down (slots_of w.modules) e slot small' (slots_once w.modules modules slot held)
    ∙ ap (moved_to (moves_in h movable)) word

names_where : (return_address : ℕ) (w : ModuleState) (o : Option HeapList) (slot : ℕ) → IsModuleState w [] → AreModules w.modules → AreBytes w.area_store.store.bytes.at
    → find_heap module_area_start w.area_store.store.heaps ≡ o → is_slot_held slot w.modules ≡ true
    → private_word (module_state_slid_in return_address w o).area_store slot ≡ moved_to (tidy_moves_in return_address w o) (private_word w.area_store slot)
names_where return_address w None slot module_state modules small found held = refl
names_where return_address w (Some h) slot module_state modules small found held =
    names_moved w h (movable_blocks w.area_store.store w.modules (private_words_of w) return_address h) slot module_state modules small found held

pub tidy_keeps_names : TidyKeepsNames
unfolding module_state_slid
tidy_keeps_names return_address w module_state modules small slot held =
    names_where return_address w (find_heap module_area_start w.area_store.store.heaps) slot module_state modules small refl held
