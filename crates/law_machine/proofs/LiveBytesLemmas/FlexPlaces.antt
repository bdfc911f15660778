-- Over any move but a flex call the blocks of the flex store stay where they are: no word of a
-- header changes.
use Rattle.std.proofs.Common.{ℕ, zero, suc, ◌≡◌, ◌+◌, ◌-◌, ◌%◌, ◌^◌, ◌==◌, ◌||◌, ◌∙◌, ◌⊎◌, Bool, true, false, List, [], ◌∷◌, Option, Some, None, refl, sym, ap, subst, inl, inr, arith}
use Rattle.std.specs.Prelude.{nat_le, ok_or}
use Rattle.std.specs.List.{list_any}
use Rattle.std.proofs.lemmas.Bool.{cases_Bool, eq-eqb, false≢true, or_left, or_right}
use Rattle.profile.specs.Outcome.{bind}
use Rattle.profile.specs.ErrorNumber.TheVariants.{BadString}
use Rattle.profile.specs.declared.swi.SwiName.{SwiName}
use Rattle.profile.specs.declared.swi.SwiName.TheVariants as swi
use Rattle.address_map.specs.Bytes.{word_at, word_start}
use Rattle.address_map.specs.Items.{is_heap_word}
use Rattle.profile.specs.images.Entries.{Entry}
use Rattle.os_heap.specs.Store.{Store, is_in_flex_store, owned_in}
use Rattle.flex_store.specs.Blocks.{Block, has_anchor, is_header, bytes_taken_by}
use Rattle.flex_store.specs.Listed.{all_listed, blocks_with_places}
use Rattle.flex_store.specs.Memory.{block_at, blocks_from, blocks_in}
use Rattle.flex_store.specs.declared.blocks.FlexBlock.{FlexBlock}
use Rattle.flex_store.specs.declared.flex.Extent.{Extent}
use Rattle.flex_store.specs.declared.flex.Flex.{Flex}
use Rattle.swi_dispatch_guest.proofs.SwiDispatchPlansKept.{whole_word}
use Rattle.swi_dispatch_guest.specs.Ground.{spelled_store}
use Rattle.law_machine.specs.heap_frame.Fits.{is_module_byte}
use Rattle.law_machine.specs.sliding_stores.FlexStore.{HasFlexStore, IsFlexRangeSpelled, IsSpelledAt, spelled_blocks}
use Rattle.swi_dispatch_guest.specs.SwiDispatchAnswersWords.{host_string}
use Rattle.swi_dispatch_guest.specs.declared.halt.Halt.{Halt}
use Rattle.swi_dispatch_guest.specs.Additions.{load_planned}
use Rattle.swi_dispatch_guest.specs.MachineState.{MachineState, StepOutcome, machine_area_store}
use Rattle.swi_dispatch_guest.specs.Step.{outcome_of_planned, outcome_of_call, result_of_instruction, machine_step, module_loaded, store_called, outcome_of_turn, unless_halted, without_x}
use Rattle.law_machine.proofs.HeapAloneLemmas.States.{HasStore, IsGiven, given_same, has_store, sound_store}
use Rattle.law_machine.specs.heap_alone.ByteLaws.{IsStoredPlain}
use Rattle.swi_dispatch_guest.specs.Moves.{Call, Move, Step, machine_with_words, machine_after_event, swi_made}
use Rattle.swi_dispatch_guest.specs.GuestState.{IsState}
use Rattle.law_machine.proofs.LiveBytesLemmas.FlexMoves.{flex_bytes_stay, loaded_out}
use Rattle.law_machine.proofs.LiveBytesLemmas.FlexStays.{flex_outside}
use Rattle.law_machine.proofs.LiveBytesLemmas.FlexTables.{Same, unhalted_same, called_same, loaded_same, turn_same}
use Rattle.law_machine.proofs.LiveBytesLemmas.Heaps.{HasHeaps, has_heaps}
use Rattle.law_machine.specs.live_bytes.Changes.{is_flex_name}
use Rattle.law_machine.specs.live_bytes.FlexPlaces.{FlexStoreStays, KeepsFlexStore, LoadsKeepFlexStore, may_change_flex}

-- lists of blocks that lie alike, where the first one's header is at `at`
record LieAlike (at : ℕ) (bs cs : List Block) : Type 0 where
  listed : blocks_with_places at cs ≡ blocks_with_places at bs
  headers : (p : ℕ) → is_header at cs p ≡ is_header at bs p
  anchors : (p : ℕ) → has_anchor cs p ≡ has_anchor bs p

next_alike : (at : ℕ) (b c : Block) (bs cs : List Block) → c.anchor ≡ b.anchor → c.size ≡ b.size
    → blocks_with_places (at + bytes_taken_by b.size) cs ≡ blocks_with_places (at + bytes_taken_by b.size) bs → blocks_with_places at (c ∷ cs) ≡ blocks_with_places at (b ∷ bs)
next_alike at b c bs cs anchor size rest =
    let first : FlexBlock = record { anchor = b.anchor; at = at + 8; size = b.size } in
    rw (anchor, size) (ap (λ (more : List FlexBlock). first ∷ more) rest)

first_alike : (at : ℕ) (b c : Block) (bs cs : List Block) → c.anchor ≡ b.anchor → c.size ≡ b.size → LieAlike (at + bytes_taken_by b.size) bs cs
    → LieAlike at (b ∷ bs) (c ∷ cs)
first_alike at b c bs cs anchor size rest = record {
  listed = next_alike at b c bs cs anchor size rest.listed;
  headers = λ p. rw size (ap (λ (t : Bool). (p == at || p == at + 4) || t) (rest.headers p));
  anchors = λ p. rw anchor (ap (λ (t : Bool). p == b.anchor || t) (rest.anchors p));
}

none_alike : (at : ℕ) → LieAlike at [] []
none_alike at = record { listed = refl; headers = λ p. refl; anchors = λ p. refl }

word_same : (f g : ℕ → ℕ) (p : ℕ) → p % 4 ≡ 0 → ((a : ℕ) → word_start a ≡ p → g a ≡ f a) → word_at g p ≡ word_at f p
word_same f g p aligned same =
    let zeroth : g p ≡ f p = same p (omega arith) in
    let first : g (p + 1) ≡ f (p + 1) = same (p + 1) (omega arith) in
    let second : g (p + 2) ≡ f (p + 2) = same (p + 2) (omega arith) in
    let third : g (p + 3) ≡ f (p + 3) = same (p + 3) (omega arith) in
    rw (zeroth, first, second, third) refl

-- Where the words of headers stay, the blocks that are spelled lie alike.
abbrev StayHeaders : (f g : ℕ → ℕ) → ℕ → List Block → Type 0
StayHeaders f g at bs = (a : ℕ) → is_header at bs (word_start a) ≡ true → g a ≡ f a

spelled_alike : (most : ℕ) (f g : ℕ → ℕ) (at end : ℕ) → at % 4 ≡ 0 → StayHeaders f g at (blocks_from most f at end)
    → LieAlike at (blocks_from most f at end) (blocks_from most g at end)
spelled_alike zero f g at end aligned kept = none_alike at
spelled_alike (suc most) f g at end aligned kept = elim (cases_Bool (nat_le end at)) [
  | inl done ↦ rw done (none_alike at)
  | inr more ↦
      let next : ℕ = at + bytes_taken_by (word_at f (at + 4)) in
      let bs : List Block = blocks_from most f next end in
      let stay : StayHeaders f g at (block_at f at ∷ bs) = rw more at kept in
      let one : word_at g at ≡ word_at f at =
      word_same f g at aligned (λ a is.
      stay a (or_left (word_start a == at || word_start a == at + 4) (is_header next bs (word_start a))
      (or_left (word_start a == at) (word_start a == at + 4) (eq-eqb (word_start a) at is)))) in
      let two : word_at g (at + 4) ≡ word_at f (at + 4) =
      word_same f g (at + 4) (omega (arith, aligned)) (λ a is.
      stay a (or_left (word_start a == at || word_start a == at + 4) (is_header next bs (word_start a))
      (or_right (word_start a == at) (word_start a == at + 4) (eq-eqb (word_start a) (at + 4) is)))) in
      let rest : LieAlike next bs (blocks_from most g next end) =
      spelled_alike most f g next end (omega (arith, aligned))
      (λ a is. stay a (or_right (word_start a == at || word_start a == at + 4) (is_header next bs (word_start a)) is)) in
      let there : LieAlike next bs (blocks_from most g (at + bytes_taken_by (word_at g (at + 4))) end) =
      subst (λ (n : ℕ). LieAlike next bs (blocks_from most g (at + bytes_taken_by n) end)) (sym two) rest in
      rw more (first_alike at (block_at f at) (block_at g at) bs (blocks_from most g (at + bytes_taken_by (word_at g (at + 4))) end) one two there)
]

blocks_alike : (f g : ℕ → ℕ) (at end : ℕ) → at % 4 ≡ 0 → StayHeaders f g at (blocks_in f at end) → LieAlike at (blocks_in f at end) (blocks_in g at end)
unfolding blocks_in
blocks_alike f g at end aligned kept = spelled_alike (end - at) f g at end aligned kept

-- two stores with a flex store in one range
record AreAlike (s t : Store) (o : Option Extent) : Type 0 where
  blocks : all_listed (spelled_store t.bytes.at o) ≡ all_listed (spelled_store s.bytes.at o)
  anchors : (a : ℕ) → t.anchor a ≡ s.anchor a
  headers : (a : ℕ) → t.header a ≡ s.header a

abbrev HeadersStay : Store → Store → Type 0
HeadersStay s t = (a : ℕ) → s.header a ≡ true → s.header (word_start a) ≡ true → t.bytes.at a ≡ s.bytes.at a

stores_alike : (s t : Store) (o : Option Extent) → IsSpelledAt s o → IsSpelledAt t o → HeadersStay s t → AreAlike s t o
stores_alike s t None was is kept = record {
  blocks = refl;
  anchors = λ a. is.anchors a ∙ sym (was.anchors a);
  headers = λ a. is.headers a ∙ sym (was.headers a);
}
stores_alike s t (Some e) was is kept =
    let alike : LieAlike e.start (spelled_blocks s e) (spelled_blocks t e) =
    blocks_alike s.bytes.at t.bytes.at e.start (e.start + e.used) was.range.start_aligned
    (λ a header. kept a (was.headers a ∙ header)
    (was.headers (word_start a) ∙ ap (is_header e.start (spelled_blocks s e)) (whole_word a) ∙ header)) in
    record {
      blocks = alike.listed;
      anchors = λ a. is.anchors a ∙ alike.anchors (word_start a) ∙ sym (was.anchors a);
      headers = λ a. is.headers a ∙ alike.headers (word_start a) ∙ sym (was.headers a);
    }

-- a header is owned, so that no instruction stores there
header_owned : (s : Store) (a : ℕ) → s.header (word_start a) ≡ true → owned_in s a ≡ true
unfolding owned_in
header_owned s a header =
    or_right (list_any (λ h. is_heap_word h.start h.items (word_start a)) s.heaps) (s.header (word_start a) || s.anchor (word_start a))
    (or_left (s.header (word_start a)) (s.anchor (word_start a)) header)

no_flex : (name : Option SwiName) → may_change_flex name ≡ false → is_flex_name name ≡ true → ⊥
no_flex (Some swi.FlexInit) other is = false≢true is
no_flex name other is = false≢true (sym other ∙ is)

header_byte : (s : MachineState) (m : Move) (t : MachineState) (a : ℕ) → may_change_flex (swi_made s m) ≡ false
    → (t.store.bytes.at a ≡ s.store.bytes.at a) ⊎ (((m ≡ Step) × IsStoredPlain s a) ⊎ (is_flex_name (swi_made s m) ≡ true))
    → s.store.header (word_start a) ≡ true → t.store.bytes.at a ≡ s.store.bytes.at a
header_byte s m t a other (inl same) word = same
header_byte s m t a other (inr (inl stored)) word = absurd (false≢true (sym stored.1.1 ∙ header_owned s.store a word))
header_byte s m t a other (inr (inr flex)) word = absurd (no_flex (swi_made s m) other flex)

-- where it is
tables_stay : (images : List Entry) (s : MachineState) (m : Move) → IsState s → may_change_flex (swi_made s m) ≡ false → Same s (machine_after_event images s m)
unfolding machine_step store_called
tables_stay images s Step state other = unhalted_same s s.halt (outcome_of_turn images s (result_of_instruction s)) (turn_same s images (result_of_instruction s) other)
tables_stay images s (Call number words) state other =
    let u : MachineState = machine_with_words s words in
    let same : IsGiven s u = given_same s 0 words (has_store s state).size in
    unhalted_same u u.halt (outcome_of_call images u true u.cpu.pc (without_x (number % 2 ^ 24))) (called_same images u true u.cpu.pc (without_x (number % 2 ^ 24)) other)
    ∙ ap (λ (x : MachineState). x.tables.flex) same.is

unhalted_stays : (s : MachineState) (o : Option Halt) (a : ℕ) (x : StepOutcome) → x.now.store.bytes.at a ≡ s.store.bytes.at a
    → (unless_halted s o x).now.store.bytes.at a ≡ s.store.bytes.at a
unhalted_stays s None a x same = same
unhalted_stays s (Some why) a x same = refl

-- So the store stays where the words of its headers do.
kept_store : (s t : MachineState) → HasStore s → HasStore t → t.tables.flex ≡ s.tables.flex → HeadersStay s.store t.store → KeepsFlexStore s t
kept_store s t one two extent kept =
    let there : HasFlexStore t.store s.tables.flex = subst (λ (f : Flex). HasFlexStore t.store f) extent two.stores.flex in
    let alike : AreAlike s.store t.store s.tables.flex.extent = stores_alike s.store t.store s.tables.flex.extent one.stores.flex.is there.is kept in
    record {
      extent = extent;
      blocks = ap (λ (f : Flex). all_listed (spelled_store t.store.bytes.at f.extent)) extent ∙ alike.blocks;
      anchors = alike.anchors;
      headers = alike.headers;
    }

pub flex_store_stays : FlexStoreStays
flex_store_stays images s m state after other =
    let t : MachineState = machine_after_event images s m in
    let one : HasStore s = has_store s state in
    let two : HasStore t = has_store t after in
    kept_store s t one two (tables_stay images s m state other) (λ a header word.
    header_byte s m t a other (flex_bytes_stay images s m a state after ((sound_store s one).headers a header)) word)

-- a load from outside
loaded_stays : (images : List Entry) (s : MachineState) (text : List ℕ) (a : ℕ) → IsState s → is_in_flex_store s.store.others a ≡ true
    → (module_loaded images s text).now.store.bytes.at a ≡ s.store.bytes.at a
unfolding module_loaded
loaded_stays images s text a state flex =
    let has : HasHeaps s = has_heaps s state in
    let out : is_module_byte a ≡ false = flex_outside (machine_area_store s) has.modules.store.area_store has.modules.store.system a flex in
    let o : StepOutcome = outcome_of_planned s true s.cpu.pc false (bind (ok_or (host_string text) BadString) (λ words. load_planned images s words false)) in
    unhalted_stays s s.halt a o ((loaded_out s has.modules images true s.cpu.pc text).bytes a out)

pub loads_keep_flex_store : LoadsKeepFlexStore
loads_keep_flex_store images s text state after =
    let t : MachineState = (module_loaded images s text).now in
    let one : HasStore s = has_store s state in
    let two : HasStore t = has_store t after in
    let extent : t.tables.flex ≡ s.tables.flex = loaded_same s images text in
    kept_store s t one two extent (λ a header word. loaded_stays images s text a state ((sound_store s one).headers a header))
