-- A tidy moves all blocks that may move, and no others.
use Rattle.profile.specs.MemoryMap.{module_area_start, system_start}
use Rattle.std.proofs.Common.{◌≡◌, ◌≤◌, ◌+◌, ◌-◌, ◌==◌, ◌&&◌, ◌||◌, ◌∙◌, ◌⊎◌, ℕ, Bool, true, false, not, List, [], Some, inl, inr, sym, ap, subst, arith}
use Rattle.std.specs.Prelude.{nat_le, nat_lt}
use Rattle.std.specs.List.{count_by}
use Rattle.std.proofs.lemmas.Bool.{and_from, and_parts, false_from_ne_true, le-leb, leb-true, lt-ltb, ltb-true, eq-eqb, eqb-true, not-true, not_from_false, or_cases, or_left, or_right}
use Rattle.address_map.proofs.Anchors.{among_none, none_among}
use Rattle.address_map.specs.Bytes.{in_range}
use Rattle.address_map.specs.Items.{size_of}
use Rattle.address_map.specs.Moves.{moved_to}
use Rattle.address_map.specs.Records.{anchor_among}
use Rattle.address_map.specs.declared.follow.BlockMove.{BlockMove}
use Rattle.os_heap_words.proofs.ListsLemmas.LiveBlocks.{LiveBytes, law_live_bytes}
use Rattle.os_heap_words.specs.lists.Heap.{HeapList, IsHeapIn}
use Rattle.os_heap_words.specs.lists.Lists.{live_total}
use Rattle.os_heap.proofs.Found.{found_heap, found_start}
use Rattle.os_heap.specs.Forgetting.{holds_heap}
use Rattle.os_heap.specs.Store.{find_heap}
use Rattle.rma.proofs.HeapSlideLemmas.Places.{moved_stays, some_low}
use Rattle.rma.proofs.HeapSlideLemmas.Records.{slid_in}
use Rattle.rma.specs.heap_slide.Slide.{is_listed}
use Rattle.instances_table.proofs.RoomLemmas.{at_most_one, slots_counted}
use Rattle.instances_table.specs.Lookup.{has_image_at}
use Rattle.instances_table.specs.ModuleArea.{is_in_module_area}
use Rattle.instances_table.specs.Modules.{AreModules, slots_of}
use Rattle.instances.proofs.ActionsLemmas.Slots.{used_slots}
use Rattle.instances.proofs.TidyingLemmas.LawLemmas.{heap_after, is_low, slid_where}
use Rattle.instances.proofs.TidyingLemmas.Tidying.{holds_none}
use Rattle.instances.specs.module_state.Sound.{IsModuleState}
use Rattle.instances.specs.module_state.ModuleState.{ModuleState, private_word}
use Rattle.instances.specs.tidying.Laws.{tidy_moves, tidy_moves_in}
use Rattle.instances.specs.tidying.Movable.{can_move, is_named_once, movable_blocks}
use Rattle.instances.specs.tidying.Slid.{moves_in, private_words_of, module_state_moved, module_state_slid}
use Rattle.law_machine.specs.modules.Tidied.{IsImageOf, IsNamedAlone, IsMovable, StandsBehind, TidyFixes, TidyMovesAll}
use Rattle.law_machine.proofs.ModulesLemmas.Naming.{Differ, IsOnce, image_found, image_there, named_once, once_named, times, words_counted}
use Rattle.law_machine.proofs.ModulesLemmas.Packed.{listed_if, packed, passes_if}

module _ (w : ModuleState) (modules : AreModules w.modules) where
  differ : Differ (slots_of w.modules)
  differ x = rw (slots_counted x w.modules) (at_most_one x _ (modules.slots x))

  -- a block that one private word names
  alone_by : (block : ℕ) → is_named_once (private_words_of w) block ≡ true → IsNamedAlone w block
  alone_by block is =
      let count : count_by (λ (v : ℕ). v == block) (private_words_of w) ≡ 1 = eqb-true (count_by (λ (v : ℕ). v == block) (private_words_of w)) 1 is in
      let once : IsOnce (private_word w.area_store) block (slots_of w.modules) =
      once_named (private_word w.area_store) block (slots_of w.modules) (words_counted block (private_words_of w) ∙ count) in
      record {
        slot = once.slot;
        held = sym (used_slots once.slot w.modules) ∙ once.used;
        names = once.names;
        alone = λ other held names. once.alone other (used_slots other w.modules ∙ held) names;
      }

  named_by : (block : ℕ) → IsNamedAlone w block → is_named_once (private_words_of w) block ≡ true
  named_by block alone =
      let one : times (private_word w.area_store) block (slots_of w.modules) ≡ 1 =
      named_once (private_word w.area_store) block (slots_of w.modules) differ (record {
        slot = alone.slot;
        used = used_slots alone.slot w.modules ∙ alone.held;
        names = alone.names;
        alone = λ other used names. alone.alone other (sym (used_slots other w.modules) ∙ used) names;
      }) in
      eq-eqb (count_by (λ (v : ℕ). v == block) (private_words_of w)) 1 (sym (words_counted block (private_words_of w)) ∙ one)

  module _ (return_address block total : ℕ) (above : 4 ≤ block) where
    place : (block - 4) + 4 ≡ block
    place = omega (arith, above)

    abbrev can : Bool
    can = can_move w.area_store.store.anchor (holds_heap w.area_store.store.heaps) w.modules (private_words_of w) return_address (block - 4) total

    named_block : (has_image_at block w.modules || is_named_once (private_words_of w) block) ≡ true → IsImageOf w.modules block ⊎ IsNamedAlone w block
    named_block is = elim (or_cases (has_image_at block w.modules) (is_named_once (private_words_of w) block) is) [
      | inl image ↦ inl (image_there w.modules block image)
      | inr word ↦ inr (alone_by block word)
    ]

    block_named : is_in_module_area block ≡ true → IsImageOf w.modules block ⊎ IsNamedAlone w block
        → (has_image_at block w.modules || is_named_once (private_words_of w) block) ≡ true
    block_named inside named = elim named [
      | inl image ↦ or_left (has_image_at block w.modules) (is_named_once (private_words_of w) block) (image_found w.modules block inside image)
      | inr alone ↦ or_right (has_image_at block w.modules) (is_named_once (private_words_of w) block) (named_by block alone)
    ]

    pub may_by : can ≡ true → IsMovable w return_address block total
    may_by is =
        let anchor : Bool = anchor_among w.area_store.store.anchor (block - 4) total in
        let heap : Bool = holds_heap w.area_store.store.heaps (block - 4) total in
        let code : Bool = in_range (block - 4) total return_address in
        let tied : Bool = has_image_at (block - 4 + 4) w.modules || is_named_once (private_words_of w) (block - 4 + 4) in
        let parts = and_parts tied ((not anchor && not heap) && not code) is in
        let none = holds_none w.area_store.store.anchor (holds_heap w.area_store.store.heaps) w.modules (private_words_of w) return_address (block - 4) total is in
        let away : code ≡ false = not-true code (and_parts (not anchor && not heap) (not code) parts.1).1 in
        record {
          named = named_block (subst (λ (b : ℕ). (has_image_at b w.modules || is_named_once (private_words_of w) b) ≡ true) place parts.0);
          anchors = λ a inside.
              let ends = and_parts (nat_le (block - 4) a) (nat_lt a (block - 4 + total)) inside in
              none_among w.area_store.store.anchor (block - 4) total a none.0 (leb-true (block - 4) a ends.0) (ltb-true a (block - 4 + total) ends.1);
          heaps = none.1;
          code = away;
        }

    pub can_by : is_in_module_area block ≡ true → IsMovable w return_address block total → can ≡ true
    can_by inside may =
        let anchor : Bool = anchor_among w.area_store.store.anchor (block - 4) total in
        let heap : Bool = holds_heap w.area_store.store.heaps (block - 4) total in
        let code : Bool = in_range (block - 4) total return_address in
        let tied : Bool = has_image_at (block - 4 + 4) w.modules || is_named_once (private_words_of w) (block - 4 + 4) in
        let none : anchor ≡ false = among_none w.area_store.store.anchor (block - 4) total (λ a low high.
        may.anchors a (and_from (nat_le (block - 4) a) (nat_lt a (block - 4 + total)) (le-leb (block - 4) a low) (lt-ltb a (block - 4 + total) high))) in
        and_from tied ((not anchor && not heap) && not code)
        (subst (λ (b : ℕ). (has_image_at b w.modules || is_named_once (private_words_of w) b) ≡ true) (sym place) (block_named inside may.named))
        (and_from (not anchor && not heap) (not code)
        (and_from (not anchor) (not heap) (not_from_false anchor none) (not_from_false heap may.heaps)) (not_from_false code may.code))

-- a live block of the module area
record LiesInside (h : HeapList) (block : ℕ) : Type 0 where
  above : 4 ≤ block
  inside : is_in_module_area block ≡ true

module _ (return_address : ℕ) (w : ModuleState) (h : HeapList) (block total : ℕ) (module_state : IsModuleState w []) (modules : AreModules w.modules)
    (found : find_heap module_area_start w.area_store.store.heaps ≡ Some h) (live : live_total block (h.start + 16) h.items ≡ Some total) where
  spelled : IsHeapIn w.area_store.store.bytes h.start h.end h.items
  spelled = found_heap w.area_store.store.bytes module_area_start w.area_store.store.heaps h module_state.area_store.ground.sound.heaps found

  lies : LiesInside h block
  lies =
      let start : h.start ≡ module_area_start = found_start module_area_start w.area_store.store.heaps h found in
      let low : module_area_start + h.end ≤ system_start = is_low w.area_store h module_state.area_store found in
      let first : h.start + 16 + 4 ≤ block = some_low block (h.start + 16) total h.items live in
      let bytes : LiveBytes block total (h.start + 16) (h.start + 16 + size_of h.items) = law_live_bytes block total (h.start + 16) h.items spelled.totals live in
      let within : 16 + size_of h.items ≤ h.end = spelled.inside in
      record {
        above = omega (arith, first);
        inside = and_from (nat_le module_area_start block) (nat_lt block system_start)
            (le-leb module_area_start block (omega (arith, first, start))) (lt-ltb block system_start (omega (arith, bytes.high, bytes.size, within, low, start)));
      }

  listed : IsMovable w return_address block total → is_listed (movable_blocks w.area_store.store w.modules (private_words_of w) return_address h) block ≡ true
  listed may =
      listed_if (can_move w.area_store.store.anchor (holds_heap w.area_store.store.heaps) w.modules (private_words_of w) return_address) (h.start + 16) h.items block total live
      (can_by w modules return_address block total lies.above lies.inside may)

  unlisted : (IsMovable w return_address block total → ⊥) → is_listed (movable_blocks w.area_store.store w.modules (private_words_of w) return_address h) block ≡ false
  unlisted may_not =
      false_from_ne_true (is_listed (movable_blocks w.area_store.store w.modules (private_words_of w) return_address h) block) (λ is.
      may_not (may_by w modules return_address block total lies.above
      (passes_if (can_move w.area_store.store.anchor (holds_heap w.area_store.store.heaps) w.modules (private_words_of w) return_address) (h.start + 16) h.items block total
      spelled.totals live is)))

  moves_are : tidy_moves return_address w ≡ moves_in h (movable_blocks w.area_store.store w.modules (private_words_of w) return_address h)
  moves_are = ap (tidy_moves_in return_address w) found

  pub fixed : (IsMovable w return_address block total → ⊥) → moved_to (tidy_moves return_address w) block ≡ block
  fixed may_not =
      ap (λ (ms : List BlockMove). moved_to ms block) moves_are
      ∙ moved_stays (is_listed (movable_blocks w.area_store.store w.modules (private_words_of w) return_address h)) (h.start + 16) (h.start + 16) h.items block (unlisted may_not)

  pub moved : (g : HeapList) → find_heap module_area_start (module_state_slid return_address w).area_store.store.heaps ≡ Some g → IsMovable w return_address block total
      → StandsBehind (g.start + 16) g.items (moved_to (tidy_moves return_address w) block)
  moved g found' may =
      let listed_blocks : List ℕ = movable_blocks w.area_store.store w.modules (private_words_of w) return_address h in
      let p : HeapList = record { kind = h.kind; start = h.start; end = h.end; items = slid_in h listed_blocks } in
      let same : module_state_slid return_address w ≡ module_state_moved w h listed_blocks = slid_where return_address w h found in
      let there : find_heap module_area_start (module_state_slid return_address w).area_store.store.heaps ≡ Some p =
      subst (λ (v : ModuleState). find_heap module_area_start v.area_store.store.heaps ≡ Some p) (sym same) (heap_after w h listed_blocks found) in
      let both : Some p ≡ Some g = sym there ∙ found' in
      let is : p ≡ g = cc in
      let done : StandsBehind (h.start + 16) (slid_in h listed_blocks) (moved_to (moves_in h listed_blocks) block) =
      packed (is_listed listed_blocks) (h.start + 16) (h.start + 16) h.items block total (omega arith) spelled.totals live (listed may) in
      subst (λ (x : HeapList). StandsBehind (x.start + 16) x.items (moved_to (tidy_moves return_address w) block)) is
      (subst (λ (ms : List BlockMove). StandsBehind (h.start + 16) (slid_in h listed_blocks) (moved_to ms block)) (sym moves_are) done)

pub tidy_moves_all : TidyMovesAll
tidy_moves_all return_address w h g block total module_state modules found found' live may = moved return_address w h block total module_state modules found live g found' may

pub tidy_fixes : TidyFixes
tidy_fixes return_address w h block total module_state modules found live may_not = fixed return_address w h block total module_state modules found live may_not
