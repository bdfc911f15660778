use Rattle.std.proofs.Common.{◌≡◌, ◌∙◌, ℕ, List, [], ap, length, map, arith}
use Rattle.rma.specs.Memory.{byte_at}
use Rattle.rma.specs.BlockMove.{BlockMove}
use Rattle.rma.proofs.Frame.{layout-regions}
use Rattle.rma.specs.Ground.{area_store_of}
use Rattle.rma.proofs.FlexFrameLemmas.Keeping.{keeps_then}
use Rattle.instances.proofs.ModuleStateLemmas.Records.{layout-mapping}
use Rattle.instances.proofs.ModuleStateLemmas.Writes.{has_system}
use Rattle.instances.proofs.TidyingLemmas.Tidying.{IsBlocksSlid, blocks_slid, may_slide, sound_after, module_state_after}
use Rattle.instances.specs.tidying.Slid.{image_moved, private_words_at, words_moved}
use Rattle.instances.proofs.tidying.tidy.slide.Goals as goal

pub private_words-words-requires-clause-mapped : goal.private_words-words-requires-clause-mapped
private_words-words-requires-clause-mapped c = λ a low high.
    (has_system c.args.map.now c.args.areas.now c.args.table.now [] c.requires.state.sound).mapped a (omega arith) (omega arith)

pub slide-moves-requires-clause-state : goal.slide-moves-requires-clause-state
slide-moves-requires-clause-state c = record { sound = c.requires.state.sound.area_store.ground.sound; classes = c.requires.state.classes }

pub slide-moves-requires-clause-movable : goal.slide-moves-requires-clause-movable
slide-moves-requires-clause-movable c =
    let slots : length c.as_slice.result.now ≡ length c.slots-slots.result.items = ap (length {A = ℕ}) c.as_slice.ensures.value in
    may_slide c.args.map.now c.args.areas.now c.args.table.now c.as_slice-2.result.now c.as_slice-3.result.now c.args.return_address c.requires.state.sound
    (omega (arith, slots)) (omega arith) (c.as_slice-3.ensures.value ∙ c.movable_blocks-movable.ensures)

pub move_words-requires-clause-system : goal.move_words-requires-clause-system
move_words-requires-clause-system c =
    let moves : List BlockMove = c.slide-moves.result.items in
    let blocks : IsBlocksSlid c.args.map.now c.slide-moves.new.map c.args.areas.now c.args.table.now c.move_images.new.table c.as_slice-3.result.now moves =
    blocks_slid c.args.map.now c.slide-moves.new.map c.args.areas.now c.args.table.now c.move_images.new.table c.as_slice-3.result.now moves
    c.requires.state.sound c.slide-moves.ensures.slid c.slide-moves.ensures.kept.mapping
    (c.move_images.ensures ∙ ap (λ (ms : List BlockMove). map (image_moved ms) c.args.table.now) c.as_slice-4.ensures.value) in
    has_system c.slide-moves.new.map c.args.areas.now c.move_images.new.table []
    (sound_after c.args.map.now c.slide-moves.new.map c.args.areas.now c.args.table.now c.move_images.new.table c.as_slice-3.result.now moves
    c.requires.state.sound c.slide-moves.ensures.kept.sound blocks)

pub returns-clause-module_state : goal.returns-clause-module_state
returns-clause-module_state c =
    let moves : List BlockMove = c.slide-moves.result.items in
    let slots : List ℕ = c.slots-slots.result.items in
    let blocks : IsBlocksSlid c.args.map.now c.slide-moves.new.map c.args.areas.now c.args.table.now c.move_images.new.table c.as_slice-3.result.now moves =
    blocks_slid c.args.map.now c.slide-moves.new.map c.args.areas.now c.args.table.now c.move_images.new.table c.as_slice-3.result.now moves
    c.requires.state.sound c.slide-moves.ensures.slid c.slide-moves.ensures.kept.mapping
    (c.move_images.ensures ∙ ap (λ (ms : List BlockMove). map (image_moved ms) c.args.table.now) c.as_slice-4.ensures.value) in
    let words : c.as_slice-2.result.now ≡ private_words_at (byte_at c.args.map.now) slots =
    c.as_slice-2.ensures.value ∙ c.private_words-words.ensures ∙ ap (private_words_at (byte_at c.args.map.now)) c.as_slice.ensures.value in
    let area_store : area_store_of c.move_words.new.map c.args.areas.now ≡ words_moved moves slots (area_store_of c.slide-moves.new.map c.args.areas.now) =
    c.move_words.ensures.area_store c.args.areas.now
    ∙ ap (λ (ms : List BlockMove). words_moved ms c.as_slice-5.result.now (area_store_of c.slide-moves.new.map c.args.areas.now)) c.as_slice-6.ensures.value
    ∙ ap (λ (xs : List ℕ). words_moved moves xs (area_store_of c.slide-moves.new.map c.args.areas.now)) c.as_slice-5.ensures.value in
    module_state_after c.args.map.now c.slide-moves.new.map c.move_words.new.map c.args.areas.now c.args.table.now c.move_images.new.table c.args.return_address
    slots c.as_slice-2.result.now c.as_slice-3.result.now moves c.slots-slots.ensures.value words (c.as_slice-3.ensures.value ∙ c.movable_blocks-movable.ensures)
    blocks area_store

pub returns-clause-kept : goal.returns-clause-kept
returns-clause-kept c =
    let moves : List BlockMove = c.slide-moves.result.items in
    let blocks : IsBlocksSlid c.args.map.now c.slide-moves.new.map c.args.areas.now c.args.table.now c.move_images.new.table c.as_slice-3.result.now moves =
    blocks_slid c.args.map.now c.slide-moves.new.map c.args.areas.now c.args.table.now c.move_images.new.table c.as_slice-3.result.now moves
    c.requires.state.sound c.slide-moves.ensures.slid c.slide-moves.ensures.kept.mapping
    (c.move_images.ensures ∙ ap (λ (ms : List BlockMove). map (image_moved ms) c.args.table.now) c.as_slice-4.ensures.value) in
    let slid = c.slide-moves.ensures.kept in
    let put = c.move_words.ensures.kept in
    record {
      sound = put.sound c.args.areas.now c.move_images.new.table []
          (sound_after c.args.map.now c.slide-moves.new.map c.args.areas.now c.args.table.now c.move_images.new.table c.as_slice-3.result.now moves
          c.requires.state.sound slid.sound blocks);
      classes = put.classes slid.classes;
      mapping = layout-mapping c.slide-moves.new.map c.move_words.new.map put.layout ∙ slid.mapping;
      records = (moves, layout-regions c.slide-moves.new.map c.move_words.new.map put.layout ∙ c.slide-moves.ensures.regions);
      flex = keeps_then _ _ _ slid.flex put.flex;
    }
