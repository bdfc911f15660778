use Rattle.std.proofs.Common.{◌≡◌, ◌<◌, ◌+◌, ◌∙◌, ℕ, List, ap, drop, get_or, length, sym, arith}
use Rattle.rma.specs.Moves.{moved_to}
use Rattle.rma.specs.BlockMove.{BlockMove}
use Rattle.rma.specs.Ground.{AreaStore, area_store_of}
use Rattle.instances.specs.module_state.ModuleState.{private_word, with_private}
use Rattle.instances.proofs.ModuleStateLemmas.Keeping.{written_then}
use Rattle.instances.proofs.TidyingLemmas.Looping.{words_next}
use Rattle.instances.specs.tidying.Slid.{words_moved}
use Rattle.instances.proofs.tidying.follow.move_words.Goals as goal

pub loop-slot-preserved : goal.loop-slot-preserved
loop-slot-preserved c =
    let i : ℕ = c.loop-slot.slot-index in
    let slots : List ℕ = c.args.slots.now in
    let moves : List BlockMove = c.args.moves.now in
    let slot : ℕ = get_or slots i 0 in
    let within : i < length slots = omega arith in
    record {
      area_store = λ area_table.
          let e : AreaStore = area_store_of c.loop-slot.map area_table in
          let value : c.moved_to.result ≡ moved_to moves (private_word e slot) =
          c.moved_to.ensures ∙ ap (moved_to moves) (c.private_value-word.ensures.area_store area_table) in
          let after : area_store_of c.put_private.new.map area_table ≡ with_private e slot (moved_to moves (private_word e slot)) =
          c.put_private.ensures.area_store area_table ∙ ap (with_private e slot) value in
          ap (words_moved moves (drop (i + 1) slots)) after ∙ sym (words_next moves slots i e within) ∙ c.loop-slot.invariant.area_store area_table;
      kept = written_then _ _ _ c.loop-slot.invariant.kept c.put_private.ensures.kept;
    }
