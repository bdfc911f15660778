-- One word more.
use Rattle.std.proofs.Common.{◌≡◌, ◌<◌, ◌∙◌, ◌||◌, ℕ, Bool, List, [], arith, ap, get_or, length, sym}
use denote.Ref.{Bor}
use Rattle.rosm_settings.specs.gdb.Options.{asks_to_stay, gdb_word_after, is_machine_word}
use Rattle.rosm_settings.proofs.GdbLemmas.OptionLemmas.{last_kept, machine_kept, paths_kept, stays_kept}
use Rattle.rosm_settings.proofs.gdb.options.part_words.Goals as goal
use Rattle.rosm_settings.proofs.gdb.options.part_words.Goals.{then-stays, else-stays}

pub loop-word-preserved : goal.loop-word-preserved
loop-word-preserved c =
    let none : Bor (List ℕ) = record { ref_ptr = (0, 0); now = [] } in
    let words : List (Bor (List ℕ)) = c.args.words.now in
    let place : ℕ = c.loop-word.word-index in
    let word : List ℕ = (get_or words place none).now in
    let within : place < length words = omega (arith, c.loop-word-test.true) in
    let after : c.gdb_word_after-next.result ≡ gdb_word_after c.loop-word.next word =
    c.gdb_word_after-next.ensures ∙ ap (gdb_word_after c.loop-word.next) c.as_bytes-in-loop-word.ensures.value in
    let stays : c.if-stays.stays ≡ (c.loop-word.stays || asks_to_stay c.loop-word.next word) =
    elim c.if-stays.branch [
      | then-stays w ↦
          w.stays-is ∙ w.if-stays.true ∙ sym (ap (λ (b : Bool). b || asks_to_stay c.loop-word.next word) w.if-stays.true)
      | else-stays w ↦
          w.stays-is ∙ w.asks_to_stay-stays.ensures ∙ ap (asks_to_stay c.loop-word.next) w.as_bytes-else-stays.ensures.value
          ∙ sym (ap (λ (b : Bool). b || asks_to_stay c.loop-word.next word) w.if-stays.false)
    ] in
    record {
      paths = paths_kept c.loop-word.next _ words place none within after _ _ _ _ c.is_start_path.ensures
          c.in_ok-push_if.ensures c.loop-word.invariant.paths;
      others = machine_kept c.loop-word.next _ words place none within after _ _ _ _
          (c.is_machine_word.ensures ∙ ap (is_machine_word c.loop-word.next) c.as_bytes.ensures.value)
          c.in_ok-push_if-2.ensures c.loop-word.invariant.others;
      stays = stays_kept c.loop-word.next _ words place none within after c.loop-word.stays _ _ stays c.loop-word.invariant.stays;
      next = last_kept c.loop-word.next _ words place none within after _ c.loop-word.invariant.next;
    }
