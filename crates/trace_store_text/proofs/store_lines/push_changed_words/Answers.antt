use Rattle.std.proofs.Common.{refl, sym, subst}
use Rattle.address_map.specs.Bytes.{Bytes}
use Rattle.address_map.specs.Memory.{bytes_of}
use Rattle.debugger.specs.GuestState.{state_of}
use Rattle.store_copies.specs.Copies.{kept_in}
use Rattle.store_copies.specs.Words.{AreListedWithin, is_shown_elsewhere}
use Rattle.trace_store_text.proofs.LineLemmas.{store_lines_kept}
use Rattle.trace_store_text.proofs.store_lines.push_changed_words.Goals as goal

pub returns : goal.returns
returns g c =
    rw (store_lines_kept c.args.has_error (kept_in c.args.before.now).store (state_of c.args.machine.now.guest).store
    (bytes_of c.memory.result.now) (state_of c.args.machine.now.guest).store.bytes c.changed_words_in-changes.result
    c.memory.ensures.bytes refl c.changed_words_in-changes.ensures) c.push_words.ensures.writes

pub changed_words_in-changes-requires : goal.changed_words_in-changes-requires
changed_words_in-changes-requires g c =
    subst (λ (b : Bytes). AreListedWithin (is_shown_elsewhere c.args.has_error) b (state_of c.args.machine.now.guest).store.bytes c.args.pages)
    (sym c.memory.ensures.bytes) c.requires
