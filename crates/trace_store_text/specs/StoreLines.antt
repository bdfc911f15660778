-- All that a store call changes in the machine's store, a line below the call for each.
use Rattle.std.specs.Prelude.{ℕ, Bool, List, ◌++◌}
use Rattle.store_copies.specs.Copies.{KeptStore}
use Rattle.store_copies.specs.Store.{Store}
use Rattle.store_copies.specs.Words.{all_changes, is_shown_elsewhere}
use Rattle.trace_store_text.specs.FlexLines.{flex_lines}
use Rattle.trace_store_text.specs.HeapLines.{heap_lines}
use Rattle.trace_store_text.specs.ImageLines.{image_lines}
use Rattle.trace_store_text.specs.ModuleLines.{module_lines}
use Rattle.trace_store_text.specs.WordLines.{word_lines}

-- the words, but those of the error block where an error is shown
unfoldable pub changed_word_lines : Bool → Store → Store → List ℕ
changed_word_lines has_error s s' = word_lines (all_changes (is_shown_elsewhere has_error) s.bytes s'.bytes)

unfoldable pub store_lines : Bool → KeptStore → KeptStore → List ℕ
store_lines has_error k k' = image_lines k.store k'.store ++ (module_lines k.modules k'.modules
    ++ (flex_lines k.store.bytes k.flex k'.store.bytes k'.flex
    ++ (heap_lines k.store k'.store ++ changed_word_lines has_error k.store k'.store)))
