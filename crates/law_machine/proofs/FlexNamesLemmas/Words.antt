-- The name of a word.
use Rattle.std.proofs.Common.{◌≡◌, ℕ, ◌+◌, length, Option, Some, arith, sym, ◌∙◌, ap}
use Rattle.std.specs.Option.{option_map}
use Rattle.flex_store.specs.Calls.{FlexState, is_anchor_byte}
use Rattle.flex_store.specs.Blocks.{FlexStore}
use Rattle.law_machine.specs.flex.Laws.{IsSpelledState}
use Rattle.law_machine.specs.flex.Numbered.{Anchor, Inside, anchor_place_of}
use Rattle.law_machine.proofs.FlexLemmas.Apart.{anchors_are_apart}
use Rattle.law_machine.proofs.FlexLemmas.Lists.{list_length}
use Rattle.law_machine.proofs.FlexLemmas.Numbers.{AtWord, found, InBlock, IsFound}
use Rattle.law_machine.specs.flex_names.Laws.{WordsHaveNames}
use Rattle.law_machine.specs.flex_names.Names.{At, In, Name, place_named}
use Rattle.law_machine.proofs.FlexNamesLemmas.Telling.{names_print_blocks}
use Rattle.law_machine.proofs.FlexNamesLemmas.Unbroken.{seen}

name_of : (t : FlexState) (s : FlexStore) → IsSpelledState t s → (a : ℕ) (x : Anchor) → IsFound 0 (0 + length s.blocks) a x → (y : Name) × (place_named (seen s) y ≡ Some x)
name_of t s sp a x (AtWord is) = (At a, ap (λ (z : Anchor). let o : Option Anchor = Some z in o) (sym is))
name_of t s sp a x (InBlock m o is low high) =
    let many = list_length (is_anchor_byte s) (anchor_place_of s) s.start s.blocks in
    let holder = names_print_blocks (seen s) (anchors_are_apart t s sp) m (omega (arith, high, many)) in
    (In holder.0 o, ap (option_map (λ n. Inside n o)) holder.1.0 ∙ ap (λ (z : Anchor). let r : Option Anchor = Some z in r) (sym is))

pub words_have_names : WordsHaveNames
words_have_names t s sp a = name_of t s sp a (anchor_place_of s a) (found 0 s.start s.blocks a)
