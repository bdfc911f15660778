-- Calls on blocks that show the same.
use Rattle.std.proofs.Common.{◌≡◌, ℕ, List, Option, None, Some, replicate, refl, sym, ◌∙◌, ap}
use Rattle.std.specs.Prelude.{if◌then◌else◌}
use Rattle.std.specs.Option.{option_and_then, option_map}
use Rattle.flex_store.specs.Blocks.{cut_of, more_of}
use Rattle.flex_store.specs.Runs.{Alloc, Extend, MidExtend, Release}
use Rattle.law_machine.specs.flex.Numbered.{SeenBlock}
use Rattle.law_machine.specs.flex.Seen.{seen_spliced}
use Rattle.law_machine.specs.flex_names.Laws.{seen_resized}
use Rattle.law_machine.specs.flex_names.Names.{contents_named, Name, name_before, same_name, shown_named}
use Rattle.law_machine.specs.flex_names.Runs.{NamesGoAlike}

before_alike : (p r : List SeenBlock) → ((y : Name) → contents_named r y ≡ contents_named p y) → (before : Option Name)
    → option_and_then (contents_named r) before ≡ option_and_then (contents_named p) before
before_alike p r alike None = refl
before_alike p r alike (Some y) = alike y

pub names_go_alike : NamesGoAlike
names_go_alike p q r z (Alloc anchor size) a name alike one two y =
    two y
    ∙ (ap (λ (l : Option (List (Option ℕ))). if same_name y name then Some (replicate size (Some 0)) else shown_named None name y l) (alike y) ∙ sym (one y))
names_go_alike p q r z (Release anchor) a name alike one two y =
    two y ∙ (ap (λ (l : Option (List (Option ℕ))). if same_name y name then None else shown_named (Some 0) name y l) (alike y) ∙ sym (one y))
names_go_alike p q r z (Extend anchor size) a name alike one two y =
    two y ∙ ((λ i. if same_name y name then option_map (λ l. seen_resized l size) (alike name i) else alike y i) ∙ sym (one y))
names_go_alike p q r z (MidExtend anchor at by) a name alike one two y =
    two y
    ∙ ((λ i. if same_name y name then option_map (λ l. seen_spliced l at (cut_of by) (more_of by)) (alike name i)
    else before_alike p r alike (name_before name at (cut_of by) (more_of by) y) i)
    ∙ sym (one y))
