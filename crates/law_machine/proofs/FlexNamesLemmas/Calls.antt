-- Each call by names.
use Rattle.flex_store.specs.Blocks.{cut_of, more_of}
use Rattle.flex_store.specs.Runs.{Alloc, Extend, MidExtend, Release}
use Rattle.law_machine.specs.flex_names.Laws.{CallsGoByNames}
use Rattle.law_machine.proofs.FlexNamesLemmas.Additions.{alloc_goes_by_names}
use Rattle.law_machine.proofs.FlexNamesLemmas.Removals.{release_goes_by_names}
use Rattle.law_machine.proofs.FlexNamesLemmas.Resized.{resize_goes_by_names}
use Rattle.law_machine.proofs.FlexNamesLemmas.Splices.{splice_goes_by_names}

pub calls_go_by_names : CallsGoByNames
calls_go_by_names p q x (Alloc anchor size) name numbered named by unbroken = alloc_goes_by_names p q x size name numbered named by unbroken
calls_go_by_names p q x (Release anchor) name numbered named by unbroken = release_goes_by_names p q x name numbered named by unbroken
calls_go_by_names p q x (Extend anchor size) name numbered named by unbroken =
    resize_goes_by_names p q x size by.0 name numbered named by.1 unbroken
calls_go_by_names p q x (MidExtend anchor at by) name numbered named is unbroken =
    splice_goes_by_names p q x is.0 at (cut_of by) (more_of by) name numbered named is.1 unbroken
