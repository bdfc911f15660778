-- Calls that are done, by names.
use Rattle.std.proofs.Common.{inl, inr}
use Rattle.flex_store.specs.Runs.{Alloc, Extend, MidExtend, Release}
use Rattle.law_machine.specs.flex.Numbered.{blocks_seen, anchor_place_of}
use Rattle.law_machine.proofs.FlexLemmas.Apart.{anchors_are_apart}
use Rattle.law_machine.proofs.FlexLemmas.Calls.{calls_go_by_numbers}
use Rattle.law_machine.specs.flex_names.Laws.{DoneCallsGoByNames}
use Rattle.law_machine.proofs.FlexNamesLemmas.Calls.{calls_go_by_names}
use Rattle.law_machine.proofs.FlexNamesLemmas.Unbroken.{alloc_unbroken, extend_unbroken, mid_unbroken, none_behind, release_unbroken, seen}

pub done_calls_go_by_names : DoneCallsGoByNames
done_calls_go_by_names places t u s (Alloc anchor size) name word own sp bytes low done named =
    let left = calls_go_by_numbers places t u s (Alloc anchor size) word own sp bytes low done in
    calls_go_by_names (seen s) (blocks_seen u.flex) (anchor_place_of s anchor) (Alloc anchor size) name (anchors_are_apart t s sp) named left.seen
    (alloc_unbroken s anchor name named left.had)
done_calls_go_by_names places t u s (Release anchor) name word own sp bytes low done named =
    let left = calls_go_by_numbers places t u s (Release anchor) word own sp bytes low done in
    calls_go_by_names (seen s) (blocks_seen u.flex) (anchor_place_of s anchor) (Release anchor) name (anchors_are_apart t s sp) named left.seen
    (release_unbroken t u s anchor name own sp named done)
done_calls_go_by_names places t u s (Extend anchor size) name word own sp bytes low done named =
    let left = calls_go_by_numbers places t u s (Extend anchor size) word own sp bytes low done in
    calls_go_by_names (seen s) (blocks_seen u.flex) (anchor_place_of s anchor) (Extend anchor size) name (anchors_are_apart t s sp) named left.seen
    (λ l is o past. elim past [
      | inl low ↦ extend_unbroken t u s anchor size name own sp named done o low
      | inr behind ↦ none_behind t s anchor name sp named left.had l is o behind
    ])
done_calls_go_by_names places t u s (MidExtend anchor at by) name word own sp bytes low done named =
    let left = calls_go_by_numbers places t u s (MidExtend anchor at by) word own sp bytes low done in
    calls_go_by_names (seen s) (blocks_seen u.flex) (anchor_place_of s anchor) (MidExtend anchor at by) name (anchors_are_apart t s sp) named left.seen
    (mid_unbroken t u s anchor at by name own sp named done)
