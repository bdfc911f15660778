use Rattle.std.proofs.Common.{◌≡◌, ◌∙◌, ℕ, ◌+◌, ◌/◌, ◌<◌, ◌≤◌, true, false, nat_lt, refl, sym, ap, arith, if◌then◌else◌}
use Rattle.std.proofs.lemmas.Bool.Decides.{nat_tests}
use Rattle.store_copies.specs.Store.{store_of}
use Rattle.trace_store_text.specs.heaps.Limits.{Pages, end_shown, heap_pages, limits_in, pages_between}
use Rattle.trace_store_text.proofs.heaps.limits.heap_pages.Goals as goal
use Rattle.trace_store_text.proofs.heaps.limits.heap_pages.Goals.{then-old-new, else-old-new}

longer_new : (old new : ℕ) → old < new → new ≡ (if nat_lt old new then new else old)
longer_new old new less = let is : nat_lt old new ≡ true = grind (arith, nat_tests, less) in rw is refl

longer_old : (old new : ℕ) → new ≤ old → old ≡ (if nat_lt old new then new else old)
longer_old old new most = let is : nat_lt old new ≡ false = grind (arith, nat_tests, most) in rw is refl

pages_are : (heap from len size old new : ℕ) → from ≡ heap → size ≡ 4096 → len ≡ (if nat_lt old new then new else old)
    → record { first = heap / 4096; end = (from + len) / size + 1 } ≡ pages_between heap old new
pages_are heap from len size old new at page longer = rw (at, page, longer) refl

pub returns : goal.returns
unfolding heap_pages
returns c =
    let o = c.end_shown-old.ensures ∙ ap end_shown c.limits_of.ensures.value in
    let n = c.end_shown-new.ensures ∙ ap end_shown c.limits_of-2.ensures.value in
    let longer : c.if-old-new.len ≡ (if nat_lt c.end_shown-old.result c.end_shown-new.result then c.end_shown-new.result else c.end_shown-old.result) =
    elim c.if-old-new.branch [
      | then-old-new w ↦ w.len-is ∙ longer_new c.end_shown-old.result c.end_shown-new.result w.if-old-new.true
      | else-old-new w ↦ w.len-is ∙ longer_old c.end_shown-old.result c.end_shown-new.result w.if-old-new.false
    ] in
    pages_are c.args.heap c.from.result c.from-2.result c.from-3.result c.end_shown-old.result c.end_shown-new.result c.from.ensures c.from-3.ensures
    (c.from-2.ensures ∙ longer)
    ∙ (λ i. pages_between c.args.heap (o i) (n i))
