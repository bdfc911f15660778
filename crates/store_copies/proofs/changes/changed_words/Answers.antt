-- No word lies before the first page or behind the last.
use Rattle.std.proofs.Common.{◌≡◌, ap, arith, inl, inr}
use Rattle.store_copies.specs.declared.changes.PageRange.{PageRange}
use Rattle.store_copies.proofs.changes.changed_words.Goals as goal

pub changed_words_in-requires : goal.changed_words_in-requires
changed_words_in-requires c n inside beyond =
    let first : c.all-pages.result.first ≡ 0 = ap (λ (p : PageRange). p.first) c.all-pages.ensures in
    let end : c.all-pages.result.end ≡ 16384 = ap (λ (p : PageRange). p.end) c.all-pages.ensures in
    absurd (elim beyond [ inl low ↦ omega (arith, low, first) | inr high ↦ omega (arith, high, end, inside) ])
