use Rattle.std.proofs.Common.{ℕ, ◌+◌, ◌*◌, ◌≤◌, ◌⊎◌, [], sym, subst, arith, inl, inr}
use Rattle.std.proofs.lemmas.Bool.{cases_lt}
use Rattle.address_map.specs.Bytes.{Bytes}
use Rattle.address_map.specs.Memory.{bytes_of}
use Rattle.address_map.specs.declared.map.AddressMap.{AddressMap}
use Rattle.store_copies.specs.Pages.{AreUnmappedPages}
use Rattle.store_copies.specs.Words.{AreListedWithin, IsSummary, all_changes, word_changes_below, is_shown_elsewhere}
use Rattle.store_copies.proofs.ChangeLemmas.{none_before, none_behind, same_summary}
use Rattle.store_copies.proofs.PageLemmas.{pages_passed}
use Rattle.store_copies.proofs.changes.changed_words_in.Goals as goal

pub loop-page-init : goal.loop-page-init
loop-page-init c =
    let reported = is_shown_elsewhere c.args.has_error in
    let old = bytes_of c.args.before.now in
    let after : AddressMap = c.memory-after.result.now in
    let within : AreListedWithin reported old (bytes_of after) c.args.pages =
    subst (λ (b : Bytes). AreListedWithin reported old b c.args.pages) (sym c.memory-after.ensures.bytes) c.requires in
    let least = c.min-page.ensures in
    record {
      limit = omega (arith, least);
      summary = same_summary c.none-changes.result [] (word_changes_below reported old (bytes_of after) (1024 * c.min-page.result))
          (none_before reported old (bytes_of after) c.args.pages c.min-page.result (omega (arith, least)) (omega (arith, least)) within) c.none-changes.ensures;
    }

pub loop-page-preserved : goal.loop-page-preserved
loop-page-preserved c =
    let reported = is_shown_elsewhere c.args.has_error in
    let old = bytes_of c.args.before.now in
    let after : AddressMap = c.memory-after.result.now in
    let from = c.past_unmapped-page.ensures.from in
    let none : AreUnmappedPages after (c.loop-page.page + 1) c.past_unmapped-page.result =
    subst (λ (m : AddressMap). AreUnmappedPages m (c.loop-page.page + 1) c.past_unmapped-page.result) (sym c.memory-after.ensures.map) c.past_unmapped-page.ensures.unmapped in
    record {
      limit = c.past_unmapped-page.ensures.limit;
      summary = same_summary c.add_page.new.self (word_changes_below reported old (bytes_of after) (1024 * (c.loop-page.page + 1)))
          (word_changes_below reported old (bytes_of after) (1024 * c.past_unmapped-page.result))
          (pages_passed reported old after (c.loop-page.page + 1) c.past_unmapped-page.result from none) c.add_page.ensures;
    }

pub returns : goal.returns
returns c =
    let reported = is_shown_elsewhere c.args.has_error in
    let old = bytes_of c.args.before.now in
    let after : AddressMap = c.memory-after.result.now in
    let page : ℕ = c.loop-page.page in
    let past = c.loop-page-test.false in
    let least = c.min-end.ensures in
    let within : AreListedWithin reported old (bytes_of after) c.args.pages =
    subst (λ (b : Bytes). AreListedWithin reported old b c.args.pages) (sym c.memory-after.ensures.bytes) c.requires in
    let behind : (c.args.pages.end ≤ page) ⊎ (16384 ≤ page) = elim (cases_lt c.args.pages.end 16384) [
      | inl low ↦ inl (omega (arith, low, past, least))
      | inr high ↦ inr (omega (arith, high, past, least))
    ] in
    let all : IsSummary c.loop-page.changes (all_changes reported old (bytes_of after)) =
    same_summary c.loop-page.changes (word_changes_below reported old (bytes_of after) (1024 * page)) (all_changes reported old (bytes_of after))
    (none_behind reported old (bytes_of after) c.args.pages page c.loop-page.invariant.limit behind within) c.loop-page.invariant.summary in
    subst (λ (b : Bytes). IsSummary c.loop-page.changes (all_changes reported old b)) c.memory-after.ensures.bytes all
