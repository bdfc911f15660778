-- Word by word.
use Rattle.std.proofs.Common.{◌≡◌, ◌<◌, ◌≤◌, ◌/◌, ◌∙◌, ℕ, ap, refl, subst, sym, arith}
use Rattle.std.specs.Prelude.{length}
use Rattle.debug_listing.specs.Comparing.{words_of_both}
use Rattle.debug_listing.proofs.ComparingLemmas.{carried, compared_count, compared_hidden, compared_lines, compared_same, compared_shown, compared_start}
use Rattle.debug_listing.proofs.comparing.push_differences.Goals.{then-first-second, then-found-lt-MOST_SHOWN+in_ok-push_both, else-found-lt-MOST_SHOWN, else-first-second}
use Rattle.debug_listing.proofs.comparing.push_differences.Goals as goal

pub loop-k-init : goal.loop-k-init
loop-k-init g c = record {
  so_far = compared_start _ c.args.one.now c.args.other.now (words_of_both c.args.one.now c.args.other.now);
  same_flag = refl;
}

pub loop-k-preserved : goal.loop-k-preserved
loop-k-preserved g c =
    let one = c.args.one.now in
    let other = c.args.other.now in
    let words : ℕ = words_of_both one other in
    let i = c.loop-k.invariant in
    let within : c.loop-k.k < words = subst (λ (m : ℕ). c.loop-k.k < m / 4) c.min-k-end.ensures c.loop-k-test.true in
    let is = c.word_of_bytes-first.ensures in
    let it = c.word_of_bytes-second.ensures in
    elim c.if-first-second.branch [
      | then-first-second w ↦ elim w.if-found-lt-MOST_SHOWN.branch [
        | then-found-lt-MOST_SHOWN+in_ok-push_both v ↦ record {
          so_far = carried g.W.Sink.contents _ _ _ one other words _ _ _ (w.sink-is ∙ v.sink-is) w.found-is
              (compared_shown _ _ _ one other words c.loop-k.k c.loop-k.found _ _ within is it w.if-first-second.true
              v.if-found-lt-MOST_SHOWN.true v.in_ok-push_both.ensures.text i.so_far);
          same_flag = ap g.W.Sink.has_failed (w.sink-is ∙ v.sink-is) ∙ v.in_ok-push_both.ensures.same_flag ∙ i.same_flag;
        }
        | else-found-lt-MOST_SHOWN v ↦ record {
          so_far = carried g.W.Sink.contents _ _ _ one other words _ _ _ (w.sink-is ∙ v.sink-is) w.found-is
              (compared_hidden _ _ one other words c.loop-k.k c.loop-k.found _ _ within is it w.if-first-second.true
              v.if-found-lt-MOST_SHOWN.false i.so_far);
          same_flag = ap g.W.Sink.has_failed (w.sink-is ∙ v.sink-is) ∙ i.same_flag;
        }
      ]
      | else-first-second w ↦ record {
        so_far = carried g.W.Sink.contents _ _ _ one other words _ _ _ w.sink-is w.found-is
            (compared_same _ _ one other words c.loop-k.k c.loop-k.found _ _ within is it w.if-first-second.false i.so_far);
        same_flag = ap g.W.Sink.has_failed w.sink-is ∙ i.same_flag;
      }
    ]
