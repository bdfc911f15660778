-- One word more is listed.
use Rattle.std.proofs.Common.{refl}
use Rattle.trace_moments.proofs.StoredLemmas.{none_listed, one_listed}
use Rattle.trace_moments.proofs.stored.words_at.Goals as goal

pub loop-index-init : goal.loop-index-init
loop-index-init c = none_listed c.args.words c.new-all.result.items

pub loop-index-preserved : goal.loop-index-preserved
loop-index-preserved c = rw c.in_ok-push.ensures.items
    (one_listed c.args.words c.loop-index.index c.loop-index.all.items _ c.word_in-word.result c.word_in-word.result
    refl c.loop-index.invariant)
