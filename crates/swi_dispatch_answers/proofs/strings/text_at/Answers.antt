use Rattle.std.proofs.Common.{◌≡◌, ◌+◌, ℕ, ◌++◌, [], ◌∷◌, ap, sym, ◌∙◌, subst, arith}
use Rattle.address_map.specs.Memory.{bytes_of}
use Rattle.swi_dispatch_answers.specs.Strings.{ends}
use Rattle.swi_dispatch_answers.proofs.StringLemmas.{IsReading, text_far, reading_start, reading_none, reading_done, reading_long, reading_more, byte_loaded-ok, byte_loaded-err}
use Rattle.swi_dispatch_answers.proofs.strings.text_at.Goals as goal

pub returns-then-at-ge-ADDRESS_LIMIT-clause-text : goal.returns-then-at-ge-ADDRESS_LIMIT-clause-text
returns-then-at-ge-ADDRESS_LIMIT-clause-text g c = sym (text_far _ _ _ _ c.if-at-ge-ADDRESS_LIMIT.true)

pub loop-index-init : goal.loop-index-init
loop-index-init g c = record { reading = reading_start _ _ _ _ _ c.new-text.ensures; low = c.if-at-ge-ADDRESS_LIMIT.false }

pub returns-in_default-clause-text : goal.returns-in_default-clause-text
returns-in_default-clause-text g c =
    sym (reading_none _ _ _ _ _ _ c.loop-index.invariant.reading (byte_loaded-err _ _ _ (sym c.in_default.ensures)))

pub returns-then-ends-clause-text : goal.returns-then-ends-clause-text
returns-then-ends-clause-text g c =
    let read = byte_loaded-ok _ _ _ (sym c.in-Ok.ensures) in
    sym (reading_done _ _ _ _ _ _ c.loop-index.invariant.reading read.0 (ap (ends c.args.end) (sym read.1) ∙ sym c.if-ends.ensures))

pub loop-index-preserved : goal.loop-index-preserved
loop-index-preserved g c =
    let read = byte_loaded-ok _ _ _ (sym c.in-Ok.ensures) in
    let items = c.push.ensures.items ∙ ap (λ (b : ℕ). c.loop-index.text.items ++ b ∷ []) read.1 in
    record {
      reading = subst (IsReading (ends c.args.end) g.row.MAX (bytes_of c.args.memory.now) c.args.at (c.loop-index.index + 1)) (sym items)
          (reading_more _ _ _ _ _ _ c.loop-index.invariant.reading c.loop-index-test.true read.0 (ap (ends c.args.end) (sym read.1) ∙ sym c.if-ends.ensures));
      low = c.loop-index.invariant.low;
    }

pub returns-in_default-load_byte-clause-text : goal.returns-in_default-load_byte-clause-text
returns-in_default-load_byte-clause-text g c =
    let all : c.loop-index.index ≡ g.row.MAX = omega (arith, c.loop-index-test.false, c.loop-index.auto.index-end) in
    let whole = subst (λ (n : ℕ). IsReading (ends c.args.end) g.row.MAX (bytes_of c.args.memory.now) c.args.at n c.loop-index.text.items) all c.loop-index.invariant.reading in
    sym (reading_none _ _ _ _ _ _ whole (byte_loaded-err _ _ _ (sym c.in_default-load_byte.ensures)))

pub returns-then-not-ends-clause-text : goal.returns-then-not-ends-clause-text
returns-then-not-ends-clause-text g c =
    let all : c.loop-index.index ≡ g.row.MAX = omega (arith, c.loop-index-test.false, c.loop-index.auto.index-end) in
    let whole = subst (λ (n : ℕ). IsReading (ends c.args.end) g.row.MAX (bytes_of c.args.memory.now) c.args.at n c.loop-index.text.items) all c.loop-index.invariant.reading in
    let read = byte_loaded-ok _ _ _ (sym c.in-Ok-load_byte.ensures) in
    sym (reading_long _ _ _ _ _ whole (ap (ends c.args.end) (sym read.1) ∙ sym c.if-not-ends.ensures))

pub returns-clause-text : goal.returns-clause-text
returns-clause-text g c =
    let all : c.loop-index.index ≡ g.row.MAX = omega (arith, c.loop-index-test.false, c.loop-index.auto.index-end) in
    let whole = subst (λ (n : ℕ). IsReading (ends c.args.end) g.row.MAX (bytes_of c.args.memory.now) c.args.at n c.loop-index.text.items) all c.loop-index.invariant.reading in
    let read = byte_loaded-ok _ _ _ (sym c.in-Ok-load_byte.ensures) in
    sym (reading_done _ _ _ _ _ _ whole read.0 (ap (ends c.args.end) (sym read.1) ∙ sym c.if-not-ends.ensures))
