-- The steps that a line took, all or those up to the limit and then the rest; one that took none has no
-- records of steps.
use Rattle.std.proofs.Common.{◌≡◌, ◌∙◌, ◌==◌, ℕ, Bool, false, [], refl, ap, arith, subst, sym}
use Rattle.std.specs.Prelude.{OnOk}
use Rattle.std.proofs.lemmas.Bool.{eqb-true, false_from_ne_true, false≢true}
use Rattle.std.proofs.lemmas.Result.{on_ok_weaker}
use Rattle.debug_records.specs.LineRecords.{Adds, AreRecords, no_records, step_forms}
use Rattle.debug_records.specs.Recording.{session_machine, twin_machine}
use Rattle.debug_records.proofs.MomentLemmas.{all_steps, line_stepped, some_steps}
use Rattle.debug_records.proofs.RecordLemmas.{none_written}
use Rattle.debug_records.proofs.recorder.Twin.record_taken.Goals as goal

pub returns-then-line-eq0 : goal.returns-then-line-eq0
returns-then-line-eq0 g c =
    let line = c.args.line.now in
    let a = g.W.Sink.contents c.args.sink.now in
    record {
      records = λ m alike.
          subst (λ (s : Bool). Adds (AreRecords (step_forms s line.before line.limit line.taken m (session_machine line.session.now))) a a)
          (ap (λ (n : ℕ). n == 0) (sym c.if-line-eq0.true)) (none_written (AreRecords []) a no_records);
      kept = λ none. refl;
    }

pub returns-then-line : goal.returns-then-line
returns-then-line g c =
    let line = c.args.line.now in
    let a = g.W.Sink.contents c.args.sink.now in
    let b = g.W.Sink.contents c.record_rest.new.sink in
    let s = twin_machine c.args.self.now in
    let t = twin_machine c.record_rest.new.self in
    let m' = session_machine line.session.now in
    let some : (line.taken == 0) ≡ false = false_from_ne_true (line.taken == 0) (λ none. c.if-line-eq0.false (eqb-true line.taken 0 none)) in
    let stepped = some_steps line.before line.limit line.taken s (twin_machine c.record_each.new.self) t a
    (g.W.Sink.contents c.record_each.new.sink) b (omega (arith, c.if-line.true)) c.in_ok-record_each.ensures
    c.in_ok-record_rest.ensures in
    record {
      records = λ m alike.
          subst (λ (s : Bool). OnOk c.stand_with.result (Adds (AreRecords (step_forms s line.before line.limit line.taken m m')) a b))
          (sym some)
          (on_ok_weaker c.stand_with.result
          (line_stepped line.before line.limit line.taken s t m m' a b alike stepped)
          c.stand_with.ensures);
      kept = λ none. absurd (false≢true (sym some ∙ none));
    }

pub returns : goal.returns
returns g c =
    let line = c.args.line.now in
    let a = g.W.Sink.contents c.args.sink.now in
    let b = g.W.Sink.contents c.record_each-2.new.sink in
    let s = twin_machine c.args.self.now in
    let t = twin_machine c.record_each-2.new.self in
    let m' = session_machine line.session.now in
    let some : (line.taken == 0) ≡ false = false_from_ne_true (line.taken == 0) (λ none. c.if-line-eq0.false (eqb-true line.taken 0 none)) in
    let stepped = all_steps line.before line.limit line.taken s t a b (omega (arith, c.if-line.false))
    c.in_ok-record_each-2.ensures in
    record {
      records = λ m alike.
          subst (λ (s : Bool). OnOk c.stand_with-2.result (Adds (AreRecords (step_forms s line.before line.limit line.taken m m')) a b))
          (sym some)
          (on_ok_weaker c.stand_with-2.result
          (line_stepped line.before line.limit line.taken s t m m' a b alike stepped)
          c.stand_with-2.ensures);
      kept = λ none. absurd (false≢true (sym some ∙ none));
    }
