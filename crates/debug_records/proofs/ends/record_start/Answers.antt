-- The fields are those of the script.
use Rattle.std.proofs.Common.{List, ℕ, subst}
use Rattle.std.specs.Prelude.{OnOk}
use Rattle.debug_records.specs.LineRecords.{Adds, IsRecord}
use Rattle.debug_records.proofs.ends.record_start.Goals as goal

pub returns : goal.returns
returns g c =
    subst (λ (head : List ℕ). OnOk c.push_record.result (Adds (IsRecord head) (g.W.Sink.contents c.args.sink.now)
    (g.W.Sink.contents c.push_record.new.sink)))
    c.in_ok-push_setting.ensures c.push_record.ensures
