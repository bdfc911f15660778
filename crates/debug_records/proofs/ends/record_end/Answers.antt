-- The last record has the counts and the status of the lines.
use Rattle.std.proofs.Common.{◌∙◌, ap}
use Rattle.debug_records.specs.Records.{last_record}
use Rattle.debug_records.specs.declared.counts.LineCounts.{LineCounts}
use Rattle.debug_records.proofs.ends.record_end.Goals as goal

pub returns : goal.returns
returns g c = λ images. record {
  text = c.push_end.new.text.bytes.items;
  adds = c.in_ok-push_records.ensures.text;
  safe = c.push_end.new.text.safe;
  is = record {
    right = c.status-status.ensures images;
    whole = c.in_ok-push_end.ensures ∙ ap (λ (counts : LineCounts). last_record counts c.status-status.result) c.of.ensures;
  };
}
