use Rattle.trace_effects.proofs.record_text.writing.push_records.Goals as goal

pub returns-clause-safe : goal.returns-clause-safe
returns-clause-safe g c = record {
  text = c.bytes.result.now;
  adds = c.in_ok-push_all.ensures.text;
  safe = c.bytes.ensures.safe;
}
