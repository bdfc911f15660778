-- What the sink over memory has taken is put into the room.
use Rattle.std.proofs.Common.{inl, refl}
use Rattle.rosm_c.proofs.RecordLemmas.{records_put}
use Rattle.rosm_c.proofs.records.write_records.Goals as goal

pub returns-clause-recorded : goal.returns-clause-recorded
returns-clause-recorded c =
    inl (records_put c.new-sink.result.bytes.items c.record_script.new.sink.bytes.items c.bytes.result.now c.bytes-in-Ok.result.now
    c.args.room.now _ _ c.new-sink.ensures c.in-Ok.ensures.safe c.bytes.ensures refl c.bytes-in-Ok.ensures c.put.ensures)
