-- The twin stands where the session does, and the line is read: what is no line of a script as the session
-- reads it.
use Rattle.std.proofs.Common.{◌∙◌, refl, sym}
use Rattle.debug_records.proofs.recorder.Recorder.record_line.Goals as goal

pub record_meant-requires : goal.record_meant-requires
record_meant-requires g c = record {
  alike = c.in_ok-stand_with.ensures;
  read = rw (sym c.is_script_line.ensures ∙ c.if-is_script_line.true) refl;
}

pub returns-then-is_script_line : goal.returns-then-is_script_line
returns-then-is_script_line g c = c.record_meant.ensures

pub record_meant-requires-2 : goal.record_meant-requires-2
record_meant-requires-2 g c = record {
  alike = c.in_ok-stand_with.ensures;
  read = c.as_slice.ensures.value
      ∙ rw (sym c.is_script_line.ensures ∙ c.if-is_script_line.false) (c.in_ok-meant.ensures c.args.self.now.images);
}

pub returns : goal.returns
returns g c = c.record_meant-2.ensures
