-- What is pushed, one part behind another.
use Rattle.std.proofs.Common.{append_assoc, refl}
use Rattle.debug_records.proofs.ends.push_sizes.Goals as goal

pub returns-clause-text : goal.returns-clause-text
returns-clause-text c = simp (
  append_assoc,
  c.in_ok-close.ensures.text,
  c.in_ok-number_field-3.ensures.text,
  c.in_ok-number_field-2.ensures.text,
  c.in_ok-number_field.ensures.text,
  c.in_ok-open_field.ensures.text,
  c.in_ok-number_field-3.ensures.follows,
  c.in_ok-number_field-2.ensures.follows,
  c.in_ok-number_field.ensures.follows,
  c.in_ok-open_field.ensures.follows,
  c.from.ensures,
  c.from-2.ensures,
  c.from-3.ensures,
  c.pages.ensures.value,
  c.app.ensures.value,
  c.rma.ensures.value,
) refl
