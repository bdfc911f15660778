use Rattle.std.proofs.Common.{◌∙◌}
use Rattle.swi_dispatch_answers.proofs.ErrorBlock.{error_written}
use Rattle.swi_dispatch_answers.proofs.errors.write_error.Goals as goal

pub returns-clause-bytes : goal.returns-clause-bytes
returns-clause-bytes c =
    error_written _ _ _ _ _ _ _ _ c.number.ensures (c.as_bytes-text.ensures.value ∙ c.error_text.ensures)
    c.put_word.ensures.layout c.put_word.ensures.bytes c.put_bytes.ensures.layout c.put_bytes.ensures.bytes
    c.put_bytes-2.ensures.layout c.put_bytes-2.ensures.bytes
