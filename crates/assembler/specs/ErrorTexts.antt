-- What is shown of a source that is refused.
use Rattle.std.specs.Prelude.{ℕ, List, ◌++◌, codes}
use Rattle.std.specs.Fmt.{decimal}
use Rattle.assembler.specs.ErrorNames.{reason_name}
use Rattle.assembler.specs.declared.error.AsmError.{AsmError}

abbrev pub asm_error_text : AsmError → List ℕ
asm_error_text error = codes "line " ++ (decimal error.line ++ (codes ": " ++ reason_name error.reason))
