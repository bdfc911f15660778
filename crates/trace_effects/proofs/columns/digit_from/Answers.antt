-- The four bits of a digit, and what stands at their place in the table.
use Rattle.std.proofs.Common.{◌∙◌, ◌/◌, ◌%◌, ◌^◌, ℕ, slice_index_or, ap, arith}
use Rattle.std.proofs.lemmas.Nat.{and_mask}
use Rattle.trace_effects.proofs.DigitLemmas.{digit_listed, digits_listed}
use Rattle.trace_effects.proofs.columns.digit_from.Goals as goal

pub returns : goal.returns
returns c =
    let n = c.args.word / 2 ^ c.args.low in
    ap (λ (i : ℕ). slice_index_or digits_listed i 0) (and_mask n 4) ∙ digit_listed (n % 2 ^ 4) (omega arith)
