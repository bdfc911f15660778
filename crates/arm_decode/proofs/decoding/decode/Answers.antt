use Rattle.std.proofs.Common.{◌≡◌, ◌∙◌, sym}
use Rattle.arm_decode.proofs.Taken.{decoded-of_form, comes_back_if_ok}
use Rattle.arm_decode.specs.Decoded.{instruction_of_word}
use Rattle.arm_decode.proofs.decoding.decode.Goals as goal

pub returns-clause-back : goal.returns-clause-back
returns-clause-back c =
    let whole = decoded-of_form c.args.word c.in_ok-form.form (sym c.row_of.ensures ∙ c.in_ok-form.was) in
    let table : c.new.result ≡ instruction_of_word c.args.word = cc in
    comes_back_if_ok c.args.word c.new.result c.ranges.word.fits table
