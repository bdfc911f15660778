-- The lines stand between brackets.
use Rattle.std.proofs.Common.{◌≡◌, ◌∙◌, ◌+◌, ◌-◌, subst, arith}
use Rattle.std.proofs.lemmas.Result.{on_ok_weaker}
use Rattle.command_shell_lines.specs.Blocks.{lines_in_block}
use Rattle.profile.specs.text_lines.Lines.{ReadingPlace}
use Rattle.debug_records.proofs.HeadLemmas.{block_added}
use Rattle.debug_records.proofs.lines.push_block.Goals as goal

pub returns : goal.returns
returns c =
    let place = c.args.script.now in
    let opened = c.open_field.new.self in
    let written = c.push_lines.new.text in
    let last : c.number.result ≡ place.number + lines_in_block place.left =
    c.number.ensures
    ∙ subst (λ (p : ReadingPlace). c.skip_block.new.script.number ≡ p.number + lines_in_block p.left) c.again-after.ensures
    c.skip_block.ensures.number in
    let count : c.number.result - place.number ≡ lines_in_block place.left = omega (arith, last) in
    on_ok_weaker c.close.result
    (block_added c.args.fields.now.bytes.items opened.bytes.items written.bytes.items c.close.new.self.bytes.items
    c.args.fields.now.follows opened.follows c.args.opens_block (c.number.result - place.number) (lines_in_block place.left)
    place.left c.requires c.in_ok-open_field.ensures.follows c.if-not-opens_block.false count c.in_ok-open_field.ensures.text
    c.in_ok-push_lines.ensures)
    c.close.ensures.text
