-- The fields are those of the line, and its block.
use Rattle.std.proofs.Common.{◌++◌, ◌≡◌, List, ℕ, subst, take}
use Rattle.std.specs.Prelude.{OnOk}
use Rattle.command_shell_lines.specs.Blocks.{lines_in_block}
use Rattle.debug_records.specs.LineRecords.{Adds, IsOfForm, Whole, block_field, line_head}
use Rattle.debug_records.proofs.lines.print_line.Goals as goal

pub returns : goal.returns
returns g c =
    let place = c.args.script.now in
    let block : List ℕ = block_field c.args.opens_block (take (lines_in_block place.left) place.left) in
    let head : c.in_ok-fields.fields.bytes.items ≡ line_head place.number c.args.line.now c.args.time =
    subst (λ (n : ℕ). c.in_ok-fields.fields.bytes.items ≡ line_head n c.args.line.now c.args.time) c.number.ensures
    c.in_ok-fields.ensures.text in
    subst (λ (fields : List ℕ). OnOk c.push_whole.result (Adds (IsOfForm (Whole fields)) (g.W.Sink.contents c.args.sink.now)
    (g.W.Sink.contents c.push_whole.new.sink)))
    (subst (λ (h : List ℕ). c.push_block.new.fields.bytes.items ≡ h ++ block) head c.in_ok-push_block.ensures)
    c.push_whole.ensures
