use Rattle.std.proofs.Common.{◌<◌, ◌+◌, ◌^◌, ap, arith, length}
use Rattle.profile.proofs.TextLinesLemmas.WholeLineLemmas.{lines_at_most}
use Rattle.profile.specs.text_lines.Lines.{ReadingPlace}
use Rattle.debug_program.proofs.typing.DebugTyping.answer.Goals as goal

pub overflow_add-self : goal.overflow_add-self
overflow_add-self g c =
    let most = lines_at_most c.split_at.result.0.now in
    let number = ap (λ (p : ReadingPlace). p.number) c.after-lines.ensures in
    let left = ap (λ (p : ReadingPlace). length p.left) c.after-lines.ensures in
    let counted = c.in_ok-answer_lines.ensures.counted in
    let read = c.number.ensures in
    let count = c.count.ensures in
    let front = c.split_at.ensures.front_len in
    let all = c.as_slice-all.ensures.len in
    let within = c.args.read.now.requests.in_text in
    let fewer = c.if-self-all.false in
    let room : c.args.self.now.number + length c.split_at.result.0.now < 2 ^ 64 = omega (arith, front, all, within, fewer) in
    omega (arith, most, number, left, counted, read, count, front, room)

pub invariant_of-self-2 : goal.invariant_of-self-2
invariant_of-self-2 g c =
    let most = lines_at_most c.split_at.result.0.now in
    let number = ap (λ (p : ReadingPlace). p.number) c.after-lines.ensures in
    let left = ap (λ (p : ReadingPlace). length p.left) c.after-lines.ensures in
    let counted = c.in_ok-answer_lines.ensures.counted in
    let read = c.number.ensures in
    let count = c.count.ensures in
    let kept = ap length c.in_ok-waiting.ensures.items in
    let front = c.split_at.ensures.front_len in
    let back = c.split_at.ensures.back_len in
    let all = c.as_slice-all.ensures.len in
    let within = c.args.read.now.requests.in_text in
    let fewer = c.if-self-all.false in
    let room : c.args.self.now.number + (length c.split_at.result.0.now + length c.split_at.result.1.now) < 2 ^ 64 =
    omega (arith, front, back, all, within, fewer) in
    record { numbered = omega (arith, most, number, left, counted, read, count, kept, room) }
