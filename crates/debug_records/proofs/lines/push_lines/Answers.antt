-- Each line adds its string.
use Rattle.std.proofs.Common.{◌++◌, ◌+◌, ◌-◌, take, refl, arith}
use Rattle.debug_records.specs.LineRecords.{strings_text}
use Rattle.debug_records.proofs.HeadLemmas.{all_strings, last_string, next_string}
use Rattle.debug_records.proofs.lines.push_lines.Goals as goal

pub loop-count-init : goal.loop-count-init
loop-count-init c = rw (c.again-rest.ensures, c.number-count.ensures) refl

pub loop-count-preserved : goal.loop-count-preserved
loop-count-preserved c =
    let all = c.args.text.now.bytes.items
    ++ strings_text c.args.text.now.follows (take (c.args.last - c.args.script.now.number) c.args.script.now.left) in
    next_string c.loop-count.text.bytes.items c.string.new.self.bytes.items all c.loop-count.text.follows
    c.string.new.self.follows (c.args.last - c.loop-count._count) (c.args.last - (c.loop-count._count + 1)) c.in-Some.line.now
    c.loop-count.rest.left c.next_line.new.self.left c.in-Some.ensures.line (omega (arith, c.loop-count-test.true))
    c.in_ok-string.ensures.text c.in_ok-string.ensures.follows c.loop-count.invariant

pub returns-in_default : goal.returns-in_default
returns-in_default c =
    let all = c.args.text.now.bytes.items
    ++ strings_text c.args.text.now.follows (take (c.args.last - c.args.script.now.number) c.args.script.now.left) in
    last_string c.loop-count.text.bytes.items all c.loop-count.text.follows (c.args.last - c.loop-count._count)
    c.loop-count.rest.left c.in_default.ensures.line c.loop-count.invariant

pub returns : goal.returns
returns c =
    let all = c.args.text.now.bytes.items
    ++ strings_text c.args.text.now.follows (take (c.args.last - c.args.script.now.number) c.args.script.now.left) in
    all_strings c.loop-count.text.bytes.items all c.loop-count.text.follows (c.args.last - c.loop-count._count)
    c.loop-count.rest.left (omega (arith, c.loop-count-test.false)) c.loop-count.invariant
