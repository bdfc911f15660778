-- By the lemmas on how far a text was read, for requests that are whole and for blocks that lack their
-- END.
use Rattle.std.proofs.Common.{Bool, ap, refl, subst, sym, ◌∙◌}
use Rattle.profile.specs.text_lines.WholeLines.{whole_lines}
use Rattle.debug_lines.specs.BlockEnds.{BlocksRead, blocks_after_lines, is_in_block}
use Rattle.debug_lines.proofs.BlockEndLemmas.{ends_read_on, ends_whole_read, in_block_then}
use Rattle.debug_lines.proofs.WholeDebugRequestLemmas.{HasReadDebug, debug_read_starts, debug_read_on, debug_read_whole, debug_read_all}
use Rattle.debug_lines.proofs.whole_requests.read_requests.Goals as goal

pub loop-line-init : goal.loop-line-init
loop-line-init c =
    let text = c.args.text.now in
    record {
      requests = subst (λ (b : Bool). HasReadDebug text text b 0)
          (sym (ap (λ (r : BlocksRead). is_in_block r.place) c.from_line-reading.ensures)) (debug_read_starts text);
      lines = ap (λ (r : BlocksRead). blocks_after_lines r (whole_lines text)) c.from_line-reading.ensures;
    }

pub loop-line-preserved-then-not-is_in_block : goal.loop-line-preserved-then-not-is_in_block
loop-line-preserved-then-not-is_in_block c =
    let l = c.loop-line in
    let e = c.in-Some.ensures in
    let now = c.read_line.new.self in
    let step = c.in_ok-read_line.ensures in
    record {
      requests = debug_read_whole c.args.text.now l.rest.now c.in-Some.after.now c.in-Some.line.now
          (is_in_block l.reading.place) (is_in_block now.place) l.whole _ l.invariant.requests e.shorter e.after e.one e.ends
          (in_block_then l.reading now c.in-Some.line.now step)
          (sym c.is_in_block.ensures ∙ c.if-not-is_in_block.true) refl;
      lines = ends_read_on l.reading now c.in-Some.line.now (whole_lines l.rest.now)
          (whole_lines c.in-Some.after.now) _ e.lines step l.invariant.lines;
    }

pub loop-line-preserved : goal.loop-line-preserved
loop-line-preserved c =
    let l = c.loop-line in
    let e = c.in-Some.ensures in
    let now = c.read_line.new.self in
    let step = c.in_ok-read_line.ensures in
    record {
      requests = debug_read_on c.args.text.now l.rest.now c.in-Some.after.now c.in-Some.line.now
          (is_in_block l.reading.place) (is_in_block now.place) l.whole l.invariant.requests e.shorter e.after e.lines e.one
          e.ends (in_block_then l.reading now c.in-Some.line.now step)
          (sym c.is_in_block.ensures ∙ c.if-not-is_in_block.false);
      lines = ends_read_on l.reading now c.in-Some.line.now (whole_lines l.rest.now)
          (whole_lines c.in-Some.after.now) _ e.lines step l.invariant.lines;
    }

pub returns-clause-whole : goal.returns-clause-whole
returns-clause-whole c =
    let l = c.loop-line in
    debug_read_all c.args.text.now l.rest.now (is_in_block l.reading.place) l.whole l.invariant.requests
    c.in_default.ensures.lines

pub returns-clause-missing : goal.returns-clause-missing
returns-clause-missing c =
    let l = c.loop-line in
    ends_whole_read l.reading c.args.text.now l.rest.now c.args.number c.in_default.ensures.lines l.invariant.lines
