use Rattle.std.proofs.Common.{◌≡◌, true, refl, sym, ap, ◌∙◌}
use Rattle.std.proofs.lemmas.Bool.{both_ways}
use Rattle.gdb_server.proofs.ImageLemmas.{at_err}
use Rattle.gdb_server.specs.session.Session.{gdb_state}
use Rattle.gdb_server.specs.declared.session.session.GdbSession.{GdbSession}
use Rattle.gdb_server.specs.Server.{server_state}
use Rattle.rosm_tools.proofs.GdbLemmas.StreamLemmas.{answers_more, answers_none, flag_kept, front_of_answers, front_of_piece, front_where_reading_fails}
use Rattle.rosm_tools.proofs.gdb.serve.serve.Goals as goal

pub loop-pulls-init : goal.loop-pulls-init
loop-pulls-init g c = record {
  answers = answers_none _ _ _ _ _;
  readable = λ e. e;
  same_flag = refl;
}

pub returns-then-has_ended-clause-read : goal.returns-then-has_ended-clause-read
returns-then-has_ended-clause-read g c =
    let ended : c.loop-pulls.server.session.has_ended ≡ true =
    sym (ap (λ (x : GdbSession). (gdb_state x c.loop-pulls.images).has_ended) c.session.ensures)
    ∙ sym (c.has_ended.ensures c.loop-pulls.images) ∙ c.if-has_ended.true in
    record {
      answers = c.loop-pulls.invariant.answers;
      ends = λ goes. absurd (both_ways c.loop-pulls.server.session.has_ended goes ended);
    }

pub returns-in_err-count-clause-front : goal.returns-in_err-count-clause-front
returns-in_err-count-clause-front g c =
    at_err _ _ (front_where_reading_fails _ _ _ _ _ _ _ _ (server_state c.loop-pulls.server c.loop-pulls.images)
    c.loop-pulls.invariant.answers c.in_err-count.ensures.bytes)

pub returns-in_err-take_piece-clause-front : goal.returns-in_err-take_piece-clause-front
returns-in_err-take_piece-clause-front g c =
    at_err _ _ (front_of_piece _ _ _ _ _ _ _ _ _ _ _ c.loop-pulls.invariant.answers c.in_ok-count.ensures.bytes.0
    c.in_err-take_piece.ensures.front)

pub returns-in_err-flush-clause-front : goal.returns-in_err-flush-clause-front
returns-in_err-flush-clause-front g c =
    at_err _ _ (front_of_answers _ _ _ _ _ _ _ (server_state c.take_piece.new.server c.take_piece.new.images)
    (answers_more _ _ _ _ _ _ _ _ _ _ _ _ _ c.loop-pulls.invariant.answers c.in_ok-count.ensures.bytes.0
    c.in_ok-take_piece.ensures.reported c.flush.ensures.bytes))

pub returns-clause-front : goal.returns-clause-front
returns-clause-front g c =
    front_of_answers _ _ _ _ _ _ _ (server_state c.loop-pulls.server c.loop-pulls.images)
    c.loop-pulls.invariant.answers

pub loop-pulls-preserved : goal.loop-pulls-preserved
loop-pulls-preserved g c =
    let i = c.loop-pulls.invariant in
    record {
      answers = answers_more _ _ _ _ _ _ _ _ _ _ _ _ _ i.answers c.in_ok-count.ensures.bytes.0
          c.in_ok-take_piece.ensures.reported c.flush.ensures.bytes;
      readable = λ _. c.in_ok-count.ensures.flag;
      same_flag = flag_kept _ _ _ (c.in_ok-take_piece.ensures.same_flag ∙ i.same_flag) c.in_ok-flush.ensures.flag c.flush.ensures.stays;
    }
