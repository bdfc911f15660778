use Rattle.std.proofs.Common.{◌≡◌, refl, ap, sym}
use Rattle.std.specs.Prelude.{IfOk, Some}
use Rattle.gdb_packets.specs.Requests.{gdb_request}
use Rattle.gdb_packets.specs.declared.requests.Request.{Request}
use Rattle.gdb_server.specs.session.Requests.{gdb_change_shown}
use Rattle.gdb_server.specs.session.Session.{gdb_state}
use Rattle.gdb_server.specs.session.State.{GdbState, packet_reply}
use Rattle.gdb_server.specs.declared.session.session.GdbSession.{GdbSession}
use Rattle.gdb_server.proofs.SessionLemmas.ChangeLemmas.{answer_known, changes_as, reply_known}
use Rattle.gdb_server.proofs.session.session.GdbSession.change.Goals as goal
use Rattle.gdb_server.proofs.session.session.GdbSession.change.Goals.{in-SetRegister, in-StorePairs, in-StoreBytes, in-AddPoint, in-RemovePoint, in-KillProgram, in-Detach}

pub returns-clause-reported : goal.returns-clause-reported
returns-clause-reported c images =
    let g : GdbState = gdb_state c.args.self.now images in
    let there : GdbState = gdb_state c.match-request.self images in
    let done : IfOk c.match-request.reply (λ reply. packet_reply there reply.now ≡ gdb_change_shown g (gdb_request c.args.request.now)) =
    elim c.match-request.branch [
      | in-SetRegister w ↦ changes_as (λ (s : GdbSession). gdb_state s images) _ _ _ _ _ _ w.self-is w.reply-is (ap (λ (r : Request). gdb_change_shown g (gdb_request r)) (sym w.in-SetRegister.is)) (w.set_register-reply.ensures.reported images)
      | in-StorePairs w ↦ changes_as (λ (s : GdbSession). gdb_state s images) _ _ _ _ _ _ w.self-is w.reply-is (ap (λ (r : Request). gdb_change_shown g (gdb_request r)) (sym w.in-StorePairs.is)) (w.store_pairs-reply.ensures.reported images)
      | in-StoreBytes w ↦ changes_as (λ (s : GdbSession). gdb_state s images) _ _ _ _ _ _ w.self-is w.reply-is (ap (λ (r : Request). gdb_change_shown g (gdb_request r)) (sym w.in-StoreBytes.is)) (w.store-reply.ensures.reported images)
      | in-AddPoint w ↦ changes_as (λ (s : GdbSession). gdb_state s images) _ _ _ _ _ _ w.self-is w.reply-is (ap (λ (r : Request). gdb_change_shown g (gdb_request r)) (sym w.in-AddPoint.is)) (w.add_point.ensures.reported images)
      | in-RemovePoint w ↦ changes_as (λ (s : GdbSession). gdb_state s images) _ _ _ _ _ _ w.self-is w.reply-is (ap (λ (r : Request). gdb_change_shown g (gdb_request r)) (sym w.in-RemovePoint.is)) (w.remove_point.ensures.reported images)
      | in-KillProgram w ↦ changes_as (λ (s : GdbSession). gdb_state s images) _ _ _ _ _ _ w.self-is w.reply-is (ap (λ (r : Request). gdb_change_shown g (gdb_request r)) (sym w.in-KillProgram.is)) refl
      | in-Detach w ↦ changes_as (λ (s : GdbSession). gdb_state s images) _ _ _ _ _ _ w.self-is w.reply-is (ap (λ (r : Request). gdb_change_shown g (gdb_request r)) (sym w.in-Detach.is)) refl
    ] in
    answer_known there c.with_reply.result (Some c.in_ok-reply.field-0.now) _ c.with_reply.ensures.reported c.with_reply.ensures.reply
    (reply_known there c.match-request.reply c.in_ok-reply.field-0 _ c.in_ok-reply.was done)
