-- What requests come to that change what stands.
use Rattle.std.proofs.Common.{◌≡◌, ℕ, Bool, true, Bor, List, [], length, refl, ap, subst, sym, ◌∙◌, arith}
use Rattle.std.specs.Prelude.{Option, Some, None, Result, Ok, Err, IfOk, ◌==◌, codes, option_map, if◌then◌else◌}
use Rattle.std.proofs.lemmas.Bool.Decides.{nat_tests}
use Rattle.debug_session.specs.RunError.{RunError}
use Rattle.gdb_packets.specs.Requests.{gdb_request}
use Rattle.gdb_packets.specs.declared.requests.ByteRange.{ByteRange}
use Rattle.gdb_packets.specs.declared.requests.PlaceRange.{PlaceRange}
use Rattle.gdb_packets.specs.declared.requests.PointKind.{PointKind}
use Rattle.gdb_packets.specs.declared.requests.PointKind.TheVariants as point
use Rattle.gdb_packets.specs.declared.requests.Request.{Request}
use Rattle.gdb_packets.specs.declared.requests.Request.TheVariants as asked
use Rattle.debug_session.specs.State.{ScriptState}
use Rattle.debug_session.specs.Past.{PastState}
use Rattle.debug_session.specs.Put.{script_after_put}
use Rattle.profile.specs.Outcome.{Leaves}
use Rattle.profile.specs.Fault.{Fault}
use Rattle.gdb_machine.specs.GdbBreaks.{without_gdb_break}
use Rattle.gdb_machine.specs.Watches.{without_watch}
use Rattle.gdb_machine.specs.declared.changes.RegisterWrite.{RegisterWrite}
use Rattle.gdb_machine.specs.declared.watches.Watch.{Watch}
use Rattle.gdb_machine.specs.declared.watches.WatchKind.{WatchKind}
use Rattle.gdb_server.specs.session.Changes.{past_after_write, remove_break_shown, remove_watch_shown, script_with_change, with_change}
use Rattle.gdb_server.specs.session.Requests.{act_shown, gdb_change_shown, remove_point_shown, watch_kind}
use Rattle.gdb_server.specs.session.Session.{IsGdbAnswered}
use Rattle.gdb_server.specs.session.State.{GdbState, GdbAnswered, packet_reply, with_past, with_script}
use Rattle.gdb_server.specs.session.Stores.{bytes_stored, store_shown, with_bytes_noted}
use Rattle.gdb_server.specs.declared.session.session.GdbAnswer.{GdbAnswer}

-- an answer of which the parts are known
pub answer_known : (now : GdbState) (r : Result GdbAnswer RunError) (reply : Option (List ℕ)) (reported : GdbAnswered)
    → IfOk r (λ answer. answer.reported.items ≡ []) → IfOk r (λ answer. option_map (λ packet. packet.items) answer.reply ≡ reply)
    → record { state = now; reported = []; reply = reply } ≡ reported → IfOk r (λ answer. IsGdbAnswered now answer reported)
answer_known now (Ok answer) reply reported none packet is = record {
  state = ap (λ (a : GdbAnswered). a.state) is;
  text = none ∙ ap (λ (a : GdbAnswered). a.reported) is;
  reply = packet ∙ ap (λ (a : GdbAnswered). a.reply) is;
}
answer_known now (Err e) reply reported none packet is = tt

-- a change of the machine, and what is kept of it
pub changed_so : (g : GdbState) (s : ScriptState) (p : PastState) (change : RegisterWrite) → s ≡ script_with_change g.debug.script change
    → p ≡ past_after_write g.debug.past change → with_past (with_script g s) p ≡ with_change g change
changed_so g s p change script past = ap (λ (x : ScriptState). with_past (with_script g x) p) script
    ∙ ap (λ (q : PastState). with_past (with_script g (script_with_change g.debug.script change)) q) past

-- a point that is taken away
abbrev removed_by : GdbState → ByteRange → Option WatchKind → GdbAnswered
removed_by g range None = remove_break_shown g range
removed_by g range (Some kind) = remove_watch_shown g (record { kind = kind; range = range })

point_removed : (g : GdbState) (kind : PointKind) (range : ByteRange)
    → removed_by g range (watch_kind kind) ≡ remove_point_shown g kind range
point_removed g point.Break range = refl
point_removed g point.StoreWatch range = refl
point_removed g point.LoadWatch range = refl
point_removed g point.AccessWatch range = refl

pub break_removed : (g : GdbState) (kind : PointKind) (range : ByteRange) (now : List ℕ)
    → now ≡ without_gdb_break g.breaks range.start → None ≡ watch_kind kind
    → packet_reply (record g { breaks = now }) (codes "OK") ≡ remove_point_shown g kind range
break_removed g kind range now gone is =
    ap (λ (bs : List ℕ). packet_reply (record g { breaks = bs }) (codes "OK")) gone ∙ ap (removed_by g range) is ∙ point_removed g kind range

pub watch_removed : (g : GdbState) (kind : PointKind) (range : ByteRange) (of : WatchKind) (now : List Watch)
    → now ≡ without_watch g.watches (record { kind = of; range = range }) → Some of ≡ watch_kind kind
    → packet_reply (record g { watches = now }) (codes "OK") ≡ remove_point_shown g kind range
watch_removed g kind range of now gone is =
    ap (λ (ws : List Watch). packet_reply (record g { watches = ws }) (codes "OK")) gone ∙ ap (removed_by g range) is ∙ point_removed g kind range

-- bytes that were stored, and kept
pub stored_so : {U : Type 0} (g : GdbState) (range : ByteRange) (bytes : List ℕ) (s : ScriptState) (u : U) → length bytes ≡ range.count
    → Leaves g.debug.script (script_after_put g.debug.script range.start bytes) (Ok u) s
    → packet_reply (with_bytes_noted (with_script g s) range.start bytes) (codes "OK") ≡ store_shown g range bytes
stored_so {U} g range bytes s u fits left =
    by (script_after_put g.debug.script range.start bytes) left ∙ sym (tested (length bytes == range.count) (grind (arith, nat_tests)))
  where
    by : (r : Result ScriptState Fault) → Leaves g.debug.script r (Ok u) s
        → packet_reply (with_bytes_noted (with_script g s) range.start bytes) (codes "OK") ≡ bytes_stored g range.start bytes r
    by (Ok t) same = ap (λ (x : ScriptState). packet_reply (with_bytes_noted (with_script g x) range.start bytes) (codes "OK")) same
    by (Err f) none = absurd none

    tested : (b : Bool) → b ≡ true
        → (if b then bytes_stored g range.start bytes (script_after_put g.debug.script range.start bytes) else packet_reply g (codes "E16"))
        ≡ bytes_stored g range.start bytes (script_after_put g.debug.script range.start bytes)
    tested b is = rw is refl

-- a change by one of the calls, with the packet that reports it
pub changes_as : {S E : Type 0} (state : S → GdbState) (s t : S) (r q : Result (Bor (List ℕ)) E) (a b : GdbAnswered) → s ≡ t → r ≡ q
    → a ≡ b → IfOk q (λ reply. packet_reply (state t) reply.now ≡ a) → IfOk r (λ reply. packet_reply (state s) reply.now ≡ b)
changes_as {S} {E} state s t r q a b left is same reported =
    subst (λ (x : S). IfOk r (λ (reply : Bor (List ℕ)). packet_reply (state x) reply.now ≡ b)) (sym left)
    (subst (λ (x : Result (Bor (List ℕ)) E). IfOk x (λ (reply : Bor (List ℕ)). packet_reply (state t) reply.now ≡ b)) (sym is)
    (subst (λ (x : GdbAnswered). IfOk q (λ (reply : Bor (List ℕ)). packet_reply (state t) reply.now ≡ x)) same reported))

pub reply_known : {E : Type 0} (now : GdbState) (r : Result (Bor (List ℕ)) E) (v : Bor (List ℕ)) (x : GdbAnswered) → r ≡ Ok v
    → IfOk r (λ reply. packet_reply now reply.now ≡ x) → packet_reply now v.now ≡ x
reply_known {E} now r v x is reported =
    subst (λ (q : Result (Bor (List ℕ)) E). IfOk q (λ (reply : Bor (List ℕ)). packet_reply now reply.now ≡ x)) is reported

-- a request that none of the calls of its own answers is a change
pub other_act : (g : GdbState) (request : Request)
    → (request ≡ asked.Continue → ⊥) → ((n : ℕ) → request ≡ asked.ContinueWith n → ⊥) → (request ≡ asked.Step → ⊥)
    → ((n : ℕ) → request ≡ asked.StepWith n → ⊥) → ((places : PlaceRange) → request ≡ asked.StepRange places → ⊥) → ((asks : Bool) → request ≡ asked.HostAnswer asks → ⊥)
    → ((pairs : Bor (List ℕ)) → request ≡ asked.Line pairs → ⊥) → (request ≡ asked.RunProgram → ⊥) → (request ≡ asked.Restart → ⊥)
    → (request ≡ asked.StepBack → ⊥) → (request ≡ asked.ContinueBack → ⊥)
    → gdb_change_shown g (gdb_request request) ≡ act_shown g (gdb_request request)
other_act g asked.Reason c cw s sw w h l p r sb cb = refl
other_act g asked.Registers c cw s sw w h l p r sb cb = refl
other_act g (asked.SetRegisters pairs) c cw s sw w h l p r sb cb = refl
other_act g (asked.Register n) c cw s sw w h l p r sb cb = refl
other_act g (asked.SetRegister n pairs) c cw s sw w h l p r sb cb = refl
other_act g (asked.Memory range) c cw s sw w h l p r sb cb = refl
other_act g (asked.StorePairs range pairs) c cw s sw w h l p r sb cb = refl
other_act g (asked.StoreBytes range bytes) c cw s sw w h l p r sb cb = refl
other_act g asked.Continue c cw s sw w h l p r sb cb = absurd (c refl)
other_act g (asked.ContinueWith n) c cw s sw w h l p r sb cb = absurd (cw n refl)
other_act g asked.Step c cw s sw w h l p r sb cb = absurd (s refl)
other_act g (asked.StepWith n) c cw s sw w h l p r sb cb = absurd (sw n refl)
other_act g (asked.StepRange places) c cw s sw w h l p r sb cb = absurd (w places refl)
other_act g asked.StepBack c cw s sw w h l p r sb cb = absurd (sb refl)
other_act g asked.ContinueBack c cw s sw w h l p r sb cb = absurd (cb refl)
other_act g asked.Ways c cw s sw w h l p r sb cb = refl
other_act g (asked.AddPoint kind range) c cw s sw w h l p r sb cb = refl
other_act g (asked.RemovePoint kind range) c cw s sw w h l p r sb cb = refl
other_act g asked.Supported c cw s sw w h l p r sb cb = refl
other_act g asked.NoAcks c cw s sw w h l p r sb cb = refl
other_act g (asked.Description range) c cw s sw w h l p r sb cb = refl
other_act g (asked.Libraries range) c cw s sw w h l p r sb cb = refl
other_act g (asked.Thread is_own) c cw s sw w h l p r sb cb = refl
other_act g asked.IsAttached c cw s sw w h l p r sb cb = refl
other_act g asked.CurrentThread c cw s sw w h l p r sb cb = refl
other_act g asked.FirstThreads c cw s sw w h l p r sb cb = refl
other_act g asked.MoreThreads c cw s sw w h l p r sb cb = refl
other_act g (asked.Line pairs) c cw s sw w h l p r sb cb = absurd (l pairs refl)
other_act g (asked.HostAnswer asks) c cw s sw w h l p r sb cb = absurd (h asks refl)
other_act g asked.Detach c cw s sw w h l p r sb cb = refl
other_act g asked.Kill c cw s sw w h l p r sb cb = refl
other_act g asked.KillProgram c cw s sw w h l p r sb cb = refl
other_act g asked.Extended c cw s sw w h l p r sb cb = refl
other_act g asked.Restart c cw s sw w h l p r sb cb = absurd (r refl)
other_act g asked.RunProgram c cw s sw w h l p r sb cb = absurd (p refl)
other_act g asked.Unknown c cw s sw w h l p r sb cb = refl
