-- What each request does to a session with GDB, and what it is answered.
use Rattle.std.specs.Prelude.{ℕ, Bool, List, [], codes, Option, Some, None, if◌then◌else◌}
use Rattle.gdb_packets.specs.Requests as request
use Rattle.gdb_packets.specs.Requests.{GdbRequest}
use Rattle.gdb_packets.specs.declared.requests.ByteRange.{ByteRange}
use Rattle.gdb_packets.specs.declared.requests.PointKind.{PointKind}
use Rattle.gdb_packets.specs.declared.requests.PointKind.TheVariants as point
use Rattle.gdb_machine.specs.declared.back_ends.UnderWay.{UnderWay}
use Rattle.gdb_machine.specs.declared.back_ends.UnderWay.TheVariants as under
use Rattle.gdb_machine.specs.declared.stops.GdbStop.TheVariants as reason
use Rattle.gdb_machine.specs.declared.watches.WatchKind.{WatchKind}
use Rattle.gdb_machine.specs.declared.watches.WatchKind.TheVariants as kind
use Rattle.gdb_packets.specs.declared.going.Going.TheVariants as going
use Rattle.gdb_server.specs.session.Back as back
use Rattle.gdb_server.specs.session.Changes as changes
use Rattle.gdb_server.specs.session.Looks.{look_reply}
use Rattle.gdb_server.specs.session.Runs as runs
use Rattle.gdb_server.specs.session.State.{GdbState, GdbAnswered, packet_reply, no_reply}
use Rattle.gdb_server.specs.session.Stores.{store_shown}

-- what a watch looks for; a break is none
abbrev pub watch_kind : PointKind → Option WatchKind
watch_kind point.Break = None
watch_kind point.StoreWatch = Some kind.Store
watch_kind point.LoadWatch = Some kind.Load
watch_kind point.AccessWatch = Some kind.Access

abbrev pub add_point_shown : GdbState → PointKind → ByteRange → GdbAnswered
add_point_shown g point.Break range = changes.add_break_shown g range
add_point_shown g point.StoreWatch range = changes.add_watch_shown g
    (record { kind = kind.Store; range = range })
add_point_shown g point.LoadWatch range = changes.add_watch_shown g
    (record { kind = kind.Load; range = range })
add_point_shown g point.AccessWatch range = changes.add_watch_shown g
    (record { kind = kind.Access; range = range })

abbrev pub remove_point_shown : GdbState → PointKind → ByteRange → GdbAnswered
remove_point_shown g point.Break range = changes.remove_break_shown g range
remove_point_shown g point.StoreWatch range = changes.remove_watch_shown g
    (record { kind = kind.Store; range = range })
remove_point_shown g point.LoadWatch range = changes.remove_watch_shown g
    (record { kind = kind.Load; range = range })
remove_point_shown g point.AccessWatch range = changes.remove_watch_shown g
    (record { kind = kind.Access; range = range })

-- what changes without a step; `k` and any other packet ends the session
abbrev pub gdb_change_shown : GdbState → GdbRequest → GdbAnswered
gdb_change_shown g (request.SetRegister n pairs) = changes.set_register_shown g n pairs
gdb_change_shown g (request.StorePairs range pairs) = changes.store_pairs_shown g range pairs
gdb_change_shown g (request.StoreBytes range bytes) = store_shown g range bytes
gdb_change_shown g (request.AddPoint asked range) = add_point_shown g asked range
gdb_change_shown g (request.RemovePoint asked range) = remove_point_shown g asked range
gdb_change_shown g request.KillProgram = packet_reply (changes.program_ended g) (codes "OK")
gdb_change_shown g request.Detach = packet_reply (changes.at_session_end g) (codes "OK")
gdb_change_shown g other = no_reply (changes.at_session_end g)

-- The other side has answered: the run, or the search, goes on, unless the user wants it to stop.
abbrev pub goes_further : GdbState → UnderWay → GdbAnswered
goes_further g (under.Run goes) = runs.slice_shown g goes
goes_further g (under.Search so_far) = back.search_shown g so_far

abbrev pub unless_asked : GdbState → Bool → UnderWay → GdbAnswered
unless_asked g asks way = if asks then runs.gdb_stop_shown g [] reason.Asked else goes_further g way

abbrev pub goes_on_if : GdbState → Bool → Option UnderWay → GdbAnswered
goes_on_if g asks None = no_reply g
goes_on_if g asks (Some way) = unless_asked g asks way

abbrev pub host_answered : GdbState → Bool → GdbAnswered
host_answered g asks = goes_on_if g asks g.going

-- a request that doesn't only look
abbrev pub act_shown : GdbState → GdbRequest → GdbAnswered
act_shown g request.Continue = runs.going_shown g going.On None
act_shown g (request.ContinueWith signal) = runs.going_shown g going.On (Some signal)
act_shown g request.Step = runs.going_shown g going.Once None
act_shown g (request.StepWith signal) = runs.going_shown g going.Once (Some signal)
act_shown g (request.StepRange places) = runs.going_shown g (going.Within places) None
act_shown g request.StepBack = back.step_back_shown g
act_shown g request.ContinueBack = back.continue_back_shown g
act_shown g (request.HostAnswer asks) = host_answered g asks
act_shown g (request.Line pairs) = runs.monitor_shown g pairs
act_shown g request.RunProgram = runs.run_program_shown g
act_shown g request.Restart = runs.restart_shown g
act_shown g other = gdb_change_shown g other

abbrev pub look_or_act : Option (List ℕ) → GdbState → GdbRequest → GdbAnswered
look_or_act (Some reply) g asked = packet_reply g reply
look_or_act None g asked = act_shown g asked

unfoldable pub gdb_answered : GdbState → GdbRequest → GdbAnswered
gdb_answered g asked = look_or_act (look_reply g asked) g asked
