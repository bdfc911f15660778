-- Requests whose answer is always the same, or depends on nothing but whether the program is there; after which the
-- bytes `+` and `-` are sent no more; and what extended mode changes.
use Rattle.std.specs.Prelude.{ℕ, Bool, true, false, not, ◌&&◌, ◌||◌, List, [], ◌++◌, Option, Some, None, codes, if◌then◌else◌}
use Rattle.gdb_packets.specs.Requests as request
use Rattle.gdb_packets.specs.Requests.{GdbRequest}

abbrev pub supported_text : List ℕ
supported_text =
    codes "PacketSize=4000;QStartNoAckMode+;vContSupported+;swbreak+;hwbreak+;qXfer:features:read+"
    ++ codes ";qXfer:libraries:read+;ReverseStep+;ReverseContinue+"

-- a packet that is always the same; an empty one says that a request isn't known
abbrev pub fixed_reply : GdbRequest → Option (List ℕ)
fixed_reply request.NoAcks = Some (codes "OK")
fixed_reply (request.Thread true) = Some (codes "OK")
fixed_reply (request.Thread false) = Some (codes "E01")
fixed_reply request.Extended = Some (codes "OK")
fixed_reply request.Supported = Some supported_text
fixed_reply request.Ways = Some (codes "vCont;c;C;s;S;r")
fixed_reply request.IsAttached = Some (codes "0")
fixed_reply request.CurrentThread = Some (codes "QC1")
fixed_reply request.MoreThreads = Some (codes "l")
fixed_reply (request.SetRegisters pairs) = Some []
fixed_reply request.Unknown = Some []
fixed_reply _ = None

-- the one thread, while the program is there
abbrev pub threads_text : Bool → List ℕ
threads_text true = codes "l"
threads_text false = codes "m1"

-- Where packets aren't asked for again, one whose sum is wrong is taken as it came, unless it is too long.
abbrev pub is_taken_so : Bool → Bool → Bool
is_taken_so has_acks fits = not has_acks && fits

-- `+` and `-` are sent no more after that
abbrev pub keeps_acks : GdbRequest → Bool
keeps_acks request.NoAcks = false
keeps_acks other = true

-- `!`
abbrev pub is_extension : GdbRequest → Bool
is_extension request.Extended = true
is_extension other = false

-- whether the mode is extended after a request: in it the program can be run again
abbrev pub extends : Bool → GdbRequest → Bool
extends was_extended asked = was_extended || is_extension asked

-- What a request asks for of another side that stays there: `D` ends the program alone, and `k`, which has no reply,
-- begins it anew.
abbrev pub staying : GdbRequest → GdbRequest
staying request.Detach = request.KillProgram
staying request.Kill = request.Restart
staying other = other

-- In extended mode the other side stays there.
abbrev pub meant_in : Bool → GdbRequest → GdbRequest
meant_in is_extended asked = if is_extended then staying asked else asked
