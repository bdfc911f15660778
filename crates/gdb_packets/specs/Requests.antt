-- What each packet asks for, exactly: a packet of no row here is unknown ("Packets" and "General Query
-- Packets" in GDB's manual, of which these are those that one program in one thread needs).
use Rattle.std.specs.Prelude.{ℕ, Bool, true, false, ◌+◌, ◌==◌, ◌&&◌, ◌||◌, nat_le, List, [], ◌∷◌, length, take, drop, codes, Option, Some, None, is_some, if◌then◌else◌}
use Rattle.std.specs.List.{position}
use Rattle.std.specs.Str.{bytes_eq}
use Rattle.gdb_packets.specs.Numbers.{packet_number}
use Rattle.gdb_packets.specs.declared.requests.PointKind.{PointKind}
use Rattle.gdb_packets.specs.declared.requests.PointKind.TheVariants as point
use Rattle.gdb_packets.specs.declared.parts.PartedText.{PartedText}
use Rattle.gdb_packets.specs.declared.requests.ByteRange.{ByteRange}
use Rattle.gdb_packets.specs.declared.requests.PlaceRange.{PlaceRange}
use Rattle.gdb_packets.specs.declared.requests.Request.{Request}
use Rattle.gdb_packets.specs.declared.requests.Request.TheVariants as request

pub data GdbRequest : Type 0 where
  -- `?`, the last stop
  Reason : GdbRequest
  -- `g`; `G`, by pairs of digits; `p n`; `P n=v`, v by pairs of digits
  Registers : GdbRequest
  SetRegisters : List ℕ → GdbRequest
  Register : ℕ → GdbRequest
  SetRegister : ℕ → List ℕ → GdbRequest
  -- `m a,n`; `M a,n:` with pairs of digits; `X a,n:` with bytes
  Memory : ByteRange → GdbRequest
  StorePairs : ByteRange → List ℕ → GdbRequest
  StoreBytes : ByteRange → List ℕ → GdbRequest
  -- `c`, `C nn` with a signal; `s`, `S nn`; `vCont;r a,b`, steps within a range of addresses
  Continue : GdbRequest
  ContinueWith : ℕ → GdbRequest
  Step : GdbRequest
  StepWith : ℕ → GdbRequest
  StepRange : PlaceRange → GdbRequest
  -- `bs`, a step back; `bc`, back as far as something stops it; `vCont?`
  StepBack : GdbRequest
  ContinueBack : GdbRequest
  Ways : GdbRequest
  -- `Z`, `z`: a kind, an address, and how many bytes
  AddPoint : PointKind → ByteRange → GdbRequest
  RemovePoint : PointKind → ByteRange → GdbRequest
  Supported : GdbRequest
  NoAcks : GdbRequest
  -- so many bytes of the target's description, from there on, or of the list of its libraries
  Description : ByteRange → GdbRequest
  Libraries : ByteRange → GdbRequest
  -- `H`, `T`, or an action's: a thread, and whether it is the one that there is
  Thread : Bool → GdbRequest
  IsAttached : GdbRequest
  CurrentThread : GdbRequest
  FirstThreads : GdbRequest
  MoreThreads : GdbRequest
  -- `qRcmd`, a line by pairs of digits
  Line : List ℕ → GdbRequest
  -- `F`: what the other side answers to a call, and whether it reports a Ctrl-C
  HostAnswer : Bool → GdbRequest
  -- `D`; `k`, `vKill`; `!`; `R`, `vRun`
  Detach : GdbRequest
  Kill : GdbRequest
  KillProgram : GdbRequest
  Extended : GdbRequest
  Restart : GdbRequest
  RunProgram : GdbRequest
  Unknown : GdbRequest

-- what stands before the first separator and behind it, where there is one
pub record PacketParts : Type 0 where
  pub before : List ℕ
  pub behind : List ℕ

-- the code's parts
abbrev pub parts_of : PartedText → PacketParts
parts_of parts = record { before = parts.before.now; behind = parts.behind.now }

abbrev pub parts_at : Option ℕ → List ℕ → Option PacketParts
parts_at None text = None
parts_at (Some place) text = Some (record { before = take place text; behind = drop (place + 1) text })

abbrev pub parts_around : ℕ → List ℕ → Option PacketParts
parts_around separator text = parts_at (position (λ b. b == separator) text) text

-- what follows an opening
abbrev pub behind_opening : List ℕ → List ℕ → Option (List ℕ)
behind_opening opening packet =
    if nat_le (length opening) (length packet) && bytes_eq (take (length opening) packet) opening
    then Some (drop (length opening) packet) else None

abbrev pub if_shown : Bool → GdbRequest → GdbRequest
if_shown reported request = if reported then request else Unknown

-- `a,n`: an address, and how many bytes
abbrev pub range_of_both : Option ℕ → Option ℕ → Option ByteRange
range_of_both (Some n) (Some m) = Some (record { start = n; count = m })
range_of_both (Some n) None = None
range_of_both None m = None

abbrev pub range_of_parts : Option PacketParts → Option ByteRange
range_of_parts None = None
range_of_parts (Some parts) = range_of_both (packet_number parts.before) (packet_number parts.behind)

abbrev pub byte_range_of : List ℕ → Option ByteRange
byte_range_of text = range_of_parts (parts_around 44 text)

abbrev pub of_range : Option ByteRange → (ByteRange → GdbRequest) → GdbRequest
of_range None request = Unknown
of_range (Some range) request = request range

-- what a call came to: a number, or `-1`, which is a failure
abbrev pub is_call_result : List ℕ → Bool
is_call_result text = is_some (packet_number text) || bytes_eq text (codes "-1")

-- a thread, and whether it is the one that there is: that has the number 1; 0 means any, and -1 all
abbrev pub thread_numbered : Option ℕ → Bool → Option Bool
thread_numbered (Some n) is_all = Some (nat_le n 1)
thread_numbered None is_all = if is_all then Some true else None

abbrev pub thread_in : List ℕ → Option Bool
thread_in text = thread_numbered (packet_number text) (bytes_eq text (codes "-1"))

abbrev pub of_thread : Option Bool → GdbRequest
of_thread None = Unknown
of_thread (Some is_own) = Thread is_own

abbrev pub register_request : Option ℕ → GdbRequest
register_request None = Unknown
register_request (Some n) = Register n

abbrev pub set_register_numbered : Option ℕ → List ℕ → GdbRequest
set_register_numbered None pairs = Unknown
set_register_numbered (Some n) pairs = SetRegister n pairs

abbrev pub set_register_request : Option PacketParts → GdbRequest
set_register_request None = Unknown
set_register_request (Some parts) = set_register_numbered (packet_number parts.before) parts.behind

abbrev pub store_pairs_request : Option PacketParts → GdbRequest
store_pairs_request None = Unknown
store_pairs_request (Some parts) = of_range (byte_range_of parts.before)
    (λ range. StorePairs range parts.behind)

abbrev pub store_bytes_request : Option PacketParts → GdbRequest
store_bytes_request None = Unknown
store_bytes_request (Some parts) = of_range (byte_range_of parts.before)
    (λ range. StoreBytes range parts.behind)

-- `0` and `1` are breaks; watches are of stores, of loads, and of both
abbrev pub point_kind : List ℕ → Option PointKind
point_kind text =
    if bytes_eq text (codes "0") then Some point.Break else (
    if bytes_eq text (codes "1") then Some point.Break else (
    if bytes_eq text (codes "2") then Some point.StoreWatch else (
    if bytes_eq text (codes "3") then Some point.LoadWatch else (
    if bytes_eq text (codes "4") then Some point.AccessWatch else None))))

abbrev pub point_of_kind : Option PointKind → Option ByteRange → (PointKind → ByteRange → GdbRequest) →
    GdbRequest
point_of_kind (Some kind) (Some range) request = request kind range
point_of_kind (Some kind) None request = Unknown
point_of_kind None range request = Unknown

abbrev pub point_request : Option PacketParts → (PointKind → ByteRange → GdbRequest) → GdbRequest
point_request None request = Unknown
point_request (Some parts) request = point_of_kind (point_kind parts.before) (byte_range_of parts.behind)
    request

-- `nn` behind `C` or `S`
abbrev pub of_signal : Option ℕ → (ℕ → GdbRequest) → GdbRequest
of_signal None request = Unknown
of_signal (Some signal) request = request signal

-- `a,b` behind `r`: from the one address up to the other, which is left out
abbrev pub places_of_both : Option ℕ → Option ℕ → GdbRequest
places_of_both (Some a) (Some b) = StepRange (record { start = a; end = b })
places_of_both (Some a) None = Unknown
places_of_both None b = Unknown

abbrev pub places_request : Option PacketParts → GdbRequest
places_request None = Unknown
places_request (Some parts) = places_of_both (packet_number parts.before) (packet_number parts.behind)

-- `c`, `s`, and with a signal `C nn`, `S nn`; `r a,b`
abbrev pub action_request : List ℕ → GdbRequest
action_request [] = Unknown
action_request (letter ∷ []) =
    if letter == 99 then Continue else (
    if letter == 115 then Step else Unknown)
action_request (letter ∷ digit ∷ digits) =
    if letter == 67 then of_signal (packet_number (digit ∷ digits)) ContinueWith else (
    if letter == 83 then of_signal (packet_number (digit ∷ digits)) StepWith else (
    if letter == 114 then places_request (parts_around 44 (digit ∷ digits)) else Unknown))

abbrev pub is_known_packet : GdbRequest → Bool
is_known_packet Unknown = false
is_known_packet _ = true

-- an action of a thread; of another than the one that there is none is taken
abbrev pub action_of : Option Bool → GdbRequest → GdbRequest
action_of None action = Unknown
action_of (Some true) action = action
action_of (Some false) action = if_shown (is_known_packet action) (Thread false)

-- an action, and `:` with a thread or not
abbrev pub action_for_parts : Option PacketParts → List ℕ → GdbRequest
action_for_parts None text = action_request text
action_for_parts (Some parts) text = action_of (thread_in parts.behind) (action_request parts.before)

abbrev pub action_for_thread : List ℕ → GdbRequest
action_for_thread text = action_for_parts (parts_around 58 text) text

-- one action, or two, of which the first says what the one thread does
abbrev pub actions_in : Option PacketParts → List ℕ → GdbRequest
actions_in None text = action_for_thread text
actions_in (Some parts) text =
    if_shown (is_known_packet (action_for_thread parts.behind)) (action_for_thread parts.before)

abbrev pub actions_request : List ℕ → GdbRequest
actions_request text = actions_in (parts_around 59 text) text

abbrev pub host_answer_flagged : Option PacketParts → List ℕ → GdbRequest
host_answer_flagged None text = if_shown (is_some (packet_number text)) (HostAnswer false)
host_answer_flagged (Some parts) text =
    if_shown (is_some (packet_number parts.before) && bytes_eq parts.behind (codes "C")) (HostAnswer true)

-- a result; behind a comma an error's number; behind another `C`
abbrev pub host_answer_in : Option PacketParts → List ℕ → GdbRequest
host_answer_in None text = if_shown (is_call_result text) (HostAnswer false)
host_answer_in (Some parts) text =
    if_shown (is_call_result parts.before) (host_answer_flagged (parts_around 44 parts.behind) parts.behind)

abbrev pub host_answer_request : List ℕ → GdbRequest
host_answer_request text = host_answer_in (parts_around 44 text) text

abbrev pub thread_request : List ℕ → GdbRequest
thread_request [] = Unknown
thread_request (letter ∷ thread) = if letter == 103 || letter == 99 then of_thread (thread_in thread) else
    Unknown

abbrev pub is_process : List ℕ → Bool
is_process [] = false
is_process (mark ∷ number) = mark == 59 && is_some (packet_number number)

-- packets of one letter
abbrev pub lone_request : ℕ → GdbRequest
lone_request letter =
    if letter == 63 then Reason else (
    if letter == 103 then Registers else (
    if letter == 99 then Continue else (
    if letter == 115 then Step else (
    if letter == 107 then Kill else (
    if letter == 68 then Detach else (
    if letter == 33 then Extended else Unknown))))))

-- packets of a letter and what follows: of registers and memory ..
abbrev pub access_request : ℕ → List ℕ → Option GdbRequest
access_request letter rest =
    if letter == 71 then Some (SetRegisters rest) else (
    if letter == 112 then Some (register_request (packet_number rest)) else (
    if letter == 80 then Some (set_register_request (parts_around 61 rest)) else (
    if letter == 109 then Some (of_range (byte_range_of rest) Memory) else (
    if letter == 77 then Some (store_pairs_request (parts_around 58 rest)) else (
    if letter == 88 then Some (store_bytes_request (parts_around 58 rest)) else (
    if letter == 90 then Some (point_request (parts_around 44 rest) AddPoint) else (
    if letter == 122 then Some (point_request (parts_around 44 rest) RemovePoint) else None)))))))

-- `s` or `c` behind `b`
abbrev pub back_request : List ℕ → GdbRequest
back_request text =
    if bytes_eq text (codes "s") then StepBack else (
    if bytes_eq text (codes "c") then ContinueBack else Unknown)

-- .. and of what the program does
abbrev pub control_request : ℕ → List ℕ → GdbRequest
control_request letter rest =
    if letter == 67 then of_signal (packet_number rest) ContinueWith else (
    if letter == 83 then of_signal (packet_number rest) StepWith else (
    if letter == 72 then thread_request rest else (
    if letter == 84 then of_thread (thread_in rest) else (
    if letter == 70 then host_answer_request rest else (
    if letter == 68 then if_shown (is_process rest) Detach else (
    if letter == 82 then if_shown (is_some (packet_number rest)) Restart else (
    if letter == 98 then back_request rest else Unknown)))))))

abbrev pub first_shown : Option GdbRequest → GdbRequest → GdbRequest
first_shown (Some reported) other = reported
first_shown None other = other

abbrev pub lettered_request : ℕ → List ℕ → GdbRequest
lettered_request letter rest = first_shown (access_request letter rest) (control_request letter rest)

-- packets that are words ..
unfoldable pub whole_word_request : List ℕ → Option GdbRequest
whole_word_request packet =
    if bytes_eq packet (codes "vCont?") then Some Ways else (
    if bytes_eq packet (codes "qC") then Some CurrentThread else (
    if bytes_eq packet (codes "qfThreadInfo") then Some FirstThreads else (
    if bytes_eq packet (codes "qsThreadInfo") then Some MoreThreads else (
    if bytes_eq packet (codes "qAttached") then Some IsAttached else (
    if bytes_eq packet (codes "qSupported") then Some Supported else (
    if bytes_eq packet (codes "QStartNoAckMode") then Some NoAcks else None))))))

-- .. or begin with one
abbrev pub kill_or_run : Option (List ℕ) → Option (List ℕ) → GdbRequest
kill_or_run (Some number) run = if_shown (is_some (packet_number number)) KillProgram
kill_or_run None (Some words) = RunProgram
kill_or_run None None = Unknown

unfoldable pub about_process : List ℕ → GdbRequest
about_process packet = kill_or_run (behind_opening (codes "vKill;") packet)
    (behind_opening (codes "vRun;") packet)

abbrev pub attachment_or : Option (List ℕ) → GdbRequest → GdbRequest
attachment_or (Some number) other = if_shown (is_some (packet_number number)) IsAttached
attachment_or None other = other

unfoldable pub about_attachment : List ℕ → GdbRequest
about_attachment packet = attachment_or (behind_opening (codes "qAttached:") packet) (about_process packet)

abbrev pub supported_or : Option (List ℕ) → GdbRequest → GdbRequest
supported_or (Some features) other = Supported
supported_or None other = other

unfoldable pub about_session : List ℕ → GdbRequest
about_session packet = supported_or (behind_opening (codes "qSupported:") packet) (about_attachment packet)

abbrev pub libraries_or : Option (List ℕ) → GdbRequest → GdbRequest
libraries_or (Some range) other = of_range (byte_range_of range) Libraries
libraries_or None other = other

-- the list of libraries has no name of its own between the colons
unfoldable pub about_libraries : List ℕ → GdbRequest
about_libraries packet =
    libraries_or (behind_opening (codes "qXfer:libraries:read::") packet) (about_session packet)

abbrev pub line_or_description : Option (List ℕ) → Option (List ℕ) → GdbRequest → GdbRequest
line_or_description (Some pairs) description other = Line pairs
line_or_description None (Some range) other = of_range (byte_range_of range) Description
line_or_description None None other = other

unfoldable pub about_target : List ℕ → GdbRequest
about_target packet = line_or_description
    (behind_opening (codes "qRcmd,") packet) (behind_opening (codes "qXfer:features:read:target.xml:") packet)
    (about_libraries packet)

abbrev pub actions_or : Option (List ℕ) → GdbRequest → GdbRequest
actions_or (Some actions) other = actions_request actions
actions_or None other = other

unfoldable pub opened_request : List ℕ → GdbRequest
opened_request packet = actions_or (behind_opening (codes "vCont;") packet) (about_target packet)

unfoldable pub word_request : List ℕ → GdbRequest
word_request packet = first_shown (whole_word_request packet) (opened_request packet)

-- `q`, `Q` and `v` begin words
abbrev pub begins_word : ℕ → Bool
begins_word letter = letter == 113 || (letter == 81 || letter == 118)

unfoldable pub packet_request : List ℕ → GdbRequest
packet_request [] = Unknown
packet_request (letter ∷ []) = lone_request letter
packet_request (letter ∷ next ∷ rest) =
    if begins_word letter then word_request (letter ∷ next ∷ rest) else
    lettered_request letter (next ∷ rest)

-- what the code's request is
abbrev pub gdb_request : Request → GdbRequest
gdb_request request.Reason = Reason
gdb_request request.Registers = Registers
gdb_request (request.SetRegisters pairs) = SetRegisters pairs.now
gdb_request (request.Register n) = Register n
gdb_request (request.SetRegister n pairs) = SetRegister n pairs.now
gdb_request (request.Memory range) = Memory range
gdb_request (request.StorePairs range pairs) = StorePairs range pairs.now
gdb_request (request.StoreBytes range bytes) = StoreBytes range bytes.now
gdb_request request.Continue = Continue
gdb_request (request.ContinueWith signal) = ContinueWith signal
gdb_request request.Step = Step
gdb_request (request.StepWith signal) = StepWith signal
gdb_request (request.StepRange places) = StepRange places
gdb_request request.StepBack = StepBack
gdb_request request.ContinueBack = ContinueBack
gdb_request request.Ways = Ways
gdb_request (request.AddPoint kind range) = AddPoint kind range
gdb_request (request.RemovePoint kind range) = RemovePoint kind range
gdb_request request.Supported = Supported
gdb_request request.NoAcks = NoAcks
gdb_request (request.Description range) = Description range
gdb_request (request.Libraries range) = Libraries range
gdb_request (request.Thread is_own) = Thread is_own
gdb_request request.IsAttached = IsAttached
gdb_request request.CurrentThread = CurrentThread
gdb_request request.FirstThreads = FirstThreads
gdb_request request.MoreThreads = MoreThreads
gdb_request (request.Line pairs) = Line pairs.now
gdb_request (request.HostAnswer asks) = HostAnswer asks
gdb_request request.Detach = Detach
gdb_request request.Kill = Kill
gdb_request request.KillProgram = KillProgram
gdb_request request.Extended = Extended
gdb_request request.Restart = Restart
gdb_request request.RunProgram = RunProgram
gdb_request request.Unknown = Unknown
