-- Which texts ask for which request, shown by what they are made of ("Packets", "General Query Packets",
-- "vCont packet" and "The F reply packet" in GDB's manual). A byte that parts two texts is none of the
-- first.
use Rattle.std.specs.Prelude.{◌≡◌, ◌<◌, ◌≤◌, ◌⊎◌, ℕ, Bool, true, false, List, [], ◌∷◌, ◌++◌, length, codes, Some, is_some}
use Rattle.gdb_packets.specs.Numbers.{packet_number}
use Rattle.gdb_packets.specs.Requests as request
use Rattle.gdb_packets.specs.Requests.{GdbRequest}
use Rattle.gdb_packets.specs.declared.requests.ByteRange.{ByteRange}
use Rattle.gdb_packets.specs.declared.requests.PlaceRange.{PlaceRange}
use Rattle.gdb_packets.specs.declared.requests.PointKind.{PointKind}
use Rattle.gdb_packets.specs.declared.requests.PointKind.TheVariants as point

-- an opening, and behind it a text of a kind
pub record Behind (opening : List ℕ) (Kind : List ℕ → Type 0) (text : List ℕ) : Type 0 where
  pub rest : List ℕ
  pub whole : text ≡ opening ++ rest
  pub kind : Kind rest

-- a text of a kind, one byte, and a text of another kind
pub record Parted (separator : ℕ) (First Second : List ℕ → Type 0) (text : List ℕ) : Type 0 where
  pub before : List ℕ
  pub behind : List ℕ
  pub whole : text ≡ before ++ (separator ∷ behind)
  pub first : First before
  pub second : Second behind

-- this text
abbrev pub Is : List ℕ → List ℕ → Type 0
Is wanted text = text ≡ wanted

-- any text
abbrev pub IsAny : List ℕ → Type 0
IsAny text = Unit {0}

-- digits that make a number, and those of any number
abbrev pub IsNumber : ℕ → List ℕ → Type 0
IsNumber n text = packet_number text ≡ Some n

abbrev pub HasNumber : List ℕ → Type 0
HasNumber text = is_some (packet_number text) ≡ true

-- what a call came to: a number, or `-1`
abbrev pub IsCallResult : List ℕ → Type 0
IsCallResult text = HasNumber text ⊎ Is (codes "-1") text

-- the number of the one thread, 1, or that of any, 0
pub record IsOwnNumber (text : List ℕ) : Type 0 where
  pub number : ℕ
  pub is : IsNumber number text
  pub within : number ≤ 1

-- that of another
pub record IsOtherNumber (text : List ℕ) : Type 0 where
  pub number : ℕ
  pub is : IsNumber number text
  pub beyond : 1 < number

-- a thread: the one that there is, where `-1` means all; or another
abbrev pub IsThread : Bool → List ℕ → Type 0
IsThread true text = IsOwnNumber text ⊎ Is (codes "-1") text
IsThread false text = IsOtherNumber text

-- `a,n`: an address, and how many bytes
abbrev pub IsRange : ByteRange → List ℕ → Type 0
IsRange range = Parted 44 (IsNumber range.start) (IsNumber range.count)

-- `0` or `1`, a break; `2`, `3` and `4`, watches of stores, of loads, and of both
abbrev pub IsKind : PointKind → List ℕ → Type 0
IsKind point.Break text = Is (codes "0") text ⊎ Is (codes "1") text
IsKind point.StoreWatch text = Is (codes "2") text
IsKind point.LoadWatch text = Is (codes "3") text
IsKind point.AccessWatch text = Is (codes "4") text

-- `kind,a,n`
abbrev pub IsPoint : PointKind → ByteRange → List ℕ → Type 0
IsPoint kind range = Parted 44 (IsKind kind) (IsRange range)

-- `a,n:` and what is stored
abbrev pub IsStoreText : ByteRange → List ℕ → List ℕ → Type 0
IsStoreText range stored = Parted 58 (IsRange range) (Is stored)

-- a letter and a signal behind it
abbrev pub IsSignalled : ℕ → ℕ → List ℕ → Type 0
IsSignalled letter signal = Behind (letter ∷ []) (IsNumber signal)

-- `r`, and behind it `a,b`: from the one address up to the other
abbrev pub IsStepRange : PlaceRange → List ℕ → Type 0
IsStepRange places = Behind (codes "r") (Parted 44 (IsNumber places.start) (IsNumber places.end))

-- what asks for an action
abbrev pub IsAction : GdbRequest → List ℕ → Type 0
IsAction request.Continue text = Is (codes "c") text
IsAction request.Step text = Is (codes "s") text
IsAction (request.ContinueWith signal) text = IsSignalled 67 signal text
IsAction (request.StepWith signal) text = IsSignalled 83 signal text
IsAction (request.StepRange places) text = IsStepRange places text
IsAction other text = ⊥

pub record IsAnyAction (text : List ℕ) : Type 0 where
  pub action : GdbRequest
  pub kind : IsAction action text

-- an action, and `:` with the one thread or not
abbrev pub IsOwnAction : GdbRequest → List ℕ → Type 0
IsOwnAction action text = IsAction action text ⊎ Parted 58 (IsAction action) (IsThread true) text

-- or any action with another thread, which asks for that thread
abbrev pub IsForThread : GdbRequest → List ℕ → Type 0
IsForThread (request.Thread false) text = Parted 58 IsAnyAction (IsThread false) text
IsForThread action text = IsOwnAction action text

pub record IsAnyForThread (text : List ℕ) : Type 0 where
  pub action : GdbRequest
  pub for_thread : IsForThread action text

-- one action, or two, of which the first says what the one thread does
abbrev pub AreActions : GdbRequest → List ℕ → Type 0
AreActions action text = IsForThread action text ⊎ Parted 59 (IsForThread action) IsAnyForThread text

-- an action behind `vCont;`
abbrev pub IsGoing : GdbRequest → List ℕ → Type 0
IsGoing action = Behind (codes "vCont;") (AreActions action)

-- what a call came to, and behind a comma an error's number
abbrev pub IsCallEnd : List ℕ → Type 0
IsCallEnd text = IsCallResult text ⊎ Parted 44 IsCallResult HasNumber text

-- the same with `,C` behind it
abbrev pub IsCallStopped : List ℕ → Type 0
IsCallStopped = Parted 44 IsCallResult (Parted 44 HasNumber (Is (codes "C")))

-- `Hg` or `Hc` and a thread, or `T` and one
abbrev pub IsAboutThread : Bool → List ℕ → Type 0
IsAboutThread is_own text =
    (Behind (codes "Hg") (IsThread is_own) text ⊎ Behind (codes "Hc") (IsThread is_own) text)
    ⊎ Behind (codes "T") (IsThread is_own) text

-- which texts ask for a request; none asks for one that isn't known
abbrev pub AsksFor : GdbRequest → List ℕ → Type 0
AsksFor request.Reason text = Is (codes "?") text
AsksFor request.Registers text = Is (codes "g") text
AsksFor (request.SetRegisters pairs) text = Is (codes "G" ++ pairs) text × (0 < length pairs)
AsksFor (request.Register n) text = Behind (codes "p") (IsNumber n) text
AsksFor (request.SetRegister n pairs) text = Behind (codes "P") (Parted 61 (IsNumber n) (Is pairs)) text
AsksFor (request.Memory range) text = Behind (codes "m") (IsRange range) text
AsksFor (request.StorePairs range pairs) text = Behind (codes "M") (IsStoreText range pairs) text
AsksFor (request.StoreBytes range bytes) text = Behind (codes "X") (IsStoreText range bytes) text
AsksFor request.Continue text = Is (codes "c") text ⊎ IsGoing request.Continue text
AsksFor (request.ContinueWith signal) text = IsSignalled 67 signal text ⊎ IsGoing
    (request.ContinueWith signal) text
AsksFor request.Step text = Is (codes "s") text ⊎ IsGoing request.Step text
AsksFor (request.StepWith signal) text = IsSignalled 83 signal text ⊎ IsGoing (request.StepWith signal) text
AsksFor (request.StepRange places) text = IsGoing (request.StepRange places) text
AsksFor request.StepBack text = Is (codes "bs") text
AsksFor request.ContinueBack text = Is (codes "bc") text
AsksFor request.Ways text = Is (codes "vCont?") text
AsksFor (request.AddPoint kind range) text = Behind (codes "Z") (IsPoint kind range) text
AsksFor (request.RemovePoint kind range) text = Behind (codes "z") (IsPoint kind range) text
AsksFor request.Supported text = Is (codes "qSupported") text ⊎ Behind (codes "qSupported:") IsAny text
AsksFor request.NoAcks text = Is (codes "QStartNoAckMode") text
AsksFor (request.Description range) text = Behind (codes "qXfer:features:read:target.xml:") (IsRange range)
    text
AsksFor (request.Libraries range) text = Behind (codes "qXfer:libraries:read::") (IsRange range) text
AsksFor (request.Thread true) text = IsAboutThread true text
AsksFor (request.Thread false) text = IsAboutThread false text ⊎ IsGoing (request.Thread false) text
AsksFor request.IsAttached text = Is (codes "qAttached") text ⊎ Behind (codes "qAttached:") HasNumber text
AsksFor request.CurrentThread text = Is (codes "qC") text
AsksFor request.FirstThreads text = Is (codes "qfThreadInfo") text
AsksFor request.MoreThreads text = Is (codes "qsThreadInfo") text
AsksFor (request.Line pairs) text = Is (codes "qRcmd," ++ pairs) text
AsksFor (request.HostAnswer false) text = Behind (codes "F") IsCallEnd text
AsksFor (request.HostAnswer true) text = Behind (codes "F") IsCallStopped text
AsksFor request.Detach text = Is (codes "D") text ⊎ Behind (codes "D;") HasNumber text
AsksFor request.Kill text = Is (codes "k") text
AsksFor request.KillProgram text = Behind (codes "vKill;") HasNumber text
AsksFor request.Extended text = Is (codes "!") text
AsksFor request.Restart text = Behind (codes "R") HasNumber text
AsksFor request.RunProgram text = Behind (codes "vRun;") IsAny text
AsksFor request.Unknown text = ⊥
