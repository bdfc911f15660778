-- The names of the reasons, as the script language prints them.
use Rattle.std.specs.Prelude.{ℕ, List, codes}
use Rattle.assembler_reading.specs.Reason.{Reason}
use Rattle.assembler_reading.specs.Reason.TheVariants.{Syntax, LabelTwice, TooLong, UnknownLabel, BadImmediate, OutOfReach, Forbidden, Memory}

abbrev pub reason_name : Reason → List ℕ
reason_name Syntax = codes "Syntax"
reason_name LabelTwice = codes "LabelTwice"
reason_name TooLong = codes "TooLong"
reason_name UnknownLabel = codes "UnknownLabel"
reason_name BadImmediate = codes "BadImmediate"
reason_name OutOfReach = codes "OutOfReach"
reason_name Forbidden = codes "Forbidden"
reason_name Memory = codes "Memory"
