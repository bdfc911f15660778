-- What a call of OS_Heap leaves of the whole of memory.
use Rattle.std.proofs.Common.{Ok, subst}
use Rattle.law_machine.proofs.LiveBytesLemmas.HeapWrites.{Writes, call_writes}
use Rattle.law_machine.specs.other_bytes.HeapWrites.{HeapCallsKeepOthers}

pub heap_calls_keep_others : HeapCallsKeepOthers
heap_calls_keep_others s t heap block size r2 r3 a why sound sound' is =
    let done : Writes why s heap block size a (Ok (t, (r2, r3))) = subst (Writes why s heap block size a) is (call_writes s heap block size a sound why) in
    done sound'
