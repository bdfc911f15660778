-- What HEAP and FLEX answer, by whether there is a heap at the address, or a flex store.
use Rattle.std.proofs.Common.{◌≡◌, ℕ, true, false, List, [], Option, Some, None}
use Rattle.std.specs.Prelude.{codes, is_some, unwrap_or}
use Rattle.debugger.specs.Flex.{flex_text}
use Rattle.debugger.specs.Heap.{heap_blocks_text}
use Rattle.command_shell.specs.Answers.{refused_text}
use Rattle.command_shell.specs.State.{ScriptState, answer}
use Rattle.command_shell.specs.Views.{flex_answer, heap_answer, shown_or}

there : (s : ScriptState) (refusal : List ℕ) (o : Option (List ℕ)) → is_some o ≡ true
    → shown_or s refusal o ≡ answer s (unwrap_or o [])
there s refusal None e = absurd (cc)
there s refusal (Some text) e = cc

missing : (s : ScriptState) (refusal : List ℕ) (o : Option (List ℕ)) → is_some o ≡ false
    → shown_or s refusal o ≡ answer s (refused_text refusal)
missing s refusal None e = cc
missing s refusal (Some text) e = absurd (cc)

pub nothing : (o : Option (List ℕ)) → is_some o ≡ false → unwrap_or o [] ≡ []
nothing None e = cc
nothing (Some text) e = absurd (cc)

pub heap_there : (s : ScriptState) (address : ℕ) → is_some (heap_blocks_text s.machine.store address) ≡ true
    → heap_answer s address ≡ answer s (unwrap_or (heap_blocks_text s.machine.store address) [])
unfolding heap_answer
heap_there s address e = there s (codes "NoHeap") (heap_blocks_text s.machine.store address) e

pub heap_missing : (s : ScriptState) (address : ℕ) → is_some (heap_blocks_text s.machine.store address) ≡ false
    → heap_answer s address ≡ answer s (refused_text (codes "NoHeap"))
unfolding heap_answer
heap_missing s address e = missing s (codes "NoHeap") (heap_blocks_text s.machine.store address) e

pub nothing_shown : (s : ScriptState) (address : ℕ) → is_some (heap_blocks_text s.machine.store address) ≡ false
    → unwrap_or (heap_blocks_text s.machine.store address) [] ≡ []
nothing_shown s address e = nothing (heap_blocks_text s.machine.store address) e

pub flex_there : (s : ScriptState) → is_some (flex_text s.machine.store.bytes s.machine.tables.flex) ≡ true
    → flex_answer s ≡ answer s (unwrap_or (flex_text s.machine.store.bytes s.machine.tables.flex) [])
unfolding flex_answer
flex_there s e = there s (codes "NoFlex") (flex_text s.machine.store.bytes s.machine.tables.flex) e

pub flex_missing : (s : ScriptState) → is_some (flex_text s.machine.store.bytes s.machine.tables.flex) ≡ false
    → flex_answer s ≡ answer s (refused_text (codes "NoFlex"))
unfolding flex_answer
flex_missing s e = missing s (codes "NoFlex") (flex_text s.machine.store.bytes s.machine.tables.flex) e

pub ruleset heap_steps = (heap_there, heap_missing, nothing_shown)

pub ruleset flex_steps = (flex_there, flex_missing, nothing)
