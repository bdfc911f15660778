-- The debugging language's own lines open no block.
use Rattle.std.proofs.Common.{◌≡◌, ℕ, Bool, true, false, List, [], ◌∷◌, Option, Some, None, refl}
use Rattle.std.specs.Prelude.{codes, is_some, if◌then◌else◌}
use Rattle.command_shell_lines.specs.Numbers.{script_number}
use Rattle.command_shell_lines.specs.Operands.{word_address, origin_of, count_up_to}
use Rattle.command_shell_lines.specs.Requests.{Poke, Set, is_same_word, opens_block, words}
use Rattle.command_shell_lines.specs.Requests as script
use Rattle.profile.specs.images.Entries.{can_name_image}
use Rattle.debug_lines.specs.DebugRequests.{DebugRequest, Script, Stepping, Mode, Counts, Forget, Reset, Quit, View, NotKnown, expect_line, own_request_behind, Banks, Frames, Help, Labels, Stack, Where, Why, named_call, dump_at, gosub_to, help_of, script_of_two, is_frames_word, mode_line, of_image, put_at, Write, bytes_request, bytes_request_by, fill_of, find_of, poke_by, poke_of, write_at, own_request_of_four, own_request_of_three, own_request_of_two, own_request_of_word, own_request_of_words, set_pc_to, set_psr_to, set_request, stack_of, words_at, trace_last, trace_of_words, trace_limit, trace_step}
use Rattle.debug_lines.specs.Expectations.{ExpectRequest, expect_request}
use Rattle.command_shell_lines.specs.debug_words.SwiNames.{swi_named}
use Rattle.command_shell_lines.specs.debug_words.Forms.{form_of_word}
use Rattle.command_shell_lines.specs.debug_words.NamedBytes.{named_bytes}
use Rattle.command_shell_lines.specs.debug_words.Texts.{text_behind}
use Rattle.debug_lines.specs.ByteLines.{counted_bytes, word_and_rest}
use Rattle.debug_lines.specs.Registers.{register_of_name}
use Rattle.command_shell_lines.specs.debug_words.Values.{value_shown}
use Rattle.debug_lines.specs.ModeRequests.{ModeRequest, Trace, mode_of_two, stub_request}
use Rattle.debug_lines.specs.Status.{status_of_two, status_of_word}
use Rattle.debug_lines.specs.SteppingRequests.{Finish}
use Rattle.debug_lines.specs.declared.status.StatusPattern.{StatusPattern}

unfoldable pub asks_block : DebugRequest → Bool
asks_block (Script request) = opens_block request
asks_block _ = false

own_if : (b : Bool) (x y : DebugRequest) → asks_block x ≡ false → asks_block y ≡ false
    → asks_block (if b then x else y) ≡ false
own_if true x y first other = first
own_if false x y first other = other

own_stack : (o : Option ℕ) → asks_block (stack_of o) ≡ false
unfolding asks_block
own_stack (Some count) = refl
own_stack None = refl

own_image : (name : List ℕ) (d : DebugRequest) → asks_block d ≡ false → asks_block (of_image name d) ≡ false
unfolding asks_block
own_image name d own = own_if (can_name_image name) d NotKnown own refl

own_words_at : (address count : Option ℕ) → asks_block (words_at address count) ≡ false
unfolding asks_block
own_words_at (Some address) (Some count) = refl
own_words_at (Some address) None = refl
own_words_at None count = refl

own_dump : (address count : Option ℕ) → asks_block (dump_at address count) ≡ false
unfolding asks_block
own_dump (Some address) (Some count) = refl
own_dump (Some address) None = refl
own_dump None count = refl

own_pc : (o : Option ℕ) → asks_block (set_pc_to o) ≡ false
unfolding asks_block
own_pc (Some address) = refl
own_pc None = refl

own_psr : (o : Option StatusPattern) → asks_block (set_psr_to o) ≡ false
unfolding asks_block
own_psr (Some pattern) = refl
own_psr None = refl

own_gosub : (o : Option ℕ) → asks_block (gosub_to o) ≡ false
unfolding asks_block
own_gosub (Some address) = refl
own_gosub None = refl

own_call : (o : Option ℕ) → asks_block (named_call o) ≡ false
unfolding asks_block
own_call (Some number) = refl
own_call None = refl

own_help : (o : Option (List ℕ)) → asks_block (help_of o) ≡ false
unfolding asks_block
own_help (Some form) = refl
own_help None = refl

own_set_register : (o p : Option ℕ) → asks_block (script_of_two o p Set) ≡ false
unfolding asks_block
own_set_register (Some place) (Some value) = refl
own_set_register (Some place) None = refl
own_set_register None p = refl

own_poke : (o p : Option ℕ) → asks_block (script_of_two o p Poke) ≡ false
unfolding asks_block
own_poke (Some place) (Some value) = refl
own_poke (Some place) None = refl
own_poke None p = refl

own_mode : (o : Option ModeRequest) → asks_block (mode_line o) ≡ false
unfolding asks_block
own_mode (Some request) = refl
own_mode None = refl

own_put : (b : Bool) (name : List ℕ) (o : Option ℕ) → asks_block (put_at b name o) ≡ false
unfolding asks_block
own_put true name (Some address) = refl
own_put true name None = refl
own_put false name o = refl

own_expect : (o : Option ExpectRequest) → asks_block (expect_line o) ≡ false
unfolding asks_block
own_expect (Some expected) = refl
own_expect None = refl

own_word : (word : List ℕ) → asks_block (own_request_of_word word) ≡ false
unfolding asks_block
own_word word =
    own_if (is_same_word word (codes "WHERE")) (View Where) _ refl
    (own_if (is_same_word word (codes "BANKS")) (View Banks) _ refl
    (own_if (is_same_word word (codes "STACK")) (View (Stack 8)) _ refl
    (own_if (is_frames_word word) (View Frames) _ refl
    (own_if (is_same_word word (codes "LABELS")) (View Labels) _ refl
    (own_if (is_same_word word (codes "STEP")) (Script (script.Step 1)) _ refl
    (own_if (is_same_word word (codes "FINISH")) (Stepping false Finish) _ refl
    (own_if (is_same_word word (codes "RESET")) Reset _ refl
    (own_if (is_same_word word (codes "WHY")) (View Why) _ refl
    (own_if (is_same_word word (codes "HELP")) (View Help) _ refl
    (own_if (is_same_word word (codes "QUIT")) Quit NotKnown refl refl))))))))))

own_two : (word other : List ℕ) → asks_block (own_request_of_two word other) ≡ false
unfolding asks_block
own_two word other =
    own_if (is_same_word word (codes "STACK")) _ _ (own_stack (count_up_to 1024 other))
    (own_if (is_same_word word (codes "FORGET")) _ _ (own_image other (Forget other) refl)
    (own_if (is_same_word word (codes "COUNTS")) _ _ (own_image other (Counts other) refl)
    (own_if (is_same_word word (codes "GOSUB")) _ _ (own_gosub (origin_of other))
    (own_if (is_same_word word (codes "CALL")) _ _ (own_call (swi_named other))
    (own_if (is_same_word word (codes "HELP")) _ _ (own_help (form_of_word other)) (own_mode (mode_of_two word other)))))))

own_set : (what value : List ℕ) → asks_block (set_request what value) ≡ false
unfolding asks_block
own_set what value =
    own_if (is_same_word what (codes "PC")) _ _ (own_pc (origin_of value))
    (own_if (is_same_word what (codes "PSR")) _ _ (own_psr (status_of_word value))
    (own_set_register (register_of_name what) (value_shown value)))

own_three : (word first second : List ℕ) → asks_block (own_request_of_three word first second) ≡ false
unfolding asks_block
own_three word first second =
    own_if (is_same_word word (codes "WORDS")) _ _ (own_words_at (word_address first) (count_up_to 1024 second))
    (own_if (is_same_word word (codes "SET")) _ _ (own_set first second)
    (own_if (is_same_word word (codes "PUT")) _ _ (own_put (can_name_image first) first (script_number second))
    (own_if (is_same_word word (codes "DUMP")) _ NotKnown (own_dump (script_number first) (count_up_to 4096 second)) refl)))

own_four : (word first second third : List ℕ) → asks_block (own_request_of_four word first second third) ≡ false
unfolding asks_block
own_four word first second third =
    own_if (is_same_word word (codes "SET")) _ NotKnown
    (own_if (is_same_word first (codes "PSR")) _ NotKnown (own_psr (status_of_two second third)) refl) refl

own_of_words : (ws : List (List ℕ)) → asks_block (own_request_of_words ws) ≡ false
unfolding asks_block
own_of_words [] = refl
own_of_words (word ∷ []) = own_word word
own_of_words (word ∷ other ∷ []) = own_two word other
own_of_words (word ∷ first ∷ second ∷ []) = own_three word first second
own_of_words (word ∷ first ∷ second ∷ third ∷ []) = own_four word first second third
own_of_words (word ∷ first ∷ second ∷ third ∷ fourth ∷ more) = refl

unfoldable pub some_asks_block : Option DebugRequest → Bool
some_asks_block (Some d) = asks_block d
some_asks_block None = false

own_write : (o : Option ℕ) (text : List ℕ) → asks_block (write_at o text) ≡ false
unfolding asks_block
own_write (Some address) text = own_if (is_some (named_bytes text)) (Write address None text) NotKnown refl refl
own_write None text = refl

own_poke_by : (o : Option ℕ) (address text : List ℕ) → asks_block (poke_by o address text) ≡ false
own_poke_by (Some value) address text = own_poke (word_address address) (Some value)
own_poke_by None address text = own_write (script_number address) text

own_poke_of : (o : Option (List ℕ × List ℕ)) → asks_block (poke_of o) ≡ false
unfolding asks_block
own_poke_of (Some parts) = own_poke_by (value_shown parts.1) parts.0 parts.1
own_poke_of None = refl

own_fill : (o : Option (ℕ × (ℕ × List ℕ))) → asks_block (fill_of o) ≡ false
unfolding asks_block
own_fill (Some fill) = refl
own_fill None = refl

own_find : (o : Option (ℕ × (ℕ × List ℕ))) → asks_block (find_of o) ≡ false
unfolding asks_block
own_find (Some find) = refl
own_find None = refl

own_bytes_by : (poke fill find : Option (List ℕ)) → some_asks_block (bytes_request_by poke fill find) ≡ false
unfolding some_asks_block
own_bytes_by (Some poke) fill find = own_poke_of (word_and_rest poke)
own_bytes_by None (Some fill) find = own_fill (counted_bytes 1048576 fill)
own_bytes_by None None (Some find) = own_find (counted_bytes 67108864 find)
own_bytes_by None None None = refl

own_behind_by : (expected stub : Option (List ℕ)) (bytes : Option DebugRequest) (line : List ℕ)
    → some_asks_block bytes ≡ false → asks_block (own_request_behind expected stub bytes line) ≡ false
unfolding some_asks_block
own_behind_by (Some expected) stub bytes line own = own_expect (expect_request expected)
own_behind_by None (Some stub) bytes line own = own_mode (stub_request stub)
own_behind_by None None (Some request) line own = own
own_behind_by None None None line own = own_of_words (words line)

pub own_behind : (expected stub : Option (List ℕ)) (line : List ℕ)
    → asks_block (own_request_behind expected stub (bytes_request line) line) ≡ false
own_behind expected stub line = own_behind_by expected stub (bytes_request line) line
    (own_bytes_by (text_behind (codes "POKE ") line) (text_behind (codes "FILL ") line) (text_behind (codes "FIND ") line))

-- and TRACE alone opens none

own_step : (o : Option ℕ) → some_asks_block (trace_step o) ≡ false
unfolding some_asks_block asks_block
own_step (Some count) = refl
own_step None = refl

own_limit : (o : Option ℕ) → some_asks_block (trace_limit o) ≡ false
unfolding some_asks_block asks_block
own_limit (Some limit) = refl
own_limit None = refl

own_last : (o : Option ℕ) → some_asks_block (trace_last o) ≡ false
unfolding some_asks_block asks_block
own_last (Some count) = refl
own_last None = refl

some_if : (b : Bool) (x y : Option DebugRequest) → some_asks_block x ≡ false → some_asks_block y ≡ false
    → some_asks_block (if b then x else y) ≡ false
some_if true x y first other = first
some_if false x y first other = other

pub own_trace : (ws : List (List ℕ)) → some_asks_block (trace_of_words ws) ≡ false
unfolding some_asks_block asks_block
own_trace [] = refl
own_trace (word ∷ []) =
    some_if (is_same_word word (codes "ON")) (Some (Mode (Trace true))) _ refl
    (some_if (is_same_word word (codes "OFF")) (Some (Mode (Trace false))) _ refl (own_step (script_number word)))
own_trace (word ∷ count ∷ []) =
    some_if (is_same_word word (codes "LIMIT")) _ _ (own_limit (script_number count))
    (some_if (is_same_word word (codes "LAST")) _ None (own_last (count_up_to 64 count)) refl)
own_trace (word ∷ count ∷ other ∷ more) = refl
