-- What the grammar says that a text asks for is what it is read as.
use Rattle.std.proofs.Common.{◌≡◌, ◌<◌, ◌⊎◌, inl, inr, ℕ, Bool, true, false, List, [], ◌∷◌, ◌++◌, length, refl, ap, sym, subst, ◌∙◌, arith}
use Rattle.std.specs.Prelude.{Option, None, codes, take}
use Rattle.gdb_packets.specs.Requests as request
use Rattle.gdb_packets.specs.Requests.{GdbRequest, about_attachment, about_libraries, about_process, about_session, about_target, actions_or, attachment_or, begins_word, byte_range_of, if_shown, kill_or_run, lettered_request, libraries_or, line_or_description, of_range, of_signal, of_thread, opened_request, packet_request, register_request, supported_or, whole_word_request, word_request}
use Rattle.gdb_packets.specs.declared.requests.ByteRange.{ByteRange}
use Rattle.std.specs.Str.{bytes_eq}
use Rattle.gdb_packets.specs.request_laws.Grammar.{AsksFor, Behind, HasNumber, Is, IsAboutThread, IsCallEnd, IsGoing, IsNumber, IsRange, IsSignalled, IsThread}
use Rattle.gdb_packets.proofs.RequestLawsLemmas.PartLemmas.{behind_found, behind_missing, number_long, parted_long, result_long, some_long, thread_long}
use Rattle.gdb_packets.proofs.RequestLawsLemmas.PieceLemmas.{actions_read, call_end_read, call_stopped_read, point_read, range_read, set_register_read, store_bytes_read, store_pairs_read, thread_read}

-- PACKETS OF A LETTER AND WHAT FOLLOWS

lettered : (letter : ℕ) (rest : List ℕ) → 0 < length rest → begins_word letter ≡ false
    → packet_request (letter ∷ rest) ≡ lettered_request letter rest
unfolding packet_request
lettered letter [] some other = absurd (omega (arith, some))
lettered letter (next ∷ rest) some other = rw other refl

-- behind a letter
behind_letter : (letter : ℕ) (Kind : List ℕ → Type 0) (text : List ℕ) (b : Behind (letter ∷ []) Kind text) → 0 < length b.rest
    → begins_word letter ≡ false → packet_request text ≡ lettered_request letter b.rest
behind_letter letter Kind text b some other = ap packet_request b.whole ∙ lettered letter b.rest some other

range_long : (range : ByteRange) (text : List ℕ) → IsRange range text → 0 < length text
range_long range text p = subst (λ (x : List ℕ). 0 < length x) (sym p.whole) (parted_long 44 p.before p.behind)

-- WORDS

-- `vCont;`, where no opening before it fits
past_actions : (packet : List ℕ) → bytes_eq (take 6 packet) (codes "vCont;") ≡ false → opened_request packet ≡ about_target packet
unfolding opened_request
past_actions packet other = ap (λ (o : Option (List ℕ)). actions_or o (about_target packet)) (behind_missing (codes "vCont;") packet other)

past_target : (packet : List ℕ) → bytes_eq (take 6 packet) (codes "qRcmd,") ≡ false
    → bytes_eq (take 31 packet) (codes "qXfer:features:read:target.xml:") ≡ false → about_target packet ≡ about_libraries packet
unfolding about_target
past_target packet other last = rw (behind_missing (codes "qRcmd,") packet other, behind_missing (codes "qXfer:features:read:target.xml:") packet last) refl

past_libraries : (packet : List ℕ) → bytes_eq (take 22 packet) (codes "qXfer:libraries:read::") ≡ false
    → about_libraries packet ≡ about_session packet
unfolding about_libraries
past_libraries packet other =
    ap (λ (o : Option (List ℕ)). libraries_or o (about_session packet)) (behind_missing (codes "qXfer:libraries:read::") packet other)

past_session : (packet : List ℕ) → bytes_eq (take 11 packet) (codes "qSupported:") ≡ false
    → about_session packet ≡ about_attachment packet
unfolding about_session
past_session packet other =
    ap (λ (o : Option (List ℕ)). supported_or o (about_attachment packet)) (behind_missing (codes "qSupported:") packet other)

past_attachment : (packet : List ℕ) → bytes_eq (take 10 packet) (codes "qAttached:") ≡ false
    → about_attachment packet ≡ about_process packet
unfolding about_attachment
past_attachment packet other =
    ap (λ (o : Option (List ℕ)). attachment_or o (about_process packet)) (behind_missing (codes "qAttached:") packet other)

-- none of the words is one of these openings
opens_actions : (rest : List ℕ) → packet_request (codes "vCont;" ++ rest) ≡ opened_request (codes "vCont;" ++ rest)
unfolding packet_request word_request whole_word_request
opens_actions rest = refl

opens_line : (rest : List ℕ) → packet_request (codes "qRcmd," ++ rest) ≡ opened_request (codes "qRcmd," ++ rest)
unfolding packet_request word_request whole_word_request
opens_line rest = refl

opens_description : (rest : List ℕ) → packet_request (codes "qXfer:features:read:target.xml:" ++ rest)
    ≡ opened_request (codes "qXfer:features:read:target.xml:" ++ rest)
unfolding packet_request word_request whole_word_request
opens_description rest = refl

opens_libraries : (rest : List ℕ) → packet_request (codes "qXfer:libraries:read::" ++ rest)
    ≡ opened_request (codes "qXfer:libraries:read::" ++ rest)
unfolding packet_request word_request whole_word_request
opens_libraries rest = refl

opens_session : (rest : List ℕ) → packet_request (codes "qSupported:" ++ rest) ≡ opened_request (codes "qSupported:" ++ rest)
unfolding packet_request word_request whole_word_request
opens_session rest = refl

opens_attachment : (rest : List ℕ) → packet_request (codes "qAttached:" ++ rest) ≡ opened_request (codes "qAttached:" ++ rest)
unfolding packet_request word_request whole_word_request
opens_attachment rest = refl

opens_kill : (rest : List ℕ) → packet_request (codes "vKill;" ++ rest) ≡ opened_request (codes "vKill;" ++ rest)
unfolding packet_request word_request whole_word_request
opens_kill rest = refl

opens_run : (rest : List ℕ) → packet_request (codes "vRun;" ++ rest) ≡ opened_request (codes "vRun;" ++ rest)
unfolding packet_request word_request whole_word_request
opens_run rest = refl

actions_opened : (rest : List ℕ) → packet_request (codes "vCont;" ++ rest) ≡ request.actions_request rest
unfolding opened_request
actions_opened rest = opens_actions rest
    ∙ ap (λ (o : Option (List ℕ)). actions_or o (about_target (codes "vCont;" ++ rest))) (behind_found (codes "vCont;") rest)

line_opened : (rest : List ℕ) → packet_request (codes "qRcmd," ++ rest) ≡ request.Line rest
unfolding about_target
line_opened rest = let packet = codes "qRcmd," ++ rest in
    opens_line rest ∙ past_actions packet refl
    ∙ ap (λ (o : Option (List ℕ)). line_or_description o (request.behind_opening (codes "qXfer:features:read:target.xml:") packet) (about_libraries packet))
    (behind_found (codes "qRcmd,") rest)

description_opened : (rest : List ℕ)
    → packet_request (codes "qXfer:features:read:target.xml:" ++ rest) ≡ of_range (byte_range_of rest) request.Description
unfolding about_target
description_opened rest = let packet = codes "qXfer:features:read:target.xml:" ++ rest in
    opens_description rest ∙ past_actions packet refl
    ∙ ap (λ (o : Option (List ℕ)). line_or_description o (request.behind_opening (codes "qXfer:features:read:target.xml:") packet) (about_libraries packet))
    (behind_missing (codes "qRcmd,") packet refl)
    ∙ ap (λ (o : Option (List ℕ)). line_or_description None o (about_libraries packet))
    (behind_found (codes "qXfer:features:read:target.xml:") rest)

libraries_opened : (rest : List ℕ) → packet_request (codes "qXfer:libraries:read::" ++ rest) ≡ of_range (byte_range_of rest) request.Libraries
unfolding about_libraries
libraries_opened rest = let packet = codes "qXfer:libraries:read::" ++ rest in
    opens_libraries rest ∙ past_actions packet refl ∙ past_target packet refl refl
    ∙ ap (λ (o : Option (List ℕ)). libraries_or o (about_session packet)) (behind_found (codes "qXfer:libraries:read::") rest)

session_opened : (rest : List ℕ) → packet_request (codes "qSupported:" ++ rest) ≡ request.Supported
unfolding about_session
session_opened rest = let packet = codes "qSupported:" ++ rest in
    opens_session rest ∙ past_actions packet refl ∙ past_target packet refl refl ∙ past_libraries packet refl
    ∙ ap (λ (o : Option (List ℕ)). supported_or o (about_attachment packet)) (behind_found (codes "qSupported:") rest)

attachment_opened : (rest : List ℕ) → HasNumber rest → packet_request (codes "qAttached:" ++ rest) ≡ request.IsAttached
unfolding about_attachment
attachment_opened rest number = let packet = codes "qAttached:" ++ rest in
    opens_attachment rest ∙ past_actions packet refl ∙ past_target packet refl refl ∙ past_libraries packet refl ∙ past_session packet refl
    ∙ ap (λ (o : Option (List ℕ)). attachment_or o (about_process packet)) (behind_found (codes "qAttached:") rest)
    ∙ ap (λ (b : Bool). if_shown b request.IsAttached) number

kill_opened : (rest : List ℕ) → HasNumber rest → packet_request (codes "vKill;" ++ rest) ≡ request.KillProgram
unfolding about_process
kill_opened rest number = let packet = codes "vKill;" ++ rest in
    opens_kill rest ∙ past_actions packet refl ∙ past_target packet refl refl ∙ past_libraries packet refl ∙ past_session packet refl
    ∙ past_attachment packet refl
    ∙ ap (λ (o : Option (List ℕ)). kill_or_run o (request.behind_opening (codes "vRun;") packet)) (behind_found (codes "vKill;") rest)
    ∙ ap (λ (b : Bool). if_shown b request.KillProgram) number

run_opened : (rest : List ℕ) → packet_request (codes "vRun;" ++ rest) ≡ request.RunProgram
unfolding about_process
run_opened rest = let packet = codes "vRun;" ++ rest in
    opens_run rest ∙ past_actions packet refl ∙ past_target packet refl refl ∙ past_libraries packet refl ∙ past_session packet refl
    ∙ past_attachment packet refl
    ∙ ap (λ (o : Option (List ℕ)). kill_or_run o (request.behind_opening (codes "vRun;") packet)) (behind_missing (codes "vKill;") packet refl)
    ∙ ap (λ (o : Option (List ℕ)). kill_or_run None o) (behind_found (codes "vRun;") rest)

-- packets that are one word or letter
alone : (packet word : List ℕ) (r : GdbRequest) → Is word packet → packet_request word ≡ r → packet_request packet ≡ r
alone packet word r is read = ap packet_request is ∙ read

ways_read : packet_request (codes "vCont?") ≡ request.Ways
unfolding packet_request word_request whole_word_request
ways_read = refl

back_step_read : packet_request (codes "bs") ≡ request.StepBack
unfolding packet_request
back_step_read = refl

back_continue_read : packet_request (codes "bc") ≡ request.ContinueBack
unfolding packet_request
back_continue_read = refl

current_read : packet_request (codes "qC") ≡ request.CurrentThread
unfolding packet_request word_request whole_word_request
current_read = refl

first_read : packet_request (codes "qfThreadInfo") ≡ request.FirstThreads
unfolding packet_request word_request whole_word_request
first_read = refl

more_read : packet_request (codes "qsThreadInfo") ≡ request.MoreThreads
unfolding packet_request word_request whole_word_request
more_read = refl

attached_read : packet_request (codes "qAttached") ≡ request.IsAttached
unfolding packet_request word_request whole_word_request
attached_read = refl

supported_read : packet_request (codes "qSupported") ≡ request.Supported
unfolding packet_request word_request whole_word_request
supported_read = refl

no_acks_read : packet_request (codes "QStartNoAckMode") ≡ request.NoAcks
unfolding packet_request word_request whole_word_request
no_acks_read = refl

lone : (letter : ℕ) → packet_request (letter ∷ []) ≡ request.lone_request letter
unfolding packet_request
lone letter = refl

-- ALL OF THEM

going : (r : GdbRequest) (text : List ℕ) → IsGoing r text → packet_request text ≡ r
going r text b = ap packet_request b.whole ∙ actions_opened b.rest ∙ actions_read r b.rest b.kind

goes_with : (n : ℕ) (text : List ℕ) → IsSignalled 67 n text ⊎ IsGoing (request.ContinueWith n) text
    → packet_request text ≡ request.ContinueWith n
goes_with n text (inl b) = behind_letter 67 (IsNumber n) text b (number_long n b.rest b.kind) refl
    ∙ ap (λ (o : Option ℕ). of_signal o request.ContinueWith) b.kind
goes_with n text (inr going_on) = going (request.ContinueWith n) text going_on

steps_with : (n : ℕ) (text : List ℕ) → IsSignalled 83 n text ⊎ IsGoing (request.StepWith n) text
    → packet_request text ≡ request.StepWith n
steps_with n text (inl b) = behind_letter 83 (IsNumber n) text b (number_long n b.rest b.kind) refl
    ∙ ap (λ (o : Option ℕ). of_signal o request.StepWith) b.kind
steps_with n text (inr going_on) = going (request.StepWith n) text going_on

goes : (text : List ℕ) → Is (codes "c") text ⊎ IsGoing request.Continue text → packet_request text ≡ request.Continue
goes text (inl is) = alone text (99 ∷ []) request.Continue is (lone 99)
goes text (inr going_on) = going request.Continue text going_on

steps : (text : List ℕ) → Is (codes "s") text ⊎ IsGoing request.Step text → packet_request text ≡ request.Step
steps text (inl is) = alone text (115 ∷ []) request.Step is (lone 115)
steps text (inr going_on) = going request.Step text going_on

about_thread : (is_own : Bool) (text : List ℕ) → IsAboutThread is_own text → packet_request text ≡ request.Thread is_own
about_thread is_own text (inl (inl b)) = ap packet_request b.whole ∙ lettered 72 (103 ∷ b.rest) (omega arith) refl
    ∙ ap of_thread (thread_read is_own b.rest b.kind)
about_thread is_own text (inl (inr b)) = ap packet_request b.whole ∙ lettered 72 (99 ∷ b.rest) (omega arith) refl
    ∙ ap of_thread (thread_read is_own b.rest b.kind)
about_thread is_own text (inr b) = behind_letter 84 (IsThread is_own) text b (thread_long is_own b.rest b.kind) refl
    ∙ ap of_thread (thread_read is_own b.rest b.kind)

of_another : (text : List ℕ) → IsAboutThread false text ⊎ IsGoing (request.Thread false) text → packet_request text ≡ request.Thread false
of_another text (inl asked) = about_thread false text asked
of_another text (inr going_on) = going (request.Thread false) text going_on

detaches : (text : List ℕ) → Is (codes "D") text ⊎ Behind (codes "D;") HasNumber text → packet_request text ≡ request.Detach
detaches text (inl is) = alone text (codes "D") request.Detach is (lone 68)
detaches text (inr b) = ap packet_request b.whole ∙ lettered 68 (59 ∷ b.rest) (omega arith) refl
    ∙ ap (λ (n : Bool). if_shown n request.Detach) b.kind

attaches : (text : List ℕ) → Is (codes "qAttached") text ⊎ Behind (codes "qAttached:") HasNumber text → packet_request text ≡ request.IsAttached
attaches text (inl is) = alone text (codes "qAttached") request.IsAttached is attached_read
attaches text (inr b) = ap packet_request b.whole ∙ attachment_opened b.rest b.kind

supports : (text : List ℕ) → Is (codes "qSupported") text ⊎ Behind (codes "qSupported:") (λ rest. Unit {0}) text
    → packet_request text ≡ request.Supported
supports text (inl is) = alone text (codes "qSupported") request.Supported is supported_read
supports text (inr b) = ap packet_request b.whole ∙ session_opened b.rest

sets_registers : (pairs : List ℕ) → 0 < length pairs → packet_request (71 ∷ pairs) ≡ request.SetRegisters pairs
sets_registers pairs some = lettered 71 pairs some refl

call_long : (rest : List ℕ) → IsCallEnd rest → 0 < length rest
call_long rest (inl result) = result_long rest result
call_long rest (inr p) = subst (λ (x : List ℕ). 0 < length x) (sym p.whole) (parted_long 44 p.before p.behind)

pub reads : (r : GdbRequest) (text : List ℕ) → AsksFor r text → packet_request text ≡ r
reads request.Reason text is = alone text (codes "?") request.Reason is (lone 63)
reads request.Registers text is = alone text (codes "g") request.Registers is (lone 103)
reads (request.SetRegisters pairs) text asks = ap packet_request asks.0 ∙ sets_registers pairs asks.1
reads (request.Register n) text b = behind_letter 112 (IsNumber n) text b (number_long n b.rest b.kind) refl ∙ ap register_request b.kind
reads (request.SetRegister n pairs) text b =
    ap packet_request (b.whole ∙ ap (λ (x : List ℕ). 80 ∷ x) b.kind.whole)
    ∙ lettered 80 (b.kind.before ++ (61 ∷ b.kind.behind)) (parted_long 61 b.kind.before b.kind.behind) refl
    ∙ ap (λ (x : List ℕ). request.set_register_request (request.parts_around 61 x)) (sym b.kind.whole) ∙ set_register_read n pairs b.rest b.kind
reads (request.Memory range) text b = behind_letter 109 (IsRange range) text b (range_long range b.rest b.kind) refl
    ∙ ap (λ (o : Option ByteRange). of_range o request.Memory) (range_read range b.rest b.kind)
reads (request.StorePairs range pairs) text b =
    ap packet_request (b.whole ∙ ap (λ (x : List ℕ). 77 ∷ x) b.kind.whole)
    ∙ lettered 77 (b.kind.before ++ (58 ∷ b.kind.behind)) (parted_long 58 b.kind.before b.kind.behind) refl
    ∙ ap (λ (x : List ℕ). request.store_pairs_request (request.parts_around 58 x)) (sym b.kind.whole) ∙ store_pairs_read range pairs b.rest b.kind
reads (request.StoreBytes range bytes) text b =
    ap packet_request (b.whole ∙ ap (λ (x : List ℕ). 88 ∷ x) b.kind.whole)
    ∙ lettered 88 (b.kind.before ++ (58 ∷ b.kind.behind)) (parted_long 58 b.kind.before b.kind.behind) refl
    ∙ ap (λ (x : List ℕ). request.store_bytes_request (request.parts_around 58 x)) (sym b.kind.whole) ∙ store_bytes_read range bytes b.rest b.kind
reads request.Continue text asks = goes text asks
reads (request.ContinueWith signal) text asks = goes_with signal text asks
reads request.Step text asks = steps text asks
reads (request.StepWith signal) text asks = steps_with signal text asks
reads (request.StepRange places) text asks = going (request.StepRange places) text asks
reads request.StepBack text is = alone text (codes "bs") request.StepBack is back_step_read
reads request.ContinueBack text is = alone text (codes "bc") request.ContinueBack is back_continue_read
reads request.Ways text is = alone text (codes "vCont?") request.Ways is ways_read
reads (request.AddPoint kind range) text b =
    ap packet_request (b.whole ∙ ap (λ (x : List ℕ). 90 ∷ x) b.kind.whole)
    ∙ lettered 90 (b.kind.before ++ (44 ∷ b.kind.behind)) (parted_long 44 b.kind.before b.kind.behind) refl
    ∙ ap (λ (x : List ℕ). request.point_request (request.parts_around 44 x) request.AddPoint) (sym b.kind.whole)
    ∙ point_read kind range b.rest request.AddPoint b.kind
reads (request.RemovePoint kind range) text b =
    ap packet_request (b.whole ∙ ap (λ (x : List ℕ). 122 ∷ x) b.kind.whole)
    ∙ lettered 122 (b.kind.before ++ (44 ∷ b.kind.behind)) (parted_long 44 b.kind.before b.kind.behind) refl
    ∙ ap (λ (x : List ℕ). request.point_request (request.parts_around 44 x) request.RemovePoint) (sym b.kind.whole)
    ∙ point_read kind range b.rest request.RemovePoint b.kind
reads request.Supported text asks = supports text asks
reads request.NoAcks text is = alone text (codes "QStartNoAckMode") request.NoAcks is no_acks_read
reads (request.Description range) text b = ap packet_request b.whole ∙ description_opened b.rest
    ∙ ap (λ (o : Option ByteRange). of_range o request.Description) (range_read range b.rest b.kind)
reads (request.Libraries range) text b = ap packet_request b.whole ∙ libraries_opened b.rest
    ∙ ap (λ (o : Option ByteRange). of_range o request.Libraries) (range_read range b.rest b.kind)
reads (request.Thread true) text asks = about_thread true text asks
reads (request.Thread false) text asks = of_another text asks
reads request.IsAttached text asks = attaches text asks
reads request.CurrentThread text is = alone text (codes "qC") request.CurrentThread is current_read
reads request.FirstThreads text is = alone text (codes "qfThreadInfo") request.FirstThreads is first_read
reads request.MoreThreads text is = alone text (codes "qsThreadInfo") request.MoreThreads is more_read
reads (request.Line pairs) text is = ap packet_request is ∙ line_opened pairs
reads (request.HostAnswer false) text b = ap packet_request b.whole ∙ lettered 70 b.rest (call_long b.rest b.kind) refl ∙ call_end_read b.rest b.kind
reads (request.HostAnswer true) text b = ap packet_request b.whole
    ∙ lettered 70 b.rest (subst (λ (x : List ℕ). 0 < length x) (sym b.kind.whole) (parted_long 44 b.kind.before b.kind.behind)) refl
    ∙ call_stopped_read b.rest b.kind
reads request.Detach text asks = detaches text asks
reads request.Kill text is = alone text (codes "k") request.Kill is (lone 107)
reads request.KillProgram text b = ap packet_request b.whole ∙ kill_opened b.rest b.kind
reads request.Extended text is = alone text (codes "!") request.Extended is (lone 33)
reads request.Restart text b = behind_letter 82 HasNumber text b (some_long b.rest b.kind) refl ∙ ap (λ (n : Bool). if_shown n request.Restart) b.kind
reads request.RunProgram text b = ap packet_request b.whole ∙ run_opened b.rest
reads request.Unknown text none = absurd none
