-- A `run`, and packets that are taken one after another.
use Rattle.std.proofs.Common.{◌≡◌, ◌<◌, ◌≤◌, ◌+◌, ℕ, Bool, true, false, List, [], ◌∷◌, length, get_or, drop, map, refl, ap, subst, sym, ◌∙◌}
use Rattle.std.specs.Prelude.{Some, Result, IfOk, codes, option_map, if◌then◌else◌}
use Rattle.std.proofs.lemmas.List.{at_drop_all, at_drop_more}
use Rattle.debug_session.specs.RunError.{RunError}
use Rattle.gdb_packets.specs.Ahead.{is_run_request}
use Rattle.gdb_packets.specs.Requests as request
use Rattle.gdb_packets.specs.Requests.{GdbRequest, packet_request}
use Rattle.gdb_server.specs.session.Programs.{after_packets, program_run_unless, request_answered, run_answered}
use Rattle.gdb_server.specs.session.Requests.{gdb_answered}
use Rattle.gdb_server.specs.session.Session.{IsGdbAnswered}
use Rattle.gdb_server.specs.session.State.{GdbAnswered, GdbState}
use Rattle.gdb_server.specs.declared.session.session.GdbAnswer.{GdbAnswer}
use Rattle.gdb_server.proofs.SessionLemmas.ChangeLemmas.{answer_known}
use Rattle.gdb_server.proofs.SessionLemmas.RunLemmas.{answered_as}

-- one more
packets_more : {V : Type 0} (f : V → List ℕ) (packets : List V) (n : ℕ) (packet : V) (g : GdbState) → n < length packets
    → packet ≡ get_or packets n packet
    → after_packets (map f (drop n packets)) g
    ≡ after_packets (map f (drop (n + 1) packets)) (gdb_answered g (packet_request (f packet))).state
unfolding after_packets
packets_more {V} f packets n packet g below there =
    at_drop_more (λ (rest : List V). after_packets (map f rest) g) packets n packet below
    ∙ ap (λ (p : V). after_packets (map f (p ∷ drop (n + 1) packets)) g) (sym there)

pub packets_on : {V : Type 0} (f : V → List ℕ) (packets : List V) (n : ℕ) (packet : V) (all here now : GdbState) (request : GdbRequest)
    → n < length packets → packet ≡ get_or packets n packet → request ≡ packet_request (f packet)
    → now ≡ (gdb_answered here request).state → after_packets (map f (drop n packets)) here ≡ all
    → after_packets (map f (drop (n + 1) packets)) now ≡ all
packets_on {V} f packets n packet all here now request below there asked is before =
    ap (λ (g : GdbState). after_packets (map f (drop (n + 1) packets)) g)
    (is ∙ ap (λ (r : GdbRequest). (gdb_answered here r).state) asked)
    ∙ sym (packets_more f packets n packet here below there) ∙ before

-- none is left
pub packets_end : {V : Type 0} (f : V → List ℕ) (packets : List V) (n : ℕ) (all g : GdbState) → length packets ≤ n
    → after_packets (map f (drop n packets)) g ≡ all → g ≡ all
unfolding after_packets
packets_end {V} f packets n all g none before =
    sym (at_drop_all (λ (rest : List V). after_packets (map f rest) g) packets n none) ∙ before

-- the program begins anew, the packets of the load are taken, and why it stands is shown
pub runs_anew : (load : List (List ℕ)) (g begun there now : GdbState) (r : Result GdbAnswer RunError)
    → begun ≡ (gdb_answered g request.RunProgram).state → there ≡ after_packets load begun
    → IfOk r (λ answer. IsGdbAnswered now answer (gdb_answered there request.Reason))
    → IfOk r (λ answer. IsGdbAnswered now answer (run_answered load g))
runs_anew load g begun there now r starts takes reported =
    answered_as now r (gdb_answered there request.Reason) (run_answered load g)
    (ap (λ (s : GdbState). gdb_answered s request.Reason) (takes ∙ ap (λ (s : GdbState). after_packets load s) starts)) reported

-- a file can't be read, or all can
pub lacks_program : (lacks : Bool) (load : List (List ℕ)) (g : GdbState) (r : Result GdbAnswer RunError) → lacks ≡ true
    → IfOk r (λ answer. answer.reported.items ≡ []) → IfOk r (λ answer. option_map (λ reply. reply.items) answer.reply ≡ Some (codes "E02"))
    → IfOk r (λ answer. IsGdbAnswered g answer (program_run_unless lacks load g))
lacks_program lacks load g r is none packet =
    answer_known g r (Some (codes "E02")) (program_run_unless lacks load g) none packet
    (sym (ap (λ (b : Bool). program_run_unless b load g) is))

pub has_program : (lacks : Bool) (load : List (List ℕ)) (g now : GdbState) (r : Result GdbAnswer RunError) → lacks ≡ false
    → IfOk r (λ answer. IsGdbAnswered now answer (run_answered load g))
    → IfOk r (λ answer. IsGdbAnswered now answer (program_run_unless lacks load g))
has_program lacks load g now r is reported =
    subst (λ (b : Bool). IfOk r (λ (answer : GdbAnswer). IsGdbAnswered now answer (program_run_unless b load g))) (sym is) reported

-- a `run`, and any other request
pub run_asked : (lacks : Bool) (load : List (List ℕ)) (g now : GdbState) (asked : GdbRequest) (r : Result GdbAnswer RunError)
    → is_run_request asked ≡ true → IfOk r (λ answer. IsGdbAnswered now answer (program_run_unless lacks load g))
    → IfOk r (λ answer. IsGdbAnswered now answer (request_answered lacks load g asked))
run_asked lacks load g now asked r is reported =
    answered_as now r (program_run_unless lacks load g) (request_answered lacks load g asked) (by (is_run_request asked) is) reported
  where
    by : (b : Bool) → b ≡ true
        → program_run_unless lacks load g ≡ (if b then program_run_unless lacks load g else gdb_answered g asked)
    by b is = rw is refl

pub other_asked : (lacks : Bool) (load : List (List ℕ)) (g now : GdbState) (asked : GdbRequest) (r : Result GdbAnswer RunError)
    → is_run_request asked ≡ false → IfOk r (λ answer. IsGdbAnswered now answer (gdb_answered g asked))
    → IfOk r (λ answer. IsGdbAnswered now answer (request_answered lacks load g asked))
other_asked lacks load g now asked r is reported =
    answered_as now r (gdb_answered g asked) (request_answered lacks load g asked) (by (is_run_request asked) is) reported
  where
    by : (b : Bool) → b ≡ false → gdb_answered g asked ≡ (if b then program_run_unless lacks load g else gdb_answered g asked)
    by b is = rw is refl
