-- By the lemmas of IncludingLemmas.
use Rattle.std.proofs.Common.{◌≡◌, ◌-◌, ◌+◌, ℕ, true, List, [], ◌∷◌, Option, Some, Vec, Global, IfSome, string_bytes, subst, sym, ap, ◌∙◌, get_or, drop}
use Rattle.std.specs.Prelude.{option_map}
use Rattle.std.proofs.Math.ListN.{drop_of_length-le}
use Rattle.std.proofs.lemmas.List.{drop_more}
use Rattle.std.proofs.lemmas.Result.{on_ok_weaker}
use Rattle.debug_program.specs.Including.{GivenSoFar, StaysKnown, file_given, given_all, given_bytes, given_file, given_none, given_wanted, is_path, path_beside}
use Rattle.debug_program.specs.GivenText.{given_of}
use Rattle.debug_program.proofs.IncludingLemmas.{all_stays, file_taken, stays_self, stays_trans, step_stays, wanted_taken}
use Rattle.debug_program.proofs.including.GivenText.+include.Goals as goal

pub include-returns-clause-taken : goal.include-returns-clause-taken
include-returns-clause-taken g t c =
    let text_of = g.D.ScriptFiles.text_of c.args.files.now in
    let files = file_given text_of (c.args.depth - 1) in
    let path : List ℕ = string_bytes c.in_ok-path.path in
    let bytes : List ℕ = c.in_ok-bytes.bytes.items in
    let script : List ℕ = c.args.script.now in
    let was : GivenSoFar = given_of c.args.self.now in
    let file : GivenSoFar = given_of c.take_text.new.self in
    let now : GivenSoFar = given_of c.take_file.new.self in
    let known = subst (λ (p : List ℕ). IfSome (text_of p) (λ k. bytes ≡ k)) c.as_str.ensures.value c.in_ok-bytes.ensures.text in
    let all = subst (λ (k : GivenSoFar). StaysKnown (given_all files path (10 ∷ []) k bytes) (Some file))
    (c.new-file.ensures ∙ ap given_none c.saturating_add.ensures)
    (subst (λ (p : List ℕ). StaysKnown (given_all files p (10 ∷ []) (given_of c.new-file.result) bytes) (Some file)) c.deref.ensures
    (subst (λ (bs : List ℕ). StaysKnown (given_all files c.deref.result.now (10 ∷ []) (given_of c.new-file.result) bs) (Some file))
    c.deref-2.ensures.value c.in_ok-take_text.ensures)) in
    on_ok_weaker c.take_file.result (λ taken.
    subst (λ (w : Option (Vec ℕ Global)). IfSome (given_wanted (file_given text_of c.args.depth) script was (option_map (λ v. v.items) w)) (λ k. now ≡ k))
    (sym c.in-Some.is)
    (wanted_taken text_of c.args.depth script c.in-Some.wanted.items path was now
    (subst (λ (bs : List ℕ). is_path bs ≡ true) c.as_slice.ensures.value c.in_ok-path.ensures.one.0)
    (c.in_ok-path.ensures.path ∙ ap (path_beside script) c.as_slice.ensures.value)
    (file_taken text_of c.args.depth path bytes was file now c.in_ok-path.ensures.one.1 known all
    (taken ∙ ap (λ (p : List ℕ). given_file was p file) c.as_str-2.ensures.value))))
    c.take_file.ensures.taken

pub take_text-loop-byte-init : goal.take_text-loop-byte-init
take_text-loop-byte-init g t c =
    stays_self (given_bytes (file_given (g.D.ScriptFiles.text_of c.args.files.now) c.args.depth) c.args.path.now
    (given_of c.args.self.now) c.args.bytes.now)

pub take_text-loop-byte-preserved : goal.take_text-loop-byte-preserved
take_text-loop-byte-preserved g t c =
    let files = file_given (g.D.ScriptFiles.text_of c.args.files.now) c.args.depth in
    let path : List ℕ = c.args.path.now in
    let bytes : List ℕ = c.args.bytes.now in
    let n : ℕ = c.loop-byte.byte-index in
    let was : GivenSoFar = given_of c.loop-byte.self in
    let mid : GivenSoFar = given_of c.take_byte.new.self in
    let now : GivenSoFar = given_of c.include.new.self in
    let wanted : Option (List ℕ) = option_map (λ w. w.items) c.in_ok-inner.inner in
    stays_trans (given_bytes files path (given_of c.args.self.now) bytes) (given_bytes files path was (drop n bytes))
    (given_bytes files path now (drop (n + 1) bytes)) c.loop-byte.invariant
    (subst (λ (bs : List ℕ). StaysKnown (given_bytes files path was bs) (given_bytes files path now (drop (n + 1) bytes)))
    (sym (drop_more bytes n 0 c.loop-byte-test.true))
    (step_stays files path was mid now wanted (get_or bytes n 0) (drop (n + 1) bytes) (c.in_ok-inner.ensures.taken files path)
    c.in_ok-include.ensures.taken))

pub take_text-returns : goal.take_text-returns
take_text-returns g t c =
    let files = file_given (g.D.ScriptFiles.text_of c.args.files.now) c.args.depth in
    let path : List ℕ = c.args.path.now in
    let bytes : List ℕ = c.args.bytes.now in
    let first : GivenSoFar = given_of c.args.self.now in
    let last : GivenSoFar = given_of c.loop-byte.self in
    all_stays files path first bytes last (given_of c.take_last.new.self) (given_of c.include-2.new.self)
    (option_map (λ w. w.items) c.in_ok-inner-2.inner)
    (subst (λ (bs : List ℕ). StaysKnown (given_bytes files path first bytes) (given_bytes files path last bs))
    (drop_of_length-le bytes c.loop-byte-test.false) c.loop-byte.invariant)
    (c.in_ok-inner-2.ensures.taken files path) c.in_ok-include-2.ensures.taken
