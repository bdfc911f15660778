-- What is shown of EXPECT lines and of refusals, as answers or in the Test Anything Protocol, and what
-- stands after the last line.
use Rattle.std.specs.Prelude.{ℕ, ◌+◌, ◌-◌, ◌^◌, min, ◌==◌, ◌&&◌, ◌||◌, Bool, true, false, List, [], ◌∷◌, ◌++◌, codes, if◌then◌else◌}
use Rattle.std.specs.Fmt.{decimal}
use Rattle.std.specs.List.{flat_map}
use Rattle.std.specs.Str.Lines.{lines}
use Rattle.debug_modes.specs.declared.expectations.reports.reports.CheckTally.{CheckTally}
use Rattle.debug_modes.specs.declared.expectations.reports.reports.ReportForm.{ReportForm}
use Rattle.debug_modes.specs.declared.expectations.reports.reports.TheConstants.{BLOCK_GOES_ON, NO_END}
use Rattle.debug_modes.specs.declared.expectations.reports.reports.ReportForm.TheVariants.{Answers, Tap}

-- an answer that is no report: the protocol leaves it out
abbrev pub answer_in : ReportForm → List ℕ → List ℕ
answer_in Answers text = text
answer_in Tap text = []

-- A count, up to 2^64 - 1.
abbrev pub one_more : ℕ → ℕ
one_more n = min (n + 1) (2 ^ 64 - 1)

abbrev pub no_tally : CheckTally
no_tally = record { passed = 0; failed = 0; refused = 0 }

abbrev pub with_pass : CheckTally → CheckTally
with_pass t = record t { passed = one_more t.passed }

abbrev pub with_fail : CheckTally → CheckTally
with_fail t = record t { failed = one_more t.failed }

abbrev pub with_refusal : CheckTally → CheckTally
with_refusal t = record t { refused = one_more t.refused }

-- how many lines of the protocol stand for a tally
abbrev pub report_count : CheckTally → ℕ
report_count t = t.passed + (t.failed + t.refused)

-- `#` (35) and a backslash (92) behind a backslash, so that no line's text is a directive
abbrev pub tap_byte_text : ℕ → List ℕ
tap_byte_text byte = if byte == 35 || byte == 92 then 92 ∷ byte ∷ [] else byte ∷ []

-- ` EXPECT R0 2`, the line as it is after its number
abbrev pub tap_words : List ℕ → List ℕ
tap_words [] = []
tap_words (first ∷ rest) = codes " " ++ flat_map tap_byte_text (first ∷ rest)

-- `ok 1 - line 16 EXPECT R0 2`, where so many were shown before
abbrev pub tap_line : List ℕ → ℕ → ℕ → List ℕ → List ℕ
tap_line begin count number words =
    begin ++ (decimal (count + 1) ++ (codes " - line " ++
    (decimal number ++ (tap_words words ++ codes "\n"))))

-- `# R1 is 00000000`
abbrev pub tap_remark : List ℕ → List ℕ
tap_remark text = codes "# " ++ (text ++ codes "\n")

-- `pass`
abbrev pub pass_text : ReportForm → CheckTally → ℕ → List ℕ → List ℕ
pass_text Answers t number words = codes "pass\n"
pass_text Tap t number words = tap_line (codes "ok ") (report_count t) number words

-- `fail line 9: R0 is 00000004`
abbrev pub fail_text : ReportForm → CheckTally → ℕ → List ℕ → List ℕ → List ℕ
fail_text Answers t number words reason =
    codes "fail line " ++ (decimal number ++ (codes ": " ++ (reason ++ codes "\n")))
fail_text Tap t number words reason =
    tap_line (codes "not ok ") (report_count t) number words ++ tap_remark reason

-- the lines of a text, each as a remark
abbrev pub tap_remarks : List ℕ → List ℕ
tap_remarks text = flat_map tap_remark (lines text)

-- a refusal, as the lines that show it
abbrev pub report_of_refusal : ReportForm → CheckTally → ℕ → List ℕ → List ℕ
report_of_refusal Answers t number text = text
report_of_refusal Tap t number text =
    tap_line (codes "not ok ") (report_count t) number [] ++ tap_remarks text

-- `, 1 refused`
abbrev pub refused_words : ℕ → List ℕ
refused_words n = if n == 0 then [] else codes ", " ++ (decimal n ++ codes " refused")

-- what a user is shown of a block that lacks its line END, behind a text
abbrev pub missing_end_text : List ℕ → ℕ → List ℕ
missing_end_text front begin = front ++ (NO_END.now ++ (decimal begin ++ BLOCK_GOES_ON.now))

-- `5 passed, 2 failed`
abbrev pub tally_line : CheckTally → List ℕ
tally_line t = decimal t.passed ++ (codes " passed, " ++ (decimal t.failed ++ (codes " failed"
    ++ (refused_words t.refused ++ codes "\n"))))

-- whether no EXPECT line was among the lines
abbrev pub is_untested : CheckTally → Bool
is_untested t = t.passed == 0 && t.failed == 0

-- what stands after the last line
abbrev pub summary_text : ReportForm → CheckTally → List ℕ
summary_text Answers t = if is_untested t then [] else tally_line t
summary_text Tap t = codes "1.." ++ (decimal (report_count t) ++ codes "\n")
