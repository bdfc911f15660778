-- What is kept of some changes shows the lines of all.
use Rattle.std.proofs.Common.{◌≡◌, ℕ, Bool, true, false, List, [], ◌++◌, refl, sym, ap, ◌∙◌, if◌then◌else◌}
use Rattle.std.proofs.lemmas.List.{append-nil}
use Rattle.std.specs.List.{list_any}
use Rattle.address_map.specs.Bytes.{Bytes}
use Rattle.store_copies.specs.Store.{Store}
use Rattle.store_copies.specs.declared.changes.WordChange.{WordChange}
use Rattle.store_copies.specs.declared.changes.WordChanges.{WordChanges}
use Rattle.store_copies.specs.Words.{IsSummary, all_changes, is_shown_elsewhere}
use Rattle.trace_store_text.specs.items.Changes.{IsItemSummary}
use Rattle.trace_store_text.specs.declared.items.changes.ItemChange.{ItemChange}
use Rattle.trace_store_text.specs.declared.items.changes.ItemChanges.{ItemChanges}
use Rattle.trace_store_text.specs.declared.modules.marks.InstanceMark.{InstanceMark}
use Rattle.trace_store_text.specs.modules.Changes.{is_same_instance}
use Rattle.trace_store_text.specs.ModuleLines.{gone_instance_line, gone_instance_lines}
use Rattle.trace_store_text.specs.ItemLines.{item_lines, item_summary_lines}
use Rattle.trace_store_text.specs.StoreLines.{changed_word_lines}
use Rattle.trace_store_text.specs.WordLines.{summary_lines, word_lines}

lines_kept : (kept : WordChanges) (all : List WordChange) → IsSummary kept all → word_lines all ≡ summary_lines kept
unfolding word_lines
lines_kept kept all is =
    let first = is.first in
    let count = is.count in
    rw (first, count) refl

pub store_lines_kept : (has_error : Bool) (s s' : Store) (b b' : Bytes) (kept : WordChanges) → b ≡ s.bytes → b' ≡ s'.bytes
    → IsSummary kept (all_changes (is_shown_elsewhere has_error) b b') → changed_word_lines has_error s s' ≡ summary_lines kept
unfolding changed_word_lines
store_lines_kept has_error s s' b b' kept old new is =
    ap (λ (x : Bytes). word_lines (all_changes (is_shown_elsewhere has_error) x s'.bytes)) (sym old)
    ∙ (ap (λ (x : Bytes). word_lines (all_changes (is_shown_elsewhere has_error) b x)) (sym new)
    ∙ lines_kept kept (all_changes (is_shown_elsewhere has_error) b b') is)

pub item_lines_kept : (heap : ℕ) (kept : ItemChanges) (all : List ItemChange) → IsItemSummary kept all → item_lines heap all ≡ item_summary_lines heap kept
unfolding item_lines
item_lines_kept heap kept all is =
    let first = is.first in
    let count = is.count in
    rw (first, count) refl

-- a line that is written where something is so, and one that is written where it isn't
pub shown_if : (is : Bool) (line : List ℕ) → is ≡ true → line ≡ (if is then line else [])
shown_if is line so = rw so refl

pub shown_unless : (is : Bool) (line : List ℕ) → is ≡ false → line ≡ (if is then [] else line)
shown_unless is line so = rw so refl

pub gone_lines : (after : List InstanceMark) (x : InstanceMark) → list_any (is_same_instance x) after ≡ false
    → gone_instance_line x x.at ≡ gone_instance_lines after x
gone_lines after x none = rw none (sym (append-nil (gone_instance_line x x.at)))

-- parts that were written one after another
pub three_parts : (a b c x y z : List ℕ) → a ≡ x → b ≡ y → c ≡ z → a ++ (b ++ (c ++ [])) ≡ x ++ (y ++ z)
three_parts a b c x y z p q r = rw (p, q, r, append-nil z) refl

pub five_parts : (a b c d e x y z v w : List ℕ) → a ≡ x → b ≡ y → c ≡ z → d ≡ v → e ≡ w
    → a ++ (b ++ (c ++ (d ++ (e ++ [])))) ≡ x ++ (y ++ (z ++ (v ++ w)))
five_parts a b c d e x y z v w p q r s t = rw (p, q, r, s, t, append-nil w) refl

pub seven_parts : (a b c d e f h x y z v w u k : List ℕ) → a ≡ x → b ≡ y → c ≡ z → d ≡ v → e ≡ w → f ≡ u → h ≡ k
    → a ++ (b ++ (c ++ (d ++ (e ++ (f ++ (h ++ [])))))) ≡ x ++ (y ++ (z ++ (v ++ (w ++ (u ++ k)))))
seven_parts a b c d e f h x y z v w u k p q r s t m n = rw (p, q, r, s, t, m, n, append-nil k) refl

pub nine_parts : (a0 a1 a2 a3 a4 a5 a6 a7 a8 x0 x1 x2 x3 x4 x5 x6 x7 x8 : List ℕ) → a0 ≡ x0 → a1 ≡ x1 → a2 ≡ x2 → a3 ≡ x3 → a4 ≡ x4 → a5 ≡ x5 → a6 ≡ x6 → a7 ≡ x7 → a8 ≡ x8
    → a0 ++ (a1 ++ (a2 ++ (a3 ++ (a4 ++ (a5 ++ (a6 ++ (a7 ++ (a8 ++ [])))))))) ≡ x0 ++ (x1 ++ (x2 ++ (x3 ++ (x4 ++ (x5 ++ (x6 ++ (x7 ++ x8)))))))
nine_parts a0 a1 a2 a3 a4 a5 a6 a7 a8 x0 x1 x2 x3 x4 x5 x6 x7 x8 p0 p1 p2 p3 p4 p5 p6 p7 p8 = rw (p0, p1, p2, p3, p4, p5, p6, p7, p8, append-nil x8) refl

pub eleven_parts : (a0 a1 a2 a3 a4 a5 a6 a7 a8 a9 a10 x0 x1 x2 x3 x4 x5 x6 x7 x8 x9 x10 : List ℕ) → a0 ≡ x0 → a1 ≡ x1 → a2 ≡ x2 → a3 ≡ x3 → a4 ≡ x4 → a5 ≡ x5 → a6 ≡ x6 → a7 ≡ x7 → a8 ≡ x8 → a9 ≡ x9 → a10 ≡ x10
    → a0 ++ (a1 ++ (a2 ++ (a3 ++ (a4 ++ (a5 ++ (a6 ++ (a7 ++ (a8 ++ (a9 ++ (a10 ++ [])))))))))) ≡ x0 ++ (x1 ++ (x2 ++ (x3 ++ (x4 ++ (x5 ++ (x6 ++ (x7 ++ (x8 ++ (x9 ++ x10)))))))))
eleven_parts a0 a1 a2 a3 a4 a5 a6 a7 a8 a9 a10 x0 x1 x2 x3 x4 x5 x6 x7 x8 x9 x10 p0 p1 p2 p3 p4 p5 p6 p7 p8 p9 p10 = rw (p0, p1, p2, p3, p4, p5, p6, p7, p8, p9, p10, append-nil x10) refl
