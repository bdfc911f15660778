use Rattle.std.proofs.Common.{ℕ, ◌≡◌, ◌≤◌, ◌<◌, ◌+◌, ◌-◌, List, arith, ap, refl, ◌∙◌}
use Rattle.os_heap.specs.Bytes.{bytes_between, with_bytes_at, with_moved_at}
use Rattle.os_heap.specs.Memory.{byte_at}
use Rattle.flex_store.specs.Blocks.{whole_words_of_bytes, bytes_after_splice, whole_words}
use Rattle.flex_store.proofs.Laying.{respaced_down, respaced_up}
use Rattle.flex_store.proofs.slide.respace.Goals as goal

pub returns-then-new_end-old_end-clause-bytes : goal.returns-then-new_end-old_end-clause-bytes
returns-then-new_end-old_end-clause-bytes c =
    let s = c.args.splice.now in
    let f : ℕ → ℕ = byte_at c.args.map.now in
    let k : ℕ = c.args.contents in
    let w : ℕ = whole_words c.args.size in
    let w' : ℕ = whole_words (s.at - s.cut + s.more + (c.args.size - s.at)) in
    let old : c.whole_words.result ≡ w = c.whole_words.ensures ∙ ap whole_words c.from.ensures in
    let new : c.whole_words-2.result ≡ w' = c.whole_words-2.ensures ∙ ap whole_words c.size_after.ensures in
    let less : k + c.whole_words-2.result < k + c.whole_words.result = c.if-new_end-old_end.true in
    let l : List ℕ = whole_words_of_bytes (bytes_after_splice (bytes_between f k c.args.size) s.at s.cut s.more) in
    respaced_down f (byte_at c.move_bytes.new.self) k c.args.size w w' (c.args.end - (k + w)) s.at s.cut s.more c.requires.splice.at (omega arith) refl
    (λ a. c.move_bytes.ensures.bytes a
    ∙ (ap (λ (n : ℕ). with_moved_at (byte_at c.splice_bytes.new.map) (k + n) (k + c.whole_words-2.result) (c.args.end - (k + n)) a) old
    ∙ (ap (λ (n : ℕ). with_moved_at (byte_at c.splice_bytes.new.map) (k + w) (k + n) (c.args.end - (k + w)) a) new
    ∙ ap (λ (g : ℕ → ℕ). with_moved_at g (k + w) (k + w') (c.args.end - (k + w)) a) (λ i x. c.splice_bytes.ensures.bytes x i))))

pub returns-clause-bytes : goal.returns-clause-bytes
returns-clause-bytes c =
    let s = c.args.splice.now in
    let f : ℕ → ℕ = byte_at c.args.map.now in
    let k : ℕ = c.args.contents in
    let w : ℕ = whole_words c.args.size in
    let w' : ℕ = whole_words (s.at - s.cut + s.more + (c.args.size - s.at)) in
    let old : c.whole_words.result ≡ w = c.whole_words.ensures ∙ ap whole_words c.from.ensures in
    let new : c.whole_words-2.result ≡ w' = c.whole_words-2.ensures ∙ ap whole_words c.size_after.ensures in
    let more : k + c.whole_words.result ≤ k + c.whole_words-2.result = c.if-new_end-old_end.false in
    let moved : (x : ℕ) → byte_at c.move_bytes-2.new.self x ≡ with_moved_at f (k + w) (k + w') (c.args.end - (k + w)) x = λ x.
    c.move_bytes-2.ensures.bytes x
    ∙ (ap (λ (n : ℕ). with_moved_at f (k + n) (k + c.whole_words-2.result) (c.args.end - (k + n)) x) old
    ∙ ap (λ (n : ℕ). with_moved_at f (k + w) (k + n) (c.args.end - (k + w)) x) new) in
    respaced_up f (byte_at c.splice_bytes-2.new.map) k c.args.size w w' (c.args.end - (k + w)) s.at s.cut s.more c.requires.splice.at (omega arith) (omega arith) refl
    (λ a. c.splice_bytes-2.ensures.bytes a
    ∙ ap (λ (g : ℕ → ℕ). with_bytes_at g k (whole_words_of_bytes (bytes_after_splice (bytes_between g k c.args.size) s.at s.cut s.more)) a) (λ i x. moved x i))
