use Rattle.std.proofs.Common.{◌≡◌, ◌++◌, ◌||◌, drop, map}
use Rattle.rosm_settings.specs.gdb.Options.{last_gdb_word, machine_words_from, start_paths_from, stays_from}
use Rattle.rosm_settings.specs.declared.gdb.options.GdbWord.TheVariants as taken
use Rattle.rosm_settings.proofs.gdb.options.part_words.Given as goal

-- the paths and the other words so far, and those that are left
abbrev pub invariant-loop-word : goal.invariant-loop-word
invariant-loop-word l = record {
  paths : map (λ w. w.now) l.paths.items ++ start_paths_from l.next (map (λ w. w.now) (drop l.word-index l.words))
      ≡ start_paths_from taken.Option (map (λ w. w.now) l.words);
  others : map (λ w. w.now) l.others.items ++ machine_words_from l.next (map (λ w. w.now) (drop l.word-index l.words))
      ≡ machine_words_from taken.Option (map (λ w. w.now) l.words);
  stays : (l.stays || stays_from l.next (map (λ w. w.now) (drop l.word-index l.words)))
      ≡ stays_from taken.Option (map (λ w. w.now) l.words);
  next : last_gdb_word l.next (map (λ w. w.now) (drop l.word-index l.words))
      ≡ last_gdb_word taken.Option (map (λ w. w.now) l.words);
}
