use Rattle.law_machine.proofs.OtherBytesLemmas.Moves.{loads_keep_others, other_bytes_stay}
use Rattle.law_machine.proofs.OtherBytesLemmas.Runs.{new_pages_are_zero, programs_keep_others, starts_are_zero, stay_over}
use Rattle.law_machine.proofs.other_bytes.laws.other_bytes_stay.Goals as goal

pub returns : goal.returns
returns c = record {
  moves = other_bytes_stay;
  over = stay_over;
  pages = new_pages_are_zero;
  loads = loads_keep_others;
  programs = programs_keep_others;
  starts = starts_are_zero;
}
