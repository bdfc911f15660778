use Rattle.arm_decode.proofs.Rows.{one_row}
use Rattle.arm_decode.proofs.laws.rows_partition_the_words.Goals as goal

pub returns : goal.returns
returns c = one_row
