-- What a script has given, as the code holds it.
use Rattle.debug_program.specs.Including.{GivenSoFar}
use Rattle.debug_program.specs.declared.including.GivenText.{GivenText}

abbrev pub given_of : GivenText → GivenSoFar
given_of g = record { text = g.text.items; line = g.line.items; is_in_block = g.is_in_block; number = g.number }
