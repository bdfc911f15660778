use Rattle.std.proofs.Common.{◌≡◌, ◌++◌, drop, map}
use Rattle.debug_listing.specs.ImageParts.{shown_character}
use Rattle.debug_listing.proofs.image_parts.push_shown.Given as goal

-- what was shown, and what is left, is all
abbrev pub invariant-loop-byte : goal.invariant-loop-byte
invariant-loop-byte l = l.line.items ++ map shown_character (drop l.byte-index l.text)
    ≡ l.fn.line.items ++ map shown_character l.text
