-- The grammar is exact.
use Rattle.std.proofs.Common.{◌≡◌, ℕ, List, refl, subst}
use Rattle.gdb_packets.specs.Requests as request
use Rattle.gdb_packets.specs.Requests.{GdbRequest}
use Rattle.gdb_packets.specs.request_laws.Grammar.{AsksFor}
use Rattle.gdb_packets.specs.request_laws.Laws.{RequestsAreExact}
use Rattle.gdb_packets.proofs.RequestLawsLemmas.ReadLemmas.{reads}
use Rattle.gdb_packets.proofs.RequestLawsLemmas.SoundLemmas.{Sound}
use Rattle.gdb_packets.proofs.RequestLawsLemmas.WordLemmas.{packet_sound}

asks_known : (r : GdbRequest) (text : List ℕ) → (r ≡ request.Unknown → ⊥) → Sound r text → AsksFor r text
asks_known request.Unknown text known s = absurd (known refl)
asks_known other text known s = s.asks

pub requests_are_exact : RequestsAreExact
requests_are_exact text r = record {
  read = reads r text;
  only = λ is known. asks_known r text known (subst (λ (q : GdbRequest). Sound q text) is (packet_sound text));
}
