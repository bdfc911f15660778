-- A `&` to the owner reaches each byte. Assumes `Logic`.
use denote.Struct.Lending.{of_Lends}
use Rattle.raw_store.specs.contracts.block.Bytes as C
use Rattle.raw_store.proofs.block.Bytes.TheLaw.Statement.{statement}
use Rattle.raw_store.proofs.Lent.{block_lent_laws, Lends-block}

pub shares : statement
shares =
    of_Lends C.struct C.the_codes C.the_heap C.the_lent (λ d p. block_lent_laws d.at d.items d.spare) tt
    (λ M 𝓤 𝓛 d p. Lends-block 𝓛 (C.the_row).lives d.at d.items d.spare)
