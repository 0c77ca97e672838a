pub use Rattle.der_cursor.proofs.Lists as FormatLists
pub use Rattle.der_cursor.proofs.Sequences as FormatSequences
pub use Rattle.der_base.proofs.Answers.Answering
pub use Rattle.der_base.proofs.Answers.Exactness
pub use Rattle.der_base.proofs.Framing.UniqueSpelling
pub use Rattle.der_base.proofs.Headers.DerHeaders
pub use Rattle.der_base.proofs.Octets.Identifiers
pub use Rattle.der_cursor.proofs.FormatLaws
pub use Rattle.der_values.proofs.LawsLaws.Containers.ContainerLaws
pub use Rattle.der_values.proofs.LawsLaws.Headers.StableHeaders
pub use Rattle.der_values.proofs.LawsLaws.PrettyLaws
pub use Rattle.der_values.proofs.LawsLaws.Spellings.BerFaults
pub use Rattle.der_values.proofs.LawsLaws.Spellings.DerFaults
pub use Rattle.der_values.proofs.LawsLaws.Spellings.DerWithinBer
pub mod ViewLaws

-- The laws of the definitions and of answers, under this name.
