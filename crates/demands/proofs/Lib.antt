-- The proofs of what `specs/` states, each a citation or a computation.
pub mod Entries
pub mod RefusalLaws
pub mod ValueRefusalLaws
pub mod BoxLaws
pub mod Demands
pub mod TimePoints
pub mod ColumnPoints
pub mod SheetPoints
pub mod Points
pub mod ComparisonLaws
pub mod RetiredLaws
pub mod ConversionLaws
pub mod TerminalLaws
pub mod Requests
