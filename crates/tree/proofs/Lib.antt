-- What the proofs of several functions use, and what the crates above cite.
pub mod TreeLaws
pub mod OpenPlacesLaws
pub mod PlacesLaws
pub mod FaultLaws
pub mod TreeOfLaws
pub mod StandingLaws
pub mod JudgingLaws
pub mod ShapeLaws
pub mod VisitLaws
pub mod StructureLaws
pub mod NodeLaws
pub mod JudgingSteps
pub mod CountingLaws
pub mod JudgementLaws
pub mod EditionLaws
