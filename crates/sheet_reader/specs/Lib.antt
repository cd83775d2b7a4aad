-- The reader of document 01: what its steps hand out, and where they lead.
pub mod Step
pub mod Reading
