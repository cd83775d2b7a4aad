-- What a sheet is resolved into: rows, and the rewritten sheet.
pub mod Levels
pub mod Rows
pub mod Outcome
pub mod Rewriting
pub mod Demand
pub mod Roles
pub mod Steps
