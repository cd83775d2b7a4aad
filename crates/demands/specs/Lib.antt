-- What is proved of the whole: the three demands, the starred points of document 01, and the requests of document 02.
pub mod Refusals
pub mod Demand1
pub mod Demand2
pub mod Demand3
pub mod Reader
pub mod Sheets
pub mod Points
pub mod Requests
