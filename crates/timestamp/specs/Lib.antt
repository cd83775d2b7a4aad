-- What document 01 says of timestamps, in its order.
pub mod Calendar
pub mod Clock
pub mod Units
pub mod FloorDivision
pub mod Count
pub mod Outcomes
pub mod Steps
