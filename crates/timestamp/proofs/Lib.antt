-- The laws that belong to no one function.
pub mod SignedLaws
pub mod DivisionLaws
pub mod YearLaws
pub mod MonthLaws
pub mod EraLaws
pub mod DateLaws
pub mod EraDateLaws
pub mod CalendarLaws
pub mod FloorLaws
pub mod ReachLaws
pub mod ClockLaws
pub mod CountLaws
pub mod RefusalLaws
pub mod UnitLaws
pub mod MomentLaws
