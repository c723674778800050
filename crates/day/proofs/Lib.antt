pub mod Days
pub mod DayLaws
pub mod Bounds
