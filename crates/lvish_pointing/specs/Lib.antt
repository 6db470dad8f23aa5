pub mod Facts
pub mod Solutions
pub mod Numbers
pub mod Pointing
pub mod PointingLaws
pub mod Faults
pub mod Answers
pub mod Rows
