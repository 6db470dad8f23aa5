pub mod FlatLaws
pub mod MaxCounterLaws
pub mod MembersLaws
