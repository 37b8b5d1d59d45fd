-- Laws that other crates cite.
pub mod VisitIsNested
pub mod MembersLoop
