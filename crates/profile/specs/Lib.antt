-- The IIOP profile body.
pub mod List
pub mod Profile
pub mod Inner
pub mod Within
