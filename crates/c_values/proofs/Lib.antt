-- Laws of the calls.
pub mod ValueCallsLeave
