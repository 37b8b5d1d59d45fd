-- Laws of the calls.
pub mod EntriesGathered
