-- Lines by what they ask about.
pub mod LinesReplied
