-- Laws of items that are written one after the other, and of a reading's octets as its items'.
pub mod ItemsWritten
pub mod OctetsOfItems
pub mod WalkIsWritten
pub mod RewriteCases
