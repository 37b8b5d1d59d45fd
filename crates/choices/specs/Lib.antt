-- How definitions branch, lists, and the words of the libraries in which definitions are written.
pub mod Branch
pub mod Lists
pub use Branch.{choose}
pub use Lists.{any_of, Among}
pub use Rattle.std.specs.Prelude.{ℕ, zero, suc, ◌+◌, ◌-◌, ◌/◌, ◌^◌, min, ◌<◌, ◌%◌, ◌*◌, ◌≤◌}
pub use Rattle.std.specs.Prelude.{cond, Bool, true, false, ◌&&◌, not, ◌||◌, ltb, eqb, leb}
pub use Rattle.std.specs.Prelude.{List, [], ◌∷◌, ◌++◌, map, length, get_or, drop, set, replicate, take, ◌≡◌, ◌↔◌}
pub use Rattle.std.specs.Int.Bits.{bit_or}
pub use Rattle.std.proofs.lemmas.List.Edits.{sets}
