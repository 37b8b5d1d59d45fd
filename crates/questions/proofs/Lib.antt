-- Places of a block one after another, the turns of a block, that each turn writes what its line is answered, that the table's contents decide no
-- answer, and that every input is answered, whatever the blocks and calls.
pub mod OntoOnward
pub mod TurnsOfBlock
pub mod TurnsAnswer
pub mod TableUnseen
pub mod EveryInput
