-- The clauses of a circuit
pub mod Entries
pub mod CircuitTruth
-- The digital search tree
pub mod Trees
-- Lines, read one by one, and the entries that they make
pub mod Fields
pub mod InputLines
pub mod CircuitLines
pub mod Stores
pub mod AndLines
-- Reading
pub mod ReadingLines
pub mod ReadingAnswers
pub mod ReadingRefusals
pub mod Numbered
