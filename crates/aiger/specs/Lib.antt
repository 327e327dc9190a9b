-- The circuit, and its clauses
pub mod Circuit
-- AIGER text in
pub mod Line
pub mod Reading
-- What inner functions say, which no entry point's contract cites
pub mod Tree
pub mod Scanning
