-- The clause list
pub mod Limit
pub mod Code
pub mod Lists
pub mod Clause
pub mod Listing
pub mod Sign
pub mod Row
pub mod Assignment
pub mod Renaming
pub mod Walk
-- What is turned away
pub mod Refusal
pub mod Tally
pub mod Check
-- DIMACS text in and out
pub mod Bytes
pub mod Number
pub mod Reading
pub mod Printing
-- What inner functions say, which no entry point's contract cites
pub mod Scanning
pub mod Writing
pub mod Chains
