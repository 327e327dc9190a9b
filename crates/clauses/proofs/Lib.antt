-- Clauses as sets, and their images under a renaming
pub mod Lists
pub mod Distinct
pub mod Codes
pub mod Clauses
pub mod Fitting
pub mod Picks
pub mod Signs
pub mod Choices
pub mod Renaming
pub mod Extended
-- Rows of codes by their places, rows that are filled, and chains
pub mod Rows
pub mod StartOf
pub mod Around
pub mod Starts
pub mod Entries
pub mod Fills
pub mod Chains
-- A walk along a literal row
pub mod Walks
-- Tests in their order, and the tally that decides them
pub mod Deciding
pub mod Signed
pub mod Tallies
pub mod Tests
-- Parts of a text
pub mod Splitting
pub mod Runs
pub mod LinesAndWords
pub mod Digits
pub mod Words
pub mod Magnitudes
-- Reading
pub mod Headers
pub mod Bodies
pub mod Scans
pub mod ReadingTests
pub mod WordCounts
pub mod ReadingRefusals
-- Printing
pub mod Decimals
pub mod Writes
pub mod Texts
pub mod Prints
-- The round trip, and what an answer counts
pub mod Numerals
pub mod PrintedText
pub mod RoundTrip
pub mod Answers
-- The tests' numbers, and a refusal's text
pub mod Numbered
pub mod RefusalTexts
