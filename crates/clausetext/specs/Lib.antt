-- Clauses as text for reviewers. To be believed: ClauseText.antt, line by line, and what a writer promises, in Room.antt.
pub mod ClauseText
pub mod Room
