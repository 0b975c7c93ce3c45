-- A state, and the numbers behind a yes, as text for reviewers. To be believed: StateText.antt and NumbersText.antt, line by line, and the
-- statements in Writing.antt.
pub mod StateText
pub mod NumbersText
pub mod Writing
