-- A whole run file judged into a lent buffer. To be believed: Judging.antt, which says what is answered and what is left of the buffer.
pub mod Judging
