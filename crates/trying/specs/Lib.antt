-- The steps of a file tried. To be believed of the text for reviewers: Texts.antt, which says what stands beneath and after the steps' lines.
-- Running.antt says what the code writes.
pub mod Texts
pub mod Running
