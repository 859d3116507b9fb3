pub mod ScoreLaws
pub mod VoteLaws
