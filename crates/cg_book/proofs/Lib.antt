pub mod QuestionLemmas
pub mod ReplayLemmas
pub mod RoomLemmas
pub mod ClaimLemmas
pub mod AnswerLemmas
