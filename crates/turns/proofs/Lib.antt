pub mod PieceLaws
pub mod TurnLaws
pub mod RoomLaws
pub mod PromptLaws
