pub mod CountLaws
pub mod HistoryLaws
