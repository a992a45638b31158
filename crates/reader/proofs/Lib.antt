pub mod CallLaws
pub mod LifeLaws
