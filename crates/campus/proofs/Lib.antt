pub mod StoresLaws
pub mod ReadLaws
pub mod QueueLaws
pub mod RunLaws
pub mod DoneLaws
