pub mod HalvingLaws
pub mod IndexLaws
pub mod RulingLaws
pub mod LookupLaws
pub mod InsertLaws
pub mod WordLaws
pub mod ExtendLaws
pub mod PrepareLaws
