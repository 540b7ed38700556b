pub mod DrawLaws
pub mod StartLaws
pub mod SettingLaws
pub mod FindingLaws
