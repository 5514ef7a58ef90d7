pub mod DecimalLemmas
pub mod HexadecimalLemmas
pub mod LineLemmas
pub mod RunLemmas
pub mod SessionLemmas
pub mod SettingsLemmas
