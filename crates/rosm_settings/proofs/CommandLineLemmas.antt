pub mod SettingsLemmas
