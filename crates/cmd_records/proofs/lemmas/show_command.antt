pub mod ShowMeets
