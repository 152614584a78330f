pub mod event_cache
