pub mod record_laws
