mod Beginning
pub mod ElementBytes
pub mod Standing
