pub mod sink_buffer
