pub mod element_random
