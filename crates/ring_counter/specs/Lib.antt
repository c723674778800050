pub mod RingCounter
