pub mod BoundsText
