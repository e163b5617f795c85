pub mod Svg
pub mod Boxes
pub mod Arrows
pub mod Drawn
pub mod Picture
