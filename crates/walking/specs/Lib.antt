-- The walk over a sequence beside the strides that an index line describes. A stride is what the line's numbers say of one line: line bases
-- side by side, and the next stride line width further on. A base is there if it lies where the numbers say, and elsewhere if not.
pub mod Places
pub mod PlaceLaws
pub mod Walk
pub mod Strides
pub mod Even
