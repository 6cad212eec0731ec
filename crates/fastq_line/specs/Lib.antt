pub mod SixColumns
pub mod RoundTrip
pub mod Sound
